-- `other_in`: the vertex is another one, and its block is tested.
use Rattle.connectivity.specs.Touch.{other-same, other_test}
use Rattle.connectivity.proofs.other_in.Goals as goal

pub returns-then-q-x : goal.returns-then-q-x
returns-then-q-x c = other-same c.if-q-x.true

pub returns : goal.returns
returns c = other_test c.if-q-x.false c.from-o.ensures
