use Rattle.std.proofs.Common.{arith}
use Rattle.guarantees.specs.Caps.{room-some, room-none}
use Rattle.best_move.proofs.open.has_space.Goals as goal

pub returns-then-ceiling-weight : goal.returns-then-ceiling-weight
returns-then-ceiling-weight c = let a = c.args in room-none a.load a.weight a.ceiling c.if-ceiling-weight.true

pub returns : goal.returns
returns c = let a = c.args in room-some a.load a.weight a.ceiling (omega arith)
