-- `when_is` by its definition, test by test.
use Rattle.std.proofs.Common.{refl, eq-eqb, ne_eqb}
use Rattle.connectivity.specs.Share.{when}
use Rattle.connectivity.proofs.halves.when_is.Goals as goal

pub returns-then-n-want : goal.returns-then-n-want
unfolding when
returns-then-n-want c = rw (eq-eqb c.args.n c.args.want c.if-n-want.true) refl

pub returns-else-n-want : goal.returns-else-n-want
unfolding when
returns-else-n-want c = rw (ne_eqb c.args.n c.args.want c.if-n-want.false) refl
