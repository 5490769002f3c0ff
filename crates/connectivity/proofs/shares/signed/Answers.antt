-- `signed` by its definition, test by test.
use Rattle.std.proofs.Common.{◌∙◌}
use Rattle.laws.specs.Integer.{read32, negated_fits, negated-is}
use Rattle.connectivity.specs.Laid.{signed}
use Rattle.connectivity.proofs.shares.signed.Goals as goal

pub overflow_sub-result : goal.overflow_sub-result
overflow_sub-result c = negated_fits c.args.s c.ranges.s c.requires

pub returns-then-take : goal.returns-then-take
unfolding signed
returns-then-take c = rw (c.if-take.true) (negated-is c.args.s c.ranges.s c.requires)

pub returns-else-take : goal.returns-else-take
unfolding signed
returns-else-take c = rw (c.if-take.false) (read32 c.args.s c.ranges.s.sfits)
