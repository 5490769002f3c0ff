-- `negated`: 0 less the gain.
use Rattle.laws.specs.Integer.{negated_fits, negated-is}
use Rattle.operations.proofs.moves.negated.Goals as goal

pub overflow_sub-result : goal.overflow_sub-result
overflow_sub-result c = negated_fits c.args.gain c.ranges.gain c.requires

pub returns : goal.returns
returns c = negated-is c.args.gain c.ranges.gain c.requires
