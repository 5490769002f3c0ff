-- `one_if_none`: the quotient is 1 at 0 and else 0.
use Rattle.std.proofs.Common.{arith}
use Rattle.connectivity.specs.Law.{none_is}
use Rattle.connectivity.proofs.counts.one_if_none.Goals as goal

pub returns : goal.returns
returns c = none_is c.args.n (omega arith)
