-- `lowest` is what `trailing_zeros` counts.
use Rattle.std.proofs.Common.{arith}
use Rattle.incidence.specs.Word.{tz-small, lowest-law}
use Rattle.incidence.proofs.lowest.Goals as goal

pub overflow_cast-result : goal.overflow_cast-result
overflow_cast-result c = omega (arith, tz-small c.args.word c.requires c.ranges.word.fits)

pub returns : goal.returns
returns c = lowest-law c.args.word c.requires c.ranges.word.fits
