use Rattle.std.proofs.Common.{arith}
use Rattle.guarantees.specs.Numbers.{digits_le}
use Rattle.text.proofs.Digits.{length-small, length_more}
use Rattle.spaced.proofs.width.Goals as goal

pub loop-y-preserved : goal.loop-y-preserved
loop-y-preserved c = (omega arith, omega arith, omega (arith, length_more c.loop-y.y (omega arith)))

pub returns : goal.returns
returns c =
    let small = length-small c.loop-y.y (omega arith) in
    (omega arith, omega (arith, digits_le 9 c.args.x (omega arith)))
