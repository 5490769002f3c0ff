-- `cost` meets its contract: a mask has at most 16 set bits, and none at all costs nothing.
use Rattle.std.proofs.Common.{arith, refl}
use Rattle.laws.specs.Sum.{sum}
use Rattle.laws.specs.Bit.{bit, ones-bits}
use Rattle.opening.specs.Opening.{bits-le, cost-le, cost-none}
use Rattle.opening.proofs.cost.Goals as goal

pub returns-then-spread-lt1 : goal.returns-then-spread-lt1
returns-then-spread-lt1 c = (cost-none c.args.weight (sum 16 (bit c.args.mask)) (omega (arith, ones-bits c.args.mask c.ranges.mask.fits)), omega arith)

pub overflow_mul-result : goal.overflow_mul-result
overflow_mul-result c =
    let few = cost-le c.args.weight (sum 16 (bit c.args.mask)) c.requires (bits-le c.args.mask) in
    rw (c.from.ensures, ones-bits c.args.mask c.ranges.mask.fits) (record { fits = omega arith })

pub returns : goal.returns
returns c =
    rw (c.from.ensures, ones-bits c.args.mask c.ranges.mask.fits) (refl, cost-le c.args.weight (sum 16 (bit c.args.mask)) c.requires (bits-le c.args.mask))
