use Rattle.std.proofs.Common.{arith, refl}
use Rattle.renewal.specs.Taking.{squeezed-none, squeezed-more, written-le}
use Rattle.renewal.proofs.squeeze.Goals as goal

pub loop-i-init : goal.loop-i-init
loop-i-init c = (omega arith, squeezed-none _ _ _ _)

pub bounds-pins-to : goal.bounds-pins-to
bounds-pins-to c = omega (arith, written-le c.loop-i.invariant.1, c.loop-i.invariant.1.len)

pub next-j-requires : goal.next-j-requires
next-j-requires c = omega (arith, written-le c.loop-i.invariant.1)

pub loop-i-preserved : goal.loop-i-preserved
loop-i-preserved c =
    (omega arith, squeezed-more c.loop-i.invariant.1 (omega arith) (omega arith) refl c.next-j.ensures)
