use Rattle.std.proofs.Common.{arith, refl}
use Rattle.renewal.specs.Columns.{wrote_none, wrote-up, wrote-all}
use Rattle.renewal.proofs.copy.Goals as goal

pub loop-i-init : goal.loop-i-init
loop-i-init c = (omega arith, wrote_none 0 _ _)

pub bounds-to-i : goal.bounds-to-i
bounds-to-i c = omega (arith, c.loop-i.invariant.1.len)

pub loop-i-preserved : goal.loop-i-preserved
loop-i-preserved c = (omega arith, wrote-up c.loop-i.invariant.1 _ (omega arith) (omega arith) refl)

pub shape_of-to : goal.shape_of-to
shape_of-to c = c.loop-i.invariant.1.len

pub returns : goal.returns
returns c = wrote-all (omega arith) c.loop-i.invariant.1
