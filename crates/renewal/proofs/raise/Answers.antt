use Rattle.std.proofs.Common.{arith, refl}
use Rattle.renewal.specs.Putting.{raised-none, raised-step, raised_all}
use Rattle.renewal.proofs.raise.Goals as goal

pub loop-i-init : goal.loop-i-init
loop-i-init c = (omega arith, raised-none _ _ _ _ _ refl)

pub loop-i-preserved : goal.loop-i-preserved
loop-i-preserved c = (omega arith, raised-step (omega arith) (omega arith) (omega arith) (omega arith) c.loop-i.invariant.1)

pub shape_of-pins : goal.shape_of-pins
shape_of-pins c = c.loop-i.invariant.1.len

pub returns : goal.returns
returns c = raised_all (omega arith) c.loop-i.invariant.1
