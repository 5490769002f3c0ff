use Rattle.std.proofs.Common.{arith, refl}
use Rattle.hall_step.proofs.step_on.Goals as goal

pub bounds-netweights-c : goal.bounds-netweights-c
bounds-netweights-c c = let g = c.requires.can_step in omega (arith, g.whole.netweights-long, g.known)

pub step-requires : goal.step-requires
step-requires c = record { can_step = c.requires.can_step.can; le_y = c.requires.le_y }

pub returns : goal.returns
returns c = record { after = _; put = refl; steps = c.step.ensures }
