-- `stop_in`: two shifts are one.
use Rattle.std.proofs.Common.{arith, shr-shr}
use Rattle.incidence.proofs.stop_in.Goals as goal

pub returns : goal.returns
returns c = record {
  t = c.lowest-j.result;
  lowest = c.lowest-j.ensures;
  cut = record { left = omega (arith, c.min.ensures); right = omega (arith, c.min.ensures); same = λ h. omega (arith, c.min.ensures, h) };
  above = shr-shr c.args.part c.lowest-j.result 1;
}
