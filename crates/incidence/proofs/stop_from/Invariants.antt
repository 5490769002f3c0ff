-- `stop_from`: the words passed have no net of x.
use Rattle.std.proofs.Common.{ℕ, ◌*◌, ◌≤◌}
use Rattle.incidence.specs.On.{Clear}
use Rattle.incidence.proofs.stop_from.Given as goal

abbrev pub invariant-loop-w : goal.invariant-loop-w
invariant-loop-w l = (from : ℕ) → from ≤ 64 * l.c → Clear l.bits l.x from (64 * l.c) → Clear l.bits l.x from (64 * l.w)
