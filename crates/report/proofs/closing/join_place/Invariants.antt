-- `report::closing::join_place` meets its contract: the joins past the first i are not that of v.
use Rattle.std.proofs.Common.{◌≤◌}
use Rattle.report.proofs.Climb.{Passed}
use Rattle.report.proofs.closing.join_place.Given as goal

abbrev pub invariant-loop-i : goal.invariant-loop-i
invariant-loop-i l = (l.i ≤ l.depth) × Passed l.gone l.depth l.v l.i
