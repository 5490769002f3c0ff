-- `rows_peak`: one vertex more.
use Rattle.std.proofs.Common.{◌≡◌, ◌≤◌, ◌-◌, ◌+◌}
use Rattle.best_move.specs.Peak.{PartPeak}
use Rattle.best_move.proofs.peaks.rows_peak.Given as goal

abbrev pub invariant-loop-x : goal.invariant-loop-x
invariant-loop-x l = (l.x ≤ l.to) × PartPeak l.gains l.from l.x l.k l.peak
