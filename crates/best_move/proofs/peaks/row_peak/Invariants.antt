-- `row_peak`: one block more.
use Rattle.std.proofs.Common.{◌≡◌, ◌≤◌, ◌-◌, ◌+◌}
use Rattle.best_move.specs.Peak.{RowPeak}
use Rattle.best_move.proofs.peaks.row_peak.Given as goal

abbrev pub invariant-loop-j : goal.invariant-loop-j
invariant-loop-j l = (l.j ≤ l.k) × RowPeak l.gains l.x l.j l.before l.peak
