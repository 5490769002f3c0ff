-- `four_peak`: one vertex more, in four columns.
use Rattle.std.proofs.Common.{◌≡◌, ◌≤◌, ◌-◌, ◌+◌, ◌*◌}
use Rattle.best_move.specs.Peak.{Column}
use Rattle.best_move.proofs.peaks.four_peak.Given as goal

abbrev pub invariant-loop-x : goal.invariant-loop-x
invariant-loop-x l = (l.x ≤ l.to) × Column l.gains l.from l.x l.b l.p0 × Column l.gains l.from l.x (l.b + 1) l.p1 × Column l.gains l.from l.x (l.b + 2) l.p2 × Column l.gains l.from l.x (l.b + 3) l.p3
