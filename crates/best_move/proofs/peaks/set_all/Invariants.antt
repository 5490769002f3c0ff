-- `set_all`: one vertex more.
use Rattle.std.proofs.Common.{◌-◌, ◌≤◌}
use Rattle.best_move.specs.Peak.{Levelled}
use Rattle.best_move.proofs.peaks.set_all.Given as goal

abbrev pub invariant-loop-x : goal.invariant-loop-x
invariant-loop-x l = (l.from ≤ l.x) × (l.x ≤ l.to) × Levelled l.from l.x l.peak l.initial.peaks l.peaks
