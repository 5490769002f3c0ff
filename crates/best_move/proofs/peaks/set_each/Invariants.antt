-- `set_each`: one vertex more.
use Rattle.std.proofs.Common.{◌-◌, ◌≤◌}
use Rattle.best_move.specs.Peak.{PartSet}
use Rattle.best_move.proofs.peaks.set_each.Given as goal

abbrev pub invariant-loop-x : goal.invariant-loop-x
invariant-loop-x l = (l.from ≤ l.x) × (l.x ≤ l.to) × PartSet l.gains l.from l.x l.k l.initial.peaks l.peaks l.peak
