use Rattle.std.proofs.Common.{◌≡◌, ◌≤◌, ◌-◌}
use Rattle.fixed.specs.Column.{MarkedTo}
use Rattle.fixed.proofs.starting.mark_fixed.Given as goal

abbrev pub invariant-loop-x : goal.invariant-loop-x
invariant-loop-x l = (l.x ≤ l.n) × MarkedTo l.fixed l.x l.marks
