-- `clear`: the places up to i are 0.
use Rattle.std.proofs.Common.{◌≤◌, ◌-◌, ◌≡◌}
use Rattle.best_contraction.specs.Rating.{Cleared}
use Rattle.best_contraction.proofs.join.clear.Given as goal

abbrev pub invariant-loop-i : goal.invariant-loop-i
invariant-loop-i l = (l.i ≤ l.n) × Cleared l.initial.acc l.acc l.i
