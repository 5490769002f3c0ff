-- `begin`: one vertex more has the sum of its own terms.
use Rattle.std.proofs.Common.{◌≤◌, ◌-◌, ◌≡◌}
use Rattle.best_contraction.specs.BoundLaw.{OwnSums}
use Rattle.best_contraction.proofs.bounds.begin.Given as goal

abbrev pub invariant-loop-i : goal.invariant-loop-i
invariant-loop-i l = (l.i ≤ l.n) × OwnSums l.bits l.presentsizes l.net_weights l.m l.i l.bounds
