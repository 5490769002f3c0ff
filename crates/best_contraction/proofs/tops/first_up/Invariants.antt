-- `first_up`: the bounds passed over are below the top.
use Rattle.std.proofs.Common.{ℕ, ◌≤◌, ◌<◌, ◌-◌, get_or}
use Rattle.best_contraction.proofs.tops.first_up.Given as goal

abbrev pub invariant-loop-y : goal.invariant-loop-y
invariant-loop-y l = (l.from < l.y) × (l.y ≤ l.to) × ((x : ℕ) → l.from < x → x < l.y → get_or l.bounds x 0 < l.top)
