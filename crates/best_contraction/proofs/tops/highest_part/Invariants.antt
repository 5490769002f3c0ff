-- `highest_part`: the first of the highest among the parts seen.
use Rattle.std.proofs.Common.{◌≤◌, ◌-◌, ◌≡◌, get_or}
use Rattle.best_contraction.specs.Bound.{Highest}
use Rattle.best_contraction.proofs.tops.highest_part.Given as goal

abbrev pub invariant-loop-i : goal.invariant-loop-i
invariant-loop-i l = (1 ≤ l.i) × (l.i ≤ l.parts) × Highest l.tops l.i l.top.part × (l.top.bound ≡ get_or l.tops l.top.part 0)
