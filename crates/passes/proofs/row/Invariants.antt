-- `passes::row` meets its contract. The invariant: the sections from `at` on are those from `i` on.
use Rattle.std.proofs.Common.{◌≤◌, ◌-◌, ◌≡◌, length}
use Rattle.passes.specs.Rows.{sections_at}
use Rattle.passes.proofs.row.Given as goal

abbrev pub invariant-loop-i : goal.invariant-loop-i
invariant-loop-i l = (l.at ≤ l.i) × (l.i ≤ length l.s) × (sections_at l.s l.at ≡ sections_at l.s l.i)

abbrev pub decreases-loop-i : goal.decreases-loop-i
decreases-loop-i l = length l.s - l.i
