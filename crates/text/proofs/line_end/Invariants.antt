-- `text::line_end` meets its contract. The invariant: what the first line feed of the part from `at` is, the part from `i` says.
use Rattle.std.proofs.Common.{◌+◌, ◌-◌, ◌≤◌, ◌≡◌}
use Rattle.std.proofs.Math.Seq.{slice}
use Rattle.text.specs.Field.{first}
use Rattle.text.proofs.line_end.Given as goal

abbrev pub invariant-loop-i : goal.invariant-loop-i
invariant-loop-i l = (l.at ≤ l.i) × (l.i ≤ l.end) × (l.at + first 10 (slice l.at l.end l.s) ≡ l.i + first 10 (slice l.i l.end l.s))

abbrev pub decreases-loop-i : goal.decreases-loop-i
decreases-loop-i l = l.end - l.i
