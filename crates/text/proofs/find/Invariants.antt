-- `text::find` meets its contract. The invariant: what the first sep of the part from `at` is, the part from `i` says.
use Rattle.std.proofs.Common.{◌≤◌, ◌-◌, ◌+◌, ◌≡◌}
use Rattle.std.proofs.Math.Seq.{slice}
use Rattle.text.specs.Field.{first}
use Rattle.text.proofs.find.Given as goal

abbrev pub invariant-loop-i : goal.invariant-loop-i
invariant-loop-i l = (l.at ≤ l.i) × (l.i ≤ l.end) × (l.at + first l.sep (slice l.at l.end l.s) ≡ l.i + first l.sep (slice l.i l.end l.s))
