-- `spaced::count` meets its contract. The invariant: what the line's words count to, those from `i` on do after k.
use Rattle.std.proofs.Common.{◌≤◌, ◌-◌, ◌≡◌}
use Rattle.std.proofs.Math.Seq.{slice}
use Rattle.text.specs.Field.{counted}
use Rattle.model.specs.Hmetis.{words, numbers_in}
use Rattle.spaced.proofs.count.Given as goal

abbrev pub invariant-loop-at : goal.invariant-loop-at
invariant-loop-at l = (l.k ≤ l.i) × (l.i ≤ l.end) × (numbers_in (slice l.at l.end l.s) ≡ counted l.k (words (slice l.i l.end l.s)))

abbrev pub decreases-loop-at : goal.decreases-loop-at
decreases-loop-at l = l.end - l.i
