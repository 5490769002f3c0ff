-- `spaced::skip` meets its contract. The invariant: what follows the words before `at` is what follows from `i` on.
use Rattle.std.proofs.Common.{◌≤◌, ◌≡◌}
use Rattle.std.proofs.Math.Seq.{slice}
use Rattle.model.specs.Grammar.{parts}
use Rattle.model.specs.Hmetis.{later}
use Rattle.spaced.proofs.skip.Given as goal

abbrev pub invariant-loop-i : goal.invariant-loop-i
invariant-loop-i l = (l.at ≤ l.i) × (l.i ≤ l.end) × (later (parts 32 (slice l.at l.end l.s)) ≡ later (parts 32 (slice l.i l.end l.s)))
