-- `text::read_numbers` meets its contract. The invariant: what the fields from `at` on count to, those from `i` on do after `k`, and the
-- values of those before are kept.
use Rattle.std.proofs.Common.{◌-◌}
use Rattle.text.proofs.Lines.{OnNumbers}
use Rattle.text.proofs.read_numbers.Given as goal

abbrev pub invariant-loop-f : goal.invariant-loop-f
invariant-loop-f l = OnNumbers l.s l.at l.end l.k l.i l.values

abbrev pub decreases-loop-f : goal.decreases-loop-f
decreases-loop-f l = l.end - l.i
