-- `fields::put_tail` meets its contract. The loop's invariant: the first i fields are written.
use Rattle.std.proofs.Common.{◌≤◌, ◌≡◌, length, take}
use Rattle.fields.specs.Wrote.{Wrote}
use Rattle.fields.proofs.Laws.{commas}
use Rattle.fields.proofs.put_tail.Given as goal

abbrev pub invariant-loop-x : goal.invariant-loop-x
invariant-loop-x l = (l.x-index ≤ length l.xs) × (length l.out ≡ length l.initial.out) × Wrote l.initial.out l.out l.at (commas (take l.x-index l.xs)) l.p
