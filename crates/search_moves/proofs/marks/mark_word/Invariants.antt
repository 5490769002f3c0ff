-- `mark_word`: the nets below bit j of the word are marked.
use Rattle.std.proofs.Common.{◌≤◌, ◌<◌, ◌+◌, ◌-◌, ◌≡◌}
use Rattle.laws.specs.Bit.{bit}
use Rattle.search_moves.specs.Marks.{Words}
use Rattle.search_moves.proofs.marks.mark_word.Given as goal

abbrev pub invariant-loop-j : goal.invariant-loop-j
invariant-loop-j l = (l.j ≤ 64) × (l.j < 64 → bit l.nets l.j ≡ 1) × Words l.bits l.presentpins l.firsts l.presentsizes l.u l.from l.to l.initial.marks l.j l.marks

abbrev pub decreases-loop-j : goal.decreases-loop-j
decreases-loop-j l = 64 - l.j
