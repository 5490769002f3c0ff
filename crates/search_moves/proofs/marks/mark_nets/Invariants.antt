-- `mark_nets`: the nets below e, where a word begins, are marked.
use Rattle.std.proofs.Common.{◌≤◌, ◌<◌, ◌-◌, ◌%◌, ◌≡◌}
use Rattle.search_moves.specs.Marks.{Marked, Covered, near}
use Rattle.search_moves.proofs.marks.mark_nets.Given as goal

abbrev pub invariant-loop-e : goal.invariant-loop-e
invariant-loop-e l = (l.e ≤ l.m) × (l.e < l.m → l.e % 64 ≡ 0) × Marked l.initial.marks l.marks (near l.bits l.presentpins l.firsts l.presentsizes l.u l.e) × Covered l.marks l.presentpins l.firsts l.presentsizes

abbrev pub decreases-loop-e : goal.decreases-loop-e
decreases-loop-e l = l.m - l.e
