-- `mark_row`: the first c words of row 0 are marked.
use Rattle.std.proofs.Common.{◌≡◌, ◌≤◌, ◌-◌}
use Rattle.search_moves.specs.Rows.{MarkedTo}
use Rattle.search_moves.proofs.marks.mark_row.Given as goal

abbrev pub invariant-loop-c : goal.invariant-loop-c
invariant-loop-c l = MarkedTo l.rows l.e l.initial.marks l.c l.marks
