-- `clear_row`: the first j entries are `zero`.
use Rattle.std.proofs.Common.{◌≤◌}
use Rattle.first_tables.specs.Clear.{Wiped}
use Rattle.first_tables.proofs.clear.clear_row.Given as goal

abbrev pub invariant-loop-j : goal.invariant-loop-j
invariant-loop-j g l = (l.j ≤ l.k) × Wiped l.zero l.row l.j l.initial.table l.table
