-- `clear_rows`: the rows below y are `zero`.
use Rattle.std.proofs.Common.{◌≤◌}
use Rattle.first_tables.specs.Clear.{WipedRows}
use Rattle.first_tables.proofs.clear.clear_rows.Given as goal

abbrev pub invariant-loop-y : goal.invariant-loop-y
invariant-loop-y g l = (l.y ≤ l.n) × WipedRows l.zero l.y l.k l.initial.table l.table
