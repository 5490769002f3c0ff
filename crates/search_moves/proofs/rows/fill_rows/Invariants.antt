-- `fill_rows`: the rows of the first e nets have their pins, and the others have none.
use Rattle.std.proofs.Common.{◌≤◌, ◌-◌}
use Rattle.search_moves.specs.Rows.{RowsTo}
use Rattle.search_moves.proofs.rows.fill_rows.Given as goal

abbrev pub invariant-loop-e : goal.invariant-loop-e
invariant-loop-e l = RowsTo l.rows l.presentpins l.firsts l.presentsizes l.e
