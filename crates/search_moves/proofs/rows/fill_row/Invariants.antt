-- `fill_row`: the first j pins are in the row.
use Rattle.std.proofs.Common.{◌≡◌, ◌≤◌, ◌-◌}
use Rattle.search_moves.specs.Rows.{FilledTo}
use Rattle.search_moves.proofs.rows.fill_row.Given as goal

abbrev pub invariant-loop-j : goal.invariant-loop-j
invariant-loop-j l = FilledTo l.initial.rows l.presentpins l.first l.e l.j l.rows
