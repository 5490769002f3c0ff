-- `on_board`: vertex by vertex.
use Rattle.std.proofs.Common.{◌-◌, ◌≤◌, ◌≡◌}
use Rattle.coarsening.specs.Coarsen.{board_in}
use Rattle.coarsening.proofs.on_board.Given as goal

abbrev pub invariant-loop-i : goal.invariant-loop-i
invariant-loop-i l = (l.board ≡ board_in l.blocks l.i) × (l.board ≤ l.i)
