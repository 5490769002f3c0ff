use Rattle.std.proofs.Common.{◌≡◌, ◌≤◌, ◌-◌}
use Rattle.search_moves.specs.Marks.{Marked}
use Rattle.polish.specs.Polishing.{sits}
use Rattle.polish.proofs.polishing.mark_board.Given as goal

abbrev pub invariant-loop-x : goal.invariant-loop-x
invariant-loop-x l = Marked l.initial.marks l.marks (sits l.blocks l.x)
