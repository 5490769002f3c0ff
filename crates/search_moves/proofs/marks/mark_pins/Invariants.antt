use Rattle.std.proofs.Common.{◌≡◌, ◌≤◌, ◌-◌}
use Rattle.connectivity.specs.Listed.{has}
use Rattle.search_moves.specs.Marks.{Marked, SameNets}
use Rattle.search_moves.proofs.marks.mark_pins.Given as goal

abbrev pub invariant-loop-j : goal.invariant-loop-j
invariant-loop-j l = Marked l.initial.marks l.marks (has l.presentpins l.first l.j) × SameNets l.initial.marks l.marks
