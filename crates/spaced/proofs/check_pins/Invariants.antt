-- `spaced::check_pins` meets its contract. The invariant: what the words from `at` on say, those from `i` on say after the vertices seen.
use Rattle.std.proofs.Common.{◌-◌}
use Rattle.spaced.proofs.Edges.{OnPins}
use Rattle.spaced.proofs.check_pins.Given as goal

abbrev pub invariant-loop-x : goal.invariant-loop-x
invariant-loop-x l = OnPins l.s l.at l.end l.vertices l.j l.stamps l.i l.n l.good l.size

abbrev pub decreases-loop-x : goal.decreases-loop-x
decreases-loop-x l = l.end - l.i
