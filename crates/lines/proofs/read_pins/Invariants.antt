-- `lines::read_pins` meets its contract. The invariant: what the marks of the line say, those from `i` on say after the marks in the table.
use Rattle.std.proofs.Common.{◌-◌}
use Rattle.lines.proofs.Fields.{OnMarks}
use Rattle.lines.proofs.read_pins.Given as goal

abbrev pub invariant-loop-f : goal.invariant-loop-f
invariant-loop-f l = OnMarks l.s l.at l.end l.vertices l.most l.j l.first l.initial.loadedpins l.loadedpins l.stamps l.i l.m

abbrev pub decreases-loop-f : goal.decreases-loop-f
decreases-loop-f l = l.end - l.i
