-- `find_other`: no pin before the place i is another one of the block.
use Rattle.std.proofs.Common.{◌≤◌, ◌-◌}
use Rattle.connectivity.specs.Touch.{Passed}
use Rattle.connectivity.proofs.find_other.Given as goal

abbrev pub invariant-loop-i : goal.invariant-loop-i
invariant-loop-i l = (l.i ≤ l.p) × Passed l.pins l.blocks l.first l.x l.s l.i
