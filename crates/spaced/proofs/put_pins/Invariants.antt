-- `spaced::put_pins` meets its contract. The invariant: what the words from `i` on say is still to be written.
use Rattle.std.proofs.Common.{◌-◌}
use Rattle.spaced.proofs.Edges.{OnPut}
use Rattle.spaced.proofs.put_pins.Given as goal

abbrev pub invariant-loop-at : goal.invariant-loop-at
invariant-loop-at l = OnPut l.s l.at l.end l.initial.out l.p l.out l.i l.q

abbrev pub decreases-loop-at : goal.decreases-loop-at
decreases-loop-at l = l.end - l.i
