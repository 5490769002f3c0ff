-- `count_pins`: the first i pins are counted, and the mask shows them.
use Rattle.std.proofs.Common.{◌≤◌, ◌-◌, set}
use Rattle.connectivity.specs.Whole.{CountedPins}
use Rattle.connectivity.proofs.whole.count_pins.Given as goal

abbrev pub invariant-loop-i : goal.invariant-loop-i
invariant-loop-i l = (l.i ≤ l.p) × CountedPins l.pins l.blocks l.n l.m l.k l.first l.i l.e l.initial.counts l.counts l.visited (set l.visited l.e l.mask)
