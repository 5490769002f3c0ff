-- `mark_pins`: the bitset has the first i pins.
use Rattle.std.proofs.Common.{◌≤◌, ◌-◌}
use Rattle.first_tables.specs.Fill.{MarkedPins}
use Rattle.first_tables.proofs.mark_pins.Given as goal

abbrev pub invariant-loop-i : goal.invariant-loop-i
invariant-loop-i l = (l.i ≤ l.p) × MarkedPins l.presentpins l.n l.first l.i l.e l.initial.bits l.bits
