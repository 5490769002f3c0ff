-- `hall_led::others::marks_left` meets its contract. The loop's invariant: the sum over the catalogues before d.
use Rattle.std.proofs.Common.{◌-◌, ◌*◌, ◌≤◌, ◌≡◌}
use Rattle.hall_led.specs.Others.{marks_beside}
use Rattle.hall_led.proofs.others.marks_left.Given as goal

abbrev pub invariant-loop-d : goal.invariant-loop-d
invariant-loop-d l = (l.d ≤ l.count) × (l.all ≡ marks_beside l.courses l.d l.c) × (l.all ≤ l.d * 8192)
