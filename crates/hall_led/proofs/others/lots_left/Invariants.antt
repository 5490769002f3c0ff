-- `hall_led::others::lots_left` meets its contract. The loop's invariant: the sum over the catalogues before d.
use Rattle.std.proofs.Common.{◌-◌, ◌*◌, ◌≤◌, ◌≡◌}
use Rattle.hall_led.specs.Others.{lots_beside}
use Rattle.hall_led.proofs.others.lots_left.Given as goal

abbrev pub invariant-loop-d : goal.invariant-loop-d
invariant-loop-d l = (l.d ≤ l.count) × (l.all ≡ lots_beside l.courses l.d l.c) × (l.all ≤ l.d * 1024)
