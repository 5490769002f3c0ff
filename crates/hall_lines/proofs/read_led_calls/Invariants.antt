-- `hall_lines::read_led_calls` meets its contract.
use Rattle.std.proofs.Common.{◌-◌, length}
use Rattle.hall_lines.proofs.LedTurns.{OnLed}
use Rattle.hall_lines.proofs.read_led_calls.Given as goal

abbrev pub invariant-loop-i : goal.invariant-loop-i
invariant-loop-i l = OnLed l.count l.s l.at l.n l.initial.calls l.initial.operands l.calls l.operands l.i l.c l.used

abbrev pub decreases-loop-i : goal.decreases-loop-i
decreases-loop-i l = length l.s - l.i
