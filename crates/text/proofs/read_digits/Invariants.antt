-- `text::read_digits` meets its contract. The invariant: the bytes before `i` are digits, and `v` is their value.
use Rattle.std.proofs.Common.{◌-◌, ◌+◌, ◌≤◌, length}
use Rattle.text.proofs.Numbers.{OnDigits}
use Rattle.text.proofs.read_digits.Given as goal

abbrev pub invariant-loop-i : goal.invariant-loop-i
invariant-loop-i l = OnDigits l.s l.at l.v l.i × (l.i ≤ l.end) × (l.end ≤ l.at + 9) × (l.end ≤ length l.s)

abbrev pub decreases-loop-i : goal.decreases-loop-i
decreases-loop-i l = l.end - l.i
