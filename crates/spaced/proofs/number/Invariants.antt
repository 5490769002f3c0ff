-- `spaced::number` meets its contract. The invariant: the bytes before i are digits, nine at most, of the value v.
use Rattle.spaced.proofs.Digits.{OnWord}
use Rattle.spaced.proofs.number.Given as goal

abbrev pub invariant-loop-i : goal.invariant-loop-i
invariant-loop-i l = OnWord l.s l.at l.end l.v l.i
