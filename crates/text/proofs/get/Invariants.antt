-- `text::get` meets its contract. The invariant: the i-th field from `at` on is, after k turns, the (i - k)-th from `a` on.
use Rattle.std.proofs.Common.{◌-◌}
use Rattle.text.proofs.Lines.{OnGet}
use Rattle.text.proofs.get.Given as goal

abbrev pub invariant-loop : goal.invariant-loop
invariant-loop l = OnGet l.s l.at l.end l.i l.a (l.i - l.counter)
