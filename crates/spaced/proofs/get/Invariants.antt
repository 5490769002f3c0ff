-- `spaced::get` meets its contract. The invariant: the number that n stand before is the one that n - k stand before from `i` on.
use Rattle.std.proofs.Common.{◌-◌}
use Rattle.spaced.proofs.Edges.{OnGet}
use Rattle.spaced.proofs.get.Given as goal

abbrev pub invariant-loop-k : goal.invariant-loop-k
invariant-loop-k l = OnGet l.s l.at l.end l.n l.i (l.n - l.k)
