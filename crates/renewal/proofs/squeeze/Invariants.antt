-- `squeeze` meets its contract: the first i pins of the stretch are closed up, and what is written lies before what is read.
use Rattle.std.proofs.Common.{◌≤◌}
use Rattle.renewal.specs.Taking.{Squeezed}
use Rattle.renewal.proofs.squeeze.Given as goal

abbrev pub invariant-loop-i : goal.invariant-loop-i
invariant-loop-i l = (l.i ≤ l.p) × Squeezed l.v l.from l.i l.to l.initial.pins l.pins l.j
