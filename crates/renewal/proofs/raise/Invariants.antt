-- `raise` meets its contract: the pins from i on have moved, and those before stand where they stood.
use Rattle.std.proofs.Common.{◌≤◌}
use Rattle.renewal.specs.Putting.{Raised}
use Rattle.renewal.proofs.raise.Given as goal

abbrev pub invariant-loop-i : goal.invariant-loop-i
invariant-loop-i l = (l.i ≤ l.p) × Raised l.from l.p l.to l.i l.initial.pins l.pins
