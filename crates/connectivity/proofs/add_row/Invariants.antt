-- `add_row`: the first j entries of the row are raised.
use Rattle.std.proofs.Common.{◌≤◌, ◌-◌, ◌*◌}
use Rattle.connectivity.specs.Raised.{Raised}
use Rattle.connectivity.proofs.add_row.Given as goal

abbrev pub invariant-loop-j : goal.invariant-loop-j
invariant-loop-j l = (l.j ≤ l.k) × Raised (λ _. l.d) (16 * l.x) l.j l.initial.gains l.gains
