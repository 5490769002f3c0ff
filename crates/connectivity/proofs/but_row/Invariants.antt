-- `but_row`: the first j entries are shifted.
use Rattle.std.proofs.Common.{◌≤◌, ◌-◌, ◌*◌}
use Rattle.connectivity.specs.Raised.{Raised}
use Rattle.connectivity.specs.Touch.{Rest}
use Rattle.connectivity.proofs.but_row.Given as goal

abbrev pub invariant-loop-j : goal.invariant-loop-j
invariant-loop-j l = (l.j ≤ l.k) × Raised (Rest l.take l.a l.w) (16 * l.q) l.j l.initial.gains l.gains
