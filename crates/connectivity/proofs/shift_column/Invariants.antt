-- `shift_column`: the first i pins of the stretch, but x, have had their change.
use Rattle.std.proofs.Common.{◌≤◌, ◌-◌}
use Rattle.laws.specs.Place.{place}
use Rattle.connectivity.specs.Row.{row}
use Rattle.connectivity.specs.Laid.{Laid}
use Rattle.connectivity.specs.Touch.{at_column}
use Rattle.connectivity.proofs.shift_column.Given as goal

abbrev pub invariant-loop-i : goal.invariant-loop-i
invariant-loop-i l = (l.i ≤ l.p) × Laid (at_column l.take l.a l.w) (place (row l.pins l.blocks l.first l.i) l.x 0) l.k l.initial.gains l.gains
