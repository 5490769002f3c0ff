use Rattle.std.proofs.Common.{◌≤◌}
use Rattle.hall_rooms.specs.Rooms.{Least}
use Rattle.hall_rooms.proofs.ceilings.Given as goal

abbrev pub invariant-loop-t : goal.invariant-loop-t
invariant-loop-t l = (l.t ≤ 16) × Least l.cap l.rooms l.t l.row
