use Rattle.std.proofs.Common.{◌≤◌}
use Rattle.hall_rooms.specs.Rooms.{Leaves}
use Rattle.hall_rooms.proofs.rooms.Given as goal

abbrev pub invariant-loop-t : goal.invariant-loop-t
invariant-loop-t l = (l.t ≤ 16) × Leaves l.limit l.loads l.ks l.count l.c l.t l.row
