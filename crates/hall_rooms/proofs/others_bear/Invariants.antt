use Rattle.std.proofs.Common.{◌≡◌, ◌*◌, ◌≤◌}
use Rattle.hall_rooms.specs.Rooms.{others_bear}
use Rattle.hall_rooms.proofs.others_bear.Given as goal

abbrev pub invariant-loop-d : goal.invariant-loop-d
invariant-loop-d l = (l.d ≤ l.count) × (l.all ≡ others_bear l.loads l.ks l.d l.c l.t) × (l.all ≤ l.d * 999999999)
