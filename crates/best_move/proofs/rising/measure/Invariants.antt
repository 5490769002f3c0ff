-- `measure`: the rooms of the first b blocks are set.
use Rattle.std.proofs.Common.{◌≡◌, ◌≤◌, ◌-◌}
use Rattle.best_move.specs.Rising.{Rooms}
use Rattle.best_move.proofs.rising.measure.Given as goal

abbrev pub invariant-loop-b : goal.invariant-loop-b
invariant-loop-b l = (l.b ≤ l.k) × (l.k ≤ 16) × Rooms l.loads l.ceilings l.b l.rooms
