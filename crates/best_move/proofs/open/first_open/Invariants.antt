-- `first_open`: none of the first j blocks has room.
use Rattle.std.proofs.Common.{◌≤◌, ◌-◌}
use Rattle.guarantees.specs.Ranked.{ranked_by}
use Rattle.index.specs.Row.{gain_at}
use Rattle.best_move.specs.First.{Shut, goes}
use Rattle.best_move.proofs.open.first_open.Given as goal

abbrev pub invariant-loop-j : goal.invariant-loop-j
invariant-loop-j l = (l.j ≤ l.k) × Shut (goes l.loads l.ceilings l.own l.weight) (ranked_by (gain_at l.gains l.x) l.own l.k) l.j
