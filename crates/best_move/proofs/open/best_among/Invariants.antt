-- `best_among`: from one candidate that may have a better pair to the next.
use Rattle.std.proofs.Common.{◌-◌, ◌+◌, ◌*◌, ◌≤◌}
use Rattle.index.specs.Indexed.{Kept}
use Rattle.best_move.specs.RisingLaw.{Searched}
use Rattle.best_move.proofs.open.best_among.Given as goal

abbrev pub invariant-loop-j : goal.invariant-loop-j
invariant-loop-j l =
    (l.from ≤ l.size) × Searched l.candidates l.blocks l.weights l.loads l.ceilings l.rooms l.gains l.c l.size l.k l.initial.best l.best l.from × Kept (64 * l.c + l.size) l.k l.initial.index l.index

abbrev pub decreases-loop-j : goal.decreases-loop-j
decreases-loop-j l = 65 - l.from
