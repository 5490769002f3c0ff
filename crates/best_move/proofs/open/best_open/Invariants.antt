-- `best_open`: one part more.
use Rattle.std.proofs.Common.{◌≡◌, ◌∙◌, ◌≤◌, ◌-◌, ◌+◌, ◌*◌}
use Rattle.index.specs.Indexed.{Kept}
use Rattle.best_move.specs.Open.{Leads, best_to, gain_in, open_in}
use Rattle.best_move.specs.Peak.{lesser}
use Rattle.best_move.specs.Rising.{Rooms}
use Rattle.best_move.proofs.open.best_open.Given as goal

abbrev pub invariant-loop-c : goal.invariant-loop-c
invariant-loop-c l =
    Kept l.n l.k l.initial.index l.index × Rooms l.loads l.ceilings l.k l.rooms × Leads l.best (best_to (open_in l.candidates l.blocks l.weights l.loads l.ceilings) (gain_in l.gains) l.k (lesser (64 * l.c) l.n))
