-- `hall_opening::open_sets` meets its contract: the sets are opened in turn.
use Rattle.std.proofs.Common.{◌-◌}
use Rattle.hall_opening.specs.Filled.{fills, reads}
use Rattle.hall_opening.proofs.Turns.{OpenTo}
use Rattle.hall_opening.proofs.open_sets.Given as goal

abbrev pub invariant-loop-c : goal.invariant-loop-c
invariant-loop-c l =
    OpenTo l.count l.c l.sizes (fills l.initial.counts l.initial.visited l.initial.gains l.initial.index l.initial.bits l.initial.loads) (fills l.counts l.visited l.gains l.index l.bits l.loads) (reads l.presentpins l.presentsizes l.blocks l.weights l.fixed l.firsts l.netweights) l.courses
