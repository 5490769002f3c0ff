-- `hall_columns::is_hall_long` meets its contract: the sets before c are long.
use Rattle.std.proofs.Common.{◌-◌, ◌≤◌}
use Rattle.model.specs.HallLent.{hall_tables}
use Rattle.hall_columns.specs.Sets.{LongTo}
use Rattle.hall_columns.proofs.is_hall_long.Given as goal

abbrev pub invariant-loop-c : goal.invariant-loop-c
invariant-loop-c l = LongTo l.output (hall_tables l.weights l.blocks l.aboves l.fixed l.loadedpins l.presentpins l.firsts l.loadedsizes l.presentsizes l.counts l.gains l.index l.visited) l.c × (l.c ≤ 4)
