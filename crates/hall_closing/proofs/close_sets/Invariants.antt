-- `hall_closing::close_sets` meets its contract: the reports are written in turn.
use Rattle.std.proofs.Common.{◌-◌}
use Rattle.hall_closing.proofs.Turns.{CloseTo}
use Rattle.hall_closing.proofs.close_sets.Given as goal

abbrev pub invariant-loop-c : goal.invariant-loop-c
invariant-loop-c l = CloseTo l.initial.output l.at l.count l.blocks l.aboves l.visited l.courses l.sizes l.drafts l.c l.output l.p
