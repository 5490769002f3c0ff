-- `survey`: one part more.
use Rattle.best_move.specs.Peak.{Surveyed}
use Rattle.best_move.proofs.peaks.survey.Given as goal

abbrev pub invariant-loop-c : goal.invariant-loop-c
invariant-loop-c l = Surveyed l.gains l.n l.k l.c l.peaks
