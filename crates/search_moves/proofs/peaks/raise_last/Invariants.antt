use Rattle.std.proofs.Common.{◌≡◌, ◌∙◌, ◌≤◌, ◌-◌}
use Rattle.best_move.specs.Peak.{Higher}
use Rattle.search_moves.specs.Lifting.{LastUnder}
use Rattle.search_moves.proofs.peaks.raise_last.Given as goal

abbrev pub invariant-loop-j : goal.invariant-loop-j
invariant-loop-j l = Higher l.initial.peaks l.peaks × LastUnder l.gains l.peaks l.blocks l.presentpins l.first l.j l.s l.k
