use Rattle.std.proofs.Common.{◌≡◌, ◌∙◌, ◌≤◌, ◌-◌}
use Rattle.best_move.specs.Peak.{Higher}
use Rattle.search_moves.specs.Lifting.{FirstUnder}
use Rattle.search_moves.proofs.peaks.raise_first.Given as goal

abbrev pub invariant-loop-j : goal.invariant-loop-j
invariant-loop-j l = Higher l.initial.peaks l.peaks × FirstUnder l.gains l.peaks l.presentpins l.first l.j l.t
