-- `lift`: the peaks are above the gains that the nets before the iterator's place may have raised.
use Rattle.std.proofs.Common.{ℕ, ◌<◌}
use Rattle.incidence.specs.On.{Along}
use Rattle.best_move.specs.Peak.{Under, Higher}
use Rattle.search_moves.specs.Lifting.{Done}
use Rattle.search_moves.proofs.peaks.lift.Given as goal

abbrev pub invariant-loop-e : goal.invariant-loop-e
invariant-loop-e l =
    let i = l.e-iterator in
    Along l.board.bits.now l.u l.board.m i.bits.now i.x i.m i.at × Higher l.initial.peaks l.peaks × ((b : ℕ) → b < l.board.k → Under l.gains l.peaks l.u b) × Done l.gains l.peaks l.counts l.blocks l.board.presentpins.now l.board.firsts.now l.board.presentsizes.now l.board.bits.now l.board.k l.u l.s l.t i.at
