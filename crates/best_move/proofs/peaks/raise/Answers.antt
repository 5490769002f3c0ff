-- `raise`: one peak is raised to one gain.
use Rattle.std.proofs.Common.{arith}
use Rattle.laws.specs.Integer.{read32}
use Rattle.best_move.specs.Peak.{larger_max, raised}
use Rattle.best_move.proofs.peaks.raise.Goals as goal

pub returns : goal.returns
returns c =
    let a = c.args in
    raised a.peaks.now a.i _ a.gain _ _ _ (omega (arith, c.requires)) (read32 _ c.max-arg-1.given) (read32 a.gain c.ranges.gain.sfits) (read32 _ c.max.type_inv) (larger_max _ _ _ c.max.ensures.value)
