-- `set_part`: all get the highest, or each its own.
use Rattle.std.proofs.Common.{sym, subst, ℤ}
use Rattle.laws.specs.Integer.{read32}
use Rattle.best_move.specs.Peak.{PartPeak, PartSet, level-set}
use Rattle.best_move.proofs.peaks.set_part.Goals as goal

pub returns-then-k-le4 : goal.returns-then-k-le4
returns-then-k-le4 c =
    let a = c.args in
    level-set a.gains.now a.from a.to a.k a.peaks.now _ _ (subst (PartPeak a.gains.now a.from a.to a.k) (sym (read32 _ c.part_peak-peak.type_inv)) c.part_peak-peak.ensures) c.set_all.ensures

pub returns : goal.returns
returns c =
    let a = c.args in
    subst (λ (z : ℤ). PartSet a.gains.now a.from a.to a.k a.peaks.now c.set_each.new.peaks z) (sym (read32 _ c.set_each.type_inv)) c.set_each.ensures
