use Rattle.std.proofs.Common.{arith, sym, subst, ◌*◌, ◌+◌, ◌≡◌}
use Rattle.laws.specs.Integer.{read32}
use Rattle.best_move.specs.Peak.{larger_max, PartPeak, fours-begin, fours-rise, fours-end}
use Rattle.best_move.proofs.peaks.part_peak.Goals as goal

pub returns-then-k-lt4 : goal.returns-then-k-lt4
returns-then-k-lt4 c =
    let a = c.args in
    subst (PartPeak a.gains.now a.from a.to a.k) (sym (read32 _ c.rows_peak.type_inv)) c.rows_peak.ensures

pub loop-i-init : goal.loop-i-init
loop-i-init c =
    let a = c.args in
    fours-begin a.gains.now a.from a.to a.k _

pub loop-i-preserved : goal.loop-i-preserved
loop-i-preserved c =
    let l = c.loop-i in
    let a = c.args in
    let e : 4 * l.i + 4 ≡ 4 * (l.i + 1) = omega arith in
    rw e at (fours-rise a.gains.now a.from a.to a.k (4 * l.i) c.min.result _ _ _ _ _ c.if-k-lt4.false (omega (arith, c.min.ensures)) l.invariant c.four_peak.ensures (read32 _ c.four_peak.type_inv) (read32 _ c.max-peak.type_inv) (larger_max _ _ _ c.max-peak.ensures.value))

pub returns : goal.returns
returns c =
    let l = c.loop-i in
    let a = c.args in
    fours-end a.gains.now a.from a.to a.k (4 * l.i) _ (omega (arith, c.div_ceil-i-end.ensures)) l.invariant
