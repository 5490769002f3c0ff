use Rattle.std.proofs.Common.{arith, ◌≡◌, sym, subst, ◌≤◌, ◌-◌, ◌+◌, ℤ, w32, of_z, to_z, to_z-of_z}
use Rattle.laws.specs.Integer.{read32}
use Rattle.best_move.specs.Peak.{larger_max, RowPeak, row-begins, row-rises}
use Rattle.best_move.proofs.peaks.row_peak.Goals as goal

pub loop-j-init : goal.loop-j-init
loop-j-init c =
    let a = c.args in
    (omega arith, row-begins a.gains.now a.x _)

pub loop-j-preserved : goal.loop-j-preserved
loop-j-preserved c =
    let a = c.args in (
      omega arith,
      subst (λ (z : ℤ). RowPeak a.gains.now a.x (c.loop-j.j + 1) (to_z w32 (of_z w32 a.before)) z) (sym (read32 _ c.max-peak.type_inv))
          (row-rises a.gains.now a.x c.loop-j.j _ _ _ _ c.loop-j.invariant.1 (read32 _ c.max-arg-1.given) (larger_max _ _ _ c.max-peak.ensures.value)),
    )

pub returns : goal.returns
returns c =
    let a = c.args in
    let e : c.loop-j.j ≡ a.k = omega arith in
    rw (← e, ← to_z-of_z {w = w32} c.ranges.before) c.loop-j.invariant.1
