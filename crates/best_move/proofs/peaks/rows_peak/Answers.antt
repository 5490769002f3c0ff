use Rattle.std.proofs.Common.{arith, ◌≡◌, sym, subst, ◌≤◌, ◌-◌, ◌+◌, ℤ}
use Rattle.laws.specs.Integer.{read32}
use Rattle.best_move.specs.Peak.{PartPeak, part-begins, part-rises}
use Rattle.best_move.proofs.peaks.rows_peak.Goals as goal

pub loop-x-init : goal.loop-x-init
loop-x-init c = (c.requires.0, part-begins c.args.gains.now c.args.from c.args.k _)

pub loop-x-preserved : goal.loop-x-preserved
loop-x-preserved c =
    let a = c.args in (
      omega arith,
      subst (λ (z : ℤ). PartPeak a.gains.now a.from (c.loop-x.x + 1) a.k z) (sym (read32 _ c.row_peak-peak.type_inv))
          (part-rises a.gains.now a.from c.loop-x.x a.k _ _ c.loop-x.invariant.1 c.row_peak-peak.ensures),
    )

pub returns : goal.returns
returns c =
    let a = c.args in
    let e : c.loop-x.x ≡ a.to = omega (arith, c.loop-x.invariant.0) in
    rw (← e) c.loop-x.invariant.1
