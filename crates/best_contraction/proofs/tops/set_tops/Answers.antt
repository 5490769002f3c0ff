use Rattle.std.proofs.Common.{ℕ, ◌*◌, ◌+◌, arith, subst}
use Rattle.best_contraction.specs.PartTop.{TopOf, tops-none, tops-more, tops-all}
use Rattle.best_contraction.proofs.tops.set_tops.Goals as goal

pub loop-i-init : goal.loop-i-init
loop-i-init c = tops-none c.args.bounds.now c.args.n c.args.tops.now c.requires.0

pub bounds-tops-i : goal.bounds-tops-i
bounds-tops-i c = omega (arith, c.loop-i.invariant.len, c.div_ceil-i-end.ensures)

pub loop-i-preserved : goal.loop-i-preserved
loop-i-preserved c =
    let l = c.loop-i in
    let a = c.args in
    tops-more a.bounds.now a.n l.i l.tops _ (omega (arith, c.div_ceil-i-end.ensures)) l.invariant (subst (λ (k : ℕ). TopOf a.bounds.now (64 * l.i) k c.part_top.result) c.part_end.ensures c.part_top.ensures)

pub returns : goal.returns
returns c =
    let l = c.loop-i in
    let a = c.args in
    tops-all a.bounds.now a.n l.i l.tops (omega (arith, c.div_ceil-i-end.ensures)) l.invariant
