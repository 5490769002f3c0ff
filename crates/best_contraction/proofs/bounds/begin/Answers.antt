use Rattle.std.proofs.Common.{ℕ, ◌≤◌, ◌-◌, subst, ◌≡◌, arith}
use Rattle.best_contraction.specs.RatingLaw.{own-ok}
use Rattle.best_contraction.specs.BoundLaw.{OwnSums, sums_none, sums-more}
use Rattle.best_contraction.proofs.bounds.begin.Goals as goal

pub loop-i-init : goal.loop-i-init
loop-i-init c =
    (omega arith, sums_none c.args.bits.now c.args.presentsizes.now c.args.net_weights.now c.args.m c.args.bounds.now c.requires.bounds_len)

pub overflow_add-i : goal.overflow_add-i
overflow_add-i c =
    omega (arith, c.requires.tables_ok.vertices)

pub own_sum-requires : goal.own_sum-requires
own_sum-requires c =
    own-ok c.args.bits.now c.args.presentpins.now c.args.firsts.now c.args.presentsizes.now c.args.net_weights.now c.args.blocks.now _ c.args.m c.args.n c.requires.tables_ok (omega arith) (omega arith)

pub overflow_add-bounds : goal.overflow_add-bounds
overflow_add-bounds c =
    omega (arith, c.requires.tables_ok.vertices)

pub bounds-bounds-i : goal.bounds-bounds-i
bounds-bounds-i c =
    omega (arith, c.requires.tables_ok.vertices, c.loop-i.invariant.1.len)

pub loop-i-preserved : goal.loop-i-preserved
loop-i-preserved c =
    let a = c.args in
    (omega arith, sums-more a.bits.now a.presentsizes.now a.net_weights.now a.m c.loop-i.bounds c.loop-i.i _ (omega (arith, c.requires.tables_ok.vertices)) c.loop-i.invariant.1 c.own_sum.ensures)

pub returns : goal.returns
returns c =
    let e : c.loop-i.i ≡ c.args.n = omega (arith, c.loop-i.invariant.0) in
    subst (λ (k : ℕ). OwnSums c.args.bits.now c.args.presentsizes.now c.args.net_weights.now c.args.m k c.loop-i.bounds) e c.loop-i.invariant.1
