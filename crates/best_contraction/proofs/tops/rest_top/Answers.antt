use Rattle.std.proofs.Common.{ℕ, ◌≤◌, ◌-◌, ◌+◌, arith, ◌≡◌, refl, subst}
use Rattle.best_contraction.specs.PartTop.{TopOf, larger-max, top-none, top_one, top-join}
use Rattle.best_contraction.proofs.tops.rest_top.Goals as goal

pub loop-y-init : goal.loop-y-init
loop-y-init c = (omega arith, c.requires.1, top-none c.args.bounds.now c.args.from)

pub loop-y-preserved : goal.loop-y-preserved
loop-y-preserved c =
    let l = c.loop-y in
    let a = c.args in
    (omega arith, omega arith, top-join a.bounds.now a.from l.y (l.y + 1) _ _ _ (omega arith) (omega arith) l.invariant.2 (top_one a.bounds.now l.y (l.y + 1) refl) (larger-max _ _ _ c.max-top.ensures))

pub returns : goal.returns
returns c =
    let l = c.loop-y in
    let a = c.args in
    let e : l.y ≡ a.to = omega (arith, l.invariant.1) in
    subst (λ (k : ℕ). TopOf a.bounds.now a.from k l.top) e l.invariant.2
