use Rattle.std.proofs.Common.{ℕ, ◌≤◌, ◌-◌, refl, subst, ◌≡◌, arith}
use Rattle.best_contraction.specs.Bound.{Highest}
use Rattle.best_contraction.specs.PartTop.{highest-one, highest-more}
use Rattle.best_contraction.proofs.tops.highest_part.Goals as goal

pub bounds-tops-1 : goal.bounds-tops-1
bounds-tops-1 c = omega (arith, c.requires.0)

pub loop-i-init : goal.loop-i-init
loop-i-init c = (omega arith, c.requires.1, highest-one c.args.tops.now, refl)

pub overflow_add-i : goal.overflow_add-i
overflow_add-i c =
    omega (arith, c.requires)

pub bounds-tops-i : goal.bounds-tops-i
bounds-tops-i c =
    omega (arith, c.requires)

pub overflow_add-i-in-loop-i : goal.overflow_add-i-in-loop-i
overflow_add-i-in-loop-i c =
    omega (arith, c.requires)

pub loop-i-preserved : goal.loop-i-preserved
loop-i-preserved c =
    let l = c.loop-i in
    let h = highest-more c.args.tops.now l.i _ _ _ _ _ l.invariant.0 l.invariant.2 l.invariant.3 refl c.higher-top.ensures in
    (omega arith, omega arith, h.0, h.1)

pub returns : goal.returns
returns c =
    let l = c.loop-i in
    let e : l.i ≡ c.args.parts = omega (arith, l.invariant.1) in
    subst (λ (k : ℕ). Highest c.args.tops.now k l.top.part) e l.invariant.2
