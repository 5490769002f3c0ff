use Rattle.std.proofs.Common.{ℕ, ◌≤◌, ◌-◌, subst, ◌≡◌, arith}
use Rattle.best_contraction.specs.Rating.{Cleared}
use Rattle.best_contraction.specs.RatingLaw.{cleared-none, cleared_more}
use Rattle.best_contraction.proofs.join.clear.Goals as goal

pub loop-i-init : goal.loop-i-init
loop-i-init c = (omega arith, cleared-none c.args.acc.now c.requires.0)

pub overflow_add-acc : goal.overflow_add-acc
overflow_add-acc c = omega (arith, c.requires)

pub offset_bounds-acc-i : goal.offset_bounds-acc-i
offset_bounds-acc-i c = omega (arith, c.requires)

pub bounds-acc-i : goal.bounds-acc-i
bounds-acc-i c = omega (arith, c.requires, c.loop-i.invariant.1.len)

pub loop-i-preserved : goal.loop-i-preserved
loop-i-preserved c =
    let l = c.loop-i in
    (omega arith, cleared_more c.args.acc.now l.acc l.i (omega (arith, c.requires)) l.invariant.1)

pub returns : goal.returns
returns c =
    let a = c.args in
    let e : c.loop-i.i ≡ a.n = omega arith in
    subst (λ (k : ℕ). Cleared a.acc.now c.loop-i.acc k) e c.loop-i.invariant.1
