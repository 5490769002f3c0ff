use Rattle.std.proofs.Common.{arith, ◌+◌, ◌-◌, ◌*◌, ◌≤◌, ◌≡◌, sym, ap, ◌∙◌, get_or}
use Rattle.laws.specs.Sum.{sum-zero, sum_step}
use Rattle.renewal.specs.Putting.{total_with}
use Rattle.change_rules.proofs.naming.total_with.Goals as goal

pub loop-e-init : goal.loop-e-init
loop-e-init c =
    (omega arith, sym (sum-zero _), omega arith)

pub bounds-named-e : goal.bounds-named-e
bounds-named-e c =
    omega (arith, c.requires)

pub loop-e-preserved : goal.loop-e-preserved
loop-e-preserved c =
    let a = c.args in let l = c.loop-e in
    (omega arith, omega (arith, l.invariant.1, c.from.ensures, c.from-in-loop-e.ensures, sum_step l.e (λ d. get_or a.loadedsizes.now d 0 + get_or a.named.now d 0)), omega (arith, l.invariant.2, c.from.ensures, c.from-in-loop-e.ensures))

pub returns : goal.returns
returns c =
    let a = c.args in
    c.loop-e.invariant.1 ∙ ap (total_with a.named.now a.loadedsizes.now) (omega arith)
