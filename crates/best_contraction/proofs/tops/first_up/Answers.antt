use Rattle.std.proofs.Common.{◌≤◌, ◌<◌, ◌-◌, arith, refl}
use Rattle.best_contraction.specs.PartTop.{up_none, up_more, up-last}
use Rattle.best_contraction.proofs.tops.first_up.Goals as goal

pub loop-y-init : goal.loop-y-init
loop-y-init c =
    let a = c.args in
    (omega arith, omega arith, up_none a.bounds.now a.from a.top _ refl)

pub returns-then-top-bounds : goal.returns-then-top-bounds
returns-then-top-bounds c =
    let l = c.loop-y in
    record { low = l.invariant.0; high = l.invariant.1; up = c.if-top-bounds.true; first = l.invariant.2 }

pub loop-y-preserved : goal.loop-y-preserved
loop-y-preserved c =
    let l = c.loop-y in
    let a = c.args in
    (omega arith, omega arith, up_more a.bounds.now a.from a.top l.y l.invariant.2 (omega arith))

pub returns : goal.returns
returns c =
    let l = c.loop-y in
    let a = c.args in
    up-last a.bounds.now a.from a.to a.top (omega arith) c.requires.3 (λ x s t. l.invariant.2 x s (omega arith))
