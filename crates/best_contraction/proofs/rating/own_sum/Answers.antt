use Rattle.std.proofs.Common.{arith, refl}
use Rattle.incidence.specs.On.{along-next, gave}
use Rattle.best_contraction.specs.RatingLaw.{own-none, own-more, own_room}
use Rattle.best_contraction.proofs.rating.own_sum.Goals as goal

pub loop-e-init : goal.loop-e-init
loop-e-init c =
    let a = c.args in
    let s = c.nets_of-e-items.ensures in
    rw c.into_iter-e-iterator.ensures.into_iter_gives (s.along, own-none a.bits.now a.presentsizes.now a.net_weights.now a.u a.m _ s.first)

pub overflow_add-sum : goal.overflow_add-sum
overflow_add-sum c =
    let a = c.args in
    let l = c.loop-e in
    omega (arith, l.invariant.1, c.in-Some.ensures.steps.here, c.term-sum.ensures.1, own_room a.bits.now a.presentsizes.now a.net_weights.now a.u a.m l.e-iterator.at l.invariant.0.low c.requires.nets c.requires.light)

pub loop-e-preserved : goal.loop-e-preserved
loop-e-preserved c =
    let a = c.args in
    let l = c.loop-e in
    let g = c.in-Some.ensures.steps in
    let e = gave l.invariant.0 g in
    (along-next l.invariant.0 g, own-more a.bits.now a.presentsizes.now a.net_weights.now a.u a.m _ _ l.sum _ c.term-sum.result (rw g.here at l.invariant.1) e.here c.term-sum.ensures.0 refl e.next)
