use Rattle.incidence.specs.On.{along-next, gave}
use Rattle.best_contraction.specs.RatingLaw.{row-first, row-stretch, row_more}
use Rattle.best_contraction.proofs.rating.accumulate.Goals as goal

pub loop-e-init : goal.loop-e-init
loop-e-init c =
    let a = c.args in
    let s = c.nets_of-e-items.ensures in
    rw c.into_iter-e-iterator.ensures.into_iter_gives (s.along, row-first a.bits.now a.presentpins.now a.firsts.now a.presentsizes.now a.net_weights.now a.u a.m c.requires.row_ok a.acc.now _ c.requires.blank.0 s.first)

pub add_net-requires : goal.add_net-requires
add_net-requires c =
    let a = c.args in
    let g = c.in-Some.ensures.steps in
    let e = gave c.loop-e.invariant.0 g in
    record { stretch_ok = row-stretch a.bits.now a.presentpins.now a.firsts.now a.presentsizes.now a.net_weights.now a.u a.m c.requires.row_ok c.loop-e.acc c.in-Some.e _ _ e.below (rw g.here at c.loop-e.invariant.1) c.from.ensures c.from-in-loop-e.ensures; t_bound = c.term.ensures.1 }

pub loop-e-preserved : goal.loop-e-preserved
loop-e-preserved c =
    let a = c.args in
    let I = c.loop-e.invariant in
    let g = c.in-Some.ensures.steps in
    let e = gave I.0 g in
    (along-next I.0 g, row_more a.bits.now a.presentpins.now a.firsts.now a.presentsizes.now a.net_weights.now a.u a.m c.requires.row_ok c.loop-e.acc _ c.in-Some.e a.m _ _ _ _ (rw g.here at I.1) e.here c.from.ensures c.from-in-loop-e.ensures c.term.ensures.0 c.add_net.ensures e.next)
