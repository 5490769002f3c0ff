use Rattle.incidence.specs.On.{along-next, gave}
use Rattle.best_contraction.specs.BoundLaw.{nets-none, nets-take, nets-more}
use Rattle.best_contraction.proofs.bounds.lift.Goals as goal

pub loop-e-init : goal.loop-e-init
loop-e-init c =
    let a = c.args in
    let s = c.nets_of-e-items.ensures in
    rw c.into_iter-e-iterator.ensures.into_iter_gives (s.along, nets-none a.bits.now a.presentpins.now a.firsts.now a.presentsizes.now a.net_weights.now a.blocks.now a.m a.n a.u a.v c.requires.tables_ok a.bounds.now _ c.requires.bounds_len.0 s.first)

pub lift_net-requires : goal.lift_net-requires
lift_net-requires c =
    let a = c.args in
    let e = gave c.loop-e.invariant.0 c.in-Some.ensures.steps in
    record { take_ok = nets-take a.bits.now a.presentpins.now a.firsts.now a.presentsizes.now a.net_weights.now a.blocks.now a.m a.n a.u a.v c.requires.tables_ok _ c.in-Some.e _ _ e.below c.loop-e.invariant.1.len c.from.ensures c.from-in-loop-e.ensures; near_bound = c.rise-r.ensures.near_bound }

pub loop-e-preserved : goal.loop-e-preserved
loop-e-preserved c =
    let a = c.args in
    let l = c.loop-e in
    let g = c.in-Some.ensures.steps in
    let e = gave l.invariant.0 g in
    (along-next l.invariant.0 g, nets-more a.bits.now a.presentpins.now a.firsts.now a.presentsizes.now a.net_weights.now a.blocks.now a.m a.n a.u a.v c.requires.tables_ok a.bounds.now l.bounds _ c.in-Some.e _ _ _ _ _ c.is_pin.result (rw g.here at l.invariant.1) e.here c.from.ensures c.from-in-loop-e.ensures c.is_pin.ensures c.rise-r.ensures.near_value.0 c.rise-r.ensures.near_value.1 c.lift_net.ensures e.next)
