use Rattle.std.proofs.Common.{ℕ, arith, ap, ◌∙◌, ◌-◌}
use Rattle.incidence.specs.On.{along-next, gave}
use Rattle.levels.specs.Halves.{gathered_none, gathered-more, gathered-fits, halves-done}
use Rattle.levels.proofs.halves.halves.Goals as goal

pub bounds-blocks-u : goal.bounds-blocks-u
bounds-blocks-u c =
    let o = c.requires.of in omega (arith, o.u-in, o.follows.world.lists.blocks-fit)

pub overflow_sub-from : goal.overflow_sub-from
overflow_sub-from c =
    let o = c.requires.of in omega (arith, c.from-from.ensures, o.follows.says.sits _ o.u-in, o.own_in)

pub overflow_sub-to : goal.overflow_sub-to
overflow_sub-to c =
    omega (arith, c.requires.of.t-in)

pub nets_of-e-items-requires : goal.nets_of-e-items-requires
nets_of-e-items-requires c =
    let o = c.requires.of in omega (arith, o.follows.room.bits_fit, o.u-in, o.follows.room.few-nets)

pub loop-e-init : goal.loop-e-init
loop-e-init c =
    let s = c.nets_of-e-items.ensures in
    rw c.into_iter-e-iterator.ensures.into_iter_gives (s.along, gathered_none _ _ _ _ _ _ s.first, gathered_none _ _ _ _ _ _ s.first)

pub bounds-netweights-e : goal.bounds-netweights-e
bounds-netweights-e c =
    let o = c.requires.of in
    let e = gave c.loop-e.invariant.0 c.in-Some.ensures.steps in omega (arith, e.below, o.follows.world.frame.weights-fit)

pub overflow_mul-e : goal.overflow_mul-e
overflow_mul-e c =
    let o = c.requires.of in
    let e = gave c.loop-e.invariant.0 c.in-Some.ensures.steps in omega (arith, e.below, o.follows.world.frame.few-nets)

pub overflow_add-e : goal.overflow_add-e
overflow_add-e c =
    let o = c.requires.of in
    let e = gave c.loop-e.invariant.0 c.in-Some.ensures.steps in omega (arith, e.below, c.from-from.ensures, o.follows.says.sits _ o.u-in, o.own_in, o.follows.world.frame.few-nets, o.follows.world.frame.few)

pub offset_bounds-counts-e : goal.offset_bounds-counts-e
offset_bounds-counts-e c =
    let o = c.requires.of in
    let e = gave c.loop-e.invariant.0 c.in-Some.ensures.steps in omega (arith, e.below, c.from-from.ensures, o.follows.says.sits _ o.u-in, o.own_in, o.follows.world.frame.few-nets, o.follows.world.frame.few)

pub bounds-counts-e : goal.bounds-counts-e
bounds-counts-e c =
    let o = c.requires.of in
    let e = gave c.loop-e.invariant.0 c.in-Some.ensures.steps in omega (arith, e.below, c.from-from.ensures, o.follows.says.sits _ o.u-in, o.own_in, o.follows.world.frame.counts-fit, o.follows.world.frame.few)

pub overflow_mul-e-in-loop-e : goal.overflow_mul-e-in-loop-e
overflow_mul-e-in-loop-e c =
    let o = c.requires.of in
    let e = gave c.loop-e.invariant.0 c.in-Some.ensures.steps in omega (arith, e.below, o.follows.world.frame.few-nets)

pub overflow_add-e-in-loop-e : goal.overflow_add-e-in-loop-e
overflow_add-e-in-loop-e c =
    let o = c.requires.of in
    let e = gave c.loop-e.invariant.0 c.in-Some.ensures.steps in omega (arith, e.below, o.t-in, o.follows.world.frame.few-nets, o.follows.world.frame.few)

pub net_halves-net-requires : goal.net_halves-net-requires
net_halves-net-requires c =
    let o = c.requires.of in
    let e = gave c.loop-e.invariant.0 c.in-Some.ensures.steps in omega (arith, e.below, o.t-in, o.follows.world.frame.counts-fit, o.follows.world.frame.few)

pub overflow_add-freed : goal.overflow_add-freed
overflow_add-freed c =
    let f = c.requires.of.follows.world.frame in
    let g = c.in-Some.ensures.steps in
    let e = gave c.loop-e.invariant.0 g in
    omega (arith, gathered-fits _ _ _ _ _ _ c.in-Some.e e.below f.few-nets f.weight (rw g.here at c.loop-e.invariant.1) (c.net_halves-net.ensures.0 ∙ c.when_is-own.ensures))

pub overflow_add-drawn : goal.overflow_add-drawn
overflow_add-drawn c =
    let f = c.requires.of.follows.world.frame in
    let g = c.in-Some.ensures.steps in
    let e = gave c.loop-e.invariant.0 g in
    omega (arith, gathered-fits _ _ _ _ _ _ c.in-Some.e e.below f.few-nets f.weight (rw g.here at c.loop-e.invariant.2) c.net_halves-net.ensures.1)

pub loop-e-preserved : goal.loop-e-preserved
loop-e-preserved c =
    let I = c.loop-e.invariant in
    let g = c.in-Some.ensures.steps in
    let e = gave I.0 g in
    (along-next I.0 g, gathered-more _ _ _ _ _ _ c.in-Some.e e.here (rw g.here at I.1) (c.net_halves-net.ensures.0 ∙ c.when_is-own.ensures) e.next, gathered-more _ _ _ _ _ _ c.in-Some.e e.here (rw g.here at I.2) c.net_halves-net.ensures.1 e.next)

pub returns : goal.returns
returns c =
    let I = c.loop-e.invariant in halves-done (omega (arith, I.0.end, c.in-None.ensures.steps.0)) (ap (λ (z : ℕ). z - 1) c.from-from.ensures) I.1 I.2
