use Rattle.std.proofs.Common.{arith}
use Rattle.incidence.specs.On.{along-next, gave}
use Rattle.levels.specs.Contract.{contracting-none, contracting-contracts, contracting-more, contracting-done}
use Rattle.levels.proofs.contract_nets.Goals as goal

pub nets_of-e-items-requires : goal.nets_of-e-items-requires
nets_of-e-items-requires c =
    omega (arith, c.requires.room.bits_fit, c.requires.room.few-nets, c.requires.v-in)

pub loop-e-init : goal.loop-e-init
loop-e-init c =
    let s = c.nets_of-e-items.ensures in
    rw c.into_iter-e-iterator.ensures.into_iter_gives (s.along, contracting-none c.requires s.first)

pub bounds-firsts-e : goal.bounds-firsts-e
bounds-firsts-e c =
    let e = gave c.loop-e.invariant.0 c.in-Some.ensures.steps in omega (arith, e.below, c.requires.room.firsts-fit)

pub bounds-presentsizes-e : goal.bounds-presentsizes-e
bounds-presentsizes-e c =
    let e = gave c.loop-e.invariant.0 c.in-Some.ensures.steps in omega (arith, e.below, c.loop-e.invariant.1.world.lists.sizes-fit)

pub contract_net-r-requires : goal.contract_net-r-requires
contract_net-r-requires c =
    let I = c.loop-e.invariant in
    let g = c.in-Some.ensures.steps in
    let e = gave I.0 g in
    contracting-contracts c.requires e.below e.here (rw g.here at I.1) c.from-first.ensures c.from-p.ensures

pub narrow-requires : goal.narrow-requires
narrow-requires c =
    omega (arith, c.contract_net-r.ensures.shorter, c.from-p.ensures, c.slice_known-in-loop-e-1.given c.in-Some.e)

pub bounds-presentsizes-e-in-loop-e : goal.bounds-presentsizes-e-in-loop-e
bounds-presentsizes-e-in-loop-e c =
    let e = gave c.loop-e.invariant.0 c.in-Some.ensures.steps in omega (arith, e.below, c.loop-e.invariant.1.world.lists.sizes-fit)

pub loop-e-preserved : goal.loop-e-preserved
loop-e-preserved c =
    let I = c.loop-e.invariant in
    let g = c.in-Some.ensures.steps in
    let e = gave I.0 g in
    (along-next I.0 g, rw c.narrow.ensures (contracting-more c.requires e.below e.here (rw g.here at I.1) c.from-first.ensures c.from-p.ensures c.contract_net-r.ensures e.next))

pub copy_or-requires : goal.copy_or-requires
copy_or-requires c =
    omega (arith, c.requires.room.bits_fit, c.requires.u-in, c.requires.v-in)

pub shape_of-counts : goal.shape_of-counts
shape_of-counts c =
    c.loop-e.invariant.1.kept.of-tally.counts-len

pub shape_of-visited : goal.shape_of-visited
shape_of-visited c =
    c.loop-e.invariant.1.kept.of-tally.masks-len

pub shape_of-gains : goal.shape_of-gains
shape_of-gains c =
    c.loop-e.invariant.1.kept.of-gains.gains-len

pub shape_of-presentpins : goal.shape_of-presentpins
shape_of-presentpins c =
    c.loop-e.invariant.1.pins-len

pub shape_of-presentsizes : goal.shape_of-presentsizes
shape_of-presentsizes c =
    c.loop-e.invariant.1.sizes-len

pub shape_of-bits : goal.shape_of-bits
shape_of-bits c = c.copy_or.ensures.len

pub returns : goal.returns
returns c =
    contracting-done c.requires (omega (arith, c.loop-e.invariant.0.end, c.in-None.ensures.steps.0)) c.loop-e.invariant.1 c.copy_or.ensures
