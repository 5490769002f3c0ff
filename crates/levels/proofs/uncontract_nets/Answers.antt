use Rattle.std.proofs.Common.{◌≤◌, ◌<◌, ◌-◌, arith, ◌≡◌}
use Rattle.levels.specs.Uncontract.{uncontracting-none, uncontracting-splits, uncontracting-more, uncontracting-done}
use Rattle.levels.proofs.uncontract_nets.Goals as goal

pub next_net-e-requires : goal.next_net-e-requires
next_net-e-requires c =
    omega (arith, c.requires.lists.room.bits_fit, c.requires.lists.room.few-nets, c.requires.lists.v-in)

pub loop-e-init : goal.loop-e-init
loop-e-init c =
    (c.next_net-e.ensures.high, c.next_net-e.ensures.found, uncontracting-none c.requires c.next_net-e.ensures)

pub bounds-firsts-e : goal.bounds-firsts-e
bounds-firsts-e c =
    omega (arith, c.requires.lists.room.firsts-fit)

pub bounds-presentsizes-e : goal.bounds-presentsizes-e
bounds-presentsizes-e c =
    omega (arith, c.loop-e.invariant.2.world.lists.sizes-fit)

pub bounds-loadedsizes-e : goal.bounds-loadedsizes-e
bounds-loadedsizes-e c =
    omega (arith, c.requires.lists.room.loaded-fit)

pub split_net-r-requires : goal.split_net-r-requires
split_net-r-requires c =
    uncontracting-splits c.requires c.loop-e-test.true (c.loop-e.invariant.1 c.loop-e-test.true) c.loop-e.invariant.2 c.from-first.ensures c.from-p.ensures c.from-full.ensures

pub narrow-requires : goal.narrow-requires
narrow-requires c =
    omega (arith, c.split_net-r.ensures.split.small, c.from-full.ensures, c.shared_slice_known-in-loop-e-2-1.given c.loop-e.e)

pub bounds-presentsizes-e-in-loop-e : goal.bounds-presentsizes-e-in-loop-e
bounds-presentsizes-e-in-loop-e c = omega (arith, c.loop-e.invariant.2.world.lists.sizes-fit)

pub next_net-e-requires-in-loop-e : goal.next_net-e-requires-in-loop-e
next_net-e-requires-in-loop-e c = omega (arith, c.requires.lists.room.bits_fit, c.requires.lists.room.few-nets, c.requires.lists.v-in, c.loop-e.invariant.2.lists.bits-len, c.split_net-r.ensures.split.bits-len)

pub loop-e-smaller : goal.loop-e-smaller
loop-e-smaller c = omega (arith, c.next_net-e-in-loop-e.ensures.low, c.next_net-e-in-loop-e.ensures.high)

pub loop-e-preserved : goal.loop-e-preserved
loop-e-preserved c =
    (c.next_net-e-in-loop-e.ensures.high, c.next_net-e-in-loop-e.ensures.found, rw c.narrow.ensures (uncontracting-more c.requires c.loop-e-test.true (c.loop-e.invariant.1 c.loop-e-test.true) c.loop-e.invariant.2 c.from-first.ensures c.from-p.ensures c.from-full.ensures c.split_net-r.ensures c.next_net-e-in-loop-e.ensures))

pub shape_of-counts : goal.shape_of-counts
shape_of-counts c = c.loop-e.invariant.2.kept.of-tally.counts-len

pub shape_of-visited : goal.shape_of-visited
shape_of-visited c = c.loop-e.invariant.2.kept.of-tally.masks-len

pub shape_of-gains : goal.shape_of-gains
shape_of-gains c = c.loop-e.invariant.2.kept.of-gains.gains-len

pub shape_of-presentpins : goal.shape_of-presentpins
shape_of-presentpins c = c.loop-e.invariant.2.lists.kept.pins-len

pub shape_of-presentsizes : goal.shape_of-presentsizes
shape_of-presentsizes c = c.loop-e.invariant.2.lists.kept.sizes-len

pub shape_of-bits : goal.shape_of-bits
shape_of-bits c = c.loop-e.invariant.2.lists.bits-len

pub returns : goal.returns
returns c =
    uncontracting-done c.requires (omega arith) c.loop-e.invariant.2
