use Rattle.std.proofs.Common.{◌≤◌, ◌-◌, arith}
use Rattle.connectivity.specs.Laid.{pin-range, pin-block}
use Rattle.connectivity.specs.Whole.{held_none, held-shows, held_more, count_room, count-all}
use Rattle.connectivity.proofs.whole.count_pins.Goals as goal

pub bounds-visited-e : goal.bounds-visited-e
bounds-visited-e c =
    omega (arith, c.requires.masks-fit, c.requires.e-in)

pub loop-i-init : goal.loop-i-init
loop-i-init c =
    (omega arith, held_none c.requires)

pub overflow_add-first : goal.overflow_add-first
overflow_add-first c =
    omega (arith, c.requires.net.pins-fit)

pub bounds-pins-first : goal.bounds-pins-first
bounds-pins-first c =
    omega (arith, c.requires.net.pins-fit)

pub overflow_sub-x : goal.overflow_sub-x
overflow_sub-x c =
    omega (arith, pin-range c.requires.net c.loop-i-test.true c.from-x.ensures)

pub offset_bounds-blocks-x : goal.offset_bounds-blocks-x
offset_bounds-blocks-x c =
    omega (arith, pin-range c.requires.net c.loop-i-test.true c.from-x.ensures, c.requires.few-vertices)

pub bounds-blocks-x : goal.bounds-blocks-x
bounds-blocks-x c =
    omega (arith, pin-range c.requires.net c.loop-i-test.true c.from-x.ensures, c.requires.blocks-fit)

pub overflow_sub-s : goal.overflow_sub-s
overflow_sub-s c =
    omega (arith, pin-block c.requires.net c.loop-i-test.true c.from-x.ensures c.from-s.ensures, c.requires.few, c.requires.counts-fit, c.requires.e-in, c.loop-i.invariant.1.kept.counts-len)

pub overflow_mul-at : goal.overflow_mul-at
overflow_mul-at c =
    omega (arith, pin-block c.requires.net c.loop-i-test.true c.from-x.ensures c.from-s.ensures, c.requires.few, c.requires.counts-fit, c.requires.e-in, c.loop-i.invariant.1.kept.counts-len)

pub overflow_add-at : goal.overflow_add-at
overflow_add-at c =
    omega (arith, pin-block c.requires.net c.loop-i-test.true c.from-x.ensures c.from-s.ensures, c.requires.few, c.requires.counts-fit, c.requires.e-in, c.loop-i.invariant.1.kept.counts-len)

pub offset_bounds-counts-at : goal.offset_bounds-counts-at
offset_bounds-counts-at c =
    omega (arith, pin-block c.requires.net c.loop-i-test.true c.from-x.ensures c.from-s.ensures, c.requires.few, c.requires.counts-fit, c.requires.e-in, c.loop-i.invariant.1.kept.counts-len)

pub bounds-counts-at : goal.bounds-counts-at
bounds-counts-at c =
    omega (arith, pin-block c.requires.net c.loop-i-test.true c.from-x.ensures c.from-s.ensures, c.requires.few, c.requires.counts-fit, c.requires.e-in, c.loop-i.invariant.1.kept.counts-len)

pub offset_bounds-counts-at-in-loop-i : goal.offset_bounds-counts-at-in-loop-i
offset_bounds-counts-at-in-loop-i c =
    omega (arith, pin-block c.requires.net c.loop-i-test.true c.from-x.ensures c.from-s.ensures, c.requires.few, c.requires.counts-fit, c.requires.e-in, c.loop-i.invariant.1.kept.counts-len)

pub bounds-counts-at-in-loop-i : goal.bounds-counts-at-in-loop-i
bounds-counts-at-in-loop-i c =
    omega (arith, pin-block c.requires.net c.loop-i-test.true c.from-x.ensures c.from-s.ensures, c.requires.few, c.requires.counts-fit, c.requires.e-in, c.loop-i.invariant.1.kept.counts-len)

pub overflow_add-counts : goal.overflow_add-counts
overflow_add-counts c =
    omega (arith, count_room c.requires c.loop-i-test.true c.loop-i.invariant.1 c.from-x.ensures c.from-s.ensures (pin-block c.requires.net c.loop-i-test.true c.from-x.ensures c.from-s.ensures).0)

pub set_first-mask-requires : goal.set_first-mask-requires
set_first-mask-requires c =
    record { s_bound = omega (arith, pin-block c.requires.net c.loop-i-test.true c.from-x.ensures c.from-s.ensures, c.requires.few); s_value = held-shows c.requires c.loop-i.mask c.loop-i-test.true c.loop-i.invariant.1 c.from-x.ensures c.from-s.ensures }

pub loop-i-preserved : goal.loop-i-preserved
loop-i-preserved c =
    (omega arith, held_more c.requires c.loop-i.mask c.loop-i-test.true c.loop-i.invariant.1 c.from-x.ensures c.from-s.ensures c.set_first-mask.ensures)

pub bounds-visited-e-2 : goal.bounds-visited-e-2
bounds-visited-e-2 c =
    omega (arith, c.requires.masks-fit, c.requires.e-in)

pub shape_of-counts : goal.shape_of-counts
shape_of-counts c = c.loop-i.invariant.1.kept.counts-len

pub shape_of-visited : goal.shape_of-visited
shape_of-visited c = c.loop-i.invariant.1.kept.masks-len

pub returns : goal.returns
returns c =
    count-all c.requires (omega arith) c.loop-i.invariant.1
