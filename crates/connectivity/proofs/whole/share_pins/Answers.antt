use Rattle.std.proofs.Common.{◌≤◌, ◌-◌, arith}
use Rattle.connectivity.specs.Laid.{pin-range, pin-block}
use Rattle.connectivity.specs.Whole.{share-none, share-all, share-ready, share-more}
use Rattle.connectivity.proofs.whole.share_pins.Goals as goal

pub loop-i-init : goal.loop-i-init
loop-i-init c =
    (omega arith, share-none c.requires)

pub overflow_add-first : goal.overflow_add-first
overflow_add-first c =
    omega (arith, c.requires.net.pins-fit)

pub bounds-pins-first : goal.bounds-pins-first
bounds-pins-first c =
    omega (arith, c.requires.net.pins-fit)

pub overflow_sub-x : goal.overflow_sub-x
overflow_sub-x c =
    omega (arith, pin-range c.requires.net c.loop-i-test.true c.from-x.ensures)

pub offset_bounds-blocks-x : goal.offset_bounds-blocks-x
offset_bounds-blocks-x c =
    omega (arith, pin-range c.requires.net c.loop-i-test.true c.from-x.ensures, c.requires.blocks-fit)

pub bounds-blocks-x : goal.bounds-blocks-x
bounds-blocks-x c =
    omega (arith, pin-range c.requires.net c.loop-i-test.true c.from-x.ensures, c.requires.blocks-fit)

pub overflow_sub-b : goal.overflow_sub-b
overflow_sub-b c =
    omega (arith, pin-block c.requires.net c.loop-i-test.true c.from-x.ensures c.from-b.ensures)

pub share_row-requires : goal.share_row-requires
share_row-requires c =
    record { ready = share-ready c.requires c.loop-i-test.true c.loop-i.invariant.1 c.from-x.ensures c.from-b.ensures; q_bound = omega (arith, pin-range c.requires.net c.loop-i-test.true c.from-x.ensures, c.requires.gains-fit, c.requires.counts-fit) }

pub loop-i-preserved : goal.loop-i-preserved
loop-i-preserved c =
    (omega arith, share-more c.requires c.loop-i-test.true c.loop-i.invariant.1 c.from-x.ensures c.from-b.ensures c.share_row.ensures)

pub shape_of-gains : goal.shape_of-gains
shape_of-gains c = c.loop-i.invariant.1.len

pub returns : goal.returns
returns c =
    share-all c.requires (omega arith) c.loop-i.invariant.1
