use Rattle.std.proofs.Common.{◌≤◌, ◌-◌, arith}
use Rattle.connectivity.specs.Laid.{pin-range}
use Rattle.connectivity.specs.Touch.{passed_none, passed-more, found_here, found_none}
use Rattle.connectivity.proofs.find_other.Goals as goal

pub loop-i-init : goal.loop-i-init
loop-i-init c = let a = c.args in (omega arith, passed_none a.pins.now a.blocks.now a.first a.p a.x a.s)

pub overflow_add-first : goal.overflow_add-first
overflow_add-first c =
    omega (arith, c.requires.net.pins-fit)

pub bounds-pins-first : goal.bounds-pins-first
bounds-pins-first c =
    omega (arith, c.requires.net.pins-fit)

pub overflow_sub-q : goal.overflow_sub-q
overflow_sub-q c =
    omega (arith, pin-range c.requires.net c.loop-i-test.true c.from-q.ensures)

pub other_in-requires : goal.other_in-requires
other_in-requires c =
    omega (arith, c.requires.n_in_bounds, pin-range c.requires.net c.loop-i-test.true c.from-q.ensures)

pub returns-then-other_in : goal.returns-then-other_in
returns-then-other_in c =
    let a = c.args in
    (c.loop-i-test.true, found_here a.pins.now a.blocks.now a.first a.p a.x a.s c.loop-i-test.true c.loop-i.invariant.1 c.from-q.ensures (rw (← c.if-other_in.true) c.other_in.ensures))

pub loop-i-preserved : goal.loop-i-preserved
loop-i-preserved c =
    let a = c.args in
    (omega arith, passed-more a.pins.now a.blocks.now a.first a.p a.x a.s c.loop-i.invariant.1 c.from-q.ensures (rw (← c.if-other_in.false) c.other_in.ensures))

pub returns : goal.returns
returns c =
    let a = c.args in
    found_none a.pins.now a.blocks.now a.first a.p a.x a.s (omega arith) c.loop-i.invariant.1
