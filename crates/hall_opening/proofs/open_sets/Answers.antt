use Rattle.std.proofs.Common.{arith, ◌-◌, refl}
use Rattle.hall_opening.proofs.Turns.{open_none, can-next, open_more, open-all}
use Rattle.hall_opening.proofs.open_sets.Goals as goal

pub bounds-fixed-0 : goal.bounds-fixed-0
bounds-fixed-0 c = omega (arith, c.requires.whole.fixed-long)

pub begin-courses-requires : goal.begin-courses-requires
begin-courses-requires c = (omega arith, omega arith)

pub loop-c-init : goal.loop-c-init
loop-c-init c = open_none c.requires refl

pub offset_bounds-sizes-c : goal.offset_bounds-sizes-c
offset_bounds-sizes-c c = omega (arith, c.loop-c.invariant.begun.few, c.loop-c-test.true)

pub bounds-sizes-c : goal.bounds-sizes-c
bounds-sizes-c c = omega (arith, c.loop-c.invariant.begun.few, c.loop-c-test.true)

pub open_set-requires : goal.open_set-requires
open_set-requires c = can-next c.loop-c.invariant c.loop-c-test.true

pub offset_bounds-courses-c : goal.offset_bounds-courses-c
offset_bounds-courses-c c = omega (arith, c.loop-c.invariant.begun.few, c.loop-c-test.true)

pub bounds-courses-c : goal.bounds-courses-c
bounds-courses-c c = omega (arith, c.loop-c.invariant.begun.few, c.loop-c-test.true)

pub loop-c-preserved : goal.loop-c-preserved
loop-c-preserved c = open_more c.loop-c.invariant c.loop-c-test.true c.open_set.ensures

pub returns : goal.returns
returns c = open-all c.loop-c.invariant (omega (arith, c.loop-c-test.false))
