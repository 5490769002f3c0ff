use Rattle.std.proofs.Common.{arith, ◌-◌}
use Rattle.hall_closing.proofs.Turns.{close-none, can-next, close_more, close-all}
use Rattle.hall_closing.proofs.close_sets.Goals as goal

pub loop-c-init : goal.loop-c-init
loop-c-init c = close-none c.requires

pub offset_bounds-courses-c : goal.offset_bounds-courses-c
offset_bounds-courses-c c = omega (arith, c.loop-c.invariant.can.few, c.loop-c-test.true)

pub bounds-courses-c : goal.bounds-courses-c
bounds-courses-c c = omega (arith, c.loop-c.invariant.can.few, c.loop-c-test.true)

pub offset_bounds-sizes-c : goal.offset_bounds-sizes-c
offset_bounds-sizes-c c = omega (arith, c.loop-c.invariant.can.few, c.loop-c-test.true)

pub bounds-sizes-c : goal.bounds-sizes-c
bounds-sizes-c c = omega (arith, c.loop-c.invariant.can.few, c.loop-c-test.true)

pub offset_bounds-drafts-c : goal.offset_bounds-drafts-c
offset_bounds-drafts-c c = omega (arith, c.loop-c.invariant.can.few, c.loop-c-test.true)

pub bounds-drafts-c : goal.bounds-drafts-c
bounds-drafts-c c = omega (arith, c.loop-c.invariant.can.few, c.loop-c-test.true)

pub close_set-p-requires : goal.close_set-p-requires
close_set-p-requires c = can-next c.loop-c.invariant c.loop-c-test.true

pub loop-c-preserved : goal.loop-c-preserved
loop-c-preserved c = close_more c.loop-c.invariant c.loop-c-test.true c.close_set-p.auto.output c.close_set-p.ensures

pub returns : goal.returns
returns c = close-all c.loop-c.invariant (omega (arith, c.loop-c-test.false))
