use Rattle.std.proofs.Common.{◌-◌, arith, true}
use Rattle.sale_list.specs.Lists.{entries_none, entries-more, entries-all, entries-no}
use Rattle.sale_list.proofs.are_entries.Goals as goal

pub loop-i-init : goal.loop-i-init
loop-i-init c = (entries_none _ _, omega arith)

pub overflow_mul-at : goal.overflow_mul-at
overflow_mul-at c = omega (arith, c.requires, c.loop-i-test.true)

pub offset_bounds-list-at : goal.offset_bounds-list-at
offset_bounds-list-at c = omega (arith, c.requires, c.loop-i-test.true)

pub bounds-list-at : goal.bounds-list-at
bounds-list-at c = omega (arith, c.requires, c.loop-i-test.true)

pub overflow_add-at : goal.overflow_add-at
overflow_add-at c = omega (arith, c.requires, c.loop-i-test.true)

pub offset_bounds-list-at-in-loop-i : goal.offset_bounds-list-at-in-loop-i
offset_bounds-list-at-in-loop-i c = omega (arith, c.requires, c.loop-i-test.true)

pub bounds-list-at-in-loop-i : goal.bounds-list-at-in-loop-i
bounds-list-at-in-loop-i c = omega (arith, c.requires, c.loop-i-test.true)

pub overflow_add-at-in-loop-i : goal.overflow_add-at-in-loop-i
overflow_add-at-in-loop-i c = omega (arith, c.requires, c.loop-i-test.true)

pub offset_bounds-list-at-in-loop-i-2 : goal.offset_bounds-list-at-in-loop-i-2
offset_bounds-list-at-in-loop-i-2 c = omega (arith, c.requires, c.loop-i-test.true)

pub bounds-list-at-in-loop-i-2 : goal.bounds-list-at-in-loop-i-2
bounds-list-at-in-loop-i-2 c = omega (arith, c.requires, c.loop-i-test.true)

pub returns-then-not-is_entry : goal.returns-then-not-is_entry
returns-then-not-is_entry c = entries-no _ _ _ _ c.loop-i-test.true c.is_entry.ensures c.if-not-is_entry.true

pub loop-i-smaller : goal.loop-i-smaller
loop-i-smaller c = omega (arith, c.loop-i-test.true)

pub loop-i-preserved : goal.loop-i-preserved
loop-i-preserved c = (entries-more _ _ _ c.loop-i.invariant.0 c.is_entry.ensures c.if-not-is_entry.false, omega (arith, c.loop-i-test.true))

pub returns : goal.returns
returns c = entries-all _ _ _ _ (omega (arith, c.loop-i-test.false, c.loop-i.invariant)) c.loop-i.invariant.0
