use Rattle.std.proofs.Common.{◌-◌, arith, refl}
use Rattle.call_list.specs.Course.{done_none, can-step, stretch, done_more, done_all}
use Rattle.call_list.proofs.run_calls.Goals as goal

pub loop-i-init : goal.loop-i-init
loop-i-init c = (λ limits h old b. rw c.requires.at_value (done_none _ b), refl, refl, refl, refl, refl, refl, refl, refl, refl, refl, refl, refl, refl, refl, refl, omega arith)

pub overflow_mul-at : goal.overflow_mul-at
overflow_mul-at c =
    let b = c.requires.can_run.begins.listed in
    omega (arith, b.count-le, b.calls-fit, c.loop-i-test.true)

pub offset_bounds-calls-at : goal.offset_bounds-calls-at
offset_bounds-calls-at c =
    let b = c.requires.can_run.begins.listed in
    omega (arith, b.count-le, b.calls-fit, c.loop-i-test.true)

pub bounds-calls-at : goal.bounds-calls-at
bounds-calls-at c =
    let b = c.requires.can_run.begins.listed in
    omega (arith, b.count-le, b.calls-fit, c.loop-i-test.true)

pub overflow_add-at : goal.overflow_add-at
overflow_add-at c =
    let b = c.requires.can_run.begins.listed in
    omega (arith, b.count-le, b.calls-fit, c.loop-i-test.true)

pub offset_bounds-calls-at-in-loop-i : goal.offset_bounds-calls-at-in-loop-i
offset_bounds-calls-at-in-loop-i c =
    let b = c.requires.can_run.begins.listed in
    omega (arith, b.count-le, b.calls-fit, c.loop-i-test.true)

pub bounds-calls-at-in-loop-i : goal.bounds-calls-at-in-loop-i
bounds-calls-at-in-loop-i c =
    let b = c.requires.can_run.begins.listed in
    omega (arith, b.count-le, b.calls-fit, c.loop-i-test.true)

pub overflow_add-at-in-loop-i : goal.overflow_add-at-in-loop-i
overflow_add-at-in-loop-i c =
    let b = c.requires.can_run.begins.listed in
    omega (arith, b.count-le, b.calls-fit, c.loop-i-test.true)

pub offset_bounds-calls-at-in-loop-i-2 : goal.offset_bounds-calls-at-in-loop-i-2
offset_bounds-calls-at-in-loop-i-2 c =
    let b = c.requires.can_run.begins.listed in
    omega (arith, b.count-le, b.calls-fit, c.loop-i-test.true)

pub bounds-calls-at-in-loop-i-2 : goal.bounds-calls-at-in-loop-i-2
bounds-calls-at-in-loop-i-2 c =
    let b = c.requires.can_run.begins.listed in
    omega (arith, b.count-le, b.calls-fit, c.loop-i-test.true)

pub step-course-requires : goal.step-course-requires
step-course-requires c =
    let run = c.requires.can_run in
    let done = c.loop-i.invariant.0 run.limits run.h run.old run.begins in record { can_step = can-step run.begins _ c.loop-i-test.true done _ _ refl refl; le_y = stretch run.begins _ c.loop-i-test.true done _ _ refl refl }

pub loop-i-preserved : goal.loop-i-preserved
loop-i-preserved c =
    (λ limits h old b. done_more b _ c.loop-i-test.true (c.loop-i.invariant.0 limits h old b) _ _ refl refl c.step-course.ensures, omega (arith, c.loop-i.invariant, c.step-course.auto), omega (arith, c.loop-i.invariant, c.step-course.auto), omega (arith, c.loop-i.invariant, c.step-course.auto), omega (arith, c.loop-i.invariant, c.step-course.auto), omega (arith, c.loop-i.invariant, c.step-course.auto), omega (arith, c.loop-i.invariant, c.step-course.auto), omega (arith, c.loop-i.invariant, c.step-course.auto), omega (arith, c.loop-i.invariant, c.step-course.auto), omega (arith, c.loop-i.invariant, c.step-course.auto), omega (arith, c.loop-i.invariant, c.step-course.auto), omega (arith, c.loop-i.invariant, c.step-course.auto), omega (arith, c.loop-i.invariant, c.step-course.auto), omega (arith, c.loop-i.invariant, c.step-course.auto), omega (arith, c.loop-i.invariant, c.step-course.auto), omega (arith, c.loop-i.invariant, c.step-course.auto), omega (arith, c.loop-i-test.true))

pub returns : goal.returns
returns c = λ limits h old b. done_all (omega (arith, c.loop-i-test.false, c.loop-i.invariant.16)) (c.loop-i.invariant.0 limits h old b)
