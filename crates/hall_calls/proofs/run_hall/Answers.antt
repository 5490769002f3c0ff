use Rattle.std.proofs.Common.{◌-◌, arith, refl, ◌∙◌}
use Rattle.hall_calls.specs.Course.{ran-none, can-lead, stretch-in, ran-next, ran-all}
use Rattle.hall_calls.proofs.run_hall.Goals as goal

pub loop-i-init : goal.loop-i-init
loop-i-init c = (ran-none _, refl, refl, refl, refl, refl, refl, refl, refl, refl, refl, refl, refl, refl, refl, refl, refl, c.requires.cs-len, omega arith)

pub overflow_mul-at : goal.overflow_mul-at
overflow_mul-at c = omega (arith, c.requires.listed.few, c.requires.listed.long, c.loop-i-test.true)

pub offset_bounds-calls-at : goal.offset_bounds-calls-at
offset_bounds-calls-at c = omega (arith, c.requires.listed.few, c.requires.listed.long, c.loop-i-test.true)

pub bounds-calls-at : goal.bounds-calls-at
bounds-calls-at c = omega (arith, c.requires.listed.few, c.requires.listed.long, c.loop-i-test.true)

pub overflow_add-at : goal.overflow_add-at
overflow_add-at c = omega (arith, c.requires.listed.few, c.requires.listed.long, c.loop-i-test.true)

pub offset_bounds-calls-at-in-loop-i : goal.offset_bounds-calls-at-in-loop-i
offset_bounds-calls-at-in-loop-i c = omega (arith, c.requires.listed.few, c.requires.listed.long, c.loop-i-test.true)

pub bounds-calls-at-in-loop-i : goal.bounds-calls-at-in-loop-i
bounds-calls-at-in-loop-i c = omega (arith, c.requires.listed.few, c.requires.listed.long, c.loop-i-test.true)

pub overflow_add-at-in-loop-i : goal.overflow_add-at-in-loop-i
overflow_add-at-in-loop-i c = omega (arith, c.requires.listed.few, c.requires.listed.long, c.loop-i-test.true)

pub offset_bounds-calls-at-in-loop-i-2 : goal.offset_bounds-calls-at-in-loop-i-2
offset_bounds-calls-at-in-loop-i-2 c = omega (arith, c.requires.listed.few, c.requires.listed.long, c.loop-i-test.true)

pub bounds-calls-at-in-loop-i-2 : goal.bounds-calls-at-in-loop-i-2
bounds-calls-at-in-loop-i-2 c = omega (arith, c.requires.listed.few, c.requires.listed.long, c.loop-i-test.true)

pub overflow_add-at-in-loop-i-2 : goal.overflow_add-at-in-loop-i-2
overflow_add-at-in-loop-i-2 c = omega (arith, c.requires.listed.few, c.requires.listed.long, c.loop-i-test.true)

pub offset_bounds-calls-at-in-loop-i-3 : goal.offset_bounds-calls-at-in-loop-i-3
offset_bounds-calls-at-in-loop-i-3 c = omega (arith, c.requires.listed.few, c.requires.listed.long, c.loop-i-test.true)

pub bounds-calls-at-in-loop-i-3 : goal.bounds-calls-at-in-loop-i-3
bounds-calls-at-in-loop-i-3 c = omega (arith, c.requires.listed.few, c.requires.listed.long, c.loop-i-test.true)

pub led-t-requires : goal.led-t-requires
led-t-requires c = record { led_ready = can-lead c.requires c.loop-i.invariant.0 c.loop-i-test.true c.loop-i.invariant.17 _ _ refl refl c.loop-i.invariant.1; le_y = stretch-in c.requires c.loop-i.invariant.0 c.loop-i-test.true c.loop-i.invariant.17 _ _ refl refl }

pub loop-i-preserved : goal.loop-i-preserved
loop-i-preserved c = (ran-next c.requires c.loop-i.invariant.0 c.loop-i-test.true c.loop-i.invariant.17 _ _ refl refl refl c.led-t.ensures, c.led-t.auto.output ∙ c.loop-i.invariant.1, c.led-t.auto.counts ∙ c.loop-i.invariant.2, c.led-t.auto.visited ∙ c.loop-i.invariant.3, c.led-t.auto.gains ∙ c.loop-i.invariant.4, c.led-t.auto.index ∙ c.loop-i.invariant.5, c.led-t.auto.presentpins ∙ c.loop-i.invariant.6, c.led-t.auto.presentsizes ∙ c.loop-i.invariant.7, c.led-t.auto.bits ∙ c.loop-i.invariant.8, c.led-t.auto.blocks ∙ c.loop-i.invariant.9, c.led-t.auto.weights ∙ c.loop-i.invariant.10, c.led-t.auto.aboves ∙ c.loop-i.invariant.11, c.led-t.auto.fixed ∙ c.loop-i.invariant.12, c.led-t.auto.loads ∙ c.loop-i.invariant.13, c.led-t.auto.loadedpins ∙ c.loop-i.invariant.14, c.led-t.auto.firsts ∙ c.loop-i.invariant.15, c.led-t.auto.loadedsizes ∙ c.loop-i.invariant.16, c.led-t.ensures.as_many ∙ c.loop-i.invariant.17, omega (arith, c.loop-i-test.true))

pub returns : goal.returns
returns c = ran-all (omega (arith, c.loop-i-test.false, c.loop-i.invariant.18)) c.loop-i.invariant.0
