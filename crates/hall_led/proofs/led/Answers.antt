-- `hall_led::led` meets its contract.
use Rattle.std.proofs.Common.{arith, refl}
use Rattle.hall_led.specs.Led.{in-range, few-bales, few-lots, lead-fits, can-step, done}
use Rattle.hall_led.proofs.led.Goals as goal

pub overflow_sub-c : goal.overflow_sub-c
overflow_sub-c c = omega (arith, c.requires.led_ready.low)

pub offset_bounds-terms-c : goal.offset_bounds-terms-c
offset_bounds-terms-c c = omega (arith, (in-range c.requires.led_ready).0)

pub bounds-terms-c : goal.bounds-terms-c
bounds-terms-c c = omega (arith, (in-range c.requires.led_ready).0, c.requires.led_ready.ts-len)

pub rooms-room-requires : goal.rooms-room-requires
rooms-room-requires c = ((in-range c.requires.led_ready).1, c.requires.led_ready.stands.whole.loads-long, c.requires.led_ready.ks-len, few-bales c.requires.led_ready)

pub lots_left-lots-requires : goal.lots_left-lots-requires
lots_left-lots-requires c = ((in-range c.requires.led_ready).1, c.requires.led_ready.cs-len, few-lots c.requires.led_ready)

pub marks_left-marks-requires : goal.marks_left-marks-requires
marks_left-marks-requires c = ((in-range c.requires.led_ready).1, c.requires.led_ready.cs-len, few-lots c.requires.led_ready)

pub put_lead-here-requires : goal.put_lead-here-requires
put_lead-here-requires c = lead-fits c.requires.led_ready

pub offset_bounds-courses-c : goal.offset_bounds-courses-c
offset_bounds-courses-c c = omega (arith, (in-range c.requires.led_ready).0)

pub bounds-courses-c : goal.bounds-courses-c
bounds-courses-c c = omega (arith, (in-range c.requires.led_ready).0, c.requires.led_ready.cs-len)

pub step_on-after-requires : goal.step_on-after-requires
step_on-after-requires c = record { can_step = can-step c.requires.led_ready c.rooms-room.ensures c.ceilings-most.ensures c.lots_left-lots.ensures c.marks_left-marks.ensures _ refl c.put_lead-here.ensures.ends c.put_lead-here.auto.out refl; le_y = c.requires.le_y }

pub offset_bounds-all-c : goal.offset_bounds-all-c
offset_bounds-all-c c = omega (arith, (in-range c.requires.led_ready).0)

pub bounds-all-c : goal.bounds-all-c
bounds-all-c c = omega (arith, (in-range c.requires.led_ready).0, c.requires.led_ready.cs-len)

pub returns : goal.returns
returns c = done c.requires.led_ready c.rooms-room.ensures c.ceilings-most.ensures c.lots_left-lots.ensures c.marks_left-marks.ensures _ _ c.put_lead-here.ensures refl refl refl c.step_on-after.ensures
