use Rattle.std.proofs.Common.{◌≤◌, ◌-◌, arith}
use Rattle.first_tables.specs.Fill.{marked-none, marked_more, marked_all, pin-room}
use Rattle.first_tables.proofs.mark_pins.Goals as goal

pub loop-i-init : goal.loop-i-init
loop-i-init c = (omega arith, marked-none c.requires)

pub overflow_sub-x : goal.overflow_sub-x
overflow_sub-x c =
    omega (arith, pin-room c.requires c.loop-i-test.true c.loop-i.invariant.1 c.from-x.ensures)

pub put-requires : goal.put-requires
put-requires c =
    omega (arith, pin-room c.requires c.loop-i-test.true c.loop-i.invariant.1 c.from-x.ensures, c.requires.e-in)

pub loop-i-preserved : goal.loop-i-preserved
loop-i-preserved c =
    (omega arith, marked_more c.requires c.loop-i-test.true c.loop-i.invariant.1 c.from-x.ensures c.put.ensures)

pub shape_of-bits : goal.shape_of-bits
shape_of-bits c = c.loop-i.invariant.1.bits-len

pub returns : goal.returns
returns c =
    marked_all c.requires (omega arith) c.loop-i.invariant.1
