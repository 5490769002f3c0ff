use Rattle.std.proofs.Common.{◌-◌, arith}
use Rattle.hall_file.specs.Worked.{lots-start, lots-more}
use Rattle.hall_file.proofs.lots_known.Goals as goal

pub loop-c-init : goal.loop-c-init
loop-c-init c = (lots-start _, omega arith)

pub offset_bounds-courses-c : goal.offset_bounds-courses-c
offset_bounds-courses-c c = omega (arith, c.requires, c.loop-c-test.true)

pub bounds-courses-c : goal.bounds-courses-c
bounds-courses-c c = omega (arith, c.requires, c.loop-c-test.true)

pub offset_bounds-lots-c : goal.offset_bounds-lots-c
offset_bounds-lots-c c = omega (arith, c.requires, c.loop-c-test.true)

pub bounds-lots-c : goal.bounds-lots-c
bounds-lots-c c = omega (arith, c.requires, c.loop-c-test.true)

pub loop-c-preserved : goal.loop-c-preserved
loop-c-preserved c = (lots-more (omega (arith, c.requires, c.loop-c-test.true)) c.loop-c.invariant.0, omega (arith, c.loop-c-test.true))

pub returns : goal.returns
returns c = (λ d l. c.loop-c.invariant.0.used d (omega (arith, l, c.loop-c-test.false)), λ d l. c.loop-c.invariant.0.none d (omega (arith, l, c.loop-c.invariant.1)))
