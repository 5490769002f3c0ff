use Rattle.std.proofs.Common.{arith}
use Rattle.hall_loader.proofs.Weighing.{bales-start, more-le, bales-on, bales-done}
use Rattle.hall_loader.proofs.draft_bales.Goals as goal

pub loop-c-init : goal.loop-c-init
loop-c-init c = bales-start _ _ _ _ _ c.requires

pub offset_bounds-sizes-c : goal.offset_bounds-sizes-c
offset_bounds-sizes-c c = omega (arith, c.loop-c.invariant.light.few, c.loop-c-test.true)

pub bounds-sizes-c : goal.bounds-sizes-c
bounds-sizes-c c = omega (arith, c.loop-c.invariant.light.few, c.loop-c-test.true)

pub offset_bounds-weights-c : goal.offset_bounds-weights-c
offset_bounds-weights-c c = omega (arith, c.loop-c.invariant.light.few, c.loop-c-test.true)

pub bounds-weights-c : goal.bounds-weights-c
bounds-weights-c c = omega (arith, c.loop-c.invariant.light.few, c.loop-c-test.true, c.loop-c.invariant.light.weights-four)

pub offset_bounds-blocks-c : goal.offset_bounds-blocks-c
offset_bounds-blocks-c c = omega (arith, c.loop-c.invariant.light.few, c.loop-c-test.true)

pub bounds-blocks-c : goal.bounds-blocks-c
bounds-blocks-c c = omega (arith, c.loop-c.invariant.light.few, c.loop-c-test.true, c.loop-c.invariant.light.blocks-four)

pub overflow_cast-z : goal.overflow_cast-z
overflow_cast-z c =
    let lots = c.loop-c.invariant.light.each _ c.loop-c-test.true in
    omega (arith, lots.few)

pub block_weight-bales-requires : goal.block_weight-bales-requires
block_weight-bales-requires c =
    let lots = c.loop-c.invariant.light.each _ c.loop-c-test.true in
    (lots.few, lots.long, omega (arith, lots.few))

pub overflow_add-bales : goal.overflow_add-bales
overflow_add-bales c =
    let on = c.loop-c.invariant in
    omega (arith, on.few, on.c-le, on.light.few, more-le _ _ _ _ _ _ _ on c.loop-c-test.true _ c.block_weight-bales.ensures)

pub loop-c-preserved : goal.loop-c-preserved
loop-c-preserved c = bales-on _ _ _ _ _ _ _ c.loop-c.invariant c.loop-c-test.true _ c.block_weight-bales.ensures

pub returns : goal.returns
returns c =
    let on = c.loop-c.invariant in
    bales-done _ _ _ _ _ _ _ on (omega (arith, on.c-le, c.loop-c-test.false))
