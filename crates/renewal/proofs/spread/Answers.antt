use Rattle.std.proofs.Common.{◌-◌, arith, refl}
use Rattle.renewal.specs.Putting.{putting-all-none, grow-ok, putting-step, spread}
use Rattle.renewal.proofs.spread.Goals as goal

pub loop-e-init : goal.loop-e-init
loop-e-init c =
    (omega arith, putting-all-none c.requires _ _ _ refl refl)

pub overflow_sub-t : goal.overflow_sub-t
overflow_sub-t c =
    omega (arith, grow-ok c.requires c.loop-e.invariant.1 (c.loop-e.e - 1) (omega arith) (omega arith) c.from-from.ensures c.from-p.ensures refl, c.from.ensures)

pub grow-requires : goal.grow-requires
grow-requires c =
    omega (arith, grow-ok c.requires c.loop-e.invariant.1 (c.loop-e.e - 1) (omega arith) (omega arith) c.from-from.ensures c.from-p.ensures refl, c.from.ensures)

pub narrow-requires : goal.narrow-requires
narrow-requires c =
    omega (arith, grow-ok c.requires c.loop-e.invariant.1 (c.loop-e.e - 1) (omega arith) (omega arith) c.from-from.ensures c.from-p.ensures refl)

pub narrow-requires-in-loop-e : goal.narrow-requires-in-loop-e
narrow-requires-in-loop-e c =
    omega (arith, grow-ok c.requires c.loop-e.invariant.1 (c.loop-e.e - 1) (omega arith) (omega arith) c.from-from.ensures c.from-p.ensures refl, c.from.ensures)

pub loop-e-preserved : goal.loop-e-preserved
loop-e-preserved c =
    (omega arith, putting-step c.requires c.loop-e.invariant.1 (c.loop-e.e - 1) (omega arith) (omega arith) c.from-from.ensures c.from-p.ensures refl (omega (arith, grow-ok c.requires c.loop-e.invariant.1 (c.loop-e.e - 1) (omega arith) (omega arith) c.from-from.ensures c.from-p.ensures refl, c.from.ensures)) c.grow.ensures c.narrow.ensures (omega (arith, c.narrow-in-loop-e.ensures, c.from.ensures)))

pub returns : goal.returns
returns c =
    spread c.requires c.loop-e.invariant.1 (omega arith)
