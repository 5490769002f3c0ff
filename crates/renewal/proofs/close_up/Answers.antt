use Rattle.std.proofs.Common.{arith}
use Rattle.renewal.specs.Taking.{taking-none, squeeze_ok, total-small, taking_step, closed-up}
use Rattle.renewal.proofs.close_up.Goals as goal

pub loop-e-init : goal.loop-e-init
loop-e-init c = (omega arith, λ ns q s. taking-none _ ns _ _ _)

pub squeeze-r-requires : goal.squeeze-r-requires
squeeze-r-requires c =
    squeeze_ok c.requires c.loop-e.invariant.1 c.loop-e-test.true c.from-from.ensures c.from-p.ensures

pub narrow-requires : goal.narrow-requires
narrow-requires c =
    omega (arith, total-small c.requires c.loop-e.invariant.1 c.loop-e-test.true c.from-from.ensures c.from-p.ensures c.squeeze-r.ensures)

pub narrow-requires-in-loop-e : goal.narrow-requires-in-loop-e
narrow-requires-in-loop-e c =
    omega (arith, squeeze_ok c.requires c.loop-e.invariant.1 c.loop-e-test.true c.from-from.ensures c.from-p.ensures, total-small c.requires c.loop-e.invariant.1 c.loop-e-test.true c.from-from.ensures c.from-p.ensures c.squeeze-r.ensures)

pub loop-e-preserved : goal.loop-e-preserved
loop-e-preserved c =
    (omega (arith, c.loop-e-test.true), taking_step c.requires c.loop-e.invariant.1 c.loop-e-test.true c.from-from.ensures c.from-p.ensures c.squeeze-r.ensures c.narrow.ensures c.narrow-in-loop-e.ensures)

pub returns : goal.returns
returns c =
    closed-up c.requires (omega arith) c.loop-e.invariant.1
