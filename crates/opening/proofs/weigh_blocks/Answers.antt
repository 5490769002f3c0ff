use Rattle.std.proofs.Common.{arith, ◌≤◌, ◌-◌}
use Rattle.opening.specs.Opening.{weighed-more}
use Rattle.opening.proofs.weigh_blocks.Goals as goal

pub loop-b-init : goal.loop-b-init
loop-b-init c = (omega arith, record { len = c.requires.4; done = λ j l. absurd (omega arith) })

pub bounds-loads-b : goal.bounds-loads-b
bounds-loads-b c =
    omega (arith, c.requires.1)

pub loop-b-preserved : goal.loop-b-preserved
loop-b-preserved c =
    (omega arith, weighed-more c.loop-b.b c.block_weight.result (omega (arith, c.requires.1)) c.loop-b.invariant.1 c.block_weight.ensures)

pub returns : goal.returns
returns c = record { len = c.loop-b.invariant.1.len; loads-are = λ j l. c.loop-b.invariant.1.done j (omega arith) }
