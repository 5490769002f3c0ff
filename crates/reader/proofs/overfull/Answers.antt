use Rattle.std.proofs.Common.{arith}
use Rattle.reader.proofs.Loads.{over_none, over-next, over-found, over-all}
use Rattle.reader.proofs.overfull.Goals as goal

pub loop-b-init : goal.loop-b-init
loop-b-init c =
    let a = c.args in λ fixed ns. over_none a.vertices a.blocks a.imbalance a.weights.now a.draft.now fixed a.lows.now ns

pub returns-then-most-block_weight : goal.returns-then-most-block_weight
returns-then-most-block_weight c =
    let a = c.args in λ fixed ns. over-found a.vertices a.blocks a.imbalance a.weights.now a.draft.now fixed a.lows.now ns (omega arith) c.loop-b.b c.average_weight.result c.capacity-most.result c.block_weight.result c.average_weight.ensures.0 c.capacity-most.ensures c.block_weight.ensures (omega arith) c.if-most-block_weight.true

pub loop-b-preserved : goal.loop-b-preserved
loop-b-preserved c =
    let a = c.args in λ fixed ns. over-next a.vertices a.blocks a.imbalance a.weights.now a.draft.now fixed a.lows.now ns (omega arith) c.loop-b.b c.average_weight.result c.capacity-most.result c.block_weight.result c.average_weight.ensures.0 c.capacity-most.ensures c.block_weight.ensures (c.loop-b.invariant fixed ns) c.if-most-block_weight.false

pub returns : goal.returns
returns c =
    let a = c.args in λ fixed ns. over-all a.vertices a.blocks a.imbalance a.weights.now a.draft.now fixed a.lows.now ns c.loop-b.b (omega arith) (c.loop-b.invariant fixed ns)
