use Rattle.std.proofs.Common.{arith, sym}
use Rattle.laws.specs.Sum.{sum-zero, sum_step}
use Rattle.block_weights.specs.Term.{block_term}
use Rattle.block_weights.proofs.block_weight.Goals as goal

pub loop-i-init : goal.loop-i-init
loop-i-init c = let a = c.args in (omega arith, sym (sum-zero (block_term a.b a.weights.now a.draft.now)), omega arith)

pub loop-i-preserved : goal.loop-i-preserved
loop-i-preserved c =
    let l = c.loop-i in let a = c.args in (omega arith, omega (arith, l.invariant.1, c.share.ensures, sum_step l.i (block_term a.b a.weights.now a.draft.now)), omega (arith, l.invariant.2))
