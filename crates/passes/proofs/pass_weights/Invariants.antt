-- `passes::pass_weights` meets its contract. The invariant: k weights are passed over and in the table, and the others are still to be read.
use Rattle.passes.proofs.Tables.{OnWeights}
use Rattle.passes.proofs.pass_weights.Given as goal

abbrev pub invariant-loop-k : goal.invariant-loop-k
invariant-loop-k l = OnWeights l.s l.at l.n l.weights l.i l.k l.good
