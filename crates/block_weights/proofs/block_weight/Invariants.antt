-- `block_weights::block_weight` meets its contract.
use Rattle.std.proofs.Common.{◌≡◌, ◌*◌, ◌≤◌}
use Rattle.laws.specs.Sum.{sum}
use Rattle.block_weights.specs.Term.{block_term}
use Rattle.block_weights.proofs.block_weight.Given as goal

abbrev pub invariant-loop-i : goal.invariant-loop-i
invariant-loop-i l = (l.i ≤ l.n) × (l.t ≡ sum l.i (block_term l.b l.weights l.draft)) × (l.t ≤ l.i * 4294967295)
