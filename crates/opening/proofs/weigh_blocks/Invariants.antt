-- `weigh_blocks` meets its contract: the blocks passed have their weights.
use Rattle.std.proofs.Common.{◌≤◌, ◌-◌}
use Rattle.opening.specs.Opening.{WeighedTo}
use Rattle.opening.proofs.weigh_blocks.Given as goal

abbrev pub invariant-loop-b : goal.invariant-loop-b
invariant-loop-b l = (l.b ≤ l.k) × WeighedTo l.weights l.blocks l.n l.b l.loads
