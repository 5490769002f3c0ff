-- `metric_of` meets its contract: the sum over the nets passed, which is small enough.
use Rattle.std.proofs.Common.{◌≡◌, ◌∙◌, ◌≤◌, ◌-◌}
use Rattle.opening.specs.Opening.{metric_by}
use Rattle.opening.proofs.metric_of.Given as goal

abbrev pub invariant-loop-e : goal.invariant-loop-e
invariant-loop-e l = (l.e ≤ l.m) × (l.t ≡ metric_by l.visited l.netweights l.e)
