-- `rest_top`: one entry more.
use Rattle.std.proofs.Common.{◌≤◌, ◌-◌, ◌+◌, ◌≡◌}
use Rattle.best_contraction.specs.PartTop.{TopOf}
use Rattle.best_contraction.proofs.tops.rest_top.Given as goal

abbrev pub invariant-loop-y : goal.invariant-loop-y
invariant-loop-y l = (l.from ≤ l.y) × (l.y ≤ l.to) × TopOf l.bounds l.from l.y l.top
