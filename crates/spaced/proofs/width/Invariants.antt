-- `spaced::width` meets its contract. The invariant: n digits of x are counted, save one of y's.
use Rattle.std.proofs.Common.{◌+◌, ◌≤◌, ◌≡◌, length}
use Rattle.model.specs.Report.{digits}
use Rattle.spaced.proofs.width.Given as goal

abbrev pub invariant-loop-y : goal.invariant-loop-y
invariant-loop-y l = (1 ≤ l.n) × (l.n + l.y ≤ l.x + 1) × (length (digits l.x) + 1 ≡ l.n + length (digits l.y))

abbrev pub decreases-loop-y : goal.decreases-loop-y
decreases-loop-y l = l.y
