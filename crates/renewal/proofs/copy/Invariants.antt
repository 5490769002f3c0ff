-- `copy` meets its contract: the first i entries are those of `from`.
use Rattle.std.proofs.Common.{◌≤◌, get_or}
use Rattle.renewal.specs.Columns.{Wrote}
use Rattle.renewal.proofs.copy.Given as goal

abbrev pub invariant-loop-i : goal.invariant-loop-i
invariant-loop-i l = (l.i ≤ l.n) × Wrote 0 l.i (λ j. get_or l.from j 0) l.initial.to l.to
