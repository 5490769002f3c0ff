-- `passes::lots_size` meets its contract. The invariant: k lines are counted, and the others are still to be.
use Rattle.std.proofs.Common.{◌≤◌, ◌+◌, ◌*◌, ◌≡◌, length}
use Rattle.passes.proofs.Tables.{lots_from}
use Rattle.passes.proofs.lots_size.Given as goal

abbrev pub invariant-loop-k : goal.invariant-loop-k
invariant-loop-k l = (length l.weights ≡ 1024) × (length l.draft ≡ 1024) × (l.k ≤ l.n) × (l.size ≤ 26 * l.k) × (l.size + length (lots_from l.n l.weights l.draft l.k) ≡ length (lots_from l.n l.weights l.draft 0))
