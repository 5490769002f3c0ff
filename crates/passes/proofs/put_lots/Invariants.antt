-- `passes::put_lots` meets its contract. The invariant: the lines of the lots from the k-th on are still to be written.
use Rattle.std.proofs.Common.{◌≤◌, ◌≡◌, length}
use Rattle.fields.specs.Wrote.{Remains}
use Rattle.passes.proofs.Tables.{lots_from}
use Rattle.passes.proofs.put_lots.Given as goal

abbrev pub invariant-loop-k : goal.invariant-loop-k
invariant-loop-k l = (length l.weights ≡ 1024) × (length l.draft ≡ 1024) × (l.k ≤ l.n) × Remains l.initial.out l.p (lots_from l.n l.weights l.draft 0) l.out l.q (lots_from l.n l.weights l.draft l.k)
