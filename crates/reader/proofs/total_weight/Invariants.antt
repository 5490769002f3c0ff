-- `reader::total_weight` meets its contract.
use Rattle.std.proofs.Common.{◌≡◌, ◌*◌, ◌≤◌, get_or, take}
use Rattle.laws.specs.Sum.{sum}
use Rattle.reader.proofs.total_weight.Given as goal

abbrev pub invariant-loop-w : goal.invariant-loop-w
invariant-loop-w l = (l.t ≡ sum l.w-index (λ x. get_or (take l.n l.weights) x 0)) × (l.t ≤ l.w-index * 4294967295)
