-- `loader::copy` meets its contract.
use Rattle.std.proofs.Common.{◌≤◌, ltb, get_or}
use Rattle.model.specs.Memory.{Filled}
use Rattle.loader.proofs.copy.Given as goal

abbrev pub invariant-loop-i : goal.invariant-loop-i
invariant-loop-i l = (l.i ≤ l.n) × Filled 0 (λ x. ltb x l.i) (λ x. get_or l.from x 0) l.initial.to l.to
