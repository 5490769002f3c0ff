-- `copy_or`: the first k words of the row are joined.
use Rattle.std.proofs.Common.{◌≤◌}
use Rattle.incidence.specs.On.{JoinedTo}
use Rattle.incidence.proofs.copy_or.Given as goal

abbrev pub invariant-loop-k : goal.invariant-loop-k
invariant-loop-k l = (l.k ≤ 16) × JoinedTo l.initial.bits l.bits l.u l.v l.k
