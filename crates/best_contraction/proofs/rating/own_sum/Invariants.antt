use Rattle.std.proofs.Common.{◌≡◌, ◌∙◌, ◌≤◌, ◌<◌, ◌-◌}
use Rattle.incidence.specs.On.{Along}
use Rattle.best_contraction.specs.Rating.{own_sum}
use Rattle.best_contraction.proofs.rating.own_sum.Given as goal

abbrev pub invariant-loop-e : goal.invariant-loop-e
invariant-loop-e l = Along l.bits (l.u - 1) l.m l.e-iterator.bits.now l.e-iterator.x l.e-iterator.m l.e-iterator.at × (l.sum ≡ own_sum l.bits l.presentsizes l.net_weights l.u l.e-iterator.at)
