-- `accumulate`: the nets before the iterator's place are added up.
use Rattle.std.proofs.Common.{◌-◌}
use Rattle.incidence.specs.On.{Along}
use Rattle.best_contraction.specs.Rating.{row_of, Holds}
use Rattle.best_contraction.proofs.rating.accumulate.Given as goal

abbrev pub invariant-loop-e : goal.invariant-loop-e
invariant-loop-e l =
    let i = l.e-iterator in
    Along l.bits (l.u - 1) l.m i.bits.now i.x i.m i.at × Holds l.acc (row_of l.bits l.presentpins l.firsts l.presentsizes l.net_weights l.u i.at)
