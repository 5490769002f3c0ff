-- `halves`: the nets of u before the iterator's place have given their weights.
use Rattle.std.proofs.Common.{◌≡◌}
use Rattle.incidence.specs.On.{Along}
use Rattle.levels.specs.Halves.{gathered}
use Rattle.levels.proofs.halves.halves.Given as goal

abbrev pub invariant-loop-e : goal.invariant-loop-e
invariant-loop-e l =
    let i = l.e-iterator in
    Along l.bits l.u l.m i.bits.now i.x i.m i.at × (l.freed ≡ gathered l.counts l.netweights l.bits l.u l.from 1 i.at) × (l.drawn ≡ gathered l.counts l.netweights l.bits l.u l.to 0 i.at)
