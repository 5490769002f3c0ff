-- `contract_nets`: the nets before the iterator's place are contracted, and the incidence follows at the end.
use Rattle.incidence.specs.On.{Along}
use Rattle.levels.specs.Contract.{Contracting}
use Rattle.levels.proofs.contract_nets.Given as goal

abbrev pub invariant-loop-e : goal.invariant-loop-e
invariant-loop-e l =
    let i = l.e-iterator in
    Along l.fn.bits l.v l.m i.bits.now i.x i.m i.at × Contracting l.netweights l.blocks l.firsts l.fn.bits l.n l.m l.k l.u l.v i.at l.initial.presentpins l.presentpins l.initial.presentsizes l.presentsizes l.initial.counts l.counts l.initial.visited l.visited l.initial.gains l.gains
