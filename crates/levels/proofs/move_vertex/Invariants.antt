-- `move_vertex`: nothing where the block stays; in the loop the nets before the iterator's place have seen the move.
use Rattle.incidence.specs.On.{Along}
use Rattle.levels.specs.Move.{Moving}
use Rattle.levels.proofs.move_vertex.Given as goal

abbrev pub invariant-loop-e : goal.invariant-loop-e
invariant-loop-e l =
    let i = l.e-iterator in
    Along l.bits l.u l.m i.bits.now i.x i.m i.at × Moving l.netweights l.presentpins l.blocks l.firsts l.presentsizes l.n l.m l.k l.u l.b i.at l.initial.counts l.counts l.initial.visited l.visited l.initial.gains l.gains
