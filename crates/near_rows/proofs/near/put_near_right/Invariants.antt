-- `put_near_right`: the moved vertex's row and those of its nets before the iterator's place are right, and rows that were right still are.
use Rattle.incidence.specs.On.{Along}
use Rattle.near_rows.specs.Near.{Right, Mended, Done, NetDone}
use Rattle.near_rows.proofs.near.put_near_right.Given as goal

abbrev pub invariant-loop-e : goal.invariant-loop-e
invariant-loop-e l =
    let i = l.e-iterator in
    Along l.bits l.u l.m i.bits.now i.x i.m i.at × Mended l.gains l.blocks l.n l.k l.initial.index l.index × Right l.gains l.blocks l.k l.index l.u × Done l.bits l.u (NetDone l.gains l.counts l.blocks l.presentpins l.firsts l.presentsizes l.bits l.n l.m l.k l.u l.s l.t l.index) i.at
