-- `part_rows`: the rows of the nets of v before the iterator's place are made right.
use Rattle.incidence.specs.On.{Along}
use Rattle.search_moves.specs.Parted.{PartedTo}
use Rattle.search_moves.proofs.rows.part_rows.Given as goal

abbrev pub invariant-loop-e : goal.invariant-loop-e
invariant-loop-e l =
    let i = l.e-iterator in
    Along l.bits l.v l.m i.bits.now i.x i.m i.at × PartedTo l.initial.rows l.bits l.u l.v i.at l.rows
