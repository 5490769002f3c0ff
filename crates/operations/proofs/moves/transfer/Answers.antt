-- `transfer`: the metric less the gain, and the tables.
use Rattle.operations.specs.Move.{lower-needs, lowered, carries, went}
use Rattle.operations.proofs.moves.transfer.Goals as goal

pub lower_total-after-requires : goal.lower_total-after-requires
lower_total-after-requires c =
    let g = c.requires.goes in
    lower-needs g.sound g.open-pair c.from.result c.from.ensures

pub carry-requires : goal.carry-requires
carry-requires c =
    let g = c.requires.goes in
    carries g.sound g.open-pair

pub returns : goal.returns
returns c =
    λ aboves loaded.
    let g = c.requires.goes in
    went _ g.open-pair c.carry.ensures.move_does c.carry.ensures.loads_after (lowered g.sound g.open-pair c.from.ensures c.lower_total-after.ensures)
