-- `take_back`: the metric with the negated gain of the way back, and the tables.
use Rattle.operations.specs.Move.{negated-needs, raise-needs, raised, carries, went}
use Rattle.operations.proofs.moves.take_back.Goals as goal

pub negated-requires : goal.negated-requires
negated-requires c =
    let g = c.requires.goes in
    negated-needs g.sound g.open-pair c.from.result c.from.ensures

pub raise_total-before-requires : goal.raise_total-before-requires
raise_total-before-requires c =
    let g = c.requires.goes in
    raise-needs g.sound g.open-pair c.negated.result c.from.ensures c.negated.ensures

pub carry-requires : goal.carry-requires
carry-requires c =
    let g = c.requires.goes in
    carries g.sound g.open-pair

pub returns : goal.returns
returns c =
    λ aboves loaded.
    let g = c.requires.goes in
    went _ g.open-pair c.carry.ensures.move_does c.carry.ensures.loads_after (raised g.sound g.open-pair c.negated.result c.from.ensures c.negated.ensures c.raise_total-before.ensures)
