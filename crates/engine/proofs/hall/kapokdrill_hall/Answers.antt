-- `kapokdrill_hall`: what the columns answer, with each record written at its place of the lent ones.
use Rattle.hall_records.specs.Entry.{hall-served}
use Rattle.engine.proofs.hall.kapokdrill_hall.Goals as goal

pub write_at-requires : goal.write_at-requires
write_at-requires c = (c.core-answer.ensures.small, c.core-answer.ensures.inside)

pub returns : goal.returns
returns c = hall-served _ _ _ _ _ c.core-answer.result c.args.lots.now _ c.core-answer.ensures c.write_at.ensures
