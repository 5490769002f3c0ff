-- `kapokdrill_run_fine`: what the columns answer, with the records written over the lent ones.
use Rattle.model.specs.Catalogue.{fine_limits}
use Rattle.records.specs.Entry.{served}
use Rattle.engine.proofs.run.kapokdrill_run_fine.Goals as goal

pub write-requires : goal.write-requires
write-requires c = (c.at_fine-answer.ensures.fits, c.at_fine-answer.ensures.small)

pub returns : goal.returns
returns c = served fine_limits _ _ _ _ _ c.at_fine-answer.result c.args.lots.now _ c.at_fine-answer.ensures c.write.ensures
