-- `kapokdrill_run`: what the columns answer, with the records written over the lent ones.
use Rattle.model.specs.Catalogue.{main_limits}
use Rattle.records.specs.Entry.{served}
use Rattle.engine.proofs.run.kapokdrill_run.Goals as goal

pub write-requires : goal.write-requires
write-requires c = (c.at_main-answer.ensures.fits, c.at_main-answer.ensures.small)

pub returns : goal.returns
returns c = served main_limits _ _ _ _ _ c.at_main-answer.result c.args.lots.now _ c.at_main-answer.ensures c.write.ensures
