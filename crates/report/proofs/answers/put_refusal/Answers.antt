-- `report::answers::put_refusal` meets its contract.
use Rattle.model.specs.Grammar.{bytes}
use Rattle.model.specs.Report.{row}
use Rattle.report.proofs.answers.put_refusal.Goals as goal

pub put_row-requires : goal.put_row-requires
unfolding row bytes
put_row-requires c = c.requires

pub returns : goal.returns
unfolding row bytes
returns c = c.put_row.ensures
