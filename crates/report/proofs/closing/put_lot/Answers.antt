-- `report::closing::put_lot` meets its contract.
use Rattle.model.specs.Grammar.{bytes}
use Rattle.model.specs.Report.{row}
use Rattle.report.proofs.closing.put_lot.Goals as goal

pub put_row-requires : goal.put_row-requires
unfolding row bytes
put_row-requires c = c.requires.1

pub returns : goal.returns
unfolding row bytes
returns c = c.put_row.ensures
