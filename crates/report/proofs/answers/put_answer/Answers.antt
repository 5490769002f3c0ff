use Rattle.model.specs.Grammar.{bytes}
use Rattle.model.specs.Report.{row, answer_row}
use Rattle.report.proofs.answers.put_answer.Goals as goal

pub put_done-requires : goal.put_done-requires
put_done-requires c = rw c.in-Ok.is at c.requires

pub returns-in-Ok : goal.returns-in-Ok
returns-in-Ok c = rw c.in-Ok.is c.put_done.ensures

pub put_row-requires : goal.put_row-requires
unfolding answer_row row bytes
put_row-requires c = rw c.in-Err.is at c.requires

pub returns-in-Err : goal.returns-in-Err
unfolding answer_row row bytes
returns-in-Err c = rw c.in-Err.is c.put_row.ensures
