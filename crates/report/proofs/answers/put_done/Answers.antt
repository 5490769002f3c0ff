-- `report::answers::put_done` meets its contract. In each arm the answer is known, and its line computes to what the arm writes.
use Rattle.model.specs.Grammar.{bytes}
use Rattle.model.specs.Report.{row, answer_row}
use Rattle.report.proofs.answers.put_done.Goals as goal

pub put_row-requires : goal.put_row-requires
unfolding answer_row row bytes
put_row-requires c =
    rw c.in-Contracted.is at c.requires

pub put_row-requires-in-Uncontracted : goal.put_row-requires-in-Uncontracted
unfolding answer_row row bytes
put_row-requires-in-Uncontracted c =
    rw c.in-Uncontracted.is at c.requires

pub put_row-requires-in-Moved : goal.put_row-requires-in-Moved
unfolding answer_row row bytes
put_row-requires-in-Moved c =
    rw c.in-Moved.is at c.requires

pub put_row-requires-in-Reversed : goal.put_row-requires-in-Reversed
unfolding answer_row row bytes
put_row-requires-in-Reversed c =
    rw c.in-Reversed.is at c.requires

pub put_row-requires-in-Walked : goal.put_row-requires-in-Walked
unfolding answer_row row bytes
put_row-requires-in-Walked c =
    rw c.in-Walked.is at c.requires

pub put_row-requires-in-Polished : goal.put_row-requires-in-Polished
unfolding answer_row row bytes
put_row-requires-in-Polished c =
    rw c.in-Polished.is at c.requires

pub put_row-requires-in-Cycled : goal.put_row-requires-in-Cycled
unfolding answer_row row bytes
put_row-requires-in-Cycled c =
    rw c.in-Cycled.is at c.requires

pub put_row-requires-in-Withdrawn : goal.put_row-requires-in-Withdrawn
unfolding answer_row row bytes
put_row-requires-in-Withdrawn c =
    rw c.in-Withdrawn.is at c.requires

pub put_row-requires-in-Added : goal.put_row-requires-in-Added
unfolding answer_row row bytes
put_row-requires-in-Added c =
    rw c.in-Added.is at c.requires

pub returns-in-Contracted : goal.returns-in-Contracted
unfolding answer_row row bytes
returns-in-Contracted c =
    rw c.in-Contracted.is c.put_row.ensures

pub returns-in-Uncontracted : goal.returns-in-Uncontracted
unfolding answer_row row bytes
returns-in-Uncontracted c =
    rw c.in-Uncontracted.is c.put_row-in-Uncontracted.ensures

pub returns-in-Moved : goal.returns-in-Moved
unfolding answer_row row bytes
returns-in-Moved c =
    rw c.in-Moved.is c.put_row-in-Moved.ensures

pub returns-in-Reversed : goal.returns-in-Reversed
unfolding answer_row row bytes
returns-in-Reversed c =
    rw c.in-Reversed.is c.put_row-in-Reversed.ensures

pub returns-in-Walked : goal.returns-in-Walked
unfolding answer_row row bytes
returns-in-Walked c =
    rw c.in-Walked.is c.put_row-in-Walked.ensures

pub returns-in-Polished : goal.returns-in-Polished
unfolding answer_row row bytes
returns-in-Polished c =
    rw c.in-Polished.is c.put_row-in-Polished.ensures

pub returns-in-Cycled : goal.returns-in-Cycled
unfolding answer_row row bytes
returns-in-Cycled c =
    rw c.in-Cycled.is c.put_row-in-Cycled.ensures

pub returns-in-Withdrawn : goal.returns-in-Withdrawn
unfolding answer_row row bytes
returns-in-Withdrawn c =
    rw c.in-Withdrawn.is c.put_row-in-Withdrawn.ensures

pub returns-in-Added : goal.returns-in-Added
unfolding answer_row row bytes
returns-in-Added c =
    rw c.in-Added.is c.put_row-in-Added.ensures
