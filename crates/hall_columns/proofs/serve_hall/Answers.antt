-- `hall_columns::serve_hall` meets its contract.
use Rattle.std.proofs.Common.{sym, ◌∙◌}
use Rattle.model.specs.HallLent.{hall_tables}
use Rattle.hall_columns.specs.Sets.{long-hall}
use Rattle.hall_columns.specs.Entry.{too_short, served}
use Rattle.hall_columns.proofs.serve_hall.Goals as goal

pub returns-then-not-is_hall_long : goal.returns-then-not-is_hall_long
returns-then-not-is_hall_long c = rw c.number.ensures (too_short _ _ c.is_hall_long.ensures c.if-not-is_hall_long.true)

pub work_hall-requires : goal.work_hall-requires
work_hall-requires c =
    let a = c.args in
    long-hall a.output.now (hall_tables a.weights.now a.blocks.now a.aboves.now a.fixed.now a.loadedpins.now a.presentpins.now a.firsts.now a.loadedsizes.now a.presentsizes.now a.counts.now a.gains.now a.index.now a.visited.now) (sym c.is_hall_long.ensures ∙ c.if-not-is_hall_long.false)

pub returns : goal.returns
returns c = served _ _ c.is_hall_long.ensures _ c.if-not-is_hall_long.false c.work_hall.ensures
