-- `column_if`: nothing where the count is another, else the change.
use Rattle.laws.specs.Place.{place}
use Rattle.connectivity.specs.Row.{row}
use Rattle.connectivity.specs.Touch.{column-stays, column-goes}
use Rattle.connectivity.proofs.column_if.Goals as goal

pub returns-then-f-want : goal.returns-then-f-want
returns-then-f-want c =
    let a = c.args in
    column-stays (place (row a.pins.now a.blocks.now a.first a.p) a.x 0) a.gains.now a.take a.a a.f a.want a.w c.if-f-want.true

pub shift_column-requires : goal.shift_column-requires
shift_column-requires c =
    record { rows = c.requires.rows; le_a = (c.requires.le_a c.if-f-want.false, c.requires.a_le_k) }

pub returns : goal.returns
returns c =
    let a = c.args in
    column-goes (place (row a.pins.now a.blocks.now a.first a.p) a.x 0) a.gains.now a.take a.a a.f a.want a.w c.if-f-want.false c.shift_column.ensures
