-- `last_if`: nothing where the count is another, else the change.
use Rattle.laws.specs.Place.{place}
use Rattle.connectivity.specs.Row.{row}
use Rattle.connectivity.specs.Touch.{last-stays, last_goes}
use Rattle.connectivity.proofs.last_if.Goals as goal

pub returns-then-f-want : goal.returns-then-f-want
returns-then-f-want c =
    let a = c.args in
    last-stays (place (row a.pins.now a.blocks.now a.first a.p) a.x 0) a.gains.now a.take a.a a.f a.want a.w c.if-f-want.true

pub shift_last-requires : goal.shift_last-requires
shift_last-requires c =
    record { rows = c.requires.rows; le_a = c.requires.le_a c.if-f-want.false }

pub returns : goal.returns
returns c =
    let a = c.args in
    last_goes (place (row a.pins.now a.blocks.now a.first a.p) a.x 0) a.gains.now a.take a.a a.f a.want a.w c.if-f-want.false c.shift_last.ensures
