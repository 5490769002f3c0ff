-- `shift_last`: the row of the pin that is found, or nothing where none is found.
use Rattle.std.proofs.Common.{arith, refl}
use Rattle.connectivity.specs.Touch.{pin-in, pin-room, last_none, last_some}
use Rattle.connectivity.proofs.shift_last.Goals as goal

pub returns-in_default : goal.returns-in_default
returns-in_default c =
    let a = c.args in last_none c.requires.rows a.x a.take a.a c.requires.le_a.0 c.in_default.ensures refl

pub overflow_sub-q : goal.overflow_sub-q
overflow_sub-q c = omega (arith, pin-in c.requires.rows c.in-Some.ensures.0 c.from-q.ensures)

pub but_row-requires : goal.but_row-requires
but_row-requires c = pin-room c.requires.rows c.in-Some.ensures.0 c.from-q.ensures

pub returns : goal.returns
returns c =
    let a = c.args in
    last_some c.requires.rows a.x a.take a.a c.requires.le_a.0 c.in-Some.ensures.1 c.in-Some.ensures.0 c.from-q.ensures c.requires.le_a.1 c.but_row.ensures
