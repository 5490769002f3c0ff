-- `own_moved`: nothing where as much is freed as drawn, else the row raised by the difference.
use Rattle.connectivity.specs.Moved.{back-even, room_back, raised-back}
use Rattle.connectivity.specs.Touch.{raised-still}
use Rattle.connectivity.proofs.own_moved.Goals as goal

pub returns-then-freed-drawn : goal.returns-then-freed-drawn
returns-then-freed-drawn c =
    let a = c.args in
    raised-still a.gains.now (λ j l. back-even a.fa a.fb a.w c.when_is-freed.ensures c.when_is-drawn.ensures c.if-freed-drawn.true)

pub add_row-requires : goal.add_row-requires
add_row-requires c =
    let a = c.args in
    room_back a.fa a.fb a.w c.difference.result c.difference.type_inv c.difference.ensures c.when_is-freed.ensures c.when_is-drawn.ensures c.requires

pub returns : goal.returns
returns c =
    let a = c.args in
    raised-back a.fa a.fb a.w c.difference.result c.difference.type_inv c.difference.ensures c.when_is-freed.ensures c.when_is-drawn.ensures c.add_row.ensures
