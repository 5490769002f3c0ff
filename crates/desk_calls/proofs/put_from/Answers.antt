use Rattle.std.proofs.Common.{arith, sym}
use Rattle.call_list.specs.Asked.{late-part}
use Rattle.desk_calls.specs.Desk.{can-as, steps-as}
use Rattle.desk_calls.proofs.put_from.Goals as goal

pub bales_of-bales-requires : goal.bales_of-bales-requires
bales_of-bales-requires c = omega (arith, c.requires.le_y)

pub session_of-session-requires : goal.session_of-session-requires
session_of-session-requires c = omega (arith, c.requires.le_y)

pub buyers_of-buyers-requires : goal.buyers_of-buyers-requires
buyers_of-buyers-requires c = c.requires.le_y

pub put_lot-requires : goal.put_lot-requires
put_lot-requires c =
    let a = c.args in
    can-as (sym (late-part a.operands.now a.x a.y _ _ _ c.bales_of-bales.ensures c.session_of-session.ensures c.buyers_of-buyers.ensures)) c.requires.can_step

pub returns : goal.returns
returns c =
    let a = c.args in
    steps-as (late-part a.operands.now a.x a.y _ _ _ c.bales_of-bales.ensures c.session_of-session.ensures c.buyers_of-buyers.ensures) c.put_lot.ensures
