-- `place` meets its contract: the lot's columns, the loaded marks with it, and the sale made anew from them.
use Rattle.std.proofs.Common.{arith, ◌≡◌, ◌∙◌}
use Rattle.changes.specs.Adding.{place_in, seat-in, put-ok, put-can, put-index}
use Rattle.changes.proofs.adding.place.Goals as goal

pub narrow-seat-requires : goal.narrow-seat-requires
narrow-seat-requires c =
    let g = c.requires in
    let a = c.args in
    seat-in g.stands a.bales a.session g.buyers g.accepted a.v g.number_is

pub overflow_sub-v : goal.overflow_sub-v
overflow_sub-v c =
    let g = c.requires in
    let a = c.args in
    omega (arith, place_in g.stands a.bales a.session g.buyers g.accepted a.v g.number_is)

pub set_lot-requires : goal.set_lot-requires
set_lot-requires c =
    let g = c.requires in
    let a = c.args in
    let l = place_in g.stands a.bales a.session g.buyers g.accepted a.v g.number_is in
    (l.1, l.2, l.3, l.4, l.5)

pub total_with-marks-requires : goal.total_with-marks-requires
total_with-marks-requires c =
    let g = c.requires in
    let a = c.args in
    let room = g.stands.runs.sound.follows.room in
    (room.few-nets, room.loaded-fit, g.told.len)

pub narrow-requires : goal.narrow-requires
narrow-requires c =
    let g = c.requires in
    let a = c.args in
    omega (arith, place_in g.stands a.bales a.session g.buyers g.accepted a.v g.number_is)

pub put_in-requires : goal.put_in-requires
put_in-requires c =
    let g = c.requires in
    let a = c.args in
    put-ok g.stands a.bales a.session g.buyers g.accepted a.v g.number_is g.told c.total_with-marks.ensures

pub renew-total-requires : goal.renew-total-requires
renew-total-requires c =
    let g = c.requires in
    let a = c.args in record { can_reopen = put-can g.stands a.bales a.session g.buyers g.accepted a.v g.number_is g.told c.total_with-marks.ensures c.narrow-seat.ensures c.set_lot.ensures c.narrow.ensures c.put_in.ensures g.known_is; n_in_bounds = put-index g.stands a.bales a.session g.buyers g.accepted a.v g.number_is g.told c.total_with-marks.ensures c.narrow-seat.ensures c.set_lot.ensures c.narrow.ensures c.put_in.ensures g.known_is }

pub shape_of-counts : goal.shape_of-counts
shape_of-counts c =
    c.renew-total.ensures.reopened.prepared.counts-len

pub shape_of-visited : goal.shape_of-visited
shape_of-visited c =
    c.renew-total.ensures.reopened.prepared.masks-len

pub shape_of-gains : goal.shape_of-gains
shape_of-gains c =
    c.renew-total.ensures.reopened.prepared.gains.gains-len

pub shape_of-index : goal.shape_of-index
shape_of-index c =
    c.renew-total.ensures.indexed.kept.len

pub shape_of-presentpins : goal.shape_of-presentpins
shape_of-presentpins c =
    c.renew-total.ensures.reopened.ordered.len

pub shape_of-presentsizes : goal.shape_of-presentsizes
shape_of-presentsizes c =
    c.renew-total.ensures.reopened.copied-sizes.len

pub shape_of-bits : goal.shape_of-bits
shape_of-bits c =
    c.renew-total.ensures.reopened.prepared.bits-len

pub shape_of-blocks : goal.shape_of-blocks
shape_of-blocks c =
    c.set_lot.ensures.blocks-len

pub shape_of-weights : goal.shape_of-weights
shape_of-weights c =
    c.set_lot.ensures.weights-len

pub shape_of-aboves : goal.shape_of-aboves
shape_of-aboves c =
    c.set_lot.ensures.aboves-len

pub shape_of-fixed : goal.shape_of-fixed
shape_of-fixed c =
    c.set_lot.ensures.fixed-len

pub shape_of-loadedpins : goal.shape_of-loadedpins
shape_of-loadedpins c =
    c.put_in.ensures.pins-len

pub shape_of-firsts : goal.shape_of-firsts
shape_of-firsts c =
    c.put_in.ensures.firsts-len

pub shape_of-loadedsizes : goal.shape_of-loadedsizes
shape_of-loadedsizes c =
    c.put_in.ensures.sizes-len

pub returns : goal.returns
returns c =
    record { seat = c.narrow-seat.result; seat-is = c.narrow-seat.ensures; lot = c.set_lot.ensures; number = c.narrow.result; number_is = c.narrow.ensures; sum_is = c.total_with-marks.ensures; into = c.put_in.ensures; renewed = c.renew-total.ensures }
