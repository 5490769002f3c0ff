-- `withdraw` meets its contract: the lot's columns, the loaded marks without it, and the sale made anew from them.
use Rattle.std.proofs.Common.{arith, ◌≡◌, ◌∙◌}
use Rattle.changes.specs.Stands.{holding}
use Rattle.changes.specs.Turning.{lot-in, take-can, take-index}
use Rattle.changes.proofs.withdrawing.withdraw.Goals as goal

pub overflow_sub-v : goal.overflow_sub-v
overflow_sub-v c =
    omega (arith, lot-in c.requires.stands c.args.v c.requires.accepted)

pub set_lot-requires : goal.set_lot-requires
set_lot-requires c =
    let l = lot-in c.requires.stands c.args.v c.requires.accepted in
    (l.1, l.2, l.3, l.4, l.5)

pub narrow-requires : goal.narrow-requires
narrow-requires c =
    omega (arith, lot-in c.requires.stands c.args.v c.requires.accepted)

pub take_out-marks-requires : goal.take_out-marks-requires
take_out-marks-requires c =
    record { holding = holding c.requires.stands; in_bounds = c.requires.stands.long.loaded-long }

pub renew-total-requires : goal.renew-total-requires
renew-total-requires c =
    let lot = c.set_lot.ensures in
    let number = c.narrow.ensures in
    let out = c.take_out-marks.ensures in record { can_reopen = take-can c.requires.stands c.args.v c.requires.accepted lot number out; n_in_bounds = take-index c.requires.stands c.args.v c.requires.accepted lot number out }

pub shape_of-blocks : goal.shape_of-blocks
shape_of-blocks c =
    c.set_lot.ensures.blocks-len

pub shape_of-weights : goal.shape_of-weights
shape_of-weights c =
    c.set_lot.ensures.weights-len

pub shape_of-aboves : goal.shape_of-aboves
shape_of-aboves c =
    c.set_lot.ensures.aboves-len

pub shape_of-fixed : goal.shape_of-fixed
shape_of-fixed c =
    c.set_lot.ensures.fixed-len

pub shape_of-loadedpins : goal.shape_of-loadedpins
shape_of-loadedpins c =
    c.take_out-marks.ensures.pins-len

pub returns : goal.returns
returns c =
    record { lot = c.set_lot.ensures; number = c.narrow.result; number_is = c.narrow.ensures; out = c.take_out-marks.ensures; renewed = c.renew-total.ensures }
