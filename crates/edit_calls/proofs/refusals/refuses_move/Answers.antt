use Rattle.std.proofs.Common.{arith, ◌-◌, ap, not}
use Rattle.edit_calls.specs.Refusal.{known-range, move-9, move-10, move-12, move-20, move-14, move-0}
use Rattle.edit_calls.proofs.refusals.refuses_move.Goals as goal

pub returns-then-not-both_known : goal.returns-then-not-both_known
returns-then-not-both_known c =
    move-9 c.args.blocks.now c.args.loads.now c.args.ceilings.now c.args.fixedmarks.now c.args.weights.now c.args.n c.args.k c.args.u c.args.t c.both_known.ensures (ap not c.if-not-both_known.true)

pub is_here-requires : goal.is_here-requires
is_here-requires c =
    omega (arith, known-range c.args.n c.args.u c.args.k c.args.t c.both_known.ensures (ap not c.if-not-both_known.false))

pub returns-then-not-is_here : goal.returns-then-not-is_here
returns-then-not-is_here c =
    move-10 c.args.blocks.now c.args.loads.now c.args.ceilings.now c.args.fixedmarks.now c.args.weights.now c.args.n c.args.k c.args.u c.args.t c.both_known.ensures (ap not c.if-not-both_known.false) c.is_here.ensures (ap not c.if-not-is_here.true)

pub overflow_sub-u : goal.overflow_sub-u
overflow_sub-u c =
    omega (arith, known-range c.args.n c.args.u c.args.k c.args.t c.both_known.ensures (ap not c.if-not-both_known.false))

pub offset_bounds-blocks-u : goal.offset_bounds-blocks-u
offset_bounds-blocks-u c =
    omega (arith, known-range c.args.n c.args.u c.args.k c.args.t c.both_known.ensures (ap not c.if-not-both_known.false))

pub bounds-blocks-u : goal.bounds-blocks-u
bounds-blocks-u c =
    omega (arith, known-range c.args.n c.args.u c.args.k c.args.t c.both_known.ensures (ap not c.if-not-both_known.false))

pub overflow_cast-blocks : goal.overflow_cast-blocks
overflow_cast-blocks c =
    omega (arith, c.type_inv.blocks (c.args.u - 1))

pub returns-then-blocks-u : goal.returns-then-blocks-u
returns-then-blocks-u c =
    move-12 c.args.blocks.now c.args.loads.now c.args.ceilings.now c.args.fixedmarks.now c.args.weights.now c.args.n c.args.k c.args.u c.args.t c.both_known.ensures (ap not c.if-not-both_known.false) c.is_here.ensures (ap not c.if-not-is_here.false) c.if-blocks-u.true

pub overflow_sub-u-2 : goal.overflow_sub-u-2
overflow_sub-u-2 c =
    omega (arith, known-range c.args.n c.args.u c.args.k c.args.t c.both_known.ensures (ap not c.if-not-both_known.false))

pub is_pin-fixed-requires : goal.is_pin-fixed-requires
is_pin-fixed-requires c =
    omega (arith, c.requires, known-range c.args.n c.args.u c.args.k c.args.t c.both_known.ensures (ap not c.if-not-both_known.false))

pub has_room-room-requires : goal.has_room-room-requires
has_room-room-requires c =
    omega (arith, known-range c.args.n c.args.u c.args.k c.args.t c.both_known.ensures (ap not c.if-not-both_known.false))

pub returns-then-fixed : goal.returns-then-fixed
returns-then-fixed c =
    move-20 c.args.blocks.now c.args.loads.now c.args.ceilings.now c.args.fixedmarks.now c.args.weights.now c.args.n c.args.k c.args.u c.args.t c.both_known.ensures (ap not c.if-not-both_known.false) c.is_here.ensures (ap not c.if-not-is_here.false) c.if-blocks-u.false c.is_pin-fixed.ensures c.if-fixed.true

pub returns-then-not-room : goal.returns-then-not-room
returns-then-not-room c =
    move-14 c.args.blocks.now c.args.loads.now c.args.ceilings.now c.args.fixedmarks.now c.args.weights.now c.args.n c.args.k c.args.u c.args.t c.both_known.ensures (ap not c.if-not-both_known.false) c.is_here.ensures (ap not c.if-not-is_here.false) c.if-blocks-u.false c.is_pin-fixed.ensures c.if-fixed.false c.has_room-room.ensures (ap not c.if-not-room.true)

pub returns : goal.returns
returns c =
    move-0 c.args.blocks.now c.args.loads.now c.args.ceilings.now c.args.fixedmarks.now c.args.weights.now c.args.n c.args.k c.args.u c.args.t c.both_known.ensures (ap not c.if-not-both_known.false) c.is_here.ensures (ap not c.if-not-is_here.false) c.if-blocks-u.false c.is_pin-fixed.ensures c.if-fixed.false c.has_room-room.ensures (ap not c.if-not-room.false)
