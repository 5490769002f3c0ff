use Rattle.std.proofs.Common.{arith, ap, not}
use Rattle.edit_calls.specs.Refusal.{known-range, join-9, join-11, join-10, join-13, join-0}
use Rattle.edit_calls.proofs.refusals.refuses_join.Goals as goal

pub returns-then-not-both_known : goal.returns-then-not-both_known
returns-then-not-both_known c =
    join-9 c.args.blocks.now c.args.n c.args.u c.args.v c.both_known.ensures (ap not c.if-not-both_known.true)

pub returns-then-u-v : goal.returns-then-u-v
returns-then-u-v c =
    join-11 c.args.blocks.now c.args.n c.args.u c.args.v c.both_known.ensures (ap not c.if-not-both_known.false) c.if-u-v.true

pub both_here-requires : goal.both_here-requires
both_here-requires c =
    omega (arith, known-range c.args.n c.args.u c.args.n c.args.v c.both_known.ensures (ap not c.if-not-both_known.false))

pub returns-then-not-both_here : goal.returns-then-not-both_here
returns-then-not-both_here c =
    join-10 c.args.blocks.now c.args.n c.args.u c.args.v c.both_known.ensures (ap not c.if-not-both_known.false) c.both_here.ensures c.if-u-v.false (ap not c.if-not-both_here.true)

pub overflow_sub-u : goal.overflow_sub-u
overflow_sub-u c =
    omega (arith, known-range c.args.n c.args.u c.args.n c.args.v c.both_known.ensures (ap not c.if-not-both_known.false))

pub offset_bounds-blocks-u : goal.offset_bounds-blocks-u
offset_bounds-blocks-u c =
    omega (arith, known-range c.args.n c.args.u c.args.n c.args.v c.both_known.ensures (ap not c.if-not-both_known.false))

pub bounds-blocks-u : goal.bounds-blocks-u
bounds-blocks-u c =
    omega (arith, known-range c.args.n c.args.u c.args.n c.args.v c.both_known.ensures (ap not c.if-not-both_known.false))

pub overflow_sub-v : goal.overflow_sub-v
overflow_sub-v c =
    omega (arith, known-range c.args.n c.args.u c.args.n c.args.v c.both_known.ensures (ap not c.if-not-both_known.false))

pub offset_bounds-blocks-v : goal.offset_bounds-blocks-v
offset_bounds-blocks-v c =
    omega (arith, known-range c.args.n c.args.u c.args.n c.args.v c.both_known.ensures (ap not c.if-not-both_known.false))

pub bounds-blocks-v : goal.bounds-blocks-v
bounds-blocks-v c =
    omega (arith, known-range c.args.n c.args.u c.args.n c.args.v c.both_known.ensures (ap not c.if-not-both_known.false))

pub returns-then-blocks-u : goal.returns-then-blocks-u
returns-then-blocks-u c =
    join-13 c.args.blocks.now c.args.n c.args.u c.args.v c.both_known.ensures (ap not c.if-not-both_known.false) c.both_here.ensures c.if-u-v.false (ap not c.if-not-both_here.false) c.if-blocks-u.true

pub returns : goal.returns
returns c =
    join-0 c.args.blocks.now c.args.n c.args.u c.args.v c.both_known.ensures (ap not c.if-not-both_known.false) c.both_here.ensures c.if-u-v.false (ap not c.if-not-both_here.false) c.if-blocks-u.false
