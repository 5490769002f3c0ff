use Rattle.std.proofs.Common.{arith, ap, not}
use Rattle.edit_calls.specs.Refusal.{known-range, walk-9, walk-10, walk_0}
use Rattle.edit_calls.proofs.refusals.refuses_walk.Goals as goal

pub returns-then-not-both_known : goal.returns-then-not-both_known
returns-then-not-both_known c =
    walk-9 c.args.blocks.now c.args.n c.args.u c.args.v c.both_known.ensures (ap not c.if-not-both_known.true)

pub both_here-requires : goal.both_here-requires
both_here-requires c =
    omega (arith, known-range c.args.n c.args.u c.args.n c.args.v c.both_known.ensures (ap not c.if-not-both_known.false))

pub returns-then-not-both_here : goal.returns-then-not-both_here
returns-then-not-both_here c =
    walk-10 c.args.blocks.now c.args.n c.args.u c.args.v c.both_known.ensures (ap not c.if-not-both_known.false) c.both_here.ensures (ap not c.if-not-both_here.true)

pub returns : goal.returns
returns c =
    walk_0 c.args.blocks.now c.args.n c.args.u c.args.v c.both_known.ensures (ap not c.if-not-both_known.false) c.both_here.ensures (ap not c.if-not-both_here.false)
