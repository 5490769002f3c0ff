use Rattle.std.proofs.Common.{arith, ◌≡◌, ◌∙◌, ◌≤◌, ◌-◌}
use Rattle.fixed.specs.Stacked.{stacked-none, stacked-more}
use Rattle.fixed.proofs.starting.fixed_in.Goals as goal

pub loop-i-init : goal.loop-i-init
loop-i-init c = (omega arith, c.requires.0, stacked-none c.args.into.now c.args.gone.now c.args.marks)

pub join_fixed-requires : goal.join_fixed-requires
join_fixed-requires c =
    omega (arith, c.loop-i.invariant.1, c.requires.1.into-in c.loop-i.i (omega arith), c.requires.1.gone-in c.loop-i.i (omega arith))

pub loop-i-preserved : goal.loop-i-preserved
loop-i-preserved c =
    let one_more = stacked-more c.args.into.now c.args.gone.now c.loop-i.i c.loop-i.invariant.2 c.join_fixed.ensures in
    (omega arith, c.join_fixed.ensures.len ∙ c.loop-i.invariant.1, one_more)

pub returns : goal.returns
returns c =
    let e : c.loop-i.i ≡ c.args.len = omega arith in rw e at c.loop-i.invariant.2
