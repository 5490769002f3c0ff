use Rattle.std.proofs.Common.{arith, ◌≡◌, refl, ◌≤◌, ◌-◌}
use Rattle.polish.specs.Polishing.{sits-none, sits-more}
use Rattle.polish.proofs.polishing.mark_board.Goals as goal

pub loop-x-init : goal.loop-x-init
loop-x-init c = sits-none c.args.marks.now c.args.blocks.now

pub mark_placed-requires : goal.mark_placed-requires
mark_placed-requires c =
    omega (arith, c.requires, c.loop-x.invariant.len)

pub loop-x-preserved : goal.loop-x-preserved
loop-x-preserved c =
    sits-more c.args.blocks.now c.loop-x.x _ refl c.loop-x.invariant c.mark_placed.ensures

pub returns : goal.returns
returns c =
    let e : c.loop-x.x ≡ c.args.n = omega arith in rw e at c.loop-x.invariant
