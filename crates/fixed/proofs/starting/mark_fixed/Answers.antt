use Rattle.std.proofs.Common.{arith, ◌≡◌, refl, ◌≤◌, ◌-◌}
use Rattle.fixed.specs.Column.{marked-none, marked_more, marked_all}
use Rattle.fixed.proofs.starting.mark_fixed.Goals as goal

pub loop-x-init : goal.loop-x-init
loop-x-init c = (omega arith, marked-none c.args.fixed.now)

pub loop-x-preserved : goal.loop-x-preserved
loop-x-preserved c =
    (omega arith, marked_more c.loop-x.x _ (omega arith) refl c.loop-x.invariant.1 c.mark_entry.ensures)

pub returns : goal.returns
returns c =
    let e : c.loop-x.x ≡ c.args.n = omega arith in marked_all c.args.n c.requires.0 (rw e at c.loop-x.invariant.1)
