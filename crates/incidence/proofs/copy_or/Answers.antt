use Rattle.std.proofs.Common.{arith, ◌≡◌}
use Rattle.incidence.specs.On.{joined-none, joined-more, joined}
use Rattle.incidence.proofs.copy_or.Goals as goal

pub loop-k-init : goal.loop-k-init
loop-k-init c = (omega arith, joined-none _ _ _)

pub loop-k-preserved : goal.loop-k-preserved
loop-k-preserved c =
    let l = c.loop-k in
    (omega arith, joined-more c.args.bits.now l.bits c.args.u c.args.v l.k c.requires.0 (omega arith) l.invariant.1)

pub shape_of-bits : goal.shape_of-bits
shape_of-bits c = c.loop-k.invariant.1.len

pub returns : goal.returns
returns c =
    let l = c.loop-k in
    let e : l.k ≡ 16 = omega arith in
    joined c.args.bits.now l.bits c.args.u c.args.v (rw e at l.invariant.1)
