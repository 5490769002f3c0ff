use Rattle.std.proofs.Common.{◌≤◌, ◌<◌, ◌-◌, ◌%◌, arith, ◌≡◌, refl}
use Rattle.search_moves.specs.Marks.{nets-first, nets-all, word-past}
use Rattle.search_moves.proofs.marks.mark_nets.Goals as goal

pub loop-e-init : goal.loop-e-init
loop-e-init c =
    (omega arith, λ _. refl, nets-first c.args.bits.now c.args.presentpins.now c.args.firsts.now c.args.presentsizes.now c.args.u c.args.marks.now, c.requires.2)

pub mark_word-e-requires : goal.mark_word-e-requires
mark_word-e-requires c =
    (omega (arith, c.requires.0, c.loop-e.invariant.2.len), c.requires.1, c.loop-e.invariant.3, c.loop-e-test.true, c.loop-e.invariant.1 c.loop-e-test.true, c.requires.3)

pub loop-e-smaller : goal.loop-e-smaller
loop-e-smaller c =
    omega (arith, c.loop-e-test.true, word-past c.loop-e-test.true c.mark_word-e.ensures.cut)

pub loop-e-preserved : goal.loop-e-preserved
loop-e-preserved c =
    let w = c.mark_word-e.ensures in
    (w.cut.right, λ h. omega (arith, w.cut.same h, c.loop-e.invariant.1 c.loop-e-test.true), w.marked c.args.marks.now c.loop-e.invariant.2, w.covered)

pub returns : goal.returns
returns c =
    (nets-all c.args.bits.now c.args.presentpins.now c.args.firsts.now c.args.presentsizes.now c.args.u c.args.m c.loop-e.e c.loop-e.invariant.0 (omega arith) c.loop-e.invariant.2, c.loop-e.invariant.3)
