use Rattle.std.proofs.Common.{arith, refl}
use Rattle.walk.specs.Back.{rewind-none, rewind-asks, rewind-from, rewind-more, rewind-done}
use Rattle.walk.proofs.walks.rewind.Goals as goal

pub loop-j-init : goal.loop-j-init
loop-j-init c = (c.requires.kept-to, λ aboves loaded. rewind-none _ _ _ _ _)

pub offset_bounds-movers-j : goal.offset_bounds-movers-j
offset_bounds-movers-j c =
    omega (arith, c.requires.tried-to, c.loop-j-test, c.loop-j.auto)

pub bounds-movers-j : goal.bounds-movers-j
bounds-movers-j c =
    omega (arith, c.requires.tried-to, c.loop-j-test, c.loop-j.auto)

pub overflow_sub-x : goal.overflow_sub-x
overflow_sub-x c =
    omega (arith, c.from-x.ensures, rewind-from _ _ _ _ _ _ c.loop-j.j c.requires c.loop-j.invariant.1 (omega (arith, c.loop-j-test)))

pub offset_bounds-origins-j : goal.offset_bounds-origins-j
offset_bounds-origins-j c =
    omega (arith, c.requires.tried-to, c.loop-j-test, c.loop-j.auto)

pub bounds-origins-j : goal.bounds-origins-j
bounds-origins-j c =
    omega (arith, c.requires.tried-to, c.loop-j-test, c.loop-j.auto)

pub take_back-t-requires : goal.take_back-t-requires
take_back-t-requires c =
    rewind-asks _ _ _ _ _ _ c.loop-j.j _ c.requires c.loop-j.invariant.1 (omega (arith, c.loop-j-test)) c.from-x.ensures

pub loop-j-preserved : goal.loop-j-preserved
loop-j-preserved c =
    (omega (arith, c.loop-j-test), λ aboves loaded. rewind-more _ _ _ _ c.loop-j.j c.from-x.result refl refl refl refl refl (c.loop-j.invariant.1 aboves loaded) c.loop-j-test.true (omega (arith, c.from-x.ensures, rewind-from _ _ _ _ _ _ c.loop-j.j c.requires c.loop-j.invariant.1 (omega (arith, c.loop-j-test)))) (c.take_back-t.ensures aboves loaded))

pub returns : goal.returns
returns c = λ aboves loaded. rewind-done _ _ _ _ c.loop-j.j (c.loop-j.invariant.1 aboves loaded) c.loop-j.invariant.0 c.loop-j-test.false
