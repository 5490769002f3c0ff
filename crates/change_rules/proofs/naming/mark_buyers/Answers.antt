use Rattle.std.proofs.Common.{arith, true≢false}
use Rattle.change_rules.specs.Named.{naming-none, naming-twice, naming-more, naming-all}
use Rattle.change_rules.proofs.naming.mark_buyers.Goals as goal

pub loop-buyer-init : goal.loop-buyer-init
loop-buyer-init c = naming-none _ c.requires.0

pub overflow_sub-at : goal.overflow_sub-at
overflow_sub-at c = omega (arith, c.requires.1 c.loop-buyer.buyer-index (omega arith))

pub offset_bounds-named-at : goal.offset_bounds-named-at
offset_bounds-named-at c = omega (arith, c.requires.1 c.loop-buyer.buyer-index (omega arith))

pub bounds-named-at : goal.bounds-named-at
bounds-named-at c = omega (arith, c.requires.1 c.loop-buyer.buyer-index (omega arith), c.loop-buyer.invariant.so_far.len)

pub returns-then-named-at-eq1 : goal.returns-then-named-at-eq1
returns-then-named-at-eq1 c =
    let some = c.requires.1 c.loop-buyer.buyer-index (omega arith) in
    (naming-twice c.loop-buyer.invariant (omega arith) (omega (arith, some)) (omega (arith, some)) c.if-named-at-eq1.true, λ e. absurd (true≢false e))

pub offset_bounds-named-at-in-loop-buyer : goal.offset_bounds-named-at-in-loop-buyer
offset_bounds-named-at-in-loop-buyer c = omega (arith, c.requires.1 c.loop-buyer.buyer-index (omega arith))

pub bounds-named-at-in-loop-buyer : goal.bounds-named-at-in-loop-buyer
bounds-named-at-in-loop-buyer c = omega (arith, c.requires.1 c.loop-buyer.buyer-index (omega arith), c.loop-buyer.invariant.so_far.len)

pub loop-buyer-preserved : goal.loop-buyer-preserved
loop-buyer-preserved c =
    let some = c.requires.1 c.loop-buyer.buyer-index (omega arith) in
    naming-more c.loop-buyer.invariant (omega arith) (omega (arith, some)) (omega (arith, some)) c.if-named-at-eq1.false

pub returns : goal.returns
returns c =
    let t = naming-all c.loop-buyer.invariant (omega arith) in
    (t.0, λ _. t.1)
