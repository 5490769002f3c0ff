use Rattle.std.proofs.Common.{arith, sym, ◌∙◌}
use Rattle.report.proofs.Climb.{passed-found, passed-more, passed-all}
use Rattle.report.proofs.closing.join_place.Goals as goal

pub returns-then-from-v : goal.returns-then-from-v
returns-then-from-v c =
    let a = c.args in
    λ into. omega (arith, passed-found a.gone.now a.depth a.v (omega arith) (omega arith) (sym c.from.ensures ∙ c.if-from-v.true) c.loop-i.invariant.1 into)

pub loop-i-preserved : goal.loop-i-preserved
loop-i-preserved c =
    let a = c.args in
    (omega arith, passed-more a.gone.now a.depth a.v (omega arith) (λ q. c.if-from-v.false (c.from.ensures ∙ q)) c.loop-i.invariant.1)

pub returns : goal.returns
returns c = let a = c.args in passed-all a.gone.now a.depth a.v (omega arith) c.loop-i.invariant.1
