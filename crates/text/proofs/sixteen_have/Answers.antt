use Rattle.std.proofs.Common.{arith, refl}
use Rattle.text.proofs.Walk.{without_more}
use Rattle.text.proofs.sixteen_have.Goals as goal

pub loop-j-init : goal.loop-j-init
loop-j-init c = (omega arith, λ e i l. absurd (omega arith))

pub loop-j-preserved : goal.loop-j-preserved
loop-j-preserved c =
    let a = c.args in
    (omega arith, without_more a.s.now a.at c.loop-j.j a.b c.loop-j.found refl c.loop-j.invariant.1)

pub returns : goal.returns
returns c = λ e i l. c.loop-j.invariant.1 e i (omega arith)
