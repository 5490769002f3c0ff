use Rattle.std.proofs.Common.{arith}
use Rattle.text.proofs.Walk.{first-here, first_on, first-none}
use Rattle.text.proofs.find.Goals as goal

pub returns-then-s-i : goal.returns-then-s-i
returns-then-s-i c =
    let a = c.args in
    let e = first-here a.s.now c.loop-i.i a.end (omega arith) (omega arith) a.sep c.if-s-i.true in
    omega arith

pub loop-i-preserved : goal.loop-i-preserved
loop-i-preserved c =
    let a = c.args in
    omega (arith, first_on a.s.now c.loop-i.i a.end (omega arith) (omega arith) a.sep c.if-s-i.false)

pub returns : goal.returns
returns c =
    let a = c.args in
    omega (arith, first-none a.s.now c.loop-i.i a.end a.sep (omega arith))
