use Rattle.std.proofs.Common.{arith}
use Rattle.text.proofs.Walk.{first_past, first-from}
use Rattle.text.proofs.line_end.Goals as goal

pub returns-then-sixteen_have : goal.returns-then-sixteen_have
returns-then-sixteen_have c =
    let a = c.args in
    first-from a.s.now a.at c.loop-i.i a.end 10 c.find.result c.loop-i.invariant.0 c.loop-i.invariant.2 c.find.ensures

pub loop-i-preserved : goal.loop-i-preserved
loop-i-preserved c =
    let a = c.args in
    omega (arith, first_past a.s.now 16 c.loop-i.i a.end 10 (omega arith) (omega arith) (c.sixteen_have.ensures c.if-sixteen_have.false))

pub returns : goal.returns
returns c =
    let a = c.args in
    first-from a.s.now a.at c.loop-i.i a.end 10 c.find-2.result c.loop-i.invariant.0 c.loop-i.invariant.2 c.find-2.ensures
