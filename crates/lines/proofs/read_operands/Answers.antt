use Rattle.std.proofs.Common.{arith, ◌∙◌, length-set}
use Rattle.lines.proofs.Operands.{operands-start, operands-bad, operands-last, operands-on}
use Rattle.lines.proofs.read_operands.Goals as goal

pub loop-f-init : goal.loop-f-init
loop-f-init c =
    let a = c.args in
    let p = c.requires in
    operands-start a.s.now a.at a.end a.first a.operands.now p.0 p.1 p.3

pub read_number-requires : goal.read_number-requires
read_number-requires c = (c.loop-f.invariant.high, omega arith)

pub shape_of-operands-in_err-f : goal.shape_of-operands-in_err-f
shape_of-operands-in_err-f c = c.loop-f.invariant.len

pub returns-in_err-f : goal.returns-in_err-f
returns-in_err-f c =
    let a = c.args in
    let l = c.loop-f in
    rw c.from_residual.ensures (operands-bad a.s.now a.at a.end a.first a.operands.now l.operands l.i l.m l.invariant (omega arith) c.in_err-f.ensures)

pub offset_bounds-operands-m : goal.offset_bounds-operands-m
offset_bounds-operands-m c = omega (arith, c.loop-f.invariant.room, c.loop-f.invariant.high)

pub bounds-operands-m : goal.bounds-operands-m
bounds-operands-m c =
    let l = c.loop-f in
    let f = c.in_ok-f.ensures in
    omega (arith, l.invariant.room, l.invariant.wide, f.0, f.1.ends.high)

pub overflow_add-m : goal.overflow_add-m
overflow_add-m c = omega (arith, c.loop-f.invariant.room, c.loop-f.invariant.high)

pub shape_of-operands-then-f-end : goal.shape_of-operands-then-f-end
shape_of-operands-then-f-end c =
    let l = c.loop-f in
    length-set l.operands l.m _ ∙ l.invariant.len

pub returns-then-f-end : goal.returns-then-f-end
returns-then-f-end c =
    let a = c.args in
    let l = c.loop-f in
    let f = c.in_ok-f.ensures in
    operands-last a.s.now a.at a.end a.first a.operands.now l.operands l.i l.m l.invariant (omega arith) _ _ f.1 f.0 c.if-f-end.true

pub overflow_add-i : goal.overflow_add-i
overflow_add-i c = omega (arith, c.in_ok-f.ensures.1.ends.high)

pub loop-f-smaller : goal.loop-f-smaller
loop-f-smaller c =
    let f = c.in_ok-f.ensures in
    omega (arith, f.0, f.1.ends.high)

pub loop-f-preserved : goal.loop-f-preserved
loop-f-preserved c =
    let a = c.args in
    let l = c.loop-f in
    let f = c.in_ok-f.ensures in
    operands-on a.s.now a.at a.end a.first a.operands.now l.operands l.i l.m l.invariant (omega arith) _ _ f.1 f.0 (omega (arith, f.1.ends.high))
