use Rattle.std.proofs.Common.{arith}
use Rattle.reader.proofs.Turns.{calls-start, calls-done, calls-full, calls-unended, calls-bad, calls-on}
use Rattle.reader.proofs.read_calls.Goals as goal

pub loop-i-init : goal.loop-i-init
loop-i-init c =
    let a = c.args in calls-start a.s.now a.at a.n a.calls.now a.operands.now (omega arith) (omega arith) (omega arith) (omega arith) (omega arith)

pub returns-then-c-eq512 : goal.returns-then-c-eq512
returns-then-c-eq512 c =
    let a = c.args in
    let l = c.loop-i in
    rw c.at.ensures (calls-full a.s.now a.at a.n a.calls.now a.operands.now l.calls l.operands l.i l.c l.used l.invariant (omega arith) c.if-c-eq512.true)

pub returns-then-e-len : goal.returns-then-e-len
returns-then-e-len c =
    let a = c.args in
    let l = c.loop-i in
    let e = c.line_end-e in
    rw c.at-then-e-len.ensures (calls-unended a.s.now a.at a.n a.calls.now a.operands.now l.calls l.operands l.i l.c l.used l.invariant (omega arith) e.result e.ensures (omega arith) (omega arith))

pub returns-in_default : goal.returns-in_default
returns-in_default c =
    let a = c.args in
    let l = c.loop-i in
    let e = c.line_end-e in
    let r = c.call_line in
    rw c.at-in_default.ensures (calls-bad a.s.now a.at a.n a.calls.now a.operands.now l.calls l.operands l.i l.c l.used l.invariant (omega arith) e.result e.ensures (omega arith) (omega arith) r.result _ r.ensures c.in_default.is)

pub loop-i-preserved : goal.loop-i-preserved
loop-i-preserved c =
    let a = c.args in
    let l = c.loop-i in
    let e = c.line_end-e in
    let r = c.call_line in
    calls-on a.s.now a.at a.n a.calls.now a.operands.now l.calls l.operands l.i l.c l.used l.invariant (omega arith) e.result e.ensures (omega arith) (omega arith) r.result _ r.ensures _ c.in-Some.is

pub returns : goal.returns
returns c =
    let a = c.args in
    let l = c.loop-i in
    calls-done a.s.now a.at a.n a.calls.now a.operands.now l.calls l.operands l.i l.c l.used l.invariant (omega arith)
