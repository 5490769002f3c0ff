use Rattle.std.proofs.Common.{arith, sym, ◌∙◌}
use Rattle.hall_lines.proofs.LedTurns.{led-start, led-done, led-full, led-unended, led-unread, led-stranger, led_on}
use Rattle.hall_lines.proofs.read_led_calls.Goals as goal

pub loop-i-init : goal.loop-i-init
loop-i-init c =
    let a = c.args in
    led-start a.count a.s.now a.at a.n a.calls.now a.operands.now (omega arith) (omega arith) (omega arith) (omega arith) (omega arith)

pub returns-then-c-eq512 : goal.returns-then-c-eq512
returns-then-c-eq512 c =
    let a = c.args in
    let l = c.loop-i in
    rw c.at.ensures (led-full a.count a.s.now a.at a.n a.calls.now a.operands.now l.calls l.operands l.i l.c l.used l.invariant (omega arith) c.if-c-eq512.true)

pub returns-then-e-len : goal.returns-then-e-len
returns-then-e-len c =
    let a = c.args in
    let l = c.loop-i in
    let e = c.line_end-e in
    rw c.at-then-e-len.ensures (led-unended a.count a.s.now a.at a.n a.calls.now a.operands.now l.calls l.operands l.i l.c l.used l.invariant (omega arith) e.result e.ensures (omega arith) (omega arith))

pub returns-in_default : goal.returns-in_default
returns-in_default c =
    let a = c.args in
    let l = c.loop-i in
    let e = c.line_end-e in
    let r = c.led_line in
    rw c.at-in_default.ensures (led-unread a.count a.s.now a.at a.n a.calls.now a.operands.now l.calls l.operands l.i l.c l.used l.invariant (omega arith) e.result e.ensures (omega arith) (omega arith) r.result _ r.ensures c.in_default.is)

pub returns-then-not-between : goal.returns-then-not-between
returns-then-not-between c =
    let a = c.args in
    let l = c.loop-i in
    let e = c.line_end-e in
    let r = c.led_line in
    rw c.at-then-not-between.ensures (led-stranger a.count a.s.now a.at a.n a.calls.now a.operands.now l.calls l.operands l.i l.c l.used l.invariant (omega arith) e.result e.ensures (omega arith) (omega arith) r.result _ r.ensures _ c.in-Some.is (sym c.between.ensures ∙ c.if-not-between.true))

pub loop-i-preserved : goal.loop-i-preserved
loop-i-preserved c =
    let a = c.args in
    let l = c.loop-i in
    let e = c.line_end-e in
    let r = c.led_line in
    led_on a.count a.s.now a.at a.n a.calls.now a.operands.now l.calls l.operands l.i l.c l.used l.invariant (omega arith) e.result e.ensures (omega arith) (omega arith) r.result _ r.ensures _ c.in-Some.is (sym c.between.ensures ∙ c.if-not-between.false)

pub returns : goal.returns
returns c =
    let a = c.args in
    let l = c.loop-i in
    led-done a.count a.s.now a.at a.n a.calls.now a.operands.now l.calls l.operands l.i l.c l.used l.invariant (omega arith)
