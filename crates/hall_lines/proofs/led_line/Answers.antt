-- `hall_lines::led_line` meets its contract.
use Rattle.std.proofs.Common.{arith}
use Rattle.hall_lines.proofs.Leads.{led-none, led-alone, led-bad, led-call}
use Rattle.hall_lines.proofs.led_line.Goals as goal

pub returns-in_err-lead : goal.returns-in_err-lead
returns-in_err-lead c =
    let a = c.args in
    rw c.from_residual.ensures (led-none a.s.now a.at a.end a.used (omega arith) (omega arith) a.operands.now c.in_err-lead.ensures)

pub returns-then-lead-end : goal.returns-then-lead-end
returns-then-lead-end c =
    let a = c.args in
    let f = c.in_ok-lead.ensures in
    led-alone a.s.now a.at a.end a.used (omega arith) (omega arith) _ _ f.0 f.1 a.operands.now c.if-lead-end.true

pub returns-in_err-ask : goal.returns-in_err-ask
returns-in_err-ask c =
    let a = c.args in
    let f = c.in_ok-lead.ensures in
    let r = c.call_line in
    rw c.from_residual-in_err-ask.ensures (led-bad a.s.now a.at a.end a.used (omega arith) (omega arith) _ _ f.0 f.1 c.if-lead-end.false r.result a.operands.now _ r.ensures c.in_err-ask.was)

pub returns : goal.returns
returns c =
    let a = c.args in
    let f = c.in_ok-lead.ensures in
    let r = c.call_line in
    led-call a.s.now a.at a.end a.used (omega arith) (omega arith) _ _ f.0 f.1 c.if-lead-end.false r.result a.operands.now _ r.ensures _ c.in_ok-ask.was
