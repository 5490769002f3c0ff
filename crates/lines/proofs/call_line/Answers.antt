-- `lines::call_line` meets its contract.
use Rattle.std.proofs.Common.{arith}
use Rattle.std.proofs.Math.Seq.{slice}
use Rattle.model.specs.Grammar.{fields}
use Rattle.lines.proofs.Operands.{called-short, called-none, late, called-late}
use Rattle.lines.proofs.call_line.Goals as goal

pub returns-in-Some : goal.returns-in-Some
returns-in-Some c =
    let a = c.args in
    called-short (fields (slice a.at a.end a.s.now)) a.end a.used a.operands.now (omega arith) c.in-Some.c c.in-Some.ensures

pub returns-in_err-m : goal.returns-in_err-m
returns-in_err-m c =
    let a = c.args in
    let r = c.late_line in
    rw c.from_residual.ensures (called-none (fields (slice a.at a.end a.s.now)) a.end a.used a.operands.now (omega arith) c.in_default.ensures r.result _ r.ensures c.in_err-m.was)

pub overflow_sub-result : goal.overflow_sub-result
overflow_sub-result c =
    let a = c.args in
    let r = c.late_line in
    omega (arith, (late (fields (slice a.at a.end a.s.now)) a.end a.used a.operands.now (omega arith) c.in_default.ensures r.result _ r.ensures _ c.in_ok-m.was).two)

pub overflow_cast-result : goal.overflow_cast-result
overflow_cast-result c =
    let a = c.args in
    let r = c.late_line in
    omega (arith, (late (fields (slice a.at a.end a.s.now)) a.end a.used a.operands.now (omega arith) c.in_default.ensures r.result _ r.ensures _ c.in_ok-m.was).room)

pub returns : goal.returns
returns c =
    let a = c.args in
    let r = c.late_line in
    called-late (fields (slice a.at a.end a.s.now)) a.end a.used a.operands.now (omega arith) c.in_default.ensures r.result _ r.ensures _ c.in_ok-m.was
