-- `lines::late_line` meets its contract.
use Rattle.std.proofs.Common.{ap, sym, ◌∙◌, arith}
use Rattle.std.proofs.Math.Seq.{slice}
use Rattle.model.specs.Grammar.{same}
use Rattle.lines.proofs.Asks.{word-N}
use Rattle.lines.proofs.Operands.{late-other, late-none, late-bad, late-few, late-here}
use Rattle.lines.proofs.late_line.Goals as goal

pub returns-then-not-word : goal.returns-then-not-word
returns-then-not-word c =
    let a = c.args in
    let f = c.find-a in
    late-other a.s.now a.at a.end a.first f.result a.operands.now (omega arith) (omega arith) f.ensures
    (ap (same (slice a.at f.result a.s.now)) word-N ∙ sym c.word.ensures ∙ c.if-not-word.true)

pub returns-then-a-end : goal.returns-then-a-end
returns-then-a-end c =
    let a = c.args in
    let f = c.find-a in
    late-none a.s.now a.at a.end a.first f.result a.operands.now (omega arith) (omega arith) f.ensures c.if-a-end.true

pub returns-in_err-m : goal.returns-in_err-m
returns-in_err-m c =
    let a = c.args in
    let f = c.find-a in
    let r = c.read_operands in
    rw c.from_residual.ensures (late-bad a.s.now a.at a.end a.first f.result a.operands.now (omega arith) (omega arith) f.ensures (omega (arith, c.if-a-end.false, f.ensures.high)) r.result _ r.ensures c.in_err-m.was)

pub returns-then-m-first : goal.returns-then-m-first
returns-then-m-first c =
    let a = c.args in
    let f = c.find-a in
    let r = c.read_operands in
    late-few a.s.now a.at a.end a.first f.result a.operands.now (omega arith) (omega arith) f.ensures (omega (arith, c.if-a-end.false, f.ensures.high)) r.result _ r.ensures _ c.in_ok-m.was c.if-m-first.true

pub returns : goal.returns
returns c =
    let a = c.args in
    let f = c.find-a in
    let r = c.read_operands in
    late-here a.s.now a.at a.end a.first f.result a.operands.now (omega arith) (omega arith) f.ensures (omega (arith, c.if-a-end.false, f.ensures.high)) r.result _ r.ensures _ c.in_ok-m.was
    (ap (same (slice a.at f.result a.s.now)) word-N ∙ sym c.word.ensures ∙ c.if-not-word.false) (omega (arith, c.if-m-first.false))
