-- `lines::read_weight` meets its contract.
use Rattle.std.proofs.Common.{ap, sym, ◌∙◌, arith}
use Rattle.std.proofs.Math.Seq.{slice}
use Rattle.model.specs.Grammar.{same}
use Rattle.lines.proofs.Asks.{word-BUY}
use Rattle.lines.proofs.Bids.{weight-other, weight-none, weight-bad, weight-last, weight-here}
use Rattle.lines.proofs.read_weight.Goals as goal

pub returns-then-not-word : goal.returns-then-not-word
returns-then-not-word c =
    let a = c.args in
    let f = c.find-a in
    weight-other a.s.now a.at a.end f.result (omega arith) (omega arith) f.ensures
    (ap (same (slice a.at f.result a.s.now)) word-BUY ∙ sym c.word.ensures ∙ c.if-not-word.true)

pub returns-then-a-end : goal.returns-then-a-end
returns-then-a-end c =
    let a = c.args in
    let f = c.find-a in
    weight-none a.s.now a.at a.end f.result (omega arith) (omega arith) f.ensures c.if-a-end.true

pub returns-in_err-f : goal.returns-in_err-f
returns-in_err-f c =
    let a = c.args in
    let f = c.find-a in
    rw c.from_residual.ensures (weight-bad a.s.now a.at a.end f.result (omega arith) (omega arith) f.ensures (omega arith) c.in_err-f.ensures)

pub returns-then-f-end : goal.returns-then-f-end
returns-then-f-end c =
    let a = c.args in
    let f = c.find-a in
    let r = c.in_ok-f.ensures in
    weight-last a.s.now a.at a.end f.result (omega arith) (omega arith) f.ensures (omega arith) _ _ r.0 r.1 c.if-f-end.true

pub returns : goal.returns
returns c =
    let a = c.args in
    let f = c.find-a in
    let r = c.in_ok-f.ensures in
    weight-here a.s.now a.at a.end f.result (omega arith) (omega arith) f.ensures (omega arith) _ _ r.0 r.1
    (ap (same (slice a.at f.result a.s.now)) word-BUY ∙ sym c.word.ensures ∙ c.if-not-word.false) c.if-f-end.false
