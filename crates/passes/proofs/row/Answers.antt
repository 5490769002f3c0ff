use Rattle.std.proofs.Common.{◌∙◌, arith}
use Rattle.passes.proofs.Lines.{comment-line, sections-none, sections-end, row-found}
use Rattle.passes.proofs.row.Goals as goal

pub returns-then-e-len : goal.returns-then-e-len
returns-then-e-len c =
    let a = c.args in
    let l = c.loop-i in
    l.invariant.2 ∙ sections-none a.s.now l.i c.line_end-e.result (omega arith) c.line_end-e.ensures c.if-e-len.true

pub returns-then-s-i-ne37 : goal.returns-then-s-i-ne37
returns-then-s-i-ne37 c =
    let a = c.args in
    let l = c.loop-i in
    row-found a.s.now a.at l.i (omega arith) l.invariant.2 c.line_end-e.result (omega arith) c.line_end-e.ensures (omega (arith, c.line_end-e.ensures.high)) c.if-s-i-ne37.true

pub loop-i-preserved : goal.loop-i-preserved
loop-i-preserved c =
    let a = c.args in
    let l = c.loop-i in
    (omega arith, omega arith, l.invariant.2 ∙ comment-line a.s.now l.i c.line_end-e.result (omega arith) c.line_end-e.ensures (omega arith) (omega arith))

pub returns : goal.returns
returns c =
    let a = c.args in
    let l = c.loop-i in
    l.invariant.2 ∙ sections-end a.s.now l.i (omega arith)
