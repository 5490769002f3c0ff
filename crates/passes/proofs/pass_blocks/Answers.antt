use Rattle.std.proofs.Common.{refl, arith}
use Rattle.passes.proofs.Tables.{blocks_end, blocks-none, blocks-bad, blocks-on}
use Rattle.passes.proofs.pass_blocks.Goals as goal

pub returns-then-e-len-clause-read : goal.returns-then-e-len-clause-read
returns-then-e-len-clause-read c =
    let a = c.args in
    let l = c.loop-i in
    blocks-none a.s.now a.at a.blocks l.draft l.i l.k l.good l.invariant c.line_end-e.result c.line_end-e.ensures c.if-e-len.true

pub returns-in_err-b-clause-read : goal.returns-in_err-b-clause-read
returns-in_err-b-clause-read c =
    let a = c.args in
    let l = c.loop-i in
    rw c.from_residual.ensures (blocks-bad a.s.now a.at a.blocks l.draft l.i l.k l.good l.invariant c.line_end-e.result c.line_end-e.ensures (omega (arith, c.line_end-e.ensures.high)) c.in_err-b.ensures)

pub loop-i-preserved : goal.loop-i-preserved
loop-i-preserved c =
    let a = c.args in
    let l = c.loop-i in
    blocks-on a.s.now a.at a.blocks l.draft l.i l.k l.good l.invariant c.line_end-e.result c.line_end-e.ensures (omega (arith, c.line_end-e.ensures.high)) c.in_ok-b.ensures.0 c.in_ok-b.b c.in_ok-b.ensures.1 _ refl _ c.keep_block.ensures.0 c.keep_block.ensures.1

pub returns-after-loop-i-clause-read : goal.returns-after-loop-i-clause-read
returns-after-loop-i-clause-read c =
    let a = c.args in
    let l = c.loop-i in
    blocks_end a.s.now a.at a.blocks l.draft l.i l.k l.good l.invariant (omega (arith, c.loop-i.invariant.high))
