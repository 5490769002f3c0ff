use Rattle.std.proofs.Common.{refl, arith}
use Rattle.model.specs.Grammar.{is_number}
use Rattle.passes.proofs.Rows.{rows_short, rows-bad}
use Rattle.passes.proofs.Tables.{weights-done, weights-on}
use Rattle.passes.proofs.pass_weights.Goals as goal

pub returns-in_err-x-clause-read : goal.returns-in_err-x-clause-read
returns-in_err-x-clause-read c =
    let a = c.args in
    let l = c.loop-k in
    rw c.from_residual.ensures (rows_short is_number a.s.now a.at a.n l.i l.k l.invariant.rows (omega arith) c.in_err-x.ensures)

pub returns-in_err-w-clause-read : goal.returns-in_err-w-clause-read
returns-in_err-w-clause-read c =
    let a = c.args in
    let l = c.loop-k in
    rw c.from_residual-in_err-w.ensures (rows-bad is_number a.s.now a.at a.n l.i l.k l.invariant.rows c.in_ok-x.x.start c.in_ok-x.x.end c.in_ok-x.ensures (omega arith) c.in_err-w.ensures)

pub loop-k-preserved : goal.loop-k-preserved
loop-k-preserved c =
    let a = c.args in
    let l = c.loop-k in
    weights-on a.s.now a.at a.n l.weights l.i l.k l.good l.invariant c.in_ok-x.x.start c.in_ok-x.x.end c.in_ok-x.ensures (omega arith) c.in_ok-w.ensures.0 c.in_ok-w.w c.in_ok-w.ensures.1 c.between-good.result c.between-good.ensures _ refl _ c.keep_weight.ensures.0 c.keep_weight.ensures.1

pub returns-clause-read : goal.returns-clause-read
returns-clause-read c =
    let a = c.args in
    let l = c.loop-k in
    weights-done a.s.now a.at a.n l.weights l.i l.k l.good l.invariant (omega arith)
