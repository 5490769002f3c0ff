use Rattle.std.proofs.Common.{ℕ, refl, arith}
use Rattle.std.proofs.lemmas.List.{length-replicate}
use Rattle.laws.specs.Fold.{zeros-get}
use Rattle.model.specs.Hmetis.{is_edge}
use Rattle.passes.proofs.Rows.{rows_short}
use Rattle.passes.proofs.Tables.{edges-start, edges-done, edges-stop, edges-on}
use Rattle.passes.proofs.pass_edges.Goals as goal

pub loop-k-init : goal.loop-k-init
loop-k-init c = let a = c.args in edges-start a.weighted a.s.now a.at a.n a.vertices _ (omega arith) (omega arith) (length-replicate {A = ℕ} 1024 0) (λ x. zeros-get 1024 x)

pub returns-in_err-x : goal.returns-in_err-x
returns-in_err-x c =
    let a = c.args in
    let l = c.loop-k in
    rw c.from_residual.ensures (rows_short (is_edge a.weighted) a.s.now a.at a.n l.i l.k l.invariant.rows (omega arith) c.in_err-x.ensures)

pub returns-in_err-p : goal.returns-in_err-p
returns-in_err-p c =
    let a = c.args in
    let l = c.loop-k in
    rw c.from_residual-in_err-p.ensures (edges-stop a.weighted a.s.now a.at a.n a.vertices l.stamps l.i l.k l.good l.pins l.size l.invariant c.in_ok-x.x.start c.in_ok-x.x.end c.in_ok-x.ensures (omega arith) c.in_err-p.ensures)

pub loop-k-preserved : goal.loop-k-preserved
loop-k-preserved c =
    let a = c.args in
    let l = c.loop-k in
    edges-on a.weighted a.s.now a.at a.n a.vertices l.stamps l.i l.k l.good l.pins l.size l.invariant c.in_ok-x.x.start c.in_ok-x.x.end c.in_ok-x.ensures (omega arith) _ _ _ _ c.in_ok-p.ensures _ refl

pub returns : goal.returns
returns c =
    let a = c.args in
    let l = c.loop-k in
    edges-done a.weighted a.s.now a.at a.n a.vertices l.stamps l.i l.k l.good l.pins l.size l.invariant (omega arith) (omega arith)
