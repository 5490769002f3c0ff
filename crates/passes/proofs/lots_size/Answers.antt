use Rattle.std.proofs.Common.{ℕ, ap, length, arith}
use Rattle.model.specs.Report.{digits}
use Rattle.passes.proofs.Tables.{lots-size-on, lots-none}
use Rattle.passes.proofs.lots_size.Goals as goal

pub loop-k-preserved : goal.loop-k-preserved
loop-k-preserved c =
    let a = c.args in
    let l = c.loop-k in
    (l.invariant.0, l.invariant.1, omega arith, omega (arith, c.width.ensures.1, c.width-in-loop-k.ensures.1), omega (arith, l.invariant.4, lots-size-on a.n a.weights.now a.draft.now (omega arith) (omega arith) l.k (omega arith), c.width.ensures.0, c.width-in-loop-k.ensures.0, ap (λ (x : ℕ). length (digits x)) c.from.ensures))

pub returns : goal.returns
returns c =
    let a = c.args in
    let l = c.loop-k in
    (omega (arith, l.invariant.4, ap length (lots-none a.n a.weights.now a.draft.now (omega arith) (omega arith) l.k (omega arith))), omega arith)
