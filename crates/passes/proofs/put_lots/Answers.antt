use Rattle.std.proofs.Common.{arith}
use Rattle.model.specs.Grammar.{bytes}
use Rattle.model.specs.Report.{row}
use Rattle.passes.proofs.Tables.{lots-room, lots-more, lots-end}
use Rattle.passes.proofs.put_lots.Goals as goal

pub put_row-q-requires : goal.put_row-q-requires
unfolding row bytes
put_row-q-requires c =
    let a = c.args in
    let l = c.loop-k in
    lots-room a.n a.weights.now a.draft.now (omega arith) (omega arith) a.out.now a.p l.out l.q l.k c.from-b.result c.requires.3 l.invariant.3 (omega arith) c.from-b.ensures

pub loop-k-preserved : goal.loop-k-preserved
unfolding row bytes
loop-k-preserved c =
    let a = c.args in
    let l = c.loop-k in
    (l.invariant.0, l.invariant.1, omega arith, lots-more a.n a.weights.now a.draft.now (omega arith) (omega arith) a.out.now a.p l.out l.q l.k c.from-b.result c.requires.3 l.invariant.3 (omega arith) c.from-b.ensures _ _ c.put_row-q.ensures)

pub returns : goal.returns
returns c =
    let a = c.args in
    let l = c.loop-k in
    lots-end a.n a.weights.now a.draft.now (omega arith) (omega arith) a.out.now a.p l.out l.q l.k 0 c.requires.3 l.invariant.3 (omega arith)
