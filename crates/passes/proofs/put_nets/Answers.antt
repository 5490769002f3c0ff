use Rattle.std.proofs.Common.{◌-◌, arith}
use Rattle.std.proofs.lemmas.Bool.{some_since}
use Rattle.model.specs.Hmetis.{is_edge}
use Rattle.passes.proofs.Rows.{part_edge, row_here, row_there}
use Rattle.passes.proofs.Tables.{nets-done, nets-room, nets-on}
use Rattle.passes.proofs.put_nets.Goals as goal

pub unwrap-x-requires : goal.unwrap-x-requires
unwrap-x-requires c =
    let a = c.args in
    let l = c.loop-k in
    some_since _ _ _ c.row.ensures (row_there (is_edge a.weighted) a.s.now l.i (a.n - l.k) (omega arith) l.invariant.well)

pub put_edge-q-requires : goal.put_edge-q-requires
put_edge-q-requires c =
    let a = c.args in
    let l = c.loop-k in
    let x = c.unwrap-x.result in
    let at = rw c.unwrap-x.ensures at c.row.ensures in
    let h = row_here (is_edge a.weighted) (part_edge a.weighted) a.s.now l.i x.start x.end at (a.n - l.k) (omega arith) l.invariant.well in
    (at.mid, omega (arith, at.high), h.form, nets-room a.weighted a.s.now a.at a.n a.out.now a.p l.out l.i l.q l.k l.invariant c.requires.2 x.start x.end h)

pub loop-k-preserved : goal.loop-k-preserved
loop-k-preserved c =
    let a = c.args in
    let l = c.loop-k in
    let x = c.unwrap-x.result in
    let at = rw c.unwrap-x.ensures at c.row.ensures in
    nets-on a.weighted a.s.now a.at a.n a.out.now a.p l.out l.i l.q l.k l.invariant c.requires.2 x.start x.end (row_here (is_edge a.weighted) (part_edge a.weighted) a.s.now l.i x.start x.end at (a.n - l.k) (omega arith) l.invariant.well) _ _ (omega arith) c.put_edge-q.ensures

pub returns : goal.returns
returns c =
    let a = c.args in
    let l = c.loop-k in
    nets-done a.weighted a.s.now a.at a.n a.out.now a.p l.out l.i l.q l.k l.invariant c.requires.2 (omega arith)
