-- `hgr::write` meets its contract: the first line, the lots, the buyers, one after another.
use Rattle.model.specs.Grammar.{bytes}
use Rattle.model.specs.Report.{row}
use Rattle.hgr.proofs.Checks.{edges-well}
use Rattle.hgr.proofs.Whole.{sale-room, lots-room, nets-room, all-written}
use Rattle.hgr.proofs.write.Goals as goal

pub put_row-a-requires : goal.put_row-a-requires
unfolding row bytes
put_row-a-requires c =
    let a = c.args in
    sale-room a.s.now a.p c.requires.0 a.weights.now a.draft.now c.requires.1 c.edges_weighted-weighted.result c.edges_weighted-weighted.ensures a.out.now c.requires.2

pub put_lots-b-requires : goal.put_lots-b-requires
unfolding row bytes
put_lots-b-requires c =
    let a = c.args in
    (c.requires.1.few, c.requires.1.weights-len, c.requires.1.draft-len, lots-room a.s.now a.p c.requires.0 a.weights.now a.draft.now c.requires.1 c.edges_weighted-weighted.result c.edges_weighted-weighted.ensures a.out.now c.requires.2 _ _ c.put_row-a.ensures)

pub put_nets-requires : goal.put_nets-requires
unfolding row bytes
put_nets-requires c =
    let a = c.args in
    (c.requires.0.first-high, edges-well a.s.now a.p c.requires.0 c.edges_weighted-weighted.result c.edges_weighted-weighted.ensures, nets-room a.s.now a.p c.requires.0 a.weights.now a.draft.now c.requires.1 c.edges_weighted-weighted.result c.edges_weighted-weighted.ensures a.out.now c.requires.2 _ _ c.put_row-a.ensures _ _ c.put_lots-b.ensures)

pub returns : goal.returns
unfolding row bytes
returns c =
    let a = c.args in
    all-written a.s.now a.p c.requires.0 a.weights.now a.draft.now c.requires.1 c.edges_weighted-weighted.result c.edges_weighted-weighted.ensures a.out.now c.requires.2 _ _ c.put_row-a.ensures _ _ c.put_lots-b.ensures _ _ c.put_nets.ensures
