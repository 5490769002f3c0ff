-- `hgr::check_rows` meets its contract.
use Rattle.hgr.specs.Number.{code_of}
use Rattle.hgr.proofs.Plans.{edges-bad, weights-bad, part-bad, lines-bad, rows-checked}
use Rattle.hgr.proofs.check_rows.Goals as goal

pub returns-in_err-x : goal.returns-in_err-x
returns-in_err-x c =
    let a = c.args in
    rw c.from_residual.ensures (edges-bad a.s.now a.h.next (code_of a.h.code) a.h.edges a.h.vertices a.f.blocks a.f.imbalance c.requires.1 c.edges_weighted-weighted.result c.edges_weighted-weighted.ensures c.in_err-x.ensures)

pub returns-in_err-w : goal.returns-in_err-w
returns-in_err-w c =
    let a = c.args in
    let x = c.in_ok-x.x in
    rw c.from_residual-in_err-w.ensures (weights-bad a.s.now a.h.next (code_of a.h.code) a.h.edges a.h.vertices a.f.blocks a.f.imbalance c.requires.1 c.edges_weighted-weighted.result c.edges_weighted-weighted.ensures c.nameable-known.result x.next x.carried x.pins x.size c.in_ok-x.ensures c.in_err-w.ensures)

pub returns-in_err-third : goal.returns-in_err-third
returns-in_err-third c =
    let a = c.args in
    let x = c.in_ok-x.x in
    let w = c.in_ok-w.w in
    rw c.from_residual-in_err-third.ensures (part-bad a.s.now a.h.next (code_of a.h.code) a.h.edges a.h.vertices a.f.blocks a.f.imbalance c.requires.1 c.edges_weighted-weighted.result c.edges_weighted-weighted.ensures c.nameable-known.result x.next x.carried x.pins x.size c.in_ok-x.ensures w.next w.carried _ c.in_ok-w.ensures c.in_err-third.ensures)

pub returns-in_err-l : goal.returns-in_err-l
returns-in_err-l c =
    let a = c.args in
    let x = c.in_ok-x.x in
    let w = c.in_ok-w.w in
    rw c.from_residual-in_err-l.ensures (lines-bad a.s.now a.h.next (code_of a.h.code) a.h.edges a.h.vertices a.f.blocks a.f.imbalance c.requires.1 c.edges_weighted-weighted.result c.edges_weighted-weighted.ensures c.nameable-known.result x.next x.carried x.pins x.size c.in_ok-x.ensures w.next w.carried _ c.in_ok-w.ensures c.in_ok-third.third c.in_ok-third.ensures c.in_err-l.ensures.read)

pub returns : goal.returns
returns c =
    let a = c.args in
    let x = c.in_ok-x.x in
    let w = c.in_ok-w.w in
    rows-checked a.s.now a.h.next (code_of a.h.code) a.h.edges a.h.vertices a.f.blocks a.f.imbalance c.requires.1 c.edges_weighted-weighted.result c.edges_weighted-weighted.ensures c.nameable-known.result x.next x.carried x.pins x.size c.in_ok-x.ensures w.next w.carried _ c.in_ok-w.ensures c.in_ok-third.third c.in_ok-third.ensures c.in_ok-l.l.lines c.in_ok-l.l.known _ c.in_ok-l.ensures.read c.nameable-known.ensures.1 c.in_range-ranges.result c.in_range-ranges.ensures c.carries-carried.result c.carries-carried.ensures c.lists-listed.result c.lists-listed.ensures
