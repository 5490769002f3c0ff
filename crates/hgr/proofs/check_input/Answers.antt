-- `hgr::check_input` meets its contract.
use Rattle.conversion.specs.Well.{well-not}
use Rattle.hgr.proofs.Plans.{no_header, begun, planned}
use Rattle.hgr.proofs.check_input.Goals as goal

pub returns-in_err-f : goal.returns-in_err-f
returns-in_err-f c = rw c.from_residual.ensures (well-not c.args.s.now c.in_err-f.ensures)

pub returns-in_err-h : goal.returns-in_err-h
returns-in_err-h c =
    let a = c.args in let f = c.in_ok-f.f in
    rw c.from_residual-in_err-h.ensures (no_header a.s.now f.next f.blocks f.imbalance c.in_ok-f.ensures c.in_err-h.ensures)

pub check_rows-requires : goal.check_rows-requires
check_rows-requires c =
    let a = c.args in let f = c.in_ok-f.f in let h = c.in_ok-h.h in
    (c.requires.0, begun a.s.now f.next f.blocks f.imbalance c.in_ok-f.ensures h.next _ h.edges h.vertices c.in_ok-h.ensures, c.requires.1, c.requires.2)

pub returns : goal.returns
returns c =
    let a = c.args in let f = c.in_ok-f.f in let h = c.in_ok-h.h in
    planned a.s.now _ _ _ _ _ h.code (begun a.s.now f.next f.blocks f.imbalance c.in_ok-f.ensures h.next _ h.edges h.vertices c.in_ok-h.ensures) _ _ _ _ _ c.in_ok-x.ensures
