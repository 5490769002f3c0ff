-- `hgr::read_header` meets its contract.
use Rattle.std.proofs.Common.{arith}
use Rattle.hgr.proofs.Codes.{header-numbers}
use Rattle.hgr.proofs.Heads.{header-bad, header-good}
use Rattle.hgr.proofs.read_header.Goals as goal

pub returns-in_err-code : goal.returns-in_err-code
returns-in_err-code c =
    let a = c.args in
    rw c.from_residual-in_err-code.ensures (header-bad a.s.now a.at c.in_ok-x.x.start c.in_ok-x.x.end c.in_ok-x.ensures c.in_err-code.ensures)

pub get-m-requires : goal.get-m-requires
get-m-requires c =
    (c.in_ok-x.ensures.mid, omega (arith, c.in_ok-x.ensures.high), header-numbers _ 0 c.in_ok-code.ensures.0 (omega arith))

pub get-n-requires : goal.get-n-requires
get-n-requires c =
    (c.in_ok-x.ensures.mid, omega (arith, c.in_ok-x.ensures.high), header-numbers _ 1 c.in_ok-code.ensures.0 (omega arith))

pub returns : goal.returns
returns c =
    let a = c.args in
    header-good a.s.now a.at c.in_ok-x.x.start c.in_ok-x.x.end c.in_ok-x.ensures c.in_ok-code.ensures.0 _ _ _ c.in_ok-code.ensures.1 c.get-m.ensures c.get-n.ensures
