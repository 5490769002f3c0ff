-- `hgr::read_first` meets its contract.
use Rattle.std.proofs.Common.{arith}
use Rattle.hgr.proofs.Heads.{first_short, first-bad, first-number, first_good}
use Rattle.hgr.proofs.read_first.Goals as goal

pub returns-then-e-len : goal.returns-then-e-len
returns-then-e-len c =
    let a = c.args in
    first_short a.s.now c.line_end-e.result c.line_end-e.ensures c.if-e-len.true

pub returns-then-form-ne3 : goal.returns-then-form-ne3
returns-then-form-ne3 c =
    let a = c.args in
    first-bad a.s.now c.line_end-e.result c.line_end-e.ensures (omega arith) c.form.result c.form.ensures c.if-form-ne3.true

pub get-k-requires : goal.get-k-requires
get-k-requires c =
    let a = c.args in
    (omega arith, omega arith, first-number a.s.now c.line_end-e.result c.line_end-e.ensures (omega arith) c.form.result c.form.ensures 1 (omega arith) (omega arith) (omega arith))

pub get-t-requires : goal.get-t-requires
get-t-requires c =
    let a = c.args in
    (omega arith, omega arith, first-number a.s.now c.line_end-e.result c.line_end-e.ensures (omega arith) c.form.result c.form.ensures 2 (omega arith) (omega arith) (omega arith))

pub returns : goal.returns
returns c =
    let a = c.args in
    first_good a.s.now c.line_end-e.result c.line_end-e.ensures (omega arith) c.form.result c.form.ensures c.get-k.result c.get-t.result (omega arith) (omega arith) c.get-k.ensures c.get-t.ensures
