-- `lines::before_k` meets its contract.
use Rattle.std.proofs.Common.{arith}
use Rattle.lines.proofs.Ends.{ends-short, ends-other, ends-joined, ends-k}
use Rattle.lines.proofs.before_k.Goals as goal

pub returns-then-end-at-lt2 : goal.returns-then-end-at-lt2
returns-then-end-at-lt2 c =
    let a = c.args in
    ends-short a.s.now a.at a.end (omega arith) (omega arith) (omega arith)

pub returns-then-s-end-ne75 : goal.returns-then-s-end-ne75
returns-then-s-end-ne75 c =
    let a = c.args in
    ends-other a.s.now a.at a.end (omega arith) (omega arith) (omega arith) c.if-s-end-ne75.true

pub returns-then-s-end-ne44 : goal.returns-then-s-end-ne44
returns-then-s-end-ne44 c =
    let a = c.args in
    ends-joined a.s.now a.at a.end (omega arith) (omega arith) (omega arith) c.if-s-end-ne44.true

pub returns : goal.returns
returns c =
    let a = c.args in
    ends-k a.s.now a.at a.end (omega arith) (omega arith) (omega arith) c.if-s-end-ne75.false c.if-s-end-ne44.false
