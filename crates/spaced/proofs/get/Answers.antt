use Rattle.std.proofs.Common.{◌≡◌, ◌+◌, ◌-◌, ◌∙◌, arith}
use Rattle.spaced.proofs.Edges.{get-short, get-on, get-number, get-here}
use Rattle.spaced.proofs.get.Goals as goal
use Rattle.spaced.proofs.get.Goals.{After-find-e}

more : (c : After-find-e) → c.find-e.result ≡ c.args.end → ⊥
more c = let a = c.args in let l = c.loop-k in get-short a.s.now a.at a.end a.n l.i (a.n - l.k) c.find-e.result l.invariant (omega arith) c.find-e.ensures (omega arith)

pub skip-i-requires : goal.skip-i-requires
skip-i-requires c = (omega (arith, more (goal.at.skip-i-requires c).After-find-e, c.find-e.ensures.high), omega arith)

pub loop-k-preserved : goal.loop-k-preserved
loop-k-preserved c =
    let a = c.args in
    let l = c.loop-k in
    get-on a.s.now a.at a.end a.n l.i (a.n - l.k) c.find-e.result l.invariant (omega arith) c.find-e.ensures c.skip-i.result (a.n - (l.k + 1)) (omega arith)
    (omega (arith, more (goal.at.loop-k-preserved c).After-find-e, c.find-e.ensures.high)) c.skip-i.ensures

pub read-requires : goal.read-requires
read-requires c =
    let a = c.args in
    let l = c.loop-k in
    (omega arith, omega arith, get-number a.s.now a.at a.end a.n l.i (a.n - l.k) c.find-e-2.result l.invariant (omega arith) c.find-e-2.ensures)

pub returns : goal.returns
returns c =
    let a = c.args in
    let l = c.loop-k in
    c.read.ensures ∙ get-here a.s.now a.at a.end a.n l.i (a.n - l.k) c.find-e-2.result l.invariant (omega arith) c.find-e-2.ensures (omega arith)
