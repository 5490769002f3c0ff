-- `spaced::read_lead` meets its contract.
use Rattle.std.proofs.Common.{arith}
use Rattle.spaced.proofs.Edges.{lead_plain, lead-bad, lead-short, lead-behind}
use Rattle.spaced.proofs.read_lead.Goals as goal

pub returns-then-not-weighted : goal.returns-then-not-weighted
returns-then-not-weighted c = let a = c.args in lead_plain a.s.now a.at a.end (omega arith) a.weighted c.if-not-weighted.true

pub returns-in_err-x : goal.returns-in_err-x
returns-in_err-x c =
    let a = c.args in rw c.from_residual.ensures (lead-bad a.s.now a.at a.end (omega arith) (omega arith) a.weighted c.if-not-weighted.false c.in_err-x.ensures)

pub returns-then-e-end : goal.returns-then-e-end
returns-then-e-end c =
    let a = c.args in lead-short a.s.now a.at a.end (omega arith) (omega arith) a.weighted c.if-not-weighted.false c.in_ok-x.x.value c.in_ok-x.x.end c.in_ok-x.ensures c.if-e-end.true

pub returns : goal.returns
returns c =
    let a = c.args in
    let x = c.in_ok-x.ensures in
    lead-behind a.s.now a.at a.end (omega arith) (omega arith) a.weighted c.if-not-weighted.false c.in_ok-x.x.value c.in_ok-x.x.end x c.skip-f.result (omega (arith, x.high)) c.skip-f.ensures
