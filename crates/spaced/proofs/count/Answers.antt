use Rattle.std.proofs.Common.{sym, ◌∙◌, arith}
use Rattle.spaced.proofs.Words.{numbers-counted, count-bad, count-last, count-on}
use Rattle.spaced.proofs.count.Goals as goal

pub loop-at-init : goal.loop-at-init
loop-at-init c = let a = c.args in (omega arith, omega arith, numbers-counted _)

pub returns-then-not-is_number : goal.returns-then-not-is_number
returns-then-not-is_number c =
    let a = c.args in
    let l = c.loop-at in
    sym (l.invariant.2 ∙ count-bad a.s.now l.i a.end c.find-e.result l.k (omega arith) (omega arith) c.find-e.ensures (sym c.is_number.ensures ∙ c.if-not-is_number.true))

pub returns-then-e-end : goal.returns-then-e-end
returns-then-e-end c =
    let a = c.args in
    let l = c.loop-at in
    sym (l.invariant.2 ∙ count-last a.s.now l.i a.end c.find-e.result l.k (omega arith) (omega arith) c.find-e.ensures (sym c.is_number.ensures ∙ c.if-not-is_number.false) c.if-e-end.true)

pub loop-at-preserved : goal.loop-at-preserved
loop-at-preserved c =
    let a = c.args in
    let l = c.loop-at in
    (omega arith, omega arith, l.invariant.2 ∙ count-on a.s.now l.i a.end c.find-e.result l.k (omega arith) (omega arith) c.find-e.ensures (sym c.is_number.ensures ∙ c.if-not-is_number.false) c.skip-i.result (omega arith) c.skip-i.ensures)
