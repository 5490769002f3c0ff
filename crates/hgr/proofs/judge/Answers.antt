-- `hgr::judge` meets its contract.
use Rattle.std.proofs.Common.{arith}
use Rattle.std.proofs.lemmas.Bool.{not-true, not-false}
use Rattle.hgr.proofs.Whole.{judged-carried, judged-listed, judged-full, judged-long, judged-good}
use Rattle.hgr.proofs.judge.Goals as goal

pub returns-then-not-p : goal.returns-then-not-p
returns-then-not-p c = let a = c.args in λ s sound seen. judged-carried s a.p sound _ _ seen (not-true _ c.if-not-p.true)

pub returns-then-not-p-2 : goal.returns-then-not-p-2
returns-then-not-p-2 c =
    let a = c.args in λ s sound seen. judged-listed s a.p sound _ _ seen (not-false _ c.if-not-p.false) (not-true _ c.if-not-p-2.true)

pub returns-then-overfull : goal.returns-then-overfull
returns-then-overfull c =
    let a = c.args in λ s sound seen. judged-full s a.p sound _ _ seen (not-false _ c.if-not-p.false) (not-false _ c.if-not-p-2.false) c.overfull.result c.overfull.ensures c.if-overfull.true

pub returns-then-length_of-gt60000 : goal.returns-then-length_of-gt60000
returns-then-length_of-gt60000 c =
    let a = c.args in λ s sound seen. judged-long s a.p sound _ _ seen (not-false _ c.if-not-p.false) (not-false _ c.if-not-p-2.false) c.overfull.result c.overfull.ensures c.if-overfull.false c.length_of.result c.length_of.ensures c.if-length_of-gt60000.true

pub returns : goal.returns
returns c =
    let a = c.args in λ s sound seen. judged-good s a.p sound _ _ seen (not-false _ c.if-not-p.false) (not-false _ c.if-not-p-2.false) c.overfull.result c.overfull.ensures c.if-overfull.false c.length_of.result c.length_of.ensures (omega (arith, c.if-length_of-gt60000.false))
