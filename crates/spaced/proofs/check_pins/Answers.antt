use Rattle.std.proofs.Common.{refl, arith}
use Rattle.spaced.proofs.Edges.{pins-start, pins-stop, pins-last, pins-on}
use Rattle.spaced.proofs.check_pins.Goals as goal

pub loop-x-init : goal.loop-x-init
loop-x-init c = let a = c.args in pins-start a.s.now a.at a.end a.vertices a.j a.stamps.now (omega arith) c.requires.4 c.requires.5

pub returns-in_err-x : goal.returns-in_err-x
returns-in_err-x c =
    let a = c.args in let l = c.loop-x in rw c.from_residual.ensures (pins-stop a.s.now a.at a.end a.vertices a.j l.stamps l.i l.n l.good l.size l.invariant (omega arith) c.in_err-x.ensures)

pub returns-then-e-end : goal.returns-then-e-end
returns-then-e-end c =
    let a = c.args in let l = c.loop-x in pins-last a.s.now a.at a.end a.vertices a.j l.stamps l.i l.n l.good l.size l.invariant (omega arith) c.in_ok-x.x.value c.in_ok-x.x.end c.in_ok-x.ensures c.stamp-good.result _ c.stamp-good.ensures _ refl c.width.result c.width.ensures.0 c.width.ensures.1 c.if-e-end.true

pub loop-x-preserved : goal.loop-x-preserved
loop-x-preserved c =
    let a = c.args in let l = c.loop-x in let x = c.in_ok-x.ensures in pins-on a.s.now a.at a.end a.vertices a.j l.stamps l.i l.n l.good l.size l.invariant (omega arith) c.in_ok-x.x.value c.in_ok-x.x.end x c.stamp-good.result _ c.stamp-good.ensures _ refl c.width.result c.width.ensures.0 c.width.ensures.1 c.skip-i.result (omega (arith, x.high)) c.skip-i.ensures
