use Rattle.std.proofs.Common.{arith, refl}
use Rattle.std.proofs.lemmas.Result.{err_from_is_err_and}
use Rattle.hall_loader.proofs.Series.{sets-start, still-wide, line-few, sets-fail, can-subtract, sets-next, sets-done}
use Rattle.hall_loader.proofs.load_catalogues.Goals as goal

pub loop-c-init : goal.loop-c-init
loop-c-init c = sets-start _ _ _ _ _ _ c.requires refl refl refl refl refl

pub load_next-requires : goal.load_next-requires
load_next-requires c =
    let on = c.loop-c.invariant in
    (on.i-le, omega (arith, line-few _ _ _ _ _ _ _ _ _ _ on), omega (arith, on.few, c.loop-c-test.true), on.within, on.whole, still-wide _ _ _ _ _ _ _ _ _ _ on)

pub returns-in_err-catalogue : goal.returns-in_err-catalogue
returns-in_err-catalogue c =
    let p = err_from_is_err_and c.from_residual.result c.from_residual.ensures.1 in
    rw (p.1, p.2) (sets-fail _ _ _ _ _ _ _ _ _ _ c.loop-c.invariant c.loop-c-test.true _ _ c.load_next.ensures _ c.in_err-catalogue.was)

pub left-limits-requires : goal.left-limits-requires
left-limits-requires c = can-subtract _ _ _ _ _ _ _ _ _ _ c.loop-c.invariant c.loop-c-test.true _ _ c.load_next.ensures _ c.in_ok-catalogue.was

pub loop-c-preserved : goal.loop-c-preserved
loop-c-preserved c =
    sets-next _ _ _ _ _ _ _ _ _ _ c.loop-c.invariant c.loop-c-test.true _ _ c.load_next.ensures _ c.in_ok-catalogue.was _ c.left-limits.ensures

pub returns : goal.returns
returns c =
    let on = c.loop-c.invariant in
    sets-done _ _ _ _ _ _ _ _ _ _ on (omega (arith, on.c-le, c.loop-c-test.false))
