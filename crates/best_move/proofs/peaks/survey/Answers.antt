use Rattle.std.proofs.Common.{arith, sym, subst, ◌*◌, ℤ}
use Rattle.laws.specs.Integer.{read32}
use Rattle.best_move.specs.Peak.{PartSet, survey-begins, survey-rises, survey-ends}
use Rattle.best_move.proofs.peaks.survey.Goals as goal

pub loop-c-init : goal.loop-c-init
loop-c-init c = survey-begins c.args.gains.now c.args.n c.args.k c.args.peaks.now c.requires.0

pub set_part-requires : goal.set_part-requires
set_part-requires c =
    omega (arith, c.min.ensures, c.div_ceil-c-end.ensures, c.loop-c.invariant.len, c.requires)

pub bounds-peaks-c : goal.bounds-peaks-c
bounds-peaks-c c = omega (arith, c.loop-c.invariant.len, c.set_part.ensures.len, c.div_ceil-c-end.ensures, c.requires)

pub loop-c-preserved : goal.loop-c-preserved
loop-c-preserved c =
    let a = c.args in
    survey-rises a.gains.now a.n a.k c.loop-c.c c.min.result c.loop-c.peaks _ _ (omega (arith, c.div_ceil-c-end.ensures, c.requires)) (omega (arith, c.requires)) (omega (arith, c.min.ensures)) c.loop-c.invariant
    (subst (λ (z : ℤ). PartSet a.gains.now (64 * c.loop-c.c) c.min.result a.k c.loop-c.peaks c.set_part.new.peaks z) (sym (read32 _ c.set_part.type_inv)) c.set_part.ensures)

pub returns : goal.returns
returns c =
    let a = c.args in
    survey-ends a.gains.now a.n a.k c.loop-c.c c.loop-c.peaks (omega (arith, c.div_ceil-c-end.ensures)) c.loop-c.invariant
