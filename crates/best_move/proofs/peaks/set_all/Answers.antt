use Rattle.std.proofs.Common.{arith, refl, ◌-◌, ◌≤◌}
use Rattle.laws.specs.Integer.{read32}
use Rattle.best_move.specs.Peak.{level-begins, level-more, level-ends}
use Rattle.best_move.proofs.peaks.set_all.Goals as goal

pub loop-x-init : goal.loop-x-init
loop-x-init c = (omega arith, omega (arith, c.requires), level-begins c.args.from _ c.args.peaks.now)

pub bounds-peaks-x : goal.bounds-peaks-x
bounds-peaks-x c = omega (arith, c.requires, c.loop-x.invariant.2.len)

pub loop-x-preserved : goal.loop-x-preserved
loop-x-preserved c =
    let l = c.loop-x in
    let a = c.args in
    (omega (arith, l.invariant.0), omega arith, level-more a.from l.x _ _ a.peaks.now l.peaks (omega (arith, c.requires)) l.invariant.0 refl l.invariant.2)

pub returns : goal.returns
returns c =
    let l = c.loop-x in
    let a = c.args in
    level-ends a.from l.x a.to a.peak _ a.peaks.now l.peaks (omega (arith, l.invariant.1)) (read32 a.peak c.ranges.peak.sfits) l.invariant.2
