use Rattle.std.proofs.Common.{arith, ◌-◌, ◌≤◌}
use Rattle.laws.specs.Integer.{read32}
use Rattle.best_move.specs.Peak.{larger_max, each-begins, each-rises, each-ends}
use Rattle.best_move.proofs.peaks.set_each.Goals as goal

pub loop-x-init : goal.loop-x-init
loop-x-init c = (omega arith, omega (arith, c.requires), each-begins c.args.gains.now c.args.from c.args.k c.args.peaks.now _)

pub part_peak-top-requires : goal.part_peak-top-requires
part_peak-top-requires c = omega (arith, c.requires)

pub bounds-peaks-x : goal.bounds-peaks-x
bounds-peaks-x c = omega (arith, c.requires, c.loop-x.invariant.2.len)

pub loop-x-preserved : goal.loop-x-preserved
loop-x-preserved c =
    let l = c.loop-x in
    let a = c.args in (
      omega (arith, l.invariant.0),
      omega arith,
      each-rises a.gains.now a.from l.x a.k a.peaks.now l.peaks _ _ _ _ _ (omega (arith, c.requires)) l.invariant.0 l.invariant.2 c.part_peak-top.ensures (read32 _ c.part_peak-top.type_inv) (read32 _ c.max-peak.type_inv) (larger_max _ _ _ c.max-peak.ensures.value),
    )

pub returns : goal.returns
returns c =
    let l = c.loop-x in
    let a = c.args in
    each-ends a.gains.now a.from l.x a.to a.k a.peaks.now l.peaks _ (omega (arith, l.invariant.1)) l.invariant.2
