-- `lift`: the bounds are raised by what the nets seen so far add; then u and v are set apart.
use Rattle.std.proofs.Common.{◌-◌}
use Rattle.incidence.specs.On.{Along}
use Rattle.best_contraction.specs.Bound.{rise_of, Risen}
use Rattle.best_contraction.proofs.bounds.lift.Given as goal

abbrev pub invariant-loop-e : goal.invariant-loop-e
invariant-loop-e l =
    let i = l.e-iterator in
    Along l.bits (l.v - 1) l.m i.bits.now i.x i.m i.at × Risen l.initial.bounds l.bounds (rise_of l.bits l.presentpins l.firsts l.presentsizes l.net_weights l.blocks i.at l.u l.v)
