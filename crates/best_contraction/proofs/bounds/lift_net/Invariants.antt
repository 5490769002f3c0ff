-- `lift_net`: nothing is added, or the bounds are raised by what the pins seen so far add.
use Rattle.std.proofs.Common.{◌≤◌, ◌-◌, ◌*◌, ◌≡◌}
use Rattle.laws.specs.Occurrence.{occ}
use Rattle.best_contraction.specs.Bound.{rise_at, Risen}
use Rattle.best_contraction.proofs.bounds.lift_net.Given as goal

abbrev pub invariant-loop-i : goal.invariant-loop-i
invariant-loop-i l = (l.i ≤ l.n) × Risen l.initial.bounds l.bounds (λ z. occ l.presentpins l.first l.i z * rise_at l.blocks l.u l.own l.near l.far z)
