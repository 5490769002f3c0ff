-- `add_net`: the pins seen so far have the term.
use Rattle.std.proofs.Common.{◌≤◌, ◌-◌, ◌*◌, ◌≡◌}
use Rattle.laws.specs.Occurrence.{occ}
use Rattle.best_contraction.specs.Rating.{Raised}
use Rattle.best_contraction.proofs.rating.add_net.Given as goal

abbrev pub invariant-loop-i : goal.invariant-loop-i
invariant-loop-i l = (l.i ≤ l.n) × Raised l.initial.acc l.acc (λ z. l.t * occ l.presentpins l.first l.i z)
