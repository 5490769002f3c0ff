-- `spread` meets its contract: the nets from e on have the vertex where they are named.
use Rattle.std.proofs.Common.{◌≤◌}
use Rattle.renewal.specs.Putting.{PuttingAll}
use Rattle.renewal.proofs.spread.Given as goal

abbrev pub invariant-loop-e : goal.invariant-loop-e
invariant-loop-e l =
    (l.e ≤ l.m) × PuttingAll l.named l.v l.m l.e l.t l.initial.loadedpins l.loadedpins l.initial.firsts l.firsts l.initial.loadedsizes l.loadedsizes
