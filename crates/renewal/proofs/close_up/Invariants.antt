-- `close_up` meets its contract: the nets below e are unmarked v.
use Rattle.std.proofs.Common.{◌≤◌}
use Rattle.renewal.specs.Taking.{TakingAll}
use Rattle.renewal.proofs.close_up.Given as goal

abbrev pub invariant-loop-e : goal.invariant-loop-e
invariant-loop-e l =
    (l.e ≤ l.m) × TakingAll l.v l.m l.e l.t l.initial.loadedpins l.loadedpins l.initial.firsts l.firsts l.initial.loadedsizes l.loadedsizes
