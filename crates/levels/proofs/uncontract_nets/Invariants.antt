-- `uncontract_nets`: the nets below e are split.
use Rattle.std.proofs.Common.{◌≤◌, ◌<◌, ◌-◌, ◌≡◌}
use Rattle.incidence.specs.On.{on}
use Rattle.levels.specs.Uncontract.{UncontractingAll}
use Rattle.levels.proofs.uncontract_nets.Given as goal

abbrev pub invariant-loop-e : goal.invariant-loop-e
invariant-loop-e l =
    (l.e ≤ l.m) × (l.e < l.m → on l.bits l.v l.e ≡ 1) × UncontractingAll l.netweights l.blocks l.firsts l.loadedsizes l.n l.m l.k l.u l.v l.e l.initial.presentpins l.presentpins l.initial.presentsizes l.presentsizes l.initial.bits l.bits l.initial.counts l.counts l.initial.visited l.visited l.initial.gains l.gains

abbrev pub decreases-loop-e : goal.decreases-loop-e
decreases-loop-e l =
    l.m - l.e
