-- `fill`: the nets below e are filled.
use Rattle.std.proofs.Common.{◌≤◌, ◌-◌}
use Rattle.first_tables.specs.Fill.{Filling}
use Rattle.first_tables.proofs.fill.Given as goal

abbrev pub invariant-loop-e : goal.invariant-loop-e
invariant-loop-e l =
    (l.e ≤ l.m) × Filling l.netweights l.presentpins l.blocks l.firsts l.presentsizes l.n l.m l.k l.e l.initial.bits l.bits l.initial.counts l.counts l.initial.visited l.visited l.initial.gains l.gains
