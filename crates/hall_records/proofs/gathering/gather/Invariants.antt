-- `hall_records::gathering::gather` meets its contract. The invariant: the records of all places below k where a lot stands are gathered. Assumes nothing.
use Rattle.std.proofs.Common.{◌≡◌, ◌∙◌, ◌≤◌, ◌<◌, ◌-◌, length}
use Rattle.hall_records.specs.Gathered.{Gathered}
use Rattle.hall_records.proofs.gathering.gather.Given as goal

abbrev pub invariant-loop-k : goal.invariant-loop-k
invariant-loop-k l =
    (l.k ≤ 4096) × (length l.places ≡ 4096) × (length l.lots ≡ 4096) × Gathered l.counts l.weights l.blocks l.aboves l.fixed l.k l.n l.places l.lots
