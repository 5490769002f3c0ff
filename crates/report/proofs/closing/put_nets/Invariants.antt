-- `report::closing::put_nets` meets its contract. The loop's invariant: the lines of the first i nets are written.
use Rattle.std.proofs.Common.{◌≡◌, ◌≤◌, length}
use Rattle.model.specs.Catalogue.{Hypergraph}
use Rattle.model.specs.Machine.{State}
use Rattle.fields.specs.Wrote.{Wrote}
use Rattle.report.specs.Closing.{Nets}
use Rattle.report.proofs.Rows.{nets_to}
use Rattle.report.proofs.closing.put_nets.Given as goal

abbrev pub invariant-loop-i : goal.invariant-loop-i
invariant-loop-i l = (l.i ≤ l.m) × (length l.out ≡ length l.initial.out) × ((h : Hypergraph) (s : State) → Nets h s l.visited l.m → Wrote l.initial.out l.out l.at (nets_to h s l.i) l.p)
