-- `report::closing::put_lots` meets its contract. The loop's invariant: the lines of the first i vertices are written.
use Rattle.std.proofs.Common.{◌≡◌, ◌-◌, ◌≤◌, length}
use Rattle.model.specs.Catalogue.{Hypergraph}
use Rattle.model.specs.Machine.{State}
use Rattle.fields.specs.Wrote.{Wrote}
use Rattle.report.specs.Closing.{Vertices}
use Rattle.report.proofs.Rows.{lots_to}
use Rattle.report.proofs.closing.put_lots.Given as goal

abbrev pub invariant-loop-i : goal.invariant-loop-i
invariant-loop-i l = (l.i ≤ l.n) × (length l.out ≡ length l.initial.out) × ((h : Hypergraph) (s : State) → Vertices h s l.blocks l.aboves l.gone l.n l.depth → Wrote l.initial.out l.out l.at (lots_to h s l.i) l.p)
