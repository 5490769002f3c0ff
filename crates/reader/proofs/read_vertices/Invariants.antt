-- `reader::read_vertices` meets its contract.
use Rattle.reader.proofs.Lots.{OnLots}
use Rattle.reader.proofs.read_vertices.Given as goal

abbrev pub invariant-loop-k : goal.invariant-loop-k
invariant-loop-k l = OnLots l.line l.s l.at l.vertices l.blocks l.estimated l.initial.weights l.initial.draft l.initial.fixed l.weights l.draft l.fixed l.lows l.i l.k-counter
