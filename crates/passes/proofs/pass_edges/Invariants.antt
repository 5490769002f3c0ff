-- `passes::pass_edges` meets its contract. The invariant: k edges are passed over, and what they say with the others is what all say.
use Rattle.passes.proofs.Tables.{OnEdges}
use Rattle.passes.proofs.pass_edges.Given as goal

abbrev pub invariant-loop-k : goal.invariant-loop-k
invariant-loop-k l = OnEdges l.weighted l.s l.at l.n l.vertices l.stamps l.i l.k l.good l.pins l.size
