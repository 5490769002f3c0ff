-- `passes::put_nets` meets its contract. The invariant: the lines of the edges from the k-th on are still to be written.
use Rattle.passes.proofs.Tables.{OnNets}
use Rattle.passes.proofs.put_nets.Given as goal

abbrev pub invariant-loop-k : goal.invariant-loop-k
invariant-loop-k l = OnNets l.weighted l.s l.at l.n l.initial.out l.p l.out l.i l.q l.k
