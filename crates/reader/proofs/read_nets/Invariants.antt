-- `reader::read_nets` meets its contract.
use Rattle.reader.proofs.NetLines.{OnBuys}
use Rattle.reader.proofs.read_nets.Given as goal

abbrev pub invariant-loop-j : goal.invariant-loop-j
invariant-loop-j l = OnBuys l.last l.s l.at l.most l.vertices l.nets l.initial.firsts l.initial.loadedsizes l.initial.loadedpins l.netweights l.firsts l.loadedsizes l.loadedpins l.stamps l.i l.j-counter l.m
