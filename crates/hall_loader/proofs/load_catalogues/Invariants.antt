-- `hall_loader::load_catalogues` meets its contract.
use Rattle.hall_loader.specs.Sets.{sets}
use Rattle.hall_loader.proofs.Series.{OnSets}
use Rattle.hall_loader.proofs.load_catalogues.Given as goal

abbrev pub invariant-loop-c : goal.invariant-loop-c
invariant-loop-c l =
    OnSets l.s l.at l.count (sets l.initial.weights l.initial.blocks l.initial.aboves l.initial.fixed l.initial.loadedpins l.initial.presentpins l.initial.firsts l.initial.loadedsizes l.initial.presentsizes l.initial.netweights l.initial.lows) (sets l.weights l.blocks l.aboves l.fixed l.loadedpins l.presentpins l.firsts l.loadedsizes l.presentsizes l.netweights l.lows) l.sizes l.limits l.i l.line l.c
