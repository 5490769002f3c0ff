-- `hall_loader::draft_bales` meets its contract.
use Rattle.hall_loader.proofs.Weighing.{OnBales}
use Rattle.hall_loader.proofs.draft_bales.Given as goal

abbrev pub invariant-loop-c : goal.invariant-loop-c
invariant-loop-c l = OnBales l.count l.t l.sizes l.weights l.blocks l.bales l.c
