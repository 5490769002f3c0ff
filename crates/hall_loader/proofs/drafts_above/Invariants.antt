-- `hall_loader::drafts_above` meets its contract.
use Rattle.hall_loader.proofs.Weighing.{OnAbove}
use Rattle.hall_loader.proofs.drafts_above.Given as goal

abbrev pub invariant-loop-t : goal.invariant-loop-t
invariant-loop-t l = OnAbove l.count l.limit l.sizes l.weights l.blocks l.t
