-- `call_polish`: a polish, and no move on the journal.
use Rattle.std.proofs.Common.{arith}
use Rattle.index.specs.Indexed.{indexed-right, indexed-then}
use Rattle.search_calls.specs.Searching.{polish-rows, polish-asks, accepted-P}
use Rattle.search_calls.proofs.searching.call_polish.Goals as goal

pub polish-p-requires : goal.polish-p-requires
polish-p-requires c =
    record { polish_ok = polish-asks c.requires.ready_w; n_in_bounds = c.requires.n_in_bounds }

pub returns : goal.returns
returns c =
    record { by_index = λ aboves loaded S h ceiling qc qx. accepted-P h ceiling _ _ _ _ _ _ _ qc qx (c.polish-p.ensures.by_index aboves loaded) (record { xs-same = c.clear-cleared.ensures.0; ys-same = c.clear-cleared.ensures.1; len_is = c.clear-cleared.ensures.2 }); keeps_right = indexed-right (indexed-then c.polish-p.ensures.kept c.put_all_right.ensures) }

pub put_all_right-requires : goal.put_all_right-requires
put_all_right-requires c =
    polish-rows c.requires.ready_w c.polish-p.ensures.by_index (omega (arith, c.requires.n_in_bounds, c.polish-p.ensures.kept.len))
