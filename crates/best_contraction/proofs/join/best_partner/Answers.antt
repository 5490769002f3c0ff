-- `best_partner`: added up, weighed, cleared.
use Rattle.std.proofs.Common.{arith}
use Rattle.best_contraction.specs.RatingLaw.{row_ok}
use Rattle.best_contraction.specs.JoinLaw.{partner-law}
use Rattle.best_contraction.proofs.join.best_partner.Goals as goal

pub accumulate-requires : goal.accumulate-requires
accumulate-requires c =
    let p = c.requires in record { row_ok = row_ok p.tables_ok; blank = (p.blank.0, p.blank.1, omega (arith, p.blank, p.tables_ok.rows)) }

pub select-best-requires : goal.select-best-requires
select-best-requires c =
    let p = c.requires in record { acc_len = (c.accumulate.ensures.len, p.blank.1, p.blank.2, p.tables_ok.vertices); n_in_bounds = (p.tables_ok.in_blocks, p.blank.3) }

pub clear-requires : goal.clear-requires
clear-requires c =
    (c.accumulate.ensures.len, c.requires.tables_ok.vertices)

pub returns : goal.returns
returns c =
    let a = c.args in
    let p = c.requires in
    partner-law a.bits.now a.presentpins.now a.firsts.now a.presentsizes.now a.net_weights.now a.blocks.now a.weights.now a.m a.n a.limit a.u p.tables_ok _ _ _ c.accumulate.ensures c.select-best.ensures c.clear.ensures
