-- `set_row`: off the board, on it and put in order, or ranked anew.
use Rattle.std.proofs.Common.{arith, sym, ◌∙◌, rules}
use Rattle.guarantees.specs.Ranked.{ranked_by}
use Rattle.index.specs.Row.{gain_at, touched-holds, rewritten-then, written_as}
use Rattle.index.specs.Indexed.{row-off, row_on}
use Rattle.index.proofs.rows.set_row.Goals as goal

pub returns-then-own-eq0 : goal.returns-then-own-eq0
returns-then-own-eq0 c =
    let a = c.args in
    written_as (sym (row-off a.gains.now a.blocks.now a.k a.x _ c.from-own.ensures c.if-own-eq0.true)) c.clear_row.ensures

pub settle-requires : goal.settle-requires
settle-requires c =
    (search rules, omega (arith, c.if-own-eq0.false), omega (arith, c.from-own.ensures, c.requires.2))

pub shape_of-index-then-settle : goal.shape_of-index-then-settle
shape_of-index-then-settle c = c.settle.ensures.touched.len

pub returns-then-settle : goal.returns-then-settle
returns-then-settle c =
    let a = c.args in
    let own = c.from-own in
    let e = c.settle.ensures in
    written_as (sym (row_on a.gains.now a.blocks.now a.k a.x _ own.ensures c.if-own-eq0.false))
    (touched-holds (ranked_by (gain_at a.gains.now a.x) own.result a.k) e.touched (e.right c.if-settle.true))

pub rank_row-requires : goal.rank_row-requires
rank_row-requires c =
    (record { x-to = omega arith; k-to = omega arith; in-index = omega (arith, c.settle.ensures.touched.len); in-gains = omega arith }, omega (arith, c.if-own-eq0.false), omega (arith, c.from-own.ensures, c.requires.2))

pub shape_of-index : goal.shape_of-index
shape_of-index c =
    c.rank_row.ensures.len ∙ c.settle.ensures.touched.len

pub returns : goal.returns
returns c =
    let a = c.args in
    written_as (sym (row_on a.gains.now a.blocks.now a.k a.x _ c.from-own.ensures c.if-own-eq0.false))
    (rewritten-then c.settle.ensures.touched c.rank_row.ensures)
