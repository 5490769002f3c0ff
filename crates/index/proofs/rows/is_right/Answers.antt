-- `is_right`: on the board, and in order.
use Rattle.std.proofs.Common.{arith, sym, ◌∙◌, ap, true≢false, get_or, rules}
use Rattle.index.specs.Indexed.{row_on}
use Rattle.index.proofs.rows.is_right.Goals as goal

pub returns-then-own-eq0 : goal.returns-then-own-eq0
returns-then-own-eq0 c = λ e. absurd (true≢false (sym e))

pub in_order-requires : goal.in_order-requires
in_order-requires c = (search rules, omega (arith, c.if-own-eq0.false), omega (arith, c.from-own.ensures, c.requires.2))

pub returns : goal.returns
returns c =
    let a = c.args in
    λ e j l. c.in_order.ensures e j l ∙ ap (λ m. get_or m j 0) (sym (row_on a.gains.now a.blocks.now a.k a.x _ c.from-own.ensures c.if-own-eq0.false))
