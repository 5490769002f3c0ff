-- `weigh_four`: none of the four rates higher, or each is weighed.
use Rattle.std.proofs.Common.{arith}
use Rattle.best_contraction.specs.PartnerLaw.{select_kept}
use Rattle.best_contraction.proofs.join.weigh_four.Goals as goal

pub returns-then-four_top-high : goal.returns-then-four_top-high
returns-then-four_top-high c =
    let a = c.args in
    select_kept a.acc.now a.blocks.now a.weights.now a.u a.own a.a a.limit a.y 4 a.best c.requires.best_value (λ z l h. omega (arith, c.four_top.ensures.above z l h, c.if-four_top-high.true))
