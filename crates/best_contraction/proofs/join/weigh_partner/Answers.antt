-- `weigh_partner`: a vertex that rates no higher, one that passes the tests, and one that fails them.
use Rattle.std.proofs.Common.{arith, sym, ◌∙◌}
use Rattle.best_contraction.specs.Rating.{fits}
use Rattle.best_contraction.specs.PartnerLaw.{weighed-low, weighed-fit, weighed-unfit}
use Rattle.best_contraction.proofs.join.weigh_partner.Goals as goal

pub returns-then-s-high : goal.returns-then-s-high
returns-then-s-high c =
    let a = c.args in
    weighed-low a.s a.y a.best (fits a.blocks.now a.weights.now a.u a.own a.a a.limit a.y) (omega (arith, c.if-s-high.true))

pub returns-then-may_join : goal.returns-then-may_join
returns-then-may_join c =
    let a = c.args in
    weighed-fit a.s a.y a.best (fits a.blocks.now a.weights.now a.u a.own a.a a.limit a.y) (sym c.may_join.ensures ∙ c.if-may_join.true) (omega (arith, c.if-s-high.false))

pub returns : goal.returns
returns c =
    let a = c.args in
    weighed-unfit a.s a.y a.best (fits a.blocks.now a.weights.now a.u a.own a.a a.limit a.y) (sym c.may_join.ensures ∙ c.if-may_join.false)
