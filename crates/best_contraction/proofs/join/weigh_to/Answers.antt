use Rattle.std.proofs.Common.{◌≤◌, ◌-◌, ◌≡◌, ap, ◌∙◌, get_or, arith}
use Rattle.best_contraction.specs.Rating.{fits, score_in}
use Rattle.best_contraction.specs.PartnerLaw.{top_to, select-more}
use Rattle.best_contraction.proofs.join.weigh_to.Goals as goal

pub loop-y-init : goal.loop-y-init
loop-y-init c = (c.requires.acc_len.1, c.requires.before_value)

pub weigh_partner-best-requires : goal.weigh_partner-best-requires
weigh_partner-best-requires c = (omega arith, omega arith, omega arith)

pub loop-y-preserved : goal.loop-y-preserved
loop-y-preserved c =
    let l = c.loop-y in
    let a = c.args in
    (omega arith, select-more a.acc.now a.blocks.now a.weights.now a.u a.own a.a a.limit l.y l.best c.weigh_partner-best.result l.invariant.1 c.weigh_partner-best.ensures)

pub returns : goal.returns
returns c =
    let l = c.loop-y in
    let a = c.args in
    let e : l.y ≡ a.to = omega (arith, l.invariant.0) in
    l.invariant.1 ∙ ap (top_to (score_in (fits a.blocks.now a.weights.now a.u a.own a.a a.limit) (λ z. get_or a.acc.now z 0))) e
