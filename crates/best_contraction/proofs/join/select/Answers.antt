use Rattle.std.proofs.Common.{ℕ, ◌-◌, ◌+◌, ◌*◌, ◌/◌, ◌≡◌, ap, ◌∙◌, get_or, arith}
use Rattle.best_contraction.specs.Rating.{fits, score_in}
use Rattle.best_contraction.specs.PartnerLaw.{top_to, select-none}
use Rattle.best_contraction.specs.declared.join.Partner.{Partner}
use Rattle.best_contraction.proofs.join.select.Goals as goal

pub loop-i-init : goal.loop-i-init
loop-i-init c =
    let a = c.args in
    let e : a.u + 0 ≡ a.u = omega arith in
    rw e (select-none a.acc.now a.blocks.now a.weights.now a.u (get_or a.blocks.now (a.u - 1) 0) c.from-a.result a.limit)

pub weigh_four-best-requires : goal.weigh_four-best-requires
weigh_four-best-requires c = record { acc_len = (omega arith, omega arith, omega arith, omega arith); best_value = c.loop-i.invariant }

pub loop-i-preserved : goal.loop-i-preserved
loop-i-preserved c =
    let e : c.args.u + 4 * c.loop-i.i + 4 ≡ c.args.u + 4 * (c.loop-i.i + 1) = omega arith in
    rw e at c.weigh_four-best.ensures

pub weigh_to-requires : goal.weigh_to-requires
weigh_to-requires c =
    let e : c.loop-i.i ≡ (c.args.n - c.args.u) / 4 = omega arith in
    record { acc_len = (omega arith, omega arith, omega arith, omega arith, omega arith); before_value = rw e at c.loop-i.invariant }

pub returns : goal.returns
returns c =
    let a = c.args in
    c.weigh_to.ensures ∙ ap {A = ℕ} {B = Partner} (λ k. top_to (score_in (fits a.blocks.now a.weights.now a.u (get_or a.blocks.now (a.u - 1) 0) k a.limit) (λ z. get_or a.acc.now z 0)) a.n) c.from-a.ensures
