-- `weigh_to`: the best of the vertices up to y.
use Rattle.std.proofs.Common.{◌≤◌, ◌-◌, ◌≡◌, ◌∙◌, get_or}
use Rattle.best_contraction.specs.Rating.{fits, score_in}
use Rattle.best_contraction.specs.PartnerLaw.{top_to}
use Rattle.best_contraction.proofs.join.weigh_to.Given as goal

abbrev pub invariant-loop-y : goal.invariant-loop-y
invariant-loop-y l = (l.y ≤ l.to) × (l.best ≡ top_to (score_in (fits l.blocks l.weights l.u l.own l.a l.limit) (λ z. get_or l.acc z 0)) l.y)
