-- `select`: the best of the vertices of i fours behind u, then of the rest.
use Rattle.std.proofs.Common.{◌+◌, ◌*◌, ◌≡◌, get_or}
use Rattle.best_contraction.specs.Rating.{fits, score_in}
use Rattle.best_contraction.specs.PartnerLaw.{top_to}
use Rattle.best_contraction.proofs.join.select.Given as goal

abbrev pub invariant-loop-i : goal.invariant-loop-i
invariant-loop-i l = l.best ≡ top_to (score_in (fits l.blocks l.weights l.u l.own l.a l.limit) (λ z. get_or l.acc z 0)) (l.u + 4 * l.i)
