-- `best_join`: bounds stay bounds, tops stay tops, and each rating lowers one bound or ends the search.
use Rattle.best_contraction.specs.Rating.{Blank, score_of}
use Rattle.best_contraction.specs.PartTop.{Topped}
use Rattle.best_contraction.specs.Settling.{Settling, effort}
use Rattle.best_contraction.proofs.join.best_join.Given as goal

abbrev pub invariant-loop-s : goal.invariant-loop-s
invariant-loop-s l =
    Settling (score_of l.bits l.presentpins l.firsts l.presentsizes l.net_weights l.blocks l.weights l.m l.limit) l.n l.bounds l.s.rating l.s.into l.s.gone l.s.top × Blank l.acc × Topped l.bounds l.n l.tops

abbrev pub decreases-loop-s : goal.decreases-loop-s
decreases-loop-s l = effort l.bounds l.s.into l.s.top
