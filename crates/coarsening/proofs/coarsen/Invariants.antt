-- `coarsen`: what is left to contract leads to model's end, and nothing is left once no vertex has to leave the board; bounds stay bounds.
use Rattle.std.proofs.Common.{ℕ, ◌-◌, ◌≡◌, List}
use Rattle.operations.specs.Tables.{tables}
use Rattle.best_contraction.specs.Rating.{Blank, score_of}
use Rattle.best_contraction.specs.Bound.{Bounded}
use Rattle.coarsening.specs.Coarsen.{locals, Going}
use Rattle.coarsening.proofs.coarsen.Given as goal

abbrev pub invariant-loop : goal.invariant-loop
invariant-loop l =
    ((loads loaded : List ℕ) → Going (tables l.initial.counts l.initial.visited l.initial.gains l.initial.presentpins l.initial.presentsizes l.initial.bits l.initial.blocks l.initial.weights l.initial.aboves loads l.netweights l.firsts loaded l.size.n l.size.m l.size.k l.total) l.initial.joinblocks l.initial.joins.into l.initial.joins.gone l.initial.joins.len l.size.average (tables l.counts l.visited l.gains l.presentpins l.presentsizes l.bits l.blocks l.weights l.aboves loads l.netweights l.firsts loaded l.size.n l.size.m l.size.k l.total) (locals l.joins.into l.joins.gone l.joins.len (l.many - l.counter) l.joinblocks))
    × Blank l.acc
    × Bounded (score_of l.bits l.presentpins l.firsts l.presentsizes l.netweights l.joinblocks l.weights l.size.m l.size.average) l.size.n l.bounds
