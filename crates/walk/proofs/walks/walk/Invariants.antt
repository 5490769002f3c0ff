use Rattle.std.proofs.Common.{◌≡◌, ◌∙◌, ℕ, ◌≤◌, ◌-◌, List}
use Rattle.index.specs.Indexed.{Kept}
use Rattle.best_move.specs.Peak.{Peaked}
use Rattle.search_moves.specs.Lent.{lent}
use Rattle.walk.specs.Steps.{locals, Going}
use Rattle.walk.specs.Whole.{HasWalk}
use Rattle.walk.proofs.walks.walk.Given as goal

abbrev pub invariant-turns : goal.invariant-turns
invariant-turns l =
    (l.s.tried ≤ l.n)
    × HasWalk (lent l.initial.counts l.initial.visited l.initial.gains l.initial.blocks l.initial.loads l.presentpins l.presentsizes l.bits l.weights l.netweights l.firsts l.n l.m l.k l.total)
    (locals l.initial.marks l.initial.movers l.initial.origins l.initial.s.tried l.initial.s.prefix.kept l.initial.s.prefix.low l.initial.s.prefix.heaviest)
    × ((aboves loaded : List ℕ) → Going
    (lent l.initial.counts l.initial.visited l.initial.gains l.initial.blocks l.initial.loads l.presentpins l.presentsizes l.bits l.weights l.netweights l.firsts l.n l.m l.k l.total aboves loaded)
    (locals l.initial.marks l.initial.movers l.initial.origins l.initial.s.tried l.initial.s.prefix.kept l.initial.s.prefix.low l.initial.s.prefix.heaviest) l.ceilings l.s.tried
    (lent l.counts l.visited l.gains l.blocks l.loads l.presentpins l.presentsizes l.bits l.weights l.netweights l.firsts l.n l.m l.k l.s.total aboves loaded)
    (locals l.marks l.movers l.origins l.s.tried l.s.prefix.kept l.s.prefix.low l.s.prefix.heaviest))
    × Peaked l.gains l.peaks l.n l.k
    × Kept l.n l.k l.initial.index l.index

abbrev pub decreases-turns : goal.decreases-turns
decreases-turns l = l.n - l.s.tried
