use Rattle.std.proofs.Common.{ℕ, ◌≤◌, List}
use Rattle.operations.specs.Lent.{lent_on}
use Rattle.walk.specs.Back.{Rewinding}
use Rattle.walk.proofs.walks.rewind.Given as goal

abbrev pub invariant-loop-j : goal.invariant-loop-j
invariant-loop-j l =
    (l.kept ≤ l.j)
    × ((aboves loaded : List ℕ) → Rewinding (lent_on l.initial.counts l.initial.visited l.initial.gains l.initial.blocks l.initial.loads l.board l.total aboves loaded) l.movers l.origins l.tried l.kept l.j (lent_on l.counts l.visited l.gains l.blocks l.loads l.board l.t aboves loaded))
