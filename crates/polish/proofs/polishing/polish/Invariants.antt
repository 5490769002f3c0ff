use Rattle.std.proofs.Common.{◌≡◌, ℕ, ◌≤◌, ◌-◌, List}
use Rattle.index.specs.Indexed.{Kept}
use Rattle.best_move.specs.Peak.{Peaked}
use Rattle.search_moves.specs.Lent.{lent}
use Rattle.polish.specs.Polished.{Passing}
use Rattle.polish.proofs.polishing.polish.Given as goal

abbrev pub invariant-passes : goal.invariant-passes
invariant-passes l =
    (l.p.moves ≤ l.total)
    × ((aboves loaded : List ℕ) → Passing (lent l.initial.counts l.initial.visited l.initial.gains l.initial.blocks l.initial.loads l.presentpins l.presentsizes l.bits l.weights l.netweights l.firsts l.n l.m l.k l.total aboves loaded) l.marks l.ceilings (lent l.counts l.visited l.gains l.blocks l.loads l.presentpins l.presentsizes l.bits l.weights l.netweights l.firsts l.n l.m l.k l.p.total aboves loaded) (l.total - l.p.moves) l.p.moves)
    × Peaked l.gains l.peaks l.n l.k
    × Kept l.n l.k l.initial.index l.index

abbrev pub decreases-passes : goal.decreases-passes
decreases-passes l = l.total - l.p.moves
