-- `refine`: with i contractions left, what is left to undo leads to model's end; a walk's numbers are at most 1,024, so that the sums fit.
use Rattle.std.proofs.Common.{◌+◌, ◌*◌, ◌≤◌, ◌≡◌}
use Rattle.index.specs.Indexed.{Kept}
use Rattle.operations.specs.Tables.{tables}
use Rattle.search_moves.specs.Rows.{RowsAre}
use Rattle.cycle.specs.Refine.{Refining}
use Rattle.cycle.proofs.refining.refine.Given as goal

abbrev pub invariant-loop-i : goal.invariant-loop-i
invariant-loop-i l =
    (l.f.tried + 1024 * l.i ≤ 1048576) × (l.f.kept + 1024 * l.i ≤ 1048576)
    × Refining (tables l.initial.counts l.initial.visited l.initial.gains l.initial.presentpins l.initial.presentsizes l.initial.bits l.initial.blocks l.initial.weights l.initial.aboves l.initial.loads l.netweights l.firsts l.loadedsizes l.n l.m l.k l.total) l.ceilings l.fixedmarks l.stack.into l.stack.gone l.stack.len l.i (tables l.counts l.visited l.gains l.presentpins l.presentsizes l.bits l.blocks l.weights l.aboves l.loads l.netweights l.firsts l.loadedsizes l.n l.m l.k l.f.total) l.f.tried l.f.kept
    × Kept l.n l.k l.initial.index l.index × RowsAre l.rows l.presentpins l.firsts l.presentsizes l.m
