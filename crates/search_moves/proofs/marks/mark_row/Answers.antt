use Rattle.std.proofs.Common.{arith, ◌≡◌, refl, ◌≤◌, ◌-◌}
use Rattle.search_moves.specs.Rows.{marked-words-none, marked-words-more, row-marked, row-nets}
use Rattle.search_moves.proofs.marks.mark_row.Goals as goal

pub loop-c-init : goal.loop-c-init
loop-c-init c = marked-words-none _ _ _

pub loop-c-preserved : goal.loop-c-preserved
loop-c-preserved c =
    marked-words-more c.loop-c.c _ c.requires.0 (omega arith) refl c.loop-c.invariant

pub returns : goal.returns
returns c =
    let whole : c.loop-c.c ≡ 16 = omega arith in
    let done = rw whole at c.loop-c.invariant in
    (row-marked done, row-nets done)
