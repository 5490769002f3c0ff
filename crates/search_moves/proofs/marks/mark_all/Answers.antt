use Rattle.search_moves.specs.Rows.{marked-by-row}
use Rattle.search_moves.proofs.marks.mark_all.Goals as goal

pub mark_row-requires : goal.mark_row-requires
mark_row-requires c =
    (c.requires.0, (c.requires.4 c.if-limit-presentsizes.true).fit)

pub returns-then-limit-presentsizes : goal.returns-then-limit-presentsizes
returns-then-limit-presentsizes c =
    (marked-by-row (c.requires.4 c.if-limit-presentsizes.true) c.mark_row.ensures.0, c.mark_row.ensures.1)

pub mark_pins-requires : goal.mark_pins-requires
mark_pins-requires c =
    (c.requires.0, rw (c.from.ensures, c.from-2.ensures) c.requires.3)

pub returns : goal.returns
returns c =
    rw (c.from.ensures, c.from-2.ensures) at c.mark_pins.ensures
