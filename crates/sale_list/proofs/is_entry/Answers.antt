use Rattle.std.proofs.Common.{ap, not, ne_eqb, ◌∙◌}
use Rattle.sale_list.specs.Lists.{entry-letter, entry_other, entry-late}
use Rattle.sale_list.proofs.is_entry.Goals as goal

pub returns-then-letter-ne-N : goal.returns-then-letter-ne-N
returns-then-letter-ne-N c =
    let a = c.args in
    ap not (ne_eqb a.letter 78 c.if-letter-ne-N.true) ∙ entry_other a.operands a.letter a.x a.y c.is_letter.ensures (ap not c.if-is_letter.true) c.if-letter-ne-N.true

pub returns-else-letter-ne-N : goal.returns-else-letter-ne-N
returns-else-letter-ne-N c =
    let a = c.args in
    entry-late a.operands a.letter a.x a.y c.is_letter.ensures (ap not c.if-is_letter.true) c.if-letter-ne-N.false c.is_stretch.ensures

pub returns-else-is_letter : goal.returns-else-is_letter
returns-else-is_letter c =
    let a = c.args in
    c.if-is_letter.false ∙ entry-letter a.operands a.letter a.x a.y c.is_letter.ensures (ap not c.if-is_letter.false)
