use Rattle.sale_list.specs.Lists.{list-long, list-odd, list-strange, list-good}
use Rattle.sale_list.proofs.check_list.Goals as goal

pub returns-then-len-gt1536 : goal.returns-then-len-gt1536
returns-then-len-gt1536 c = list-long _ _ c.if-len-gt1536.true

pub returns-then-len-ne0 : goal.returns-then-len-ne0
returns-then-len-ne0 c = list-odd _ _ c.if-len-gt1536.false c.if-len-ne0.true

pub returns-then-not-are_entries : goal.returns-then-not-are_entries
returns-then-not-are_entries c = list-strange _ _ c.if-len-gt1536.false c.if-len-ne0.false c.are_entries.ensures c.if-not-are_entries.true

pub returns : goal.returns
returns c = list-good _ _ c.if-len-gt1536.false c.if-len-ne0.false c.are_entries.ensures c.if-not-are_entries.false
