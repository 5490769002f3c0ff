-- `spaced::read_if_number` meets its contract.
use Rattle.std.proofs.Common.{sym, ◌∙◌, arith}
use Rattle.spaced.proofs.read_if_number.Goals as goal

pub read-requires : goal.read-requires
read-requires c = (omega arith, omega arith, sym c.is_number.ensures ∙ c.if-not-is_number.false)

pub returns : goal.returns
returns c = (sym c.is_number.ensures ∙ c.if-not-is_number.false, c.read.ensures)
