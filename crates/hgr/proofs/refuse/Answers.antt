-- `hgr::refuse` meets its contract.
use Rattle.std.proofs.Common.{arith}
use Rattle.model.specs.Grammar.{bytes}
use Rattle.model.specs.Report.{row}
use Rattle.hgr.proofs.refuse.Goals as goal

pub put_row-n-requires : goal.put_row-n-requires
unfolding row bytes
put_row-n-requires c =
    rw c.number-code.ensures (omega (arith, c.requires))

pub returns : goal.returns
unfolding row bytes
returns c = (c.number-code.ensures, rw c.number-code.ensures at c.put_row-n.ensures)
