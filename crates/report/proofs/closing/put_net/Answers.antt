-- `report::closing::put_net` meets its contract: the machine's count of the set bits is their sum.
use Rattle.laws.specs.Bit.{ones-bits}
use Rattle.model.specs.Grammar.{bytes}
use Rattle.model.specs.Report.{row}
use Rattle.report.proofs.closing.put_net.Goals as goal

pub put_row-requires : goal.put_row-requires
unfolding row bytes
put_row-requires c = rw (ones-bits c.args.mask c.ranges.mask.fits) c.requires.1

pub returns : goal.returns
unfolding row bytes
returns c = rw (ones-bits c.args.mask c.ranges.mask.fits) at c.put_row.ensures
