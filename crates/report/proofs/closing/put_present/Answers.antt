-- `report::closing::put_present` meets its contract.
use Rattle.std.proofs.Common.{arith, ap, length}
use Rattle.report.proofs.Rows.{line-none, line-some, line_wrote}
use Rattle.report.proofs.closing.put_present.Goals as goal

pub returns-then-block-eq0 : goal.returns-then-block-eq0
returns-then-block-eq0 c = line-none _ _ c.if-block-eq0.true

pub put_lot-requires : goal.put_lot-requires
put_lot-requires c =
    let p = c.requires in
    (p.0, omega (arith, p.1, ap length (line-some c.args.i c.args.block c.if-block-eq0.false)))

pub returns : goal.returns
returns c = line_wrote _ _ c.if-block-eq0.false c.put_lot.ensures
