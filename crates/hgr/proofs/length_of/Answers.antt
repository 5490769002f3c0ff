-- `hgr::length_of` meets its contract.
use Rattle.std.proofs.Common.{arith}
use Rattle.hgr.proofs.Whole.{sale-size}
use Rattle.hgr.proofs.length_of.Goals as goal

pub returns : goal.returns
returns c =
    let p = c.args.p in
    omega (arith, sale-size p.vertices p.edges p.blocks p.imbalance, c.width-a.ensures.0, c.width-b.ensures.0, c.width-c.ensures.0, c.width-d.ensures.0, c.lots_size-lots.ensures.0)
