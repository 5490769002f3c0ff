-- `hgr::in_range` meets its contract.
use Rattle.std.proofs.Common.{refl, sym, leb}
use Rattle.hgr.proofs.Checks.{range-is}
use Rattle.hgr.proofs.in_range.Goals as goal

pub returns : goal.returns
returns c =
    let a = c.args in
    sym (range-is a.blocks a.imbalance a.vertices a.edges _ _ _ (leb a.edges 1024) (sym c.between.ensures) (sym c.between-2.ensures) (sym c.between-3.ensures) refl)
