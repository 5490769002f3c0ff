-- `four_top`: the larger of the tops of two and two.
use Rattle.best_contraction.specs.PartTop.{larger-max, top-four}
use Rattle.best_contraction.proofs.tops.four_top.Goals as goal

pub returns : goal.returns
returns c =
    let a = c.args in
    top-four a.table.now a.y _ _ _ (larger-max _ _ _ c.max.ensures) (larger-max _ _ _ c.max-2.ensures) (larger-max _ _ _ c.max-3.ensures)
