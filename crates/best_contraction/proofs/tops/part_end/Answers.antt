-- `part_end`: the smaller of the two.
use Rattle.std.proofs.Common.{arith}
use Rattle.best_contraction.specs.PartTop.{cut-end}
use Rattle.best_contraction.proofs.tops.part_end.Goals as goal

pub returns : goal.returns
returns c =
    let a = c.args in
    cut-end a.c a.n c.min.result (record { left = omega (arith, c.min.ensures); right = omega (arith, c.min.ensures); same = λ h. omega (arith, c.min.ensures, h) })
