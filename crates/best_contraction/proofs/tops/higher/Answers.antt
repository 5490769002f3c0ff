-- `higher`: the part is chosen where its top is the higher one.
use Rattle.std.proofs.Common.{inl, inr, refl, arith}
use Rattle.best_contraction.proofs.tops.higher.Goals as goal

pub returns-then-high-bound : goal.returns-then-high-bound
returns-then-high-bound c = inl (omega arith, refl, refl)

pub returns : goal.returns
returns c = inr (omega arith, refl, refl)
