-- `any_rises`: none of the four tests of four blocks passed.
use Rattle.std.proofs.Common.{subst, refl, ℤ}
use Rattle.laws.specs.Integer.{read32}
use Rattle.best_move.specs.Rising.{NotBetter}
use Rattle.best_move.specs.RisingLaw.{not-better-all}
use Rattle.best_move.proofs.rising.any_rises.Goals as goal

pub returns : goal.returns
returns c =
    let a = c.args in
    λ e j u. subst (λ (z : ℤ). NotBetter a.gains.now a.rooms.now a.row z a.weight a.own j) (read32 a.low c.ranges.low.sfits)
    (not-better-all a.gains.now a.rooms.now a.row _ a.weight a.own c.four_rise.ensures c.four_rise-2.ensures c.four_rise-3.ensures c.four_rise-4.ensures
    refl refl refl e j u)
