-- `four_rise`: none of the four tests passed.
use Rattle.std.proofs.Common.{subst, refl, ℤ}
use Rattle.laws.specs.Integer.{read32}
use Rattle.best_move.specs.Rising.{NotBetter}
use Rattle.best_move.specs.RisingLaw.{not-better-four}
use Rattle.best_move.proofs.rising.four_rise.Goals as goal

pub returns : goal.returns
returns c =
    let a = c.args in
    λ e j l u. subst (λ (z : ℤ). NotBetter a.gains.now a.rooms.now a.row z a.weight a.own j) (read32 a.low c.ranges.low.sfits)
    (not-better-four a.gains.now a.rooms.now a.row _ a.weight a.own a.b c.may_rise.ensures c.may_rise-2.ensures c.may_rise-3.ensures c.may_rise-4.ensures
    refl refl refl e j l u)
