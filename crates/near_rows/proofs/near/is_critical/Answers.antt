-- `is_critical`: answers no only where the net has more than one pin in the block left and more than two in the block reached.
use Rattle.std.proofs.Common.{arith, ap, leb-false, ℕ, ◌+◌, ◌*◌, ◌-◌, get_or}
use Rattle.near_rows.proofs.near.is_critical.Goals as goal

pub returns : goal.returns
returns c =
    let a = c.args in
    λ q. (
      omega (arith, ap (λ (z : ℕ). get_or a.counts.now (16 * a.e + (z - 1)) 0) c.from.ensures),
      omega (arith, ap (λ (z : ℕ). get_or a.counts.now (16 * a.e + (z - 1)) 0) c.from-2.ensures, leb-false (get_or a.counts.now (16 * a.e + (c.from-2.result - 1)) 0) _ q),
    )
