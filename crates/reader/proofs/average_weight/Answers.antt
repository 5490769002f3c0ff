-- `reader::average_weight` meets its contract.
use Rattle.std.proofs.Common.{arith, ap, ℕ, ◌+◌, ◌-◌, ◌/◌, div-le_self}
use Rattle.reader.proofs.average_weight.Goals as goal

pub returns : goal.returns
returns c = let a = c.args in
    let e = c.total_weight.ensures in (
      ap (λ (x : ℕ). (x + (a.k - 1)) / a.k) e.0,
      omega (arith, e.1, div-le_self (c.total_weight.result + (a.k - 1)) a.k),
    )
