-- `stretches::part` meets its contract.
use Rattle.std.proofs.Common.{arith, ℕ, ◌+◌, ◌-◌, ◌≡◌, ap, take, drop}
use Rattle.stretches.proofs.part.Goals as goal

pub returns : goal.returns
returns c =
    let a = c.args in
    let inside : a.first + a.size - a.first ≡ a.size = omega arith in
    ap (λ (n : ℕ). take n (drop a.first a.table.now)) inside
