use Rattle.std.proofs.Common.{arith, ◌≡◌, ap, ℕ, ◌+◌, ◌-◌, take, drop}
use Rattle.call_list.proofs.buyers_of.Goals as goal

pub returns : goal.returns
returns c =
    let a = c.args in
    let same : a.x + a.y - (a.x + 2) ≡ a.y - 2 = omega (arith, c.requires) in
    ap (λ (n : ℕ). take n (drop (a.x + 2) a.operands.now)) same
