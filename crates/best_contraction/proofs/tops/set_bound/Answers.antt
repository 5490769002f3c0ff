-- `set_bound`: the tops of the other parts stay.
use Rattle.std.proofs.Common.{ℕ, ◌-◌, ◌*◌, ◌/◌, set, refl, subst}
use Rattle.best_contraction.specs.PartTop.{TopOf, tops-set}
use Rattle.best_contraction.proofs.tops.set_bound.Goals as goal

pub returns : goal.returns
returns c =
    let a = c.args in
    let p = c.requires in
    let i = (a.u - 1) / 64 in
    let l = set a.bounds.now a.u a.bound in
    (refl, tops-set a.bounds.now a.n a.u a.bound i a.tops.now _ p.1 p.2 p.3 refl p.4 (subst (λ (k : ℕ). TopOf l (64 * i) k c.part_top.result) c.part_end.ensures c.part_top.ensures))
