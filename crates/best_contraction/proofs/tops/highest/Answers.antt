-- `highest`: in the part of the highest top, the first vertex that is up to it.
use Rattle.std.proofs.Common.{ℕ, ◌-◌, ◌*◌, ◌<◌, ◌+◌, ◌/◌, ◌≡◌, get_or, arith, refl, sym, subst}
use Rattle.best_contraction.specs.PartTop.{TopOf, FirstUp, highest-of}
use Rattle.best_contraction.proofs.tops.highest.Goals as goal

pub first_up-requires : goal.first_up-requires
first_up-requires c =
    let p = c.requires in
    let part = c.highest_part-c.result in
    let h = c.highest_part-c.ensures in
    let within : 64 * (part - 1) < c.args.n = omega (arith, h.low, h.high, c.div_ceil.ensures) in
    (p.0, omega (arith, c.part_end.ensures), omega (arith, c.part_end.ensures), subst (λ (k : ℕ). TopOf c.args.bounds.now (64 * (part - 1)) k (get_or c.args.tops.now part 0)) (sym c.part_end.ensures) (p.3.top part h.low (omega (arith, h.high, c.div_ceil.ensures)) within))

pub returns : goal.returns
returns c =
    let a = c.args in
    let part = c.highest_part-c.result in
    let e : c.div_ceil.result ≡ (a.n + 63) / 64 = omega (arith, c.div_ceil.ensures) in
    highest-of a.bounds.now a.n _ part c.first_up.result a.tops.now c.requires.1 c.requires.2 refl c.requires.3 (rw e at c.highest_part-c.ensures)
    (subst (λ (k : ℕ). FirstUp a.bounds.now (64 * (part - 1)) k (get_or a.tops.now part 0) c.first_up.result) c.part_end.ensures c.first_up.ensures)
