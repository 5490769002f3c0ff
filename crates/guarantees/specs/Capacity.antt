-- The cap: to the nearest, so it is between ⌈W/k⌉ and twice that (average-capacity, capacity-twice), and it does not fall where W grows
-- (capacity-grows). Rests on model's Catalogue. Assumes nothing.
use Rattle.std.specs.Prelude.{ℕ, zero, suc, ◌+◌, ◌-◌, ◌*◌, ◌/◌, ◌%◌, ◌≤◌, ◌<◌, ◌≡◌, refl, Bool, true, false, cond, eqb, ltb}
use Rattle.std.proofs.Math.Decide.{ℕ_discrete}
use Rattle.std.proofs.Common.{mul-le-mul, mul-le-mul_right, div-mul-le_self, le-div_iff_mul-le, arith, sym, ap, ltb-true, ltb-false, eqb-true}
use Rattle.std.proofs.lemmas.Bool.{eqb-false}
use Rattle.model.specs.Catalogue.{Hypergraph, average_weight, nearest, capacity}

-- n is x thousandths to within a half
pub record Near (x n : ℕ) : Type 0 where
  pub high : 1000 * n ≤ x + 500
  pub low : x ≤ 1000 * n + 500

pub near : (x : ℕ) → Near x (nearest x)
unfolding nearest
near x = go (ltb (x % 1000) 500) refl (eqb (x % 1000) 500) refl
  where
    go : (b : Bool) → ltb (x % 1000) 500 ≡ b → (c : Bool) → eqb (x % 1000) 500 ≡ c → Near x (cond b (x / 1000) (cond c (x / 1000 + x / 1000 % 2) (x / 1000 + 1)))
    go true p c q = let l : x % 1000 < 500 = ltb-true _ _ p in record { high = omega arith; low = omega arith }
    go false p true q = let e : x % 1000 ≡ 500 = eqb-true _ _ q in record { high = omega arith; low = omega arith }
    go false p false q = let l : 500 ≤ x % 1000 = ltb-false _ _ p in record { high = omega arith; low = omega arith }

pub nearest-le : (x n : ℕ) → x ≤ 1000 * n → nearest x ≤ n
nearest-le x n l = omega (arith, (near x).high)

pub nearest-from : (x n : ℕ) → 1000 * n ≤ x → n ≤ nearest x
nearest-from x n l = omega (arith, (near x).low)

-- what is rounded does not fall where it grows
nearest-grows : (x y : ℕ) → x ≤ y → nearest x ≤ nearest y
nearest-grows x y l = go (ℕ_discrete x y)
  where
    go : Dec (x ≡ y) → nearest x ≤ nearest y
    go (yes e) = omega (arith, ap nearest e)
    go (no n) = omega (arith, (near x).high, (near y).low)

pub average-capacity : (h : Hypergraph) → average_weight h ≤ capacity h
unfolding capacity
average-capacity h =
    let l : 1000 ≤ 1000 + h.imbalance = omega arith in
    nearest-from ((1000 + h.imbalance) * average_weight h) (average_weight h) (mul-le-mul_right (average_weight h) l)

pub capacity-twice : (h : Hypergraph) → h.imbalance ≤ 1000 → capacity h ≤ 2 * average_weight h
unfolding capacity
capacity-twice h u =
    let l : 1000 + h.imbalance ≤ 2000 = omega arith in
    nearest-le ((1000 + h.imbalance) * average_weight h) (2 * average_weight h) (omega (arith, mul-le-mul_right (average_weight h) l))

div_grows : (x y k : ℕ) → 1 ≤ k → x ≤ y → x / k ≤ y / k
div_grows x y k p l = (le-div_iff_mul-le {k = k} {x = x / k} {y = y} p).1 (omega (arith, div-mul-le_self x k))

pub capacity-grows : (h g : Hypergraph) → 1 ≤ h.blocks → h.blocks ≡ g.blocks → h.imbalance ≡ g.imbalance → h.total_weight ≤ g.total_weight → capacity h ≤ capacity g
unfolding capacity average_weight
capacity-grows h g k qb qi l =
    let a : average_weight h ≤ average_weight g = rw (← qb) (div_grows (h.total_weight + (h.blocks - 1)) (g.total_weight + (h.blocks - 1)) h.blocks k (omega arith)) in
    let s : 1000 + h.imbalance ≤ 1000 + g.imbalance = omega arith in
    nearest-grows _ _ (mul-le-mul s a)
