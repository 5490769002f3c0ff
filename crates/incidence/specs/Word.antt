-- 64-bit words: a bit made 1 or 0, shifts, `trailing_zeros`. Rests on laws of single bits.
use Rattle.std.specs.Prelude.{◌≡◌, refl, ℕ, zero, suc, ◌+◌, ◌-◌, ◌*◌, ◌/◌, ◌%◌, ◌^◌, ◌≤◌, ◌<◌, max}
use Rattle.std.proofs.Common.{sym, ap, ◌∙◌, subst, lt_of_lt_of_le, div-one, add-one, arith, pow_mono, shr-shr, shr_lt}
use Rattle.std.proofs.Math.Nat.{div-eq_of_lt, zero-div, pow-succ', div-div-eq-div-mul}
use Rattle.std.proofs.Math.Decide.{dec_lt}
use Rattle.std.specs.Int.Count.{count_trailing_zeros, under}
use Rattle.std.specs.Int.Bits.{bit_or, bit_and, bit_xor}
use Rattle.laws.specs.Bit.{bit, bit-lt, bit-or, one_shl, Made, made-set, made-clear}

-- r is the lowest set bit of a 64-bit word
pub record Lowest (word r : ℕ) : Type 0 where
  pub set : bit word r ≡ 1
  pub below : (j : ℕ) → j < r → bit word j ≡ 0
  pub small : r < 64

-- r is the first set bit of a 64-bit word from bit `from` on; 64 where there is none
pub record NextBit (word from r : ℕ) : Type 0 where
  pub low : from ≤ r
  pub high : r ≤ 64
  pub found : r < 64 → bit word r ≡ 1
  pub passed : (j : ℕ) → from ≤ j → j < r → bit word j ≡ 0

or-max : (a b : ℕ) → a < 2 → b < 2 → bit_or a b ≡ max a b
or-max zero zero h k = refl
or-max zero (suc zero) h k = refl
or-max (suc zero) zero h k = refl
or-max (suc zero) (suc zero) h k = refl
or-max zero (suc (suc b)) h k = absurd (omega arith)
or-max (suc zero) (suc (suc b)) h k = absurd (omega arith)
or-max (suc (suc a)) b h k = absurd (omega arith)

pub bit-or-max : (a b j : ℕ) → bit (bit_or a b) j ≡ max (bit a j) (bit b j)
bit-or-max a b j = bit-or a b j ∙ or-max (bit a j) (bit b j) (bit-lt a j) (bit-lt b j)

-- ---- one bit made 1 or 0, as the code does it

pub set-law : (m s : ℕ) → s < 64 → Made m s 1 (bit_or m ((1 * 2 ^ s) % 2 ^ 64))
set-law m s hs = rw (one_shl 64 s hs) (made-set m s)

pub clear-law : (m s : ℕ) → s < 64 → Made m s 0 (bit_xor m (bit_and m ((1 * 2 ^ s) % 2 ^ 64)))
clear-law m s hs = rw (one_shl 64 s hs) (made-clear m s)

-- ---- shifted words, and words that are 0

pub bit-shr : (a s j : ℕ) → bit (a / 2 ^ s) j ≡ bit a (s + j)
bit-shr a s j = ap (λ (z : ℕ). z % 2) (shr-shr a s j)

pub bit-of-zero : (a j : ℕ) → a ≡ 0 → bit a j ≡ 0
bit-of-zero a j e = rw (e, zero-div)

pub bit_high : (a j : ℕ) → a < 2 ^ 64 → 64 ≤ j → bit a j ≡ 0
bit_high a j h l = rw (div-eq_of_lt (lt_of_lt_of_le h (pow_mono {i = 64} {j = j} l)))

-- ---- `trailing_zeros`

half-bit : (q j : ℕ) → bit q (suc j) ≡ bit (q / 2) j
half-bit q j = ap (λ (z : ℕ). q / z % 2) (pow-succ' 2 j) ∙ ap (λ (z : ℕ). z % 2) (sym (div-div-eq-div-mul q 2 (2 ^ j)))

is_one : (q r : ℕ) → q % 2 ≡ suc r → q % 2 ≡ 1
is_one q r e = omega arith

half_pos : (q : ℕ) → 0 < q → q % 2 ≡ 0 → 0 < q / 2
half_pos q h e = omega arith

half-small : (d q : ℕ) → q < 2 ^ suc d → q / 2 < 2 ^ d
half-small d q h = shr_lt d 1 (subst (λ (x : ℕ). q < 2 ^ x) (sym (add-one d)) h)

pub tz-set : (d q : ℕ) → 0 < q → q < 2 ^ d → bit q (count_trailing_zeros d q) ≡ 1
unfolding count_trailing_zeros
tz-set zero q h k = absurd (omega arith)
tz-set (suc d) q h k = go (q % 2) refl (λ (e : q % 2 ≡ 0). tz-set d (q / 2) (half_pos q h e) (half-small d q k))
  where
    go : (r : ℕ) → q % 2 ≡ r → (q % 2 ≡ 0 → bit (q / 2) (count_trailing_zeros d (q / 2)) ≡ 1) → bit q (under r (count_trailing_zeros d (q / 2))) ≡ 1
    go zero e ih = half-bit q (count_trailing_zeros d (q / 2)) ∙ ih e
    go (suc r) e ih = ap (λ (x : ℕ). x % 2) (div-one q) ∙ is_one q r e

pub tz-below : (d q j : ℕ) → j < count_trailing_zeros d q → bit q j ≡ 0
unfolding count_trailing_zeros
tz-below zero q j l = absurd (omega arith)
tz-below (suc d) q j l = go (q % 2) refl j l (tz-below d (q / 2))
  where
    go : (r : ℕ) → q % 2 ≡ r → (i : ℕ) → i < under r (count_trailing_zeros d (q / 2)) → ((i : ℕ) → i < count_trailing_zeros d (q / 2) → bit (q / 2) i ≡ 0) → bit q i ≡ 0
    go zero e zero k ih = ap (λ (x : ℕ). x % 2) (div-one q) ∙ e
    go zero e (suc i) k ih = half-bit q i ∙ ih i (omega arith)
    go (suc r) e i k ih = absurd (omega arith)

pub tz-small : (q : ℕ) → 0 < q → q < 2 ^ 64 → count_trailing_zeros 64 q < 64
tz-small q h k = go (dec_lt (count_trailing_zeros 64 q) 64)
  where
    go : Dec (count_trailing_zeros 64 q < 64) → count_trailing_zeros 64 q < 64
    go (yes l) = l
    go (no l) = absurd (omega (arith, tz-set 64 q h k, bit_high q (count_trailing_zeros 64 q) k (omega arith)))

pub lowest-law : (q : ℕ) → 0 < q → q < 2 ^ 64 → Lowest q (count_trailing_zeros 64 q)
lowest-law q h k = record { set = tz-set 64 q h k; below = tz-below 64 q; small = tz-small q h k }

-- ---- the next set bit

pub next-bit-none : (word from : ℕ) → from ≤ 64 → ((j : ℕ) → from ≤ j → j < 64 → bit word j ≡ 0) → NextBit word from 64
next-bit-none word from l h = record { low = l; high = omega arith; found = λ q. absurd (omega arith); passed = h }

pub next-bit-zero : (word from : ℕ) → from ≤ 64 → word / 2 ^ from ≡ 0 → NextBit word from 64
next-bit-zero word from l z = next-bit-none word from l (λ j a b.
    let e : j ≡ from + (j - from) = omega arith in
    ap (bit word) e ∙ sym (bit-shr word from (j - from)) ∙ bit-of-zero (word / 2 ^ from) (j - from) z)

module _ (word from t : ℕ) (fits : word < 2 ^ 64) (k : Lowest (word / 2 ^ from) t) where
  there : bit word (from + t) ≡ 1
  there = sym (bit-shr word from t) ∙ k.set

  pub next-bit-small : from + t < 64
  next-bit-small = go (dec_lt (from + t) 64)
    where
      go : Dec (from + t < 64) → from + t < 64
      go (yes h) = h
      go (no h) = absurd (omega (arith, there, bit_high word (from + t) fits (omega arith)))

  pub next-bit-some : NextBit word from (from + t)
  next-bit-some = record {
    low = omega arith;
    high = omega (arith, next-bit-small);
    found = λ q. there;
    passed = λ j a b.
        let e : j ≡ from + (j - from) = omega arith in
        ap (bit word) e ∙ sym (bit-shr word from (j - from)) ∙ k.below (j - from) (omega arith);
  }
