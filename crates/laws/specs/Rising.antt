-- A stretch of a list that rises: its numbers are distinct, and what stands in it tells each of its places. Rests on Occurrence. Assumes nothing.
use Rattle.std.specs.Prelude.{ℕ, zero, suc, ◌≤◌, ◌<◌, ◌≡◌, refl, List}
use Rattle.std.proofs.Math.Decide.{ℕ_discrete, dec_lt}
use Rattle.std.proofs.Common.{arith, sym, ap}
use Rattle.laws.specs.Occurrence.{at, same, occ, In, Distinct, occ-suc, occ-at, occ-in}

-- each of the n places from f on holds more than those before it
abbrev pub Rising : List ℕ → ℕ → ℕ → Type 0
Rising l f n = (i j : ℕ) → i < j → j < n → at l f i < at l f j

pub rising-distinct : (l : List ℕ) (f n : ℕ) → Rising l f n → Distinct l f n
rising-distinct l f n r i j a b e = go (ℕ_discrete i j) (dec_lt i j)
  where
    go : Dec (i ≡ j) → Dec (i < j) → i ≡ j
    go (yes q) o = q
    go (no ne) (yes k) = absurd (omega (arith, r i j k b, e))
    go (no ne) (no k) = absurd (omega (arith, r j i (omega arith) a, e))

-- ---- a rising stretch is told by what stands in it
last-le : (l l' : List ℕ) (f k : ℕ) → Rising l f (suc k) → ((x : ℕ) → occ l f (suc k) x ≡ occ l' f (suc k) x) → at l' f k ≤ at l f k
last-le l l' f k r h = go (occ-in l f (suc k) (at l' f k) (omega (arith, h (at l' f k), occ-at l' f (suc k) k (at l' f k) (omega arith) refl)))
  where
    go : In l f (suc k) (at l' f k) → at l' f k ≤ at l f k
    go i = place (ℕ_discrete i.0 k)
      where
        place : Dec (i.0 ≡ k) → at l' f k ≤ at l f k
        place (yes q) = omega (arith, i.2, ap (at l f) q)
        place (no q) = omega (arith, i.2, r i.0 k (omega (arith, i.1)) (omega arith))

pub rising-same : (l l' : List ℕ) (f n : ℕ) → Rising l f n → Rising l' f n → ((x : ℕ) → occ l f n x ≡ occ l' f n x) → (i : ℕ) → i < n → at l f i ≡ at l' f i
rising-same l l' f zero r r' h i k = absurd (omega arith)
rising-same l l' f (suc n) r r' h i k = go (ℕ_discrete i n) (λ less. rising-same l l' f n (λ a b ab bn. r a b ab (omega arith)) (λ a b ab bn. r' a b ab (omega arith)) less i)
  where
    last : at l f n ≡ at l' f n
    last = omega (arith, last-le l l' f n r h, last-le l' l f n r' (λ x. sym (h x)))

    less : (x : ℕ) → occ l f n x ≡ occ l' f n x
    less x = omega (arith, h x, occ-suc l f n x, occ-suc l' f n x, ap (λ (z : ℕ). same z x) last)

    go : Dec (i ≡ n) → (((x : ℕ) → occ l f n x ≡ occ l' f n x) → i < n → at l f i ≡ at l' f i) → at l f i ≡ at l' f i
    go (yes q) ih = rw q last
    go (no q) ih = ih less (omega arith)
