-- How many lots and buyers a sale has, read from the tables that the engine left, where each of them held 65,535 before: no entry in use holds that.
-- Rests on Tables and guarantees' Stretches. Assumes nothing.
use Rattle.std.specs.Prelude.{ℕ, suc, ◌+◌, ◌≤◌, ◌<◌, ◌≡◌, Bool, cond, List, length, get_or}
use Rattle.std.proofs.Common.{arith, ap, ◌∙◌, lt-ltb, le-ltb}
use Rattle.std.proofs.Math.Decide.{dec_lt}
use Rattle.model.specs.Memory.{Column}

-- the first n entries are in use
pub record InUse (n : ℕ) (l : List ℕ) : Type 0 where
  pub fits : n ≤ length l
  pub used : (y : ℕ) → y < n → get_or l y 0 < 65535
  pub past : (y : ℕ) → n ≤ y → y < length l → get_or l y 0 ≡ 65535

-- a column of small values in a table that held nothing but 65,535
pub column-in-use : (n : ℕ) (value : ℕ → ℕ) (old new : List ℕ) → Column n value old new → n ≤ length old → ((v : ℕ) → 1 ≤ v → v ≤ n → value v < 65535)
    → ((y : ℕ) → y < length old → get_or old y 0 ≡ 65535) → InUse n new
column-in-use n value old new f l small blank = record {
  fits = omega (arith, f.as_long);
  used = λ y u. omega (arith, f.entries y (omega arith), ap (λ (b : Bool). cond b (value (suc y)) (get_or old y 0)) (lt-ltb y n u), small (suc y) (omega arith) (omega arith));
  past = λ y a b. let k : y < length old = omega (arith, f.as_long) in f.entries y k ∙ ap (λ (c : Bool). cond c (value (suc y)) (get_or old y 0)) (le-ltb y n a) ∙ blank y k;
}

-- ---- a search from the start
module _ {n : ℕ} {l : List ℕ} (u : InUse n l) (i : ℕ) (k : i ≤ n) where
  pub use-found : get_or l i 0 ≡ 65535 → i ≡ n
  use-found q = go (dec_lt i n)
    where
      go : Dec (i < n) → i ≡ n
      go (yes m) = absurd (omega (arith, u.used i m))
      go (no m) = omega arith

  pub use-more : i < length l → (get_or l i 0 ≡ 65535 → ⊥) → i + 1 ≤ n
  use-more long q = go (dec_lt i n)
    where
      go : Dec (i < n) → i + 1 ≤ n
      go (yes m) = omega arith
      go (no m) = absurd (q (u.past i (omega arith) long))

  pub use-all : length l ≤ i → i ≡ n
  use-all long = omega (arith, u.fits)
