-- Tables that are blank where they are in use stand for the matrix of no pins: loading starts here. Rests on Row.
use Rattle.std.specs.Prelude.{ℕ, zero, suc, ◌+◌, ◌*◌, ◌-◌, ◌<◌, ◌≡◌, refl, List, eqb, ltb, get_or, ℤ, pos}
use Rattle.std.proofs.Common.{sym, ap, ◌∙◌, arith, ne_eqb}
use Rattle.laws.specs.Choice.{one}
use Rattle.laws.specs.Sum.{sum-nil}
use Rattle.laws.specs.IntegerSum.{sum_z, sum_z-ext}
use Rattle.laws.specs.Bit.{bit}
use Rattle.connectivity.specs.Raised.{at}
use Rattle.connectivity.specs.Matrix.{row_count, Stands}
use Rattle.connectivity.specs.Row.{share_of-none}

row_count-none : (n j : ℕ) → row_count n (λ _. 0) (j + 1) ≡ 0
unfolding row_count
row_count-none n j = sum-nil n (λ y. one (eqb 0 (j + 1))) (λ i l. ap one (ne_eqb 0 (j + 1) (λ z. omega arith)))

sum-none : (m : ℕ) → sum_z (λ _. pos 0) m ≡ pos 0
unfolding sum_z
sum-none zero = refl
sum-none (suc m) = rw (sum-none m) refl

-- no entry in use has anything
pub record Blank (n m k : ℕ) (counts visited : List ℕ) (gains : List ℤ) : Type 0 where
  pub counts-none : (e j : ℕ) → e < m → j < k → get_or counts (16 * e + j) 0 ≡ 0
  pub masks-none : (e j : ℕ) → e < m → j < k → bit (get_or visited e 0) j ≡ 0
  pub gains-none : (y j : ℕ) → y < n → j < k → at gains (16 * y + j) ≡ pos 0

pub stands-empty : {n m k : ℕ} {weights cs vs : List ℕ} {g : List ℤ} → Blank n m k cs vs g → Stands (λ _ _. 0) n m k weights cs vs g
stands-empty {n} {m} {weights = weights} z = record {
  tally = record {
    block-le = λ e y l u. omega arith;
    counted = λ e j l u. z.counts-none e j l u ∙ sym (row_count-none n j);
    shown = λ e j l u. z.masks-none e j l u ∙ sym (ap (λ (x : ℕ). one (ltb 0 x)) (row_count-none n j));
  };
  gained = λ y j hy hj. z.gains-none y j hy hj ∙ sym (sum_z-ext _ (λ _. pos 0) m (λ e l. share_of-none (row_count n (λ _. 0)) (get_or weights e 0) (j + 1)) ∙ sum-none m);
}
