-- A row of a table written, made 0 above all, and all rows made 0. Assumes nothing.
use Rattle.std.specs.Prelude.{ℕ, ◌+◌, ◌*◌, ◌<◌, ◌≤◌, ◌≡◌, refl, List, length, get_or, set}
use Rattle.std.proofs.Common.{◌∙◌, arith, below_more, length-set, get_or-set_same, get_or-set_other}
use Rattle.std.proofs.Math.Decide.{ℕ_discrete}

-- the k entries from `row` on are those of f, and all others stand as they stood
pub record Written {A : Type 0} (z : A) (f : ℕ → A) (row k : ℕ) (l l' : List A) : Type 0 where
  pub len : length l' ≡ length l
  pub inside : (j : ℕ) → j < k → get_or l' (row + j) z ≡ f j
  pub outside : (i : ℕ) → (row ≤ i → row + k ≤ i) → get_or l' i z ≡ get_or l i z

pub written_none : {A : Type 0} (z : A) (f : ℕ → A) (row : ℕ) (l : List A) → Written z f row 0 l l
written_none z f row l = record { len = refl; inside = λ j h. absurd (omega arith); outside = λ i h. refl }

pub written-more : {A : Type 0} (z : A) (f : ℕ → A) (row j : ℕ) {l l' : List A} {v : A} → Written z f row j l l' → row + j < length l → v ≡ f j → Written z f row (j + 1) l (set l' (row + j) v)
written-more z f row j {l} {l'} {v} w h e = record {
  len = length-set l' (row + j) v ∙ w.len;
  inside = below_more (λ i. get_or (set l' (row + j) v) (row + i) z ≡ f i) j
      (λ i q. get_or-set_other l' (row + j) (row + i) v z (λ e. omega arith) ∙ w.inside i q)
      (get_or-set_same l' (row + j) v z (omega (arith, w.len)) ∙ e);
  outside = λ i q. get_or-set_other l' (row + j) i v z (λ e. let o : row ≤ i = omega arith in omega (arith, q o)) ∙ w.outside i (λ o. omega (arith, q o));
}

-- all of them z
abbrev pub Wiped : {A : Type 0} → A → ℕ → ℕ → List A → List A → Type 0
Wiped z = Written z (λ _. z)

-- the first k entries of the rows below n are z, and all others stand as they stood
pub record WipedRows {A : Type 0} (z : A) (n k : ℕ) (l l' : List A) : Type 0 where
  pub len : length l' ≡ length l
  pub inside : (y j : ℕ) → y < n → j < k → get_or l' (16 * y + j) z ≡ z
  pub past : (y j : ℕ) → k ≤ j → j < 16 → get_or l' (16 * y + j) z ≡ get_or l (16 * y + j) z
  pub over : (i : ℕ) → 16 * n ≤ i → get_or l' i z ≡ get_or l i z

pub rows_none : {A : Type 0} (z : A) (k : ℕ) (l : List A) → WipedRows z 0 k l l
rows_none z k l = record { len = refl; inside = λ y j h u. absurd (omega arith); past = λ y j h u. refl; over = λ i h. refl }

pub rows_more : {A : Type 0} (z : A) (n k : ℕ) {l l₁ l₂ : List A} → k ≤ 16 → WipedRows z n k l l₁ → Wiped z (16 * n) k l₁ l₂ → WipedRows z (n + 1) k l l₂
rows_more z n k {l} {l₁} {l₂} few s w = record {
  len = w.len ∙ s.len;
  inside = λ y j h u. by y j h u (ℕ_discrete y n);
  past = λ y j h u. w.outside (16 * y + j) (λ q. omega arith) ∙ s.past y j h u;
  over = λ i h. w.outside i (λ q. omega arith) ∙ s.over i (omega arith);
}
  where
    by : (y j : ℕ) → y < n + 1 → j < k → Dec (y ≡ n) → get_or l₂ (16 * y + j) z ≡ z
    by y j h u (yes q) = rw q (w.inside j u)
    by y j h u (no q) = w.outside (16 * y + j) (λ o. omega arith) ∙ s.inside y j (omega arith) u
