-- The best pair is open, of the highest worth, and the first of those: lowest first number, then lowest second one; there is none exactly where
-- no pair is open (best-top). It rests on tests and worths in range alone (best_pair-ext). Rests on laws' integers. Assumes nothing.
use Prim.Native.Nat.{ℕ, zero, suc, ◌≤◌, ◌<◌}
use Rattle.std.proofs.Math.Decide.{ℕ_discrete}
use native.Mathlib.Omega.{arith}
use Rattle.std.specs.Prelude.{◌≡◌, ◌⊎◌, Bool, not, ℤ, ◌≤ℤ◌, ◌<ℤ◌}
use Rattle.std.proofs.Math.Path.{refl, ap}
use Rattle.std.proofs.Common.{sym, ◌∙◌, subst, true≢false}
use Rattle.std.proofs.Math.Logic.{inl, inr, ⊎_elim}
use Rattle.std.proofs.Math.Bool.{true, false, cond}
use Rattle.std.proofs.Math.Dec.{T}
use Rattle.std.specs.Int.Signed.{lt_z, ≤ℤ_refl, lt_z_yes, lt_z_no}
use Rattle.laws.specs.Integer.{≤ℤ-<ℤ-trans, <ℤ-≤}
use Rattle.laws.specs.Sum.{fold_to, fold_to-ext}
use Rattle.model.specs.Search.{Best, none, best, better, consider, best_pair}

abbrev pub Earlier : ℕ → ℕ → ℕ → ℕ → Type 0
Earlier x y a b = (x < a) ⊎ ((x ≡ a) × (y < b))

not-later : (x y a b : ℕ) → Earlier x y a b → Earlier a b x y → ⊥
not-later x y a b (inl l) (inl k) = omega arith
not-later x y a b (inl l) (inr k) = omega arith
not-later x y a b (inr l) (inl k) = omega arith
not-later x y a b (inr l) (inr k) = omega arith

module _ (may : ℕ → ℕ → Bool) (worth : ℕ → ℕ → ℤ) where
  pub record Highest (seen : ℕ → ℕ → Type 0) (a b : ℕ) (g : ℤ) : Type 0 where
    pub there : seen a b
    pub open-pair : may a b ≡ true
    pub value : g ≡ worth a b
    pub highest : (x y : ℕ) → seen x y → may x y ≡ true → worth x y ≤ℤ g
    pub first : (x y : ℕ) → seen x y → may x y ≡ true → Earlier x y a b → worth x y <ℤ g

  abbrev pub Top : (ℕ → ℕ → Type 0) → Best → Type 0
  Top seen none = (x y : ℕ) → seen x y → may x y ≡ false
  Top seen (best a b g) = Highest seen a b g

  -- the same pairs in other words
  top-same : (S S' : ℕ → ℕ → Type 0) (b : Best) → ((x y : ℕ) → S' x y → S x y) → ((x y : ℕ) → S x y → S' x y) → Top S b → Top S' b
  top-same S S' none down up h = λ x y s. h x y (down x y s)
  top-same S S' (best a b g) down up h = record {
    there = up a b h.there;
    open-pair = h.open-pair;
    value = h.value;
    highest = λ x y s. h.highest x y (down x y s);
    first = λ x y s. h.first x y (down x y s);
  }

  -- one more pair, later than those before it
  module _ (S S' : ℕ → ℕ → Type 0) (x y : ℕ) (down : (a c : ℕ) → S' a c → ((a ≡ x) × (c ≡ y)) ⊎ S a c) (up : (a c : ℕ) → S a c → S' a c) (new : S' x y) (later : (a c : ℕ) → S a c → Earlier a c x y) where
    moved : (a c : ℕ) (P : ℕ → ℕ → Type 0) → (a ≡ x) × (c ≡ y) → P x y → P a c
    moved a c P q p = subst (λ (z : ℕ). P z c) (sym q.0) (subst (λ (z : ℕ). P x z) (sym q.1) p)

    shut : (b : Best) → may x y ≡ false → Top S b → Top S' b
    shut none q h = λ a c s. ⊎_elim (λ e. moved a c (λ a c. may a c ≡ false) e q) (h a c) (down a c s)
    shut (best a b g) q h = record {
      there = up a b h.there;
      open-pair = h.open-pair;
      value = h.value;
      highest = λ u w s o. ⊎_elim (λ e. absurd (true≢false (sym o ∙ moved u w (λ a c. may a c ≡ false) e q))) (λ s. h.highest u w s o) (down u w s);
      first = λ u w s o l. ⊎_elim (λ e. absurd (true≢false (sym o ∙ moved u w (λ a c. may a c ≡ false) e q))) (λ s. h.first u w s o l) (down u w s);
    }

    taken : may x y ≡ true → ((a c : ℕ) → S a c → may a c ≡ true → worth a c <ℤ worth x y) → Top S' (best x y (worth x y))
    taken q low = record {
      there = new;
      open-pair = q;
      value = refl;
      highest = λ u w s o. ⊎_elim (λ e. moved u w (λ a c. worth a c ≤ℤ worth x y) e (≤ℤ_refl _)) (λ s. <ℤ-≤ (low u w s o)) (down u w s);
      first = λ u w s o l. ⊎_elim (λ e. absurd (not-later u w x y l (moved u w (λ a c. Earlier x y a c) e (same u w e l)))) (λ s. low u w s o) (down u w s);
    }
      where
        same : (u w : ℕ) → (u ≡ x) × (w ≡ y) → Earlier u w x y → Earlier x y x y
        same u w e (inl l) = inl (omega arith)
        same u w e (inr l) = inr (refl, omega arith)

    kept : (a b : ℕ) (g : ℤ) → worth x y ≤ℤ g → Highest S a b g → Highest S' a b g
    kept a b g le h = record {
      there = up a b h.there;
      open-pair = h.open-pair;
      value = h.value;
      highest = λ u w s o. ⊎_elim (λ e. moved u w (λ a c. worth a c ≤ℤ g) e le) (λ s. h.highest u w s o) (down u w s);
      first = λ u w s o l. ⊎_elim (λ e. absurd (not-later a b x y (later a b h.there) (shift u w e l))) (λ s. h.first u w s o l) (down u w s);
    }
      where
        shift : (u w : ℕ) → (u ≡ x) × (w ≡ y) → Earlier u w a b → Earlier x y a b
        shift u w e (inl l) = inl (omega arith)
        shift u w e (inr l) = inr (omega arith, omega arith)

    top-better : (b : Best) → may x y ≡ true → Top S b → Top S' (better b x y (worth x y))
    unfolding better
    top-better none q h = taken q (λ a c s o. absurd (true≢false (sym o ∙ h a c s)))
    top-better (best a b f) q h = go (lt_z f (worth x y)) refl
      where
        go : (t : Bool) → lt_z f (worth x y) ≡ t → Top S' (cond t (best x y (worth x y)) (best a b f))
        go true e = taken q (λ u w s o. ≤ℤ-<ℤ-trans (h.highest u w s o) (lt_z_yes (subst T (sym e) tt)))
        go false e = kept a b f (lt_z_no (subst (λ (z : Bool). T (not z)) (sym e) tt)) h

    top-more : (b : Best) → Top S b → Top S' (consider may worth x b y)
    unfolding consider
    top-more b h = go (may x y) refl
      where
        go : (t : Bool) → may x y ≡ t → Top S' (cond t (better b x y (worth x y)) b)
        go true e = top-better b e h
        go false e = shut b e h

  module _ (m : ℕ) where
    -- the rows up to i, and of the next one the places up to j
    abbrev Done : ℕ → ℕ → ℕ → ℕ → Type 0
    Done i j a c = ((1 ≤ a) × (a ≤ i) × (1 ≤ c) × (c ≤ m)) ⊎ ((a ≡ suc i) × (1 ≤ c) × (c ≤ j))

    row-top : (i j : ℕ) (b : Best) → Top (Done i 0) b → Top (Done i j) (fold_to j (consider may worth (suc i)) b)
    unfolding fold_to
    row-top i zero b h = h
    row-top i (suc j) b h = top-more (Done i j) (Done i (suc j)) (suc i) (suc j) down up new later (fold_to j (consider may worth (suc i)) b) (row-top i j b h)
      where
        place : (a c : ℕ) → (a ≡ suc i) × (1 ≤ c) × (c ≤ suc j) → Dec (c ≡ suc j) → ((a ≡ suc i) × (c ≡ suc j)) ⊎ Done i j a c
        place a c s (yes q) = inl (s.0, q)
        place a c s (no n) = inr (inr (s.0, s.1, omega arith))

        down : (a c : ℕ) → Done i (suc j) a c → ((a ≡ suc i) × (c ≡ suc j)) ⊎ Done i j a c
        down a c (inl s) = inr (inl s)
        down a c (inr s) = place a c s (ℕ_discrete c (suc j))

        up : (a c : ℕ) → Done i j a c → Done i (suc j) a c
        up a c (inl s) = inl s
        up a c (inr s) = inr (s.0, s.1, omega arith)

        new : Done i (suc j) (suc i) (suc j)
        new = inr (refl, omega arith, omega arith)

        later : (a c : ℕ) → Done i j a c → Earlier a c (suc i) (suc j)
        later a c (inl s) = inl (omega arith)
        later a c (inr s) = inr (s.0, omega arith)

    abbrev rows : ℕ → Best
    rows i = fold_to i (λ b x. fold_to m (consider may worth x) b) none

    rows-top : (i : ℕ) → Top (Done i 0) (rows i)
    unfolding fold_to
    rows-top zero = λ x y s. ⊎_elim (λ s. absurd (omega arith)) (λ s. absurd (omega arith)) s
    rows-top (suc i) = top-same (Done i m) (Done (suc i) 0) (fold_to m (consider may worth (suc i)) (rows i)) down up (row-top i m (rows i) (rows-top i))
      where
        split : (a c : ℕ) → (1 ≤ a) × (a ≤ suc i) × (1 ≤ c) × (c ≤ m) → Dec (a ≡ suc i) → Done i m a c
        split a c s (yes q) = inr (q, s.2, s.3)
        split a c s (no n) = inl (s.0, omega arith, s.2, s.3)

        down : (a c : ℕ) → Done (suc i) 0 a c → Done i m a c
        down a c (inl s) = split a c s (ℕ_discrete a (suc i))
        down a c (inr s) = absurd (omega arith)

        up : (a c : ℕ) → Done i m a c → Done (suc i) 0 a c
        up a c (inl s) = inl (s.0, omega arith, s.2, s.3)
        up a c (inr s) = inl (omega arith, omega arith, s.1, s.2)

    -- the best pair of 1..n and 1..m
    pub best-top : (n : ℕ) → Top (λ a c. (1 ≤ a) × (a ≤ n) × (1 ≤ c) × (c ≤ m)) (best_pair n m may worth)
    unfolding best_pair
    best-top n = top-same (Done n 0) _ (rows n) (λ a c s. inl s) (λ a c s. ⊎_elim (λ s. s) (λ s. absurd (omega arith)) s) (rows-top n)

-- tests that agree in range, and worths that agree on the open pairs of it, give the same pair
module _ (may may' : ℕ → ℕ → Bool) (worth worth' : ℕ → ℕ → ℤ) where
  consider-ext : (x y : ℕ) (b : Best) → may x y ≡ may' x y → (may x y ≡ true → worth x y ≡ worth' x y) → consider may worth x b y ≡ consider may' worth' x b y
  unfolding consider
  consider-ext x y b em ew = go (may x y) refl ∙ ap (λ (t : Bool). cond t (better b x y (worth' x y)) b) em
    where
      go : (t : Bool) → may x y ≡ t → cond t (better b x y (worth x y)) b ≡ cond t (better b x y (worth' x y)) b
      go true e = ap (better b x y) (ew e)
      go false e = refl

  pub best_pair-ext : (n m : ℕ)
      → ((x y : ℕ) → 1 ≤ x → x ≤ n → 1 ≤ y → y ≤ m → may x y ≡ may' x y)
      → ((x y : ℕ) → 1 ≤ x → x ≤ n → 1 ≤ y → y ≤ m → may x y ≡ true → worth x y ≡ worth' x y)
      → best_pair n m may worth ≡ best_pair n m may' worth'
  unfolding best_pair
  best_pair-ext n m em ew =
      fold_to-ext n (λ b x. fold_to m (consider may worth x) b) (λ b x. fold_to m (consider may' worth' x) b) none (λ b x l u.
      fold_to-ext m (consider may worth x) (consider may' worth' x) b (λ c y p q. consider-ext x y c (em x y l u p q) (ew x y l u p q)))
