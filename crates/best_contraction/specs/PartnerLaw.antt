-- The best partner of a vertex: which vertices pass the tests, and the first of the best among those looked at.
-- Rests on Rating. Assumes nothing.
use Rattle.std.specs.Prelude.{◌≡◌, refl, Bool, true, false, ◌&&◌, cond, List, ℕ, zero, suc, ◌+◌, ◌-◌, ◌≤◌, ◌<◌, eqb, ltb, leb, get_or}
use Rattle.std.proofs.Common.{sym, ap, ap₂, ◌∙◌, subst, arith, eq-eqb, ne_eqb, lt-ltb, le-ltb, ltb-true, ltb-false, le-leb, leb-true, leb-false}
use Rattle.std.proofs.Math.Bool.{and-false}
use Rattle.std.proofs.Math.Decide.{ℕ_discrete}
use Rattle.std.proofs.lemmas.Bool.{lt-leb}
use Rattle.laws.specs.Choice.{cond-le}
use Rattle.best_contraction.specs.Rating.{near, fits, score_in}
use Rattle.best_contraction.specs.declared.join.Partner.{Partner}

-- ---- the tests of a partner, one by one

module _ (blocks weights : List ℕ) (u own a limit y : ℕ) where
  abbrev light-enough : Bool
  light-enough = leb (a + get_or weights (y - 1) 0) limit

  pub fits-early : y ≤ u → false ≡ fits blocks weights u own a limit y
  fits-early h = sym (ap (λ (b : Bool). b && eqb (get_or blocks (y - 1) 0) own && light-enough) (le-ltb u y h))

  pub fits-apart : (get_or blocks (y - 1) 0 ≡ own → ⊥) → false ≡ fits blocks weights u own a limit y
  fits-apart n = sym (ap (λ (b : Bool). ltb u y && b && light-enough) (ne_eqb _ _ n) ∙ ap (λ (b : Bool). b && light-enough) (and-false (ltb u y)))

  pub fits-heavy : limit < a → false ≡ fits blocks weights u own a limit y
  fits-heavy h = sym (ap (λ (b : Bool). near blocks u own y && b) (lt-leb (a + get_or weights (y - 1) 0) limit (omega arith)) ∙ and-false (near blocks u own y))

  pub fits-left : (w : ℕ) → u < y → get_or blocks (y - 1) 0 ≡ own → a ≤ limit → w ≡ get_or weights (y - 1) 0 → leb w (limit - a) ≡ fits blocks weights u own a limit y
  fits-left w lt e l ew = go light-enough refl ∙ sym (ap₂ (λ (b d : Bool). b && d && light-enough) (lt-ltb u y lt) (eq-eqb _ _ e))
    where
      go : (t : Bool) → light-enough ≡ t → leb w (limit - a) ≡ light-enough
      go true q = let k : a + get_or weights (y - 1) 0 ≤ limit = leb-true _ _ q in le-leb w (limit - a) (omega arith) ∙ sym q
      go false q = let k : limit < a + get_or weights (y - 1) 0 = leb-false _ _ q in lt-leb w (limit - a) (omega arith) ∙ sym q

-- ---- the first of the best

-- no partner
abbrev pub nobody : Partner
nobody = record { rating = 0; vertex = 0 }

-- y, of score s, where that is higher than the best before it
abbrev pub topped : ℕ → ℕ → Partner → Partner
topped s y b = cond (ltb b.rating s) (record { rating = s; vertex = y }) b

-- the first maximum of score 1 .. score k
unfoldable pub top_to : (ℕ → ℕ) → ℕ → Partner
top_to score zero = nobody
top_to score (suc k) = topped (score (suc k)) (suc k) (top_to score k)

-- one more place, as code counts
pub top-step : (score : ℕ → ℕ) (k : ℕ) → top_to score (k + 1) ≡ topped (score (k + 1)) (k + 1) (top_to score k)
unfolding top_to
top-step score k = let e : k + 1 ≡ suc k = omega arith in rw (e)

-- by equal scores it is the same, and without any there is nobody
pub top-ext : (f g : ℕ → ℕ) → ((z : ℕ) → f z ≡ g z) → (k : ℕ) → top_to f k ≡ top_to g k
unfolding top_to
top-ext f g h zero = refl
top-ext f g h (suc k) = ap₂ {A = ℕ} {B = Partner} {C = Partner} (λ s b. topped s (suc k) b) (h (suc k)) (top-ext f g h k)

pub top-nobody : (score : ℕ → ℕ) (k : ℕ) → ((z : ℕ) → z ≤ k → score z ≡ 0) → top_to score k ≡ nobody
unfolding top_to
top-nobody score zero h = refl
top-nobody score (suc k) h = ap₂ {A = ℕ} {B = Partner} {C = Partner} (λ s b. topped s (suc k) b) (h (suc k) (omega arith)) (top-nobody score k (λ z l. h z (omega arith)))

-- no place is over it, and it is under what all places are under
pub top-over : (score : ℕ → ℕ) (n z : ℕ) → 1 ≤ z → z ≤ n → score z ≤ (top_to score n).rating
unfolding top_to
top-over score zero z l h = absurd (omega arith)
top-over score (suc n) z l h = go (top-over score n z l) (ltb (top_to score n).rating (score (suc n))) refl (ℕ_discrete z (suc n))
  where
    go : (z ≤ n → score z ≤ (top_to score n).rating) → (b : Bool) → ltb (top_to score n).rating (score (suc n)) ≡ b → Dec (z ≡ suc n) → score z ≤ (cond b (record { rating = score (suc n); vertex = suc n }) (top_to score n)).rating
    go old true e (yes q) = omega (arith, ap score q)
    go old true e (no q) = omega (arith, old (omega arith), ltb-true (top_to score n).rating (score (suc n)) e)
    go old false e (yes q) = omega (arith, ap score q, ltb-false (top_to score n).rating (score (suc n)) e)
    go old false e (no q) = old (omega arith)

pub top-under : (score : ℕ → ℕ) (b n : ℕ) → ((z : ℕ) → 1 ≤ z → z ≤ n → score z ≤ b) → (top_to score n).rating ≤ b
unfolding top_to
top-under score b zero h = omega arith
top-under score b (suc n) h = go (top-under score b n (λ z l q. h z l (omega arith))) (ltb (top_to score n).rating (score (suc n)))
  where
    go : (top_to score n).rating ≤ b → (t : Bool) → (cond t (record { rating = score (suc n); vertex = suc n }) (top_to score n)).rating ≤ b
    go old true = h (suc n) (omega arith) (omega arith)
    go old false = old

-- ---- one vertex weighed

module _ (s y : ℕ) (b : Partner) where
  -- it rates no higher than the best before it
  pub weighed-low : (t : Bool) → s ≤ b.rating → b ≡ topped (cond t s 0) y b
  weighed-low t h = sym (ap (λ (p : Bool). cond {A = Partner} p (record { rating = cond t s 0; vertex = y }) b) (le-ltb b.rating (cond t s 0) (omega (arith, cond-le t s s (omega arith)))))

  -- it rates higher and passes the tests
  pub weighed-fit : (t : Bool) → t ≡ true → b.rating < s → record { rating = s; vertex = y } ≡ topped (cond t s 0) y b
  weighed-fit t q h = subst (λ (t : Bool). record { rating = s; vertex = y } ≡ topped (cond t s 0) y b) (sym q) (sym (ap (λ (p : Bool). cond {A = Partner} p (record { rating = s; vertex = y }) b) (lt-ltb b.rating s h)))

  -- it fails one
  pub weighed-unfit : (t : Bool) → t ≡ false → b ≡ topped (cond t s 0) y b
  weighed-unfit t q = subst (λ (t : Bool). b ≡ topped (cond t s 0) y b) (sym q) (sym (ap (λ (p : Bool). cond {A = Partner} p (record { rating = 0; vertex = y }) b) (le-ltb b.rating 0 (omega arith))))

-- ---- the loop over the vertices after u

module _ (acc blocks weights : List ℕ) (u own a limit : ℕ) where
  abbrev score : ℕ → ℕ
  score = score_in (fits blocks weights u own a limit) (λ z. get_or acc z 0)

  -- none up to u may be the partner
  pub select-none : nobody ≡ top_to score u
  select-none = sym (top-nobody score u (λ z l. ap (λ (t : Bool). cond t (get_or acc z 0) 0) (sym (fits-early blocks weights u own a limit z l))))

  pub select-more : (y : ℕ) (b r : Partner) → b ≡ top_to score y → r ≡ topped (score (y + 1)) (y + 1) b → r ≡ top_to score (y + 1)
  select-more y b r e h = h ∙ ap (topped (score (y + 1)) (y + 1)) e ∙ sym (top-step score y)

  -- d more that rate no higher than the best leave it
  pub select_kept : (y d : ℕ) (b : Partner) → b ≡ top_to score y → ((z : ℕ) → y < z → z ≤ y + d → get_or acc z 0 ≤ b.rating) → b ≡ top_to score (y + d)
  select_kept y zero b e h = let q : y ≡ y + 0 = omega arith in e ∙ ap (top_to score) q
  select_kept y (suc d) b e h =
      let q : y + d + 1 ≡ y + suc d = omega arith in
      select-more (y + d) b b (select_kept y d b e (λ z l k. h z l (omega arith))) (weighed-low (get_or acc (y + d + 1) 0) (y + d + 1) b (fits blocks weights u own a limit (y + d + 1)) (h (y + d + 1) (omega arith) (omega arith))) ∙ ap (top_to score) q
