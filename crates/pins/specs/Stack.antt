-- A net's pins by recursion on the contraction stack, the latest first; `own x` says that the net was loaded with x. Rests on the machine's
-- theorems about representatives.
use Rattle.std.specs.Prelude.{ℕ, zero, suc, ◌≤◌, ◌<◌, max, ◌≡◌, Bool, ◌||◌, ◌&&◌, List, [], ◌∷◌, eqb, length, get_or}
use Rattle.std.proofs.Math.Decide.{ℕ_discrete}
use native.Mathlib.Omega.{arith}
use Rattle.std.proofs.Math.Path.{refl, ap, ap₂}
use Rattle.std.proofs.Common.{sym, ◌∙◌, eq-eqb, ne_eqb}
use Rattle.std.proofs.Math.Bool.{true, false, or-false, cond}
use Rattle.laws.specs.Choice.{one, cond_yes, cond_no}
use Rattle.laws.specs.Fold.{any}
use Rattle.model.specs.Catalogue.{Net}
use Rattle.model.specs.Measure.{Contraction, above, is_top, climb, representative, pin}
use Rattle.guarantees.specs.Climbs.{Joins, Sound, above-gone, above_other, representative-on, any_none, pin-into, pin-other}

-- x is a pin of the net; for a contracted x, as it was when it was contracted
unfoldable pub row : (ℕ → Bool) → List Contraction → ℕ → Bool
row own [] x = own x
row own (c ∷ cs) x = cond (eqb x c.into) (row own cs c.into || row own cs c.gone) (row own cs x)

-- the vertices taken out of the net's stretch, the last one first
unfoldable pub past : (ℕ → Bool) → List Contraction → List ℕ
past own [] = []
past own (c ∷ cs) = cond (row own cs c.into && row own cs c.gone) (c.gone ∷ past own cs) (past own cs)

-- 1 for a pin on the board, else 0
unfoldable pub present : (ℕ → Bool) → List Contraction → ℕ → ℕ
present own cs x = one (is_top cs x && row own cs x)

pub one-or : (a b : Bool) → one (a || b) ≡ max (one a) (one b)
one-or true true = refl
one-or true false = refl
one-or false true = refl
one-or false false = refl

module _ (own : ℕ → Bool) where
  pub present-on : (cs : List Contraction) (x : ℕ) → above cs x ≡ 0 → present own cs x ≡ one (row own cs x)
  unfolding present
  present-on cs x q = ap (λ (b : Bool). one (b && row own cs x)) (eq-eqb (above cs x) 0 q)

  pub present-off : (cs : List Contraction) (x : ℕ) → (above cs x ≡ 0 → ⊥) → present own cs x ≡ 0
  unfolding present
  present-off cs x q = ap (λ (b : Bool). one (b && row own cs x)) (ne_eqb (above cs x) 0 q)

  pub present-le : (cs : List Contraction) (x : ℕ) → present own cs x ≤ 1
  unfolding present
  present-le cs x = go (is_top cs x && row own cs x)
    where
      go : (b : Bool) → one b ≤ 1
      go true = omega arith
      go false = omega arith

-- a vertex off the board stays off it
off-more : (cs : List Contraction) (c : Contraction) → Joins cs c → (x : ℕ) → (above cs x ≡ 0 → ⊥) → above (c ∷ cs) x ≡ 0 → ⊥
off-more cs c j x off q = go (ℕ_discrete c.gone x)
  where
    go : Dec (c.gone ≡ x) → ⊥
    go (yes e) = omega (arith, above-gone cs c x e, j.real)
    go (no n) = off (sym (above_other cs c x n) ∙ q)

-- ---- a contraction more
module _ (own : ℕ → Bool) (cs : List Contraction) (c : Contraction) where
  pub row-into : row own (c ∷ cs) c.into ≡ (row own cs c.into || row own cs c.gone)
  unfolding row
  row-into = cond_yes c.into c.into _ _ refl

  pub row_other : (x : ℕ) → (x ≡ c.into → ⊥) → row own (c ∷ cs) x ≡ row own cs x
  unfolding row
  row_other x n = cond_no x c.into _ _ n

  pub past-both : row own cs c.into ≡ true → row own cs c.gone ≡ true → past own (c ∷ cs) ≡ c.gone ∷ past own cs
  unfolding past
  past-both p q = ap₂ (λ (a b : Bool). cond (a && b) (c.gone ∷ past own cs) (past own cs)) p q

  pub past-new : row own cs c.into ≡ false → past own (c ∷ cs) ≡ past own cs
  unfolding past
  past-new p = ap (λ (a : Bool). cond (a && row own cs c.gone) (c.gone ∷ past own cs) (past own cs)) p

  pub past_skip : row own cs c.gone ≡ false → past own (c ∷ cs) ≡ past own cs
  unfolding past
  past_skip p = go (row own cs c.into) (row own cs c.gone) p
    where
      go : (a b : Bool) → b ≡ false → cond (a && b) (c.gone ∷ past own cs) (past own cs) ≡ past own cs
      go true b q = ap (λ (z : Bool). cond z (c.gone ∷ past own cs) (past own cs)) q
      go false b q = refl

  -- a net without v: u's row stays as well
  pub row-skip : row own cs c.gone ≡ false → (x : ℕ) → row own (c ∷ cs) x ≡ row own cs x
  row-skip p x = go (ℕ_discrete x c.into)
    where
      go : Dec (x ≡ c.into) → row own (c ∷ cs) x ≡ row own cs x
      go (yes q) = rw q (row-into ∙ ap (λ (b : Bool). row own cs c.into || b) p ∙ or-false _)
      go (no n) = row_other x n

  module _ (j : Joins cs c) where
    pub into-stays : above (c ∷ cs) c.into ≡ 0
    into-stays = above_other cs c c.into (λ q. j.two (sym q)) ∙ j.into-on

    pub present-gone : present own (c ∷ cs) c.gone ≡ 0
    present-gone = present-off own (c ∷ cs) c.gone (λ q. omega (arith, above-gone cs c c.gone refl, j.real))

    pub present-into : present own (c ∷ cs) c.into ≡ max (present own cs c.into) (present own cs c.gone)
    present-into = omega (
      arith,
      present-on own (c ∷ cs) c.into into-stays,
      ap one row-into,
      one-or (row own cs c.into) (row own cs c.gone),
      present-on own cs c.into j.into-on,
      present-on own cs c.gone j.gone-on,
    )

    pub present-other : (x : ℕ) → (x ≡ c.into → ⊥) → (x ≡ c.gone → ⊥) → present own (c ∷ cs) x ≡ present own cs x
    unfolding present
    present-other x ni ng = ap₂ (λ (a : ℕ) (b : Bool). one (eqb a 0 && b)) (above_other cs c x (λ q. ng (sym q))) (row_other x ni)

-- what was taken out is off the board
pub past_off : (own : ℕ → Bool) (cs : List Contraction) → Sound cs → (i : ℕ) → i < length (past own cs) → above cs (get_or (past own cs) i 0) ≡ 0 → ⊥
unfolding past
past_off own [] s i l q = omega arith
past_off own (c ∷ cs) s i l q = go (past_off own cs s.1) (row own cs c.into && row own cs c.gone) i l q
  where
    go : ((i : ℕ) → i < length (past own cs) → above cs (get_or (past own cs) i 0) ≡ 0 → ⊥) → (b : Bool) → (i : ℕ) → i < length (cond b (c.gone ∷ past own cs) (past own cs)) → above (c ∷ cs) (get_or (cond b (c.gone ∷ past own cs) (past own cs)) i 0) ≡ 0 → ⊥
    go ih true zero l q = omega (arith, above-gone cs c c.gone refl, s.0.real)
    go ih true (suc i) l q = off-more cs c s.0 (get_or (past own cs) i 0) (ih i (omega arith)) q
    go ih false i l q = off-more cs c s.0 (get_or (past own cs) i 0) (ih i l) q

-- ---- the link to document 01: the pins of a net as they stand

-- a net's loaded pins
abbrev pub loaded_pin : Net → ℕ → Bool
loaded_pin e x = any e.pins (λ y. eqb y x)

pub row-pin : (e : Net) (cs : List Contraction) → Sound cs → (x : ℕ) → above cs x ≡ 0 → row (loaded_pin e) cs x ≡ pin cs e x
unfolding row pin representative climb
row-pin e [] s x q = refl
row-pin e (c ∷ cs) s x q = go (ℕ_discrete x c.into) (ℕ_discrete c.gone x) (row-pin e cs s.1)
  where
    go : Dec (x ≡ c.into) → Dec (c.gone ≡ x) → ((y : ℕ) → above cs y ≡ 0 → row (loaded_pin e) cs y ≡ pin cs e y) → row (loaded_pin e) (c ∷ cs) x ≡ pin (c ∷ cs) e x
    go (yes p) d ih = rw p (row-into (loaded_pin e) cs c ∙ ap₂ (λ (a b : Bool). a || b) (ih c.into s.0.into-on) (ih c.gone s.0.gone-on) ∙ sym (pin-into cs c s e))
    go (no n) (yes p) ih = absurd (omega (arith, above-gone cs c x p, s.0.real))
    go (no n) (no m) ih = row_other (loaded_pin e) cs c x n ∙ ih x (sym (above_other cs c x m) ∙ q) ∙ sym (pin-other cs c s e x (λ z. m (sym z)) n)

-- a contracted vertex is no pin
pin-off : (e : Net) (cs : List Contraction) → Sound cs → (x : ℕ) → (above cs x ≡ 0 → ⊥) → pin cs e x ≡ false
unfolding pin
pin-off e cs s x off = any_none e.pins _ (λ y. ne_eqb _ _ (λ q. off (ap (above cs) (sym q) ∙ representative-on cs s y)))

pub present-pin : (e : Net) (cs : List Contraction) → Sound cs → (x : ℕ) → present (loaded_pin e) cs x ≡ one (pin cs e x)
present-pin e cs s x = go (ℕ_discrete (above cs x) 0)
  where
    go : Dec (above cs x ≡ 0) → present (loaded_pin e) cs x ≡ one (pin cs e x)
    go (yes q) = present-on (loaded_pin e) cs x q ∙ ap one (row-pin e cs s x q)
    go (no n) = present-off (loaded_pin e) cs x n ∙ ap one (sym (pin-off e cs s x n))
