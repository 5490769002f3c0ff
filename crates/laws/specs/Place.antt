-- A function with another value at one argument, and its laws. Assumes nothing.
-- Reading: place_at, place-off, place-ext · undoing: place-back, place_same, place_twice · order: place-swap
use Rattle.std.specs.Prelude.{ℕ, ◌≡◌, refl, Bool, cond, eqb}
use Rattle.std.proofs.Math.Decide.{ℕ_discrete}
use Rattle.std.proofs.Common.{sym, ap, ◌∙◌, eq-eqb, ne_eqb}

-- f, but t at v
unfoldable pub place : (ℕ → ℕ) → ℕ → ℕ → ℕ → ℕ
place f v t x = cond (eqb x v) t (f x)

pub place_at : (f : ℕ → ℕ) (v t : ℕ) → place f v t v ≡ t
unfolding place
place_at f v t = ap (λ (b : Bool). cond b t (f v)) (eq-eqb v v refl)

pub place-off : (f : ℕ → ℕ) (v t x : ℕ) → (x ≡ v → ⊥) → place f v t x ≡ f x
unfolding place
place-off f v t x ne = ap (λ (b : Bool). cond b t (f x)) (ne_eqb x v ne)

-- two functions that differ at v at most
pub place-ext : (f g : ℕ → ℕ) (v t x : ℕ) → ((x ≡ v → ⊥) → f x ≡ g x) → place f v t x ≡ place g v t x
place-ext f g v t x e = go (ℕ_discrete x v)
  where
    go : Dec (x ≡ v) → place f v t x ≡ place g v t x
    go (yes q) = ap (place f v t) q ∙ place_at f v t ∙ sym (ap (place g v t) q ∙ place_at g v t)
    go (no n) = place-off f v t x n ∙ e n ∙ sym (place-off g v t x n)

-- the value that stands there already
pub place_same : (f : ℕ → ℕ) (v t x : ℕ) → f v ≡ t → place f v t x ≡ f x
place_same f v t x e = go (ℕ_discrete x v)
  where
    go : Dec (x ≡ v) → place f v t x ≡ f x
    go (yes q) = ap (place f v t) q ∙ place_at f v t ∙ sym e ∙ ap f (sym q)
    go (no n) = place-off f v t x n

-- the later value stays
pub place_twice : (f : ℕ → ℕ) (v s t x : ℕ) → place (place f v s) v t x ≡ place f v t x
place_twice f v s t x = place-ext (place f v s) f v t x (λ n. place-off f v s x n)

-- a change and its reversal
pub place-back : (f : ℕ → ℕ) (v t : ℕ) → place (place f v t) v (f v) ≡ f
place-back f v t = λ i x. (place_twice f v t (f v) x ∙ place_same f v (f v) x refl) i

-- changes at two arguments may change places
pub place-swap : (f : ℕ → ℕ) (v t u s : ℕ) → (u ≡ v → ⊥) → place (place f v t) u s ≡ place (place f u s) v t
place-swap f v t u s ne = λ i x. go x (ℕ_discrete x u) (ℕ_discrete x v) i
  where
    go : (x : ℕ) → Dec (x ≡ u) → Dec (x ≡ v) → place (place f v t) u s x ≡ place (place f u s) v t x
    go x (yes q) (yes r) = absurd (ne (sym q ∙ r))
    go x (yes q) (no n) = ap (place (place f v t) u s) q ∙ place_at (place f v t) u s ∙ sym (place-off (place f u s) v t x n ∙ ap (place f u s) q ∙ place_at f u s)
    go x (no m) (yes r) = place-off (place f v t) u s x m ∙ ap (place f v t) r ∙ place_at f v t ∙ sym (ap (place (place f u s) v t) r ∙ place_at (place f u s) v t)
    go x (no m) (no n) = place-off (place f v t) u s x m ∙ place-off f v t x n ∙ sym (place-off (place f u s) v t x n ∙ place-off f u s x m)
