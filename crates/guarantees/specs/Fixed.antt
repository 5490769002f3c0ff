-- Which vertices are fixed (kept lots, M-104): with no contraction those of the catalogue (fixed-none); a contraction into which no fixed vertex
-- goes leaves who is fixed (fixed-join), so a stack of such contractions does (fixed-free); and what counts as fixed by a vertex that it
-- represents (fixed-by, fixed-free-of). Rests on Climbs. Assumes nothing.
use Rattle.std.specs.Prelude.{ℕ, ◌≤◌, ◌≡◌, Bool, ◌&&◌, cond, List, [], ◌∷◌, eqb, ltb}
use Rattle.std.proofs.Common.{arith, ap₂, ◌∙◌, true≢false}
use Rattle.std.proofs.Math.Path.{refl, sym, ap}
use Rattle.std.proofs.Math.Bool.{true, false}
use borrow.Author.Tests.{eq-eqb, ne_eqb, eqb-true, lt-ltb, le-ltb}
use Rattle.laws.specs.Choice.{one}
use Rattle.laws.specs.Sum.{count_to, sum_to-ext, sum_to-term, sum_to-nil}
use Rattle.model.specs.Catalogue.{Hypergraph, vertices, fixed_entry}
use Rattle.model.specs.Measure.{Contraction, climb, representative, is_fixed}
use Rattle.guarantees.specs.Climbs.{Sound, representative-join}

module _ (h : Hypergraph) where
  -- v is a fixed vertex of the catalogue that u represents
  abbrev pub fixed_by : List Contraction → ℕ → ℕ → Bool
  fixed_by cs u v = eqb (representative cs v) u && eqb (fixed_entry h v) 1

  -- one such vertex is enough
  pub fixed-by : (cs : List Contraction) (u v : ℕ) → 1 ≤ v → v ≤ vertices h → fixed_by cs u v ≡ true → is_fixed h cs u ≡ true
  unfolding is_fixed
  fixed-by cs u v l k q = lt-ltb 0 (count_to (vertices h) (fixed_by cs u)) (omega (arith, sum_to-term (vertices h) v (λ x. one (fixed_by cs u x)) l k, ap one q))

  -- and without one it is not fixed
  pub fixed-free-of : (cs : List Contraction) (u : ℕ) → ((v : ℕ) → 1 ≤ v → v ≤ vertices h → fixed_by cs u v ≡ false) → is_fixed h cs u ≡ false
  unfolding is_fixed
  fixed-free-of cs u f = le-ltb 0 (count_to (vertices h) (fixed_by cs u)) (omega (arith, sum_to-nil (vertices h) (λ x. one (fixed_by cs u x)) (λ v l k. ap one (f v l k))))

  -- the vertices that a vertex which is not fixed represents are not fixed by themselves
  by-none : (cs : List Contraction) (u v : ℕ) → 1 ≤ v → v ≤ vertices h → is_fixed h cs u ≡ false → fixed_by cs u v ≡ false
  by-none cs u v l k q = go (fixed_by cs u v) refl
    where
      go : (b : Bool) → fixed_by cs u v ≡ b → b ≡ false
      go true e = absurd (true≢false (sym (fixed-by cs u v l k e) ∙ q))
      go false e = refl

  -- a contraction by which no fixed vertex leaves the board
  pub fixed-join : (cs : List Contraction) (c : Contraction) → Sound (c ∷ cs) → is_fixed h cs c.gone ≡ false → (u : ℕ) → is_fixed h (c ∷ cs) u ≡ is_fixed h cs u
  unfolding is_fixed
  fixed-join cs c s q u = ap (ltb 0) (sum_to-ext (vertices h) _ _ (λ v l k. ap one (each v (by-none cs c.gone v l k q))))
    where
      each : (v : ℕ) → fixed_by cs c.gone v ≡ false → fixed_by (c ∷ cs) u v ≡ fixed_by cs u v
      each v n = go (eqb (representative cs v) c.gone) refl n
        where
          none : (x y b : Bool) → b ≡ false → x && b ≡ y && b
          none true true b z = refl
          none true false b z = z
          none false true b z = sym z
          none false false b z = refl

          go : (b : Bool) → eqb (representative cs v) c.gone ≡ b → b && eqb (fixed_entry h v) 1 ≡ false → fixed_by (c ∷ cs) u v ≡ fixed_by cs u v
          go true e z = none (eqb (representative (c ∷ cs) v) u) (eqb (representative cs v) u) (eqb (fixed_entry h v) 1) z
          go false e z = ap (λ (x : ℕ). eqb x u && eqb (fixed_entry h v) 1) (representative-join cs c s v ∙ ap (λ (b : Bool). cond b c.into (representative cs v)) e)

  -- no fixed vertex left the board
  abbrev pub Free : List Contraction → Type 0
  Free [] = Unit {0}
  Free (c ∷ cs) = (is_fixed h cs c.gone ≡ false) × Free cs

  pub fixed-free : (cs : List Contraction) → Sound cs → Free cs → (u : ℕ) → is_fixed h cs u ≡ is_fixed h [] u
  fixed-free [] s f u = refl
  fixed-free (c ∷ cs) s f u = fixed-join cs c s f.0 u ∙ fixed-free cs s.1 f.1 u

  -- with no contraction each vertex represents itself
  itself : (v : ℕ) → representative [] v ≡ v
  unfolding representative climb
  itself v = refl

  pub fixed-none : (u : ℕ) → 1 ≤ u → u ≤ vertices h → is_fixed h [] u ≡ eqb (fixed_entry h u) 1
  fixed-none u l k = go (eqb (fixed_entry h u) 1) refl
    where
      none : (v : ℕ) (b : Bool) → eqb v u ≡ b → eqb (fixed_entry h u) 1 ≡ false → fixed_by [] u v ≡ false
      none v true q e = ap₂ (λ (x y : Bool). x && y) (ap (λ (x : ℕ). eqb x u) (itself v)) (ap (λ (x : ℕ). eqb (fixed_entry h x) 1) (eqb-true v u q)) ∙ ap₂ (λ (x y : Bool). x && y) q e
      none v false q e = ap (λ (x : ℕ). eqb x u && eqb (fixed_entry h v) 1) (itself v) ∙ ap (λ (b : Bool). b && eqb (fixed_entry h v) 1) q

      go : (b : Bool) → eqb (fixed_entry h u) 1 ≡ b → is_fixed h [] u ≡ b
      go true e = fixed-by [] u u l k (ap₂ (λ (x y : Bool). x && y) (eq-eqb (representative [] u) u (itself u)) e)
      go false e = fixed-free-of [] u (λ v _ _. none v (eqb v u) refl e)
