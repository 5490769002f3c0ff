-- A contraction adds the weight of the vertex that goes to the one that stays (weight-into) and leaves every block's weight (block_weight-join);
-- a move takes the vertex's weight from one block to another (block_weight-move). Rests on Climbs. Assumes nothing.
use Rattle.std.specs.Prelude.{ℕ, ◌+◌, ◌≤◌, ◌≡◌, refl, Bool, ◌&&◌, List, ◌∷◌}
use native.Mathlib.Omega.{arith}
use Rattle.std.proofs.Common.{sym, ap₂, ◌∙◌, true≢false}
use Rattle.std.proofs.Math.Path.{ap}
use Rattle.std.proofs.Math.Bool.{true, false, cond}
use borrow.Author.Tests.{eq-eqb, ne_eqb, eqb-true}
use Rattle.std.proofs.Math.Dec.{eqb}
use Rattle.laws.specs.Sum.{sum_to-ext, sum_to-change, sum_to-change2, sum_to-add}
use Rattle.laws.specs.Place.{place, place_at, place-off}
use Rattle.laws.specs.Choice.{cond-or}
use Rattle.model.specs.Catalogue.{Hypergraph, vertices, loaded}
use Rattle.model.specs.Measure.{Contraction, above, is_top, representative, weight, block_weight}
use Rattle.guarantees.specs.Climbs.{Sound, above-gone, above_other, stands-into, stands-other}

module _ (h : Hypergraph) (cs : List Contraction) (c : Contraction) (s : Sound (c ∷ cs)) where
  -- the weight of the vertex that represents both
  pub weight-into : weight h (c ∷ cs) c.into ≡ weight h cs c.into + weight h cs c.gone
  unfolding weight
  weight-into = sum_to-ext (vertices h) _ _ (λ x _ _. each x) ∙ sum_to-add (vertices h) _ _
    where
      apart : (x : ℕ) → eqb (representative cs x) c.into ≡ true → eqb (representative cs x) c.gone ≡ false
      apart x q = ne_eqb _ _ (λ r. s.0.two (sym (eqb-true _ _ q) ∙ r))

      each : (x : ℕ) → cond (eqb (representative (c ∷ cs) x) c.into) (loaded h x) 0 ≡ cond (eqb (representative cs x) c.into) (loaded h x) 0 + cond (eqb (representative cs x) c.gone) (loaded h x) 0
      each x = ap (λ (b : Bool). cond b (loaded h x) 0) (stands-into cs c s x) ∙ cond-or _ _ (loaded h x) (apart x)

  pub weight-other : (u : ℕ) → (u ≡ c.gone → ⊥) → (u ≡ c.into → ⊥) → weight h (c ∷ cs) u ≡ weight h cs u
  unfolding weight
  weight-other u ng ni = sum_to-ext (vertices h) _ _ (λ x _ _. ap (λ (b : Bool). cond b (loaded h x) 0) (stands-other cs c s u ng ni x))

  -- a block's weight after a contraction of two of its vertices
  module _ (p : ℕ → ℕ) (ul : 1 ≤ c.into) (uu : c.into ≤ vertices h) (vl : 1 ≤ c.gone) (vu : c.gone ≤ vertices h) (one_block : p c.into ≡ p c.gone) (b : ℕ) where
    abbrev before : ℕ → ℕ
    before x = cond (is_top cs x && eqb (p x) b) (weight h cs x) 0

    abbrev after : ℕ → ℕ
    after x = cond (is_top (c ∷ cs) x && eqb (place p c.gone 0 x) b) (weight h (c ∷ cs) x) 0

    share-term : (a q : Bool) (w x y : ℕ) → a ≡ true → w ≡ x + y → cond (a && q) w 0 ≡ cond q x 0 + cond q y 0
    share-term true true w x y e l = l
    share-term true false w x y e l = refl
    share-term false q w x y e l = absurd (true≢false (sym e))

    on-term : (a q : Bool) (w : ℕ) → a ≡ true → cond (a && q) w 0 ≡ cond q w 0
    on-term a q w e = ap (λ (x : Bool). cond (x && q) w 0) e

    at_into : after c.into ≡ cond (eqb (p c.into) b) (weight h cs c.into) 0 + cond (eqb (p c.into) b) (weight h cs c.gone) 0
    at_into =
        ap (λ (y : ℕ). cond (is_top (c ∷ cs) c.into && eqb y b) (weight h (c ∷ cs) c.into) 0) (place-off p c.gone 0 c.into s.0.two)
        ∙ share-term _ _ _ _ _ (eq-eqb _ 0 (above_other cs c c.into (λ r. s.0.two (sym r)) ∙ s.0.into-on)) weight-into

    at-gone : after c.gone ≡ 0
    at-gone = ap (λ (a : Bool). cond (a && eqb (place p c.gone 0 c.gone) b) (weight h (c ∷ cs) c.gone) 0) (ne_eqb (above (c ∷ cs) c.gone) 0 (λ r. omega (arith, s.0.real, above-gone cs c c.gone refl)))

    elsewhere : (x : ℕ) → (x ≡ c.into → ⊥) → (x ≡ c.gone → ⊥) → before x ≡ after x
    elsewhere x ni ng = sym (
        ap (λ (y : ℕ). cond (eqb y 0 && eqb (place p c.gone 0 x) b) (weight h (c ∷ cs) x) 0) (above_other cs c x (λ r. ng (sym r)))
        ∙ ap₂ (λ (y w : ℕ). cond (is_top cs x && eqb y b) w 0) (place-off p c.gone 0 x ng) (weight-other x ng ni))

    pub block_weight-join : block_weight h (c ∷ cs) (place p c.gone 0) b ≡ block_weight h cs p b
    unfolding block_weight
    block_weight-join = omega (
      arith,
      sum_to-change2 (vertices h) c.into c.gone before after ul uu vl vu s.0.two elsewhere,
      at_into,
      at-gone,
      on-term (is_top cs c.into) (eqb (p c.into) b) (weight h cs c.into) (eq-eqb _ 0 s.0.into-on),
      on-term (is_top cs c.gone) (eqb (p c.gone) b) (weight h cs c.gone) (eq-eqb _ 0 s.0.gone-on),
      ap (λ (y : ℕ). cond (eqb y b) (weight h cs c.gone) 0) one_block,
    )

-- a block's weight after a move of a vertex on the board
module _ (h : Hypergraph) (cs : List Contraction) (p : ℕ → ℕ) (v t : ℕ) (vl : 1 ≤ v) (vu : v ≤ vertices h) (on : above cs v ≡ 0) where
  on-board : (q : Bool) (w : ℕ) → cond (is_top cs v && q) w 0 ≡ cond q w 0
  on-board q w = ap (λ (x : Bool). cond (x && q) w 0) (eq-eqb _ 0 on)

  pub block_weight-move : (b : ℕ) → block_weight h cs (place p v t) b + cond (eqb (p v) b) (weight h cs v) 0 ≡ block_weight h cs p b + cond (eqb t b) (weight h cs v) 0
  unfolding block_weight
  block_weight-move b = omega (
    arith,
    sum_to-change (vertices h) v (λ x. cond (is_top cs x && eqb (p x) b) (weight h cs x) 0) (λ x. cond (is_top cs x && eqb (place p v t x) b) (weight h cs x) 0) vl vu
        (λ j _ _ ne. ap (λ (y : ℕ). cond (is_top cs j && eqb y b) (weight h cs j) 0) (sym (place-off p v t j ne))),
    on-board (eqb (p v) b) (weight h cs v),
    on-board (eqb (place p v t v) b) (weight h cs v),
    ap (λ (y : ℕ). cond (eqb y b) (weight h cs v) 0) (place_at p v t),
  )
