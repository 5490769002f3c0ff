-- A contraction of two vertices of one block leaves each net's connectivity set (visited-join), its connectivity (connectivity-join) and the
-- metric (metric-join) as they were. Rests on Climbs. Assumes nothing.
use Rattle.std.specs.Prelude.{ℕ, zero, suc, ◌+◌, ◌-◌, ◌*◌, ◌≤◌, ◌≡◌, Bool, true, false, ◌||◌, ◌&&◌, List, ◌∷◌, ltb}
use native.Mathlib.Omega.{arith}
use Rattle.std.proofs.Math.Path.{sym, ap, ap₂}
use Rattle.std.proofs.Common.{◌∙◌, lt-ltb, le-ltb}
use Rattle.std.proofs.Math.Bool.{and-false}
use Rattle.std.proofs.Math.Dec.{eqb}
use Rattle.laws.specs.Choice.{one}
use Rattle.laws.specs.Sum.{sum_to-ext, sum_to-change2, sum_to-term}
use Rattle.laws.specs.Fold.{sum_over-ext}
use Rattle.laws.specs.Place.{place, place-off}
use Rattle.model.specs.Catalogue.{Net, Hypergraph, vertices}
use Rattle.model.specs.Measure.{Contraction, pin, pin_count, connectivity, metric}
use Rattle.guarantees.specs.Climbs.{Sound, pin-gone, pin-into, pin-other}

seen_same : (x y : ℕ) → x ≤ y → y ≤ x + x → ltb 0 x ≡ ltb 0 y
seen_same zero y l u = sym (le-ltb 0 y (omega arith))
seen_same (suc x) y l u = lt-ltb 0 (suc x) (omega arith) ∙ sym (lt-ltb 0 y (omega arith))

-- two pins that become one: x and y are the counts after and before, a and d say whether u and v are pins, b whether their block is meant
merged : (x y : ℕ) (a d b : Bool) → y + one ((a || d) && b) + 0 ≡ x + one (a && b) + one (d && b) → one ((a || d) && b) ≤ x → (x ≤ y) × (y ≤ x + x)
merged x y a d false q l = omega (arith, ap one (and-false (a || d)), ap one (and-false a), ap one (and-false d))
merged x y true true true q l = omega arith
merged x y true false true q l = omega arith
merged x y false true true q l = omega arith
merged x y false false true q l = omega arith

-- two vertices of one block, and one is contracted into the other
module _ (h : Hypergraph) (cs : List Contraction) (c : Contraction) (s : Sound (c ∷ cs)) (p : ℕ → ℕ)
    (ul : 1 ≤ c.into) (uu : c.into ≤ vertices h) (vl : 1 ≤ c.gone) (vu : c.gone ≤ vertices h) (one_block : p c.into ≡ p c.gone) where
  in_block : Net → ℕ → ℕ → ℕ
  in_block e b x = one (pin cs e x && eqb (p x) b)

  in-block' : Net → ℕ → ℕ → ℕ
  in-block' e b x = one (pin (c ∷ cs) e x && eqb (place p c.gone 0 x) b)

  count-join : (e : Net) (b : ℕ) → (pin_count h (c ∷ cs) (place p c.gone 0) e b ≤ pin_count h cs p e b) × (pin_count h cs p e b ≤ pin_count h (c ∷ cs) (place p c.gone 0) e b + pin_count h (c ∷ cs) (place p c.gone 0) e b)
  unfolding pin_count in_block in-block'
  count-join e b = merged _ _ (pin cs e c.into) (pin cs e c.gone) (eqb (p c.into) b)
      (omega (
        arith,
        sum_to-change2 (vertices h) c.into c.gone (in_block e b) (in-block' e b) ul uu vl vu s.0.two (λ j ni ng. sym (ap₂ (λ (a : Bool) (y : ℕ). one (a && eqb y b)) (pin-other cs c s e j ng ni) (place-off p c.gone 0 j ng))),
        at_into,
        at-gone,
        ap (λ (y : ℕ). one (pin cs e c.gone && eqb y b)) one_block,
      ))
      (omega (arith, at_into, sum_to-term (vertices h) c.into (in-block' e b) ul uu))
    where
      at_into : in-block' e b c.into ≡ one ((pin cs e c.into || pin cs e c.gone) && eqb (p c.into) b)
      at_into = ap₂ (λ (a : Bool) (y : ℕ). one (a && eqb y b)) (pin-into cs c s e) (place-off p c.gone 0 c.into s.0.two)

      at-gone : in-block' e b c.gone ≡ 0
      at-gone = ap (λ (a : Bool). one (a && eqb (place p c.gone 0 c.gone) b)) (pin-gone cs c s e)

  pub visited-join : (e : Net) (b : ℕ) → ltb 0 (pin_count h (c ∷ cs) (place p c.gone 0) e b) ≡ ltb 0 (pin_count h cs p e b)
  visited-join e b = seen_same _ _ (count-join e b).0 (count-join e b).1

  pub connectivity-join : (e : Net) → connectivity h (c ∷ cs) (place p c.gone 0) e ≡ connectivity h cs p e
  unfolding connectivity
  connectivity-join e = sum_to-ext h.blocks _ _ (λ b _ _. ap one (visited-join e b))

  -- the metric after a contraction
  pub metric-join : metric h (c ∷ cs) (place p c.gone 0) ≡ metric h cs p
  unfolding metric
  metric-join = sum_over-ext h.nets _ _ (λ e. ap (λ (y : ℕ). e.weight * (y - 1)) (connectivity-join e))
