-- A net has no more present pins than loaded ones (size-le), as many while no contraction stands (size-fresh), and no more in a block than
-- present ones (count-le), so its present set fits its loaded stretch; the stretches of an accepted catalogue end within all its marks, at
-- most 8,192 (stretch-le, marks-le). Rests on Ranges and Splits. Assumes nothing.
use Rattle.std.specs.Prelude.{ℕ, zero, suc, ◌+◌, ◌-◌, ◌≤◌, ◌≡◌, refl, Bool, true, false, ◌||◌, ◌&&◌, cond, List, [], ◌∷◌, length}
use Rattle.std.proofs.Common.{zero-add, arith, sym, ap, ◌∙◌, length-append}
use Rattle.std.proofs.Math.Dec.{eqb}
use Rattle.laws.specs.Choice.{one}
use Rattle.laws.specs.Fold.{sum_over, any, all-get}
use Rattle.laws.specs.Occurrence.{occ, Distinct, distinct-any, occ-total}
use Rattle.laws.specs.Sum.{sum_to, count_to, sum_to-ext, sum_to-add, sum_to-nil, sum_to-mono, sum_to-once, sum_to-suc, sum_to-prefix, sum_to-list}
use Rattle.model.specs.Catalogue.{Limits, Net, Hypergraph, vertices}
use Rattle.model.specs.Measure.{Contraction, representative, pin, size, pin_count}
use Rattle.model.specs.Memory.{no_net, net, all_pins, first_place}
use Rattle.guarantees.specs.Clumps.{Within}
use Rattle.guarantees.specs.Splits.{pin-none}
use Rattle.guarantees.specs.Ranges.{Ranges}

either-one : (a b : Bool) → one (a || b) ≤ cond a 1 0 + one b
either-one true b = omega arith
either-one false b = omega arith

both_one : (a b : Bool) → one (a && b) ≤ one a
both_one true true = omega arith
both_one true false = omega arith
both_one false b = omega arith

-- numbers r x of a list are no more than its elements
values-le : (n : ℕ) (r : ℕ → ℕ) (l : List ℕ) → count_to n (λ v. any l (λ x. eqb (r x) v)) ≤ length l
unfolding any
values-le n r [] = omega (arith, sum_to-nil n (λ v. 0) (λ v _ _. refl))
values-le n r (x ∷ l) = omega (
  arith,
  sum_to-mono n (λ v. one (eqb (r x) v || any l (λ x. eqb (r x) v))) (λ v. cond (eqb (r x) v) 1 0 + one (any l (λ x. eqb (r x) v))) (λ v _ _. either-one (eqb (r x) v) (any l (λ x. eqb (r x) v))),
  sum_to-add n (λ v. cond (eqb (r x) v) 1 0) (λ v. one (any l (λ x. eqb (r x) v))),
  sum_to-once n (r x) 1,
  values-le n r l,
)

module _ (h : Hypergraph) (cs : List Contraction) (e : Net) where
  pub size-le : size h cs e ≤ length e.pins
  unfolding size pin
  size-le = values-le (vertices h) (representative cs) e.pins

  pub count-le : (p : ℕ → ℕ) (b : ℕ) → pin_count h cs p e b ≤ size h cs e
  unfolding pin_count size
  count-le p b = sum_to-mono (vertices h) (λ v. one (pin cs e v && eqb (p v) b)) (λ v. one (pin cs e v)) (λ v _ _. both_one (pin cs e v) (eqb (p v) b))

-- with no contraction as many present pins as loaded ones
pub size-fresh : (h : Hypergraph) (e : Net) → Within (vertices h) e → Distinct e.pins 0 (length e.pins) → size h [] e ≡ length e.pins
unfolding size
size-fresh h e a d =
    sum_to-ext (vertices h) _ (occ e.pins 0 (length e.pins)) (λ v _ _. ap one (pin-none e v) ∙ sym (distinct-any e.pins v d))
    ∙ occ-total e.pins 0 (length e.pins) (vertices h) (λ i l. rw zero-add (all-get e.pins (λ x. (1 ≤ x) × (x ≤ vertices h)) 0 a i l))

-- ---- stretches
pub pins-length : (es : List Net) → length (all_pins es) ≡ sum_over es (λ e. length e.pins)
unfolding all_pins sum_over
pins-length [] = refl
pins-length (e ∷ es) = omega (arith, length-append e.pins (all_pins es), pins-length es)

pub stretch-le : (h : Hypergraph) (e : ℕ) → 1 ≤ e → e ≤ length h.nets → first_place h e + length (net h e).pins ≤ length (all_pins h.nets)
unfolding first_place
stretch-le h zero l u = absurd (omega arith)
stretch-le h (suc d) l u = omega (
  arith,
  ap (λ (n : ℕ). sum_to n pins) (down d),
  sum_to-suc d pins,
  sum_to-prefix (suc d) (length h.nets - suc d) pins,
  ap (λ (n : ℕ). sum_to n pins) (rest (length h.nets) u),
  sum_to-list h.nets no_net (λ e. length e.pins),
  pins-length h.nets,
)
  where
    pins : ℕ → ℕ
    pins d = length (net h d).pins

    down : (d : ℕ) → suc d - 1 ≡ d
    down d = omega arith

    rest : (n : ℕ) → suc d ≤ n → suc d + (n - suc d) ≡ n
    rest n k = omega arith

pub marks-le : (limits : Limits) (h : Hypergraph) → Ranges limits h → length (all_pins h.nets) ≤ 8192
marks-le limits h r = omega (arith, pins-length h.nets, r.marks-high)
