-- What the tables of an accepted catalogue show: each buyer's marks, all marks, first places, sizes, present marks. Rests on Fill and on guarantees' laws of a catalogue with no contraction.
use Prim.Native.Nat.{ℕ, zero, suc, ◌+◌, ◌-◌, ◌≤◌, ◌<◌}
use mathlib.Core.Path.{◌≡◌, refl, ap, sym, ◌∙◌}
use mathlib.Core.List.{List, [], ◌∷◌, ◌++◌, append_assoc, append-nil}
use native.Mathlib.Nat.{zero-add}
use native.Mathlib.Omega.{arith}
use native.Mathlib.Decide.{ℕ_discrete}
use lib.ListN.{length, get_or, take, drop}
use lib.Seq.{slice, length-slice, length-take-le, get_or-take, get_or-drop, get_or_at, take-add}
use Rattle.laws.specs.Choice.{one}
use Rattle.laws.specs.Fold.{All, all-get}
use Rattle.laws.specs.Occurrence.{occ, same, Distinct, distinct-any}
use Rattle.laws.specs.Sum.{sum, sum-zero, sum-suc, sum_step, sum-ext, sum-split, sum-sum_to}
use Rattle.text.proofs.Walk.{slice_is}
use Rattle.model.specs.Catalogue.{Net, Hypergraph, vertices}
use Rattle.model.specs.Measure.{pin, size}
use Rattle.model.specs.Memory.{no_net, net, all_pins, first_place}
use Rattle.guarantees.specs.Clumps.{Within}
use Rattle.guarantees.specs.Splits.{pin-none}
use Rattle.guarantees.specs.Stretches.{size-fresh}
use Rattle.reader.specs.Buyers.{nets_of, Laid}
use Rattle.reader.proofs.NetLines.{nets-length}

sum-prefix : (x n : ℕ) (f : ℕ → ℕ) → x ≤ n → sum x f ≤ sum n f
sum-prefix x n f l =
    let e : x + (n - x) ≡ n = omega arith in
    omega (arith, sum-split x (n - x) f, ap (λ (k : ℕ). sum k f) e)

get_d_front : {A : Type 0} (xs ys : List A) (i : ℕ) (d : A) → i < length xs → get_or (xs ++ ys) i d ≡ get_or xs i d
get_d_front [] ys i d l = absurd (omega arith)
get_d_front (x ∷ xs) ys zero d l = refl
get_d_front (x ∷ xs) ys (suc i) d l = get_d_front xs ys i d (omega arith)

pins-end : (ns : List Net) (e : Net) → all_pins (ns ++ (e ∷ [])) ≡ all_pins ns ++ e.pins
unfolding all_pins
pins-end [] e = append-nil e.pins
pins-end (n ∷ ns) e = ap (λ (l : List ℕ). n.pins ++ l) (pins-end ns e) ∙ sym (append_assoc n.pins (all_pins ns) e.pins)

module _ (w f c marks : List ℕ) where
  abbrev net_at : ℕ → Net
  net_at j = record { weight = get_or w j 0; pins = slice (get_or f j 0) (get_or f j 0 + get_or c j 0) marks }

  pub nets-at : (j y : ℕ) → y < j → get_or (nets_of j w f c marks) y no_net ≡ net_at y
  unfolding nets_of
  nets-at zero y l = absurd (omega arith)
  nets-at (suc j) y l = go (ℕ_discrete y j) (nets-at j y)
    where
      go : Dec (y ≡ j) → (y < j → get_or (nets_of j w f c marks) y no_net ≡ net_at y) → get_or (nets_of j w f c marks ++ (net_at j ∷ [])) y no_net ≡ net_at y
      go (yes q) ih = get_or_at (nets_of j w f c marks) (net_at j) [] no_net y (nets-length j w f c marks ∙ sym q) ∙ ap net_at (sym q)
      go (no n) ih = get_d_front (nets_of j w f c marks) (net_at j ∷ []) y no_net (omega (arith, nets-length j w f c marks)) ∙ ih (omega arith)

  all-pins : (j : ℕ) → ((x : ℕ) → x < j → get_or f x 0 ≡ sum x (λ y. get_or c y 0)) → all_pins (nets_of j w f c marks) ≡ take (sum j (λ y. get_or c y 0)) marks
  unfolding nets_of all_pins
  all-pins zero first = rw (sum-zero (λ y. get_or c y 0))
  all-pins (suc j) first =
      let s : ℕ = sum j (λ y. get_or c y 0) in
      let e : get_or f j 0 ≡ s = first j (omega arith) in
      pins-end (nets_of j w f c marks) (net_at j)
      ∙ ap (λ (l : List ℕ). l ++ slice (get_or f j 0) (get_or f j 0 + get_or c j 0) marks) (all-pins j (λ x l. first x (omega arith)))
      ∙ ap (λ (n : ℕ). take s marks ++ slice n (n + get_or c j 0) marks) e
      ∙ ap (λ (l : List ℕ). take s marks ++ l) (slice_is s (get_or c j 0) marks)
      ∙ sym (take-add s (get_or c j 0) marks)
      ∙ ap (λ (n : ℕ). take n marks) (sym (sum-suc j (λ y. get_or c y 0)))

-- the buyers of a catalogue are those of the tables
module _ {most : ℕ} (h : Hypergraph) (b m : ℕ) (f₀ c₀ marks₀ w f c marks : List ℕ) (is : h.nets ≡ nets_of b w f c marks) (laid : Laid most b m f₀ c₀ marks₀ f c marks) (wide : most ≤ length marks) where
  pub net-is : (y : ℕ) → y < b → net h (suc y) ≡ net_at w f c marks y
  net-is y l = let z : suc y - 1 ≡ y = omega arith in
      rw z (ap (λ (ns : List Net). get_or ns y no_net) is ∙ nets-at w f c marks b y l)

  pub count-is : length h.nets ≡ b
  count-is = ap length is ∙ nets-length b w f c marks

  -- a buyer's stretch ends within all marks
  pub stretch : (y : ℕ) → y < b → get_or f y 0 + get_or c y 0 ≤ m
  stretch y l = omega (arith, laid.first-is y l, laid.m-is, sum_step y (λ x. get_or c x 0), sum-prefix (y + 1) b (λ x. get_or c x 0) (omega arith))

  pub pins-is : (y : ℕ) → y < b → (net h (suc y)).pins ≡ slice (get_or f y 0) (get_or f y 0 + get_or c y 0) marks
  pins-is y l = ap (λ (e : Net). e.pins) (net-is y l)

  pub size_is : (y : ℕ) → y < b → length (net h (suc y)).pins ≡ get_or c y 0
  size_is y l = ap length (pins-is y l) ∙ length-slice (get_or f y 0) (get_or f y 0 + get_or c y 0) marks (omega (arith, stretch y l, laid.m-le)) ∙ omega arith

  pub first-is : (y : ℕ) → y < b → get_or f y 0 ≡ first_place h (suc y)
  unfolding first_place
  first-is y l =
      let z : suc y - 1 ≡ y = omega arith in
      rw z (laid.first-is y l ∙ sum-sum_to y (λ x. get_or c x 0) (λ d. length (net h d).pins) (λ i u. sym (size_is i (omega arith))))

  pub pins-all : all_pins h.nets ≡ take m marks
  pins-all = ap all_pins is ∙ all-pins w f c marks b laid.first-is ∙ ap (λ (n : ℕ). take n marks) (sym laid.m-is)

  pub pins-count : length (all_pins h.nets) ≡ m
  pins-count = ap length pins-all ∙ length-take-le m marks (omega (arith, laid.m-le))

  pub pins-at : (i : ℕ) → i < m → get_or (all_pins h.nets) i 0 ≡ get_or marks i 0
  pins-at i l = ap (λ (ps : List ℕ). get_or ps i 0) pins-all ∙ get_or-take m marks i 0 l

  -- a mark of a buyer, in the table of marks
  mark-at : (y i : ℕ) → y < b → i < get_or c y 0 → get_or (net h (suc y)).pins i 0 ≡ get_or marks (get_or f y 0 + i) 0
  mark-at y i l u =
      ap (λ (ps : List ℕ). get_or ps i 0) (pins-is y l ∙ slice_is (get_or f y 0) (get_or c y 0) marks)
      ∙ get_or-take (get_or c y 0) (drop (get_or f y 0) marks) i 0 u
      ∙ get_or-drop (get_or f y 0) marks i 0

  module _ (within : All h.nets (Within (vertices h))) (distinct : All h.nets (λ e. Distinct e.pins 0 (length e.pins))) where
    pub present-is : (y : ℕ) → y < b → size h [] (net h (suc y)) ≡ get_or c y 0
    present-is y l =
        let z : suc y - 1 ≡ y = omega arith in
        size-fresh h (net h (suc y))
        (rw z (all-get h.nets (Within (vertices h)) no_net within y (omega (arith, count-is))))
        (rw z (all-get h.nets (λ e. Distinct e.pins 0 (length e.pins)) no_net distinct y (omega (arith, count-is))))
        ∙ size_is y l

    pub sets-is : (pp : List ℕ) → ((i : ℕ) → i < m → get_or pp i 0 ≡ get_or marks i 0) → (y v : ℕ) → y < b → occ pp (get_or f y 0) (get_or c y 0) v ≡ one (pin [] (net h (suc y)) v)
    unfolding occ
    sets-is pp copied y v l =
        let z : suc y - 1 ≡ y = omega arith in
        let vs : List ℕ = (net h (suc y)).pins in
        let o : Distinct vs 0 (length vs) = rw z (all-get h.nets (λ e. Distinct e.pins 0 (length e.pins)) no_net distinct y (omega (arith, count-is))) in
        sum-ext (get_or c y 0) _ (λ i. same (get_or vs (0 + i) 0) v) (λ i u. ap (λ (x : ℕ). same x v) (copied (get_or f y 0 + i) (omega (arith, stretch y l)) ∙ sym (at-is i u)))
        ∙ ap (λ (n : ℕ). occ vs 0 n v) (sym (size_is y l))
        ∙ distinct-any vs v o
        ∙ sym (ap one (pin-none (net h (suc y)) v))
      where
        at-is : (i : ℕ) → i < get_or c y 0 → get_or (net h (suc y)).pins (0 + i) 0 ≡ get_or marks (get_or f y 0 + i) 0
        at-is i u = ap (λ (j : ℕ). get_or (net h (suc y)).pins j 0) (zero-add i) ∙ mark-at y i l u

    -- each mark is a vertex's number
    pub marks-inside : (y i : ℕ) → y < b → i < get_or c y 0 → (1 ≤ get_or marks (get_or f y 0 + i) 0) × (get_or marks (get_or f y 0 + i) 0 ≤ vertices h)
    marks-inside y i l u =
        let z : suc y - 1 ≡ y = omega arith in
        let in-range : Within (vertices h) (net h (suc y)) = rw z (all-get h.nets (Within (vertices h)) no_net within y (omega (arith, count-is))) in
        rw (← mark-at y i l u) (all-get (net h (suc y)).pins (λ x. (1 ≤ x) × (x ≤ vertices h)) 0 in-range i (omega (arith, size_is y l)))
