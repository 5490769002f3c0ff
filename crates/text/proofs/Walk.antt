-- Laws of a cursor that walks a stretch of bytes: what the stretch from the cursor on says, one byte further. Rests on model's grammar.
use Prim.Native.Nat.{ℕ, zero, suc, ◌+◌, ◌-◌, ◌≤◌, ◌<◌}
use mathlib.Core.Path.{◌≡◌, refl, ap, sym, ◌∙◌}
use mathlib.Core.List.{List, [], ◌∷◌, ◌++◌}
use mathlib.Core.Bool.{Bool, true, false, ◌||◌, cond, true≢false}
use native.Mathlib.Decide.{ℕ_discrete}
use native.Mathlib.Omega.{arith}
use native.Mathlib.Numerals.{add-one}
use native.Mathlib.Nat.{zero-add, suc-add}
use lib.ListN.{length, get_or, take, drop}
use lib.Seq.{slice, slice-cons, slice_empty, length-slice, length-take-le, take-nil, take-take, take-add, drop-drop, drop-append-le}
use lib.Dec.{eqb}
use borrow.Author.Tests.{eq-eqb, ne_eqb}
use Rattle.laws.specs.Choice.{or-none}
use Rattle.model.specs.Grammar.{onto, parts}
use Rattle.text.specs.Field.{first, FirstAt, Without}

module _ (s : List ℕ) (i end : ℕ) (lt : i < end) (within : end ≤ length s) where
  pub slice_at : slice i end s ≡ get_or s i 0 ∷ slice (i + 1) end s
  slice_at = rw (add-one, slice-cons i end s 0)

  pub first-here : (sep : ℕ) → get_or s i 0 ≡ sep → first sep (slice i end s) ≡ 0
  first-here sep e = rw (slice_at, eq-eqb _ _ e)

  pub first_on : (sep : ℕ) → (get_or s i 0 ≡ sep → ⊥) → first sep (slice i end s) ≡ suc (first sep (slice (i + 1) end s))
  first_on sep e = rw (slice_at, ne_eqb _ _ e)

-- one byte more is tested
pub without_more : (s : List ℕ) (at j b : ℕ) (found : Bool) {r : Bool} → r ≡ (found || eqb (get_or s (at + j) 0) b) → (found ≡ false → Without s at j b) → r ≡ false → Without s at (j + 1) b
without_more s at j b found e h z i l q = go (ℕ_discrete i j) (or-none found (eqb (get_or s (at + j) 0) b) (sym e ∙ z))
  where
    go : Dec (i ≡ j) → (found ≡ false) × (eqb (get_or s (at + j) 0) b ≡ false) → ⊥
    go (yes k) f = true≢false (sym (eq-eqb _ _ (ap (λ (n : ℕ). get_or s (at + n) 0) (sym k) ∙ q)) ∙ f.1)
    go (no k) f = h f.0 i (omega arith) q

-- bytes that are no separator are passed over
pub first_past : (s : List ℕ) (n i end sep : ℕ) → i + n ≤ end → end ≤ length s → Without s i n sep → first sep (slice i end s) ≡ n + first sep (slice (i + n) end s)
first_past s zero i end sep h within w = let e : i ≡ i + 0 = omega arith in omega (arith, ap (λ (k : ℕ). first sep (slice k end s)) e)
first_past s (suc n) i end sep h within w =
    let here : get_or s i 0 ≡ sep → ⊥ = λ q. let e : i + 0 ≡ i = omega arith in w 0 (omega arith) (ap (λ (k : ℕ). get_or s k 0) e ∙ q) in
    let past = first_past s n (i + 1) end sep (omega arith) within (λ j l q. let e : i + suc j ≡ i + 1 + j = omega arith in w (suc j) (omega arith) (ap (λ (k : ℕ). get_or s k 0) e ∙ q)) in
    let e : i + 1 + n ≡ i + suc n = omega arith in
    omega (arith, first_on s i end (omega arith) within sep here, past, ap (λ (k : ℕ). first sep (slice k end s)) e)

-- the first separator from `at` on is the first from i on
pub first-from : (s : List ℕ) (at i end sep r : ℕ) → at ≤ i → at + first sep (slice at end s) ≡ i + first sep (slice i end s) → FirstAt s i end sep r → FirstAt s at end sep r
first-from s at i end sep r l e f = record { is = f.is ∙ sym e; low = omega (arith, f.low); high = f.high }

pub first-none : (s : List ℕ) (i end sep : ℕ) → i ≡ end → first sep (slice i end s) ≡ 0
first-none s i end sep e = rw (e, slice_empty)

pub slice-head : (s : List ℕ) (at end : ℕ) → at < end → end ≤ length s → get_or (slice at end s) 0 0 ≡ get_or s at 0
slice-head s at end lt within = rw (slice_at s at end lt within)

pub first-le : (sep : ℕ) (l : List ℕ) → first sep l ≤ length l
first-le sep [] = omega arith
first-le sep (b ∷ bs) = go (eqb b sep) (first-le sep bs)
  where
    go : (t : Bool) → first sep bs ≤ length bs → cond t zero (suc (first sep bs)) ≤ suc (length bs)
    go true h = omega arith
    go false h = omega arith

pub first-within : (s : List ℕ) (at end sep : ℕ) → at ≤ end → end ≤ length s → at + first sep (slice at end s) ≤ end
first-within s at end sep h k = omega (arith, first-le sep (slice at end s), length-slice at end s k)

-- ---- parts of a part

pub slice_is : (at k : ℕ) (s : List ℕ) → slice at (at + k) s ≡ take k (drop at s)
slice_is zero k s = rw zero-add
slice_is (suc at) k [] = rw (take-nil {A = ℕ} (suc at + k), take-nil {A = ℕ} k)
slice_is (suc at) k (x ∷ xs) = rw suc-add (slice_is at k xs)

pub take-slice : (s : List ℕ) (at end k : ℕ) → at + k ≤ end → take k (slice at end s) ≡ slice at (at + k) s
take-slice s at end k h =
    let e : end ≡ at + (end - at) = omega arith in
    let m : k ≤ end - at = omega arith in
    ap (λ (n : ℕ). take k (slice at n s)) e ∙ ap (take k) (slice_is at (end - at) s) ∙ take-take k (end - at) (drop at s) m ∙ sym (slice_is at k s)

-- a stretch is what stands before a place of it and what stands from there on
pub slice-split : (s : List ℕ) (at e end : ℕ) → at ≤ e → e ≤ end → end ≤ length s → slice at end s ≡ slice at e s ++ slice e end s
slice-split s at e end le lt within =
    let n : e + (end - e) ≡ end = omega arith in
    let z : at ≤ length (take e s) = omega (arith, length-take-le e s (omega arith)) in
    ap (λ (k : ℕ). drop at (take k s)) (sym n)
    ∙ ap (drop at) (take-add e (end - e) s)
    ∙ drop-append-le at (take e s) (take (end - e) (drop e s)) z
    ∙ ap (λ (l : List ℕ). slice at e s ++ l) (sym (slice_is e (end - e) s) ∙ ap (λ (k : ℕ). slice e k s) n)

pub slice-more : (s : List ℕ) (at i : ℕ) → at ≤ i → i < length s → slice at (i + 1) s ≡ slice at i s ++ (get_or s i 0 ∷ [])
slice-more s at i le lt =
    slice-split s at i (i + 1) le (omega arith) (omega arith)
    ∙ ap (λ (l : List ℕ). slice at i s ++ l) (slice_at s i (i + 1) (omega arith) (omega arith) ∙ ap (λ (l : List ℕ). get_or s i 0 ∷ l) (slice_empty (i + 1) s))

pub drop-slice : (s : List ℕ) (at end k : ℕ) → drop (suc k) (slice at end s) ≡ slice (at + k + 1) end s
drop-slice s at end k =
    let e : at + suc k ≡ at + k + 1 = omega arith in
    drop-drop (suc k) at (take end s) ∙ ap (λ (n : ℕ). drop n (take end s)) e

-- ---- a list's parts, one further

parts-nil : (sep : ℕ) → parts sep [] ≡ [] ∷ []
unfolding parts
parts-nil sep = refl

parts-cons : (sep b : ℕ) (bs : List ℕ) (t : Bool) → eqb b sep ≡ t → parts sep (b ∷ bs) ≡ cond t ([] ∷ parts sep bs) (onto b (parts sep bs))
unfolding parts
parts-cons sep b bs t e = ap (λ (x : Bool). cond x ([] ∷ parts sep bs) (onto b (parts sep bs))) e

-- where a separator is found: what stands before it is the first part, and the others are the parts of what stands after it
pub parts-found : (sep : ℕ) (l : List ℕ) → first sep l < length l → parts sep l ≡ take (first sep l) l ∷ parts sep (drop (suc (first sep l)) l)
parts-found sep [] h = absurd (omega arith)
parts-found sep (b ∷ bs) h = go (eqb b sep) refl (parts-found sep bs)
  where
    go : (t : Bool) → eqb b sep ≡ t
        → (first sep bs < length bs → parts sep bs ≡ take (first sep bs) bs ∷ parts sep (drop (suc (first sep bs)) bs))
        → parts sep (b ∷ bs) ≡ take (first sep (b ∷ bs)) (b ∷ bs) ∷ parts sep (drop (suc (first sep (b ∷ bs))) (b ∷ bs))
    go true e ih = rw (parts-cons sep b bs true e, e)
    go false e ih =
        let g : suc (first sep bs) < suc (length bs) = rw e at h in
        rw (parts-cons sep b bs false e, e, ih (omega arith))

-- where none is found the list is the one part
pub parts-one : (sep : ℕ) (l : List ℕ) → length l ≤ first sep l → parts sep l ≡ l ∷ []
parts-one sep [] h = parts-nil sep
parts-one sep (b ∷ bs) h = go (eqb b sep) refl (parts-one sep bs)
  where
    go : (t : Bool) → eqb b sep ≡ t → (length bs ≤ first sep bs → parts sep bs ≡ bs ∷ []) → parts sep (b ∷ bs) ≡ (b ∷ bs) ∷ []
    go true e ih = let g : suc (length bs) ≤ 0 = rw e at h in absurd (omega arith)
    go false e ih =
        let g : suc (length bs) ≤ suc (first sep bs) = rw e at h in
        rw (parts-cons sep b bs false e, ih (omega arith))

-- there is at least one part
pub parts-some : (sep : ℕ) (l : List ℕ) → parts sep l ≡ [] → ⊥
parts-some sep [] e = let f = sym (parts-nil sep) ∙ e in let z : ◌≡◌ {A = ℕ} 0 1 = cc in omega arith
parts-some sep (b ∷ bs) e = go (eqb b sep) (parts sep bs) (sym (parts-cons sep b bs (eqb b sep) refl) ∙ e)
  where
    go : (t : Bool) (ps : List (List ℕ)) → cond t ([] ∷ ps) (onto b ps) ≡ [] → ⊥
    go true ps e = let z : ◌≡◌ {A = ℕ} 0 1 = cc in omega arith
    go false [] e = let z : ◌≡◌ {A = ℕ} 0 1 = cc in omega arith
    go false (p ∷ ps) e = let z : ◌≡◌ {A = ℕ} 0 1 = cc in omega arith

-- the same of a cursor: `j` is what `find` answers
module _ (s : List ℕ) (at end j sep : ℕ) (le : at ≤ end) (within : end ≤ length s) (found : j ≡ at + first sep (slice at end s)) where
  pub field_is : take (first sep (slice at end s)) (slice at end s) ≡ slice at j s
  field_is = take-slice s at end (first sep (slice at end s)) (first-within s at end sep le within) ∙ ap (λ (n : ℕ). slice at n s) (sym found)

  pub fields-on : j < end → parts sep (slice at end s) ≡ slice at j s ∷ parts sep (slice (j + 1) end s)
  fields-on lt =
      let l = length-slice at end s within in
      parts-found sep (slice at end s) (omega arith)
      ∙ ap (λ (f : List ℕ). f ∷ parts sep (drop (suc (first sep (slice at end s))) (slice at end s))) field_is
      ∙ ap (λ (r : List ℕ). slice at j s ∷ parts sep r) (drop-slice s at end (first sep (slice at end s)) ∙ ap (λ (n : ℕ). slice (n + 1) end s) (sym found))

  pub fields-one : end ≤ j → parts sep (slice at end s) ≡ slice at end s ∷ []
  fields-one ge = parts-one sep (slice at end s) (omega (arith, length-slice at end s within))
