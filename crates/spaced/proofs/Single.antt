-- Laws of a number that stands alone between two places: it has no comma. Rests on text's laws of a field.
use Prim.Native.Nat.{ℕ, zero, suc, ◌≤◌, ◌<◌}
use native.Mathlib.Decide.{ℕ_discrete}
use native.Mathlib.Omega.{arith}
use mathlib.Core.Path.{◌≡◌, refl, ap, sym, ◌∙◌}
use mathlib.Core.Bool.{Bool, true, false, not, ◌&&◌, cond, true≢false}
use mathlib.Core.List.{List, [], ◌∷◌}
use borrow.Author.Tests.{leb-true, eqb-true, eq-eqb, ne_eqb, ltb-true, ltb-false}
use lib.Dec.{eqb, leb, ltb}
use lib.ListN.{length, get_or}
use lib.Seq.{slice, slice_empty, length-slice}
use Rattle.laws.specs.Fold.{all}
use Rattle.laws.specs.Choice.{and_left, and_right}
use Rattle.model.specs.Grammar.{Fields, is_digit, leading_zero, is_number, fields, value}
use Rattle.text.specs.Field.{first, FirstAt, NumberEnd, FieldRead, Numbered}
use Rattle.text.proofs.Lines.{parts_last, field_end, field_found}

-- digits are no commas
no-comma : (l : List ℕ) → all l is_digit ≡ true → first 44 l ≡ length l
unfolding all
no-comma [] a = refl
no-comma (b ∷ bs) a =
    let d = and_left (is_digit b) (all bs is_digit) a in
    let low = leb-true 48 b (and_left (leb 48 b) (leb b 57) d) in
    ap (λ (t : Bool). cond t zero (suc (first 44 bs))) (ne_eqb b 44 (λ e. omega arith)) ∙ ap suc (no-comma bs (and_right (is_digit b) (all bs is_digit) a))

number_digits : (l : List ℕ) → is_number l ≡ true → all l is_digit ≡ true
unfolding is_number
number_digits l e = and_right (leb 1 (length l) && leb (length l) 9 && not (leading_zero l)) (all l is_digit) e

pub nothing-no : (s : List ℕ) (at end : ℕ) → at ≡ end → false ≡ is_number (slice at end s)
unfolding is_number
nothing-no s at end e = sym (ap (λ (k : ℕ). is_number (slice at k s)) (sym e) ∙ ap is_number (slice_empty at s))

module _ (s : List ℕ) (at end : ℕ) (le : at ≤ end) (within : end ≤ length s) where
  -- a number's field ends where the number does
  field-all : is_number (slice at end s) ≡ true → (e : ℕ) → FirstAt s at end 44 e → e ≡ end
  field-all is e found = omega (arith, found.is, no-comma (slice at end s) (number_digits (slice at end s) is), length-slice at end s within)

  comma-no : (e : ℕ) → FirstAt s at end 44 e → (e ≡ end → ⊥) → is_number (slice at end s) ≡ false
  comma-no e found n = go (is_number (slice at end s)) refl
    where
      go : (b : Bool) → is_number (slice at end s) ≡ b → b ≡ false
      go true q = absurd (n (field-all q e found))
      go false q = refl

  number_at : (r : ℕ) → at < end → NumberEnd s at end r → (r ≡ end) → is_number (slice at end s) ≡ true
  number_at r lt told q = ap (λ (k : ℕ). is_number (slice at k s)) (sym q) ∙ told.is (omega arith)

  number-not : (r : ℕ) → NumberEnd s at end r → (r ≡ end → ⊥) → is_number (slice at end s) ≡ false
  number-not r told n = go (ltb at r) refl (eqb (field_end s at end) end) refl
    where
      go : (b : Bool) → ltb at r ≡ b → (t : Bool) → eqb (field_end s at end) end ≡ t → is_number (slice at end s) ≡ false
      go true q t p = comma-no r (told.ends (ltb-true at r q)) n
      go false q true p = ap (λ (k : ℕ). is_number (slice at k s)) (sym (eqb-true (field_end s at end) end p)) ∙ told.none (omega (arith, told.low, ltb-false at r q)) (field_end s at end) (field_found s at end le within)
      go false q false p = comma-no (field_end s at end) (field_found s at end le within) (λ e. true≢false (sym (eq-eqb (field_end s at end) end e) ∙ p))

  pub number_is : (r : ℕ) → (at ≡ end → ⊥) → NumberEnd s at end r → eqb r end ≡ is_number (slice at end s)
  number_is r some told = go (ℕ_discrete r end)
    where
      go : Dec (r ≡ end) → eqb r end ≡ is_number (slice at end s)
      go (yes q) = eq-eqb r end q ∙ sym (number_at r (omega arith) told q)
      go (no n) = ne_eqb r end n ∙ sym (number-not r told n)

  pub number-field : is_number (slice at end s) ≡ true → Numbered (fields (slice at end s)) 0
  unfolding fields
  number-field is =
      let found = field_found s at end le within in
      let p = parts_last s at end 44 (field_end s at end) le within found (field-all is (field_end s at end) found) in
      record {
        inside = omega (arith, ap length p);
        is = ap (λ (fs : Fields). is_number (get_or fs 0 [])) p ∙ ap (λ (k : ℕ). is_number (slice at k s)) (field-all is (field_end s at end) found) ∙ is;
      }

  pub number-value : (v e : ℕ) → is_number (slice at end s) ≡ true → FieldRead s at end v e → v ≡ value (slice at end s)
  number-value v e is read = read.is ∙ ap (λ (k : ℕ). value (slice at k s)) (field-all is e read.ends)
