-- The first line of a hall's file: which answer the tests give. Rests on text's laws of a line's form.
use Prim.Native.Nat.{ℕ}
use mathlib.Core.Path.{◌≡◌, refl, sym, ap, subst, ◌∙◌}
use mathlib.Core.List.{List, [], ◌∷◌}
use mathlib.Core.Bool.{Bool, true, false, not, ◌&&◌, cond}
use native.Mathlib.Omega.{arith}
use lib.ListN.{get_or, drop}
use Rattle.model.specs.Grammar.{Fields, bytes, fields, at, is_line_of, within, unread}
use Rattle.model.specs.HallText.{in_catalogue, hall_stopped, hall_head}
use Rattle.guarantees.specs.Reading.{within-range}
use Rattle.text.specs.Field.{form_of, Kept}
use Rattle.text.proofs.Lines.{line-yes, line-no, kept_at}
use Rattle.hall_lines.specs.Heading.{hall_book, Announced, FirstRead}
use Rattle.std.specs.Prelude.{Ok, Err}
use Rattle.refusal.specs.declared.Refusal.TheVariants.{BadlyWritten, OutOfRange}
use Rattle.refusal.proofs.Results.{err-ok, ok-ok}
use Rattle.hall_lines.specs.declared.First.{First}

word-HALL : bytes "HALL" ≡ 72 ∷ 65 ∷ 76 ∷ 76 ∷ []
unfolding bytes
word-HALL = refl

head-is : (n : ℕ) (fs : Fields) (f a b : Bool) → is_line_of "HALL" 2 fs ≡ f → within 2 4 (at fs 1) ≡ a → within 1 999999999 (at fs 2) ≡ b
    → hall_head n fs ≡ cond (not f) (hall_stopped 2 n) (cond (not (a && b)) (hall_stopped 3 n) (in_catalogue (hall_book (at fs 1) (at fs 2) [] []) unread))
unfolding hall_head
head-is n fs f a b p q r = rw (← p, ← q, ← r)

-- where the form of the line x with the word HALL is r, and its numbers are v's
module _ (x : List ℕ) (r : ℕ) (v : List ℕ) (form : r ≡ form_of (72 ∷ 65 ∷ 76 ∷ 76 ∷ []) (fields x)) (kept : Kept (drop 1 (fields x)) r v) where
  pub head-form : (r ≡ 3 → ⊥) → FirstRead (fields x) (Err BadlyWritten)
  head-form e = record {
    says = λ n. sym (head-is n (fields x) false _ _ (line-no "HALL" (72 ∷ 65 ∷ 76 ∷ 76 ∷ []) 2 r x word-HALL form e) refl refl);
    ranges = λ a z. err-ok z;
  }

  module _ (e : r ≡ 3) where
    yes-form : is_line_of "HALL" 2 (fields x) ≡ true
    yes-form = line-yes "HALL" (72 ∷ 65 ∷ 76 ∷ 76 ∷ []) 2 r x word-HALL form e

    at_1 : get_or v 0 0 ≡ at (fields x) 1
    at_1 = kept_at (fields x) r v kept 1 (omega arith) (omega arith) (omega arith)

    at-2 : get_or v 1 0 ≡ at (fields x) 2
    at-2 = kept_at (fields x) r v kept 2 (omega arith) (omega arith) (omega arith)

    pub head-count : within 2 4 (get_or v 0 0) ≡ false → FirstRead (fields x) (Err OutOfRange)
    head-count w = record {
      says = λ n. sym (head-is n (fields x) true false _ yes-form (ap (within 2 4) (sym at_1) ∙ w) refl);
      ranges = λ a z. err-ok z;
    }

    module _ (w : within 2 4 (get_or v 0 0) ≡ true) where
      pub head-limit : within 1 999999999 (get_or v 1 0) ≡ false → FirstRead (fields x) (Err OutOfRange)
      head-limit u = record {
        says = λ n. sym (head-is n (fields x) true true false yes-form (ap (within 2 4) (sym at_1) ∙ w) (ap (within 1 999999999) (sym at-2) ∙ u));
        ranges = λ a z. err-ok z;
      }

      pub head_read : within 1 999999999 (get_or v 1 0) ≡ true → FirstRead (fields x) (Ok (record { catalogues = get_or v 0 0; limit = get_or v 1 0 }))
      head_read u = record {
        says = λ n.
            rw (at_1, at-2) (sym (head-is n (fields x) true true true yes-form (ap (within 2 4) (sym at_1) ∙ w) (ap (within 1 999999999) (sym at-2) ∙ u)));
        ranges = λ a z.
            let c = within-range 2 4 (get_or v 0 0) w in
            let l = within-range 1 999999999 (get_or v 1 0) u in
            subst (λ (x : First). Announced x.catalogues x.limit) (ok-ok z) (record { some = c.0; few = c.1; limit-low = l.0; limit-high = l.1 });
      }
