-- Laws of the lines from a cursor on: one line further, and a comment passed over. Rests on text's laws of parts.
use Prim.Native.Nat.{ℕ, ◌+◌, ◌≤◌, ◌<◌}
use native.Mathlib.Omega.{arith}
use native.Mathlib.Decide.{ℕ_discrete}
use mathlib.Core.Path.{◌≡◌, refl, ap, sym, ◌∙◌}
use mathlib.Core.Bool.{Bool, true, false, ◌&&◌, cond}
use mathlib.Core.List.{List, [], ◌∷◌}
use borrow.Author.Tests.{eq-eqb, ne_eqb}
use lib.ListN.{length, get_or}
use lib.Seq.{slice, slice_empty}
use Rattle.model.specs.Grammar.{Fields, bytes, same, parts}
use Rattle.text.specs.Field.{FirstAt}
use Rattle.text.proofs.Walk.{slice_at, slice-head, first_on, parts-some}
use Rattle.text.proofs.Lines.{parts-on, parts_last}
use Rattle.model.specs.Hmetis.{all_but_last, lines_of, is_comment, is_part, with_line, sections}
use Rattle.passes.specs.Rows.{lines_at, sections_at, line_then, no_sections, at_part, RowAt}

all-but-more : (l : List ℕ) (ls : Fields) → (ls ≡ [] → ⊥) → all_but_last (l ∷ ls) ≡ l ∷ all_but_last ls
unfolding all_but_last
all-but-more l [] n = absurd (n refl)
all-but-more l (m ∷ ls) n = refl

lines-nil : lines_of [] ≡ []
unfolding lines_of all_but_last parts
lines-nil = refl

-- the line from i on ends at e
module _ (s : List ℕ) (i e : ℕ) (le : i ≤ length s) (found : FirstAt s i (length s) 10 e) where
  pub lines-on : e < length s → lines_at s i ≡ slice i e s ∷ lines_at s (e + 1)
  unfolding lines_at lines_of
  lines-on lt =
      ap all_but_last (parts-on s i (length s) 10 e le (omega arith) found lt)
      ∙ all-but-more (slice i e s) (parts 10 (slice (e + 1) (length s) s)) (parts-some 10 (slice (e + 1) (length s) s))

  pub lines_none : e ≡ length s → lines_at s i ≡ []
  unfolding lines_at lines_of all_but_last
  lines_none q = ap all_but_last (parts_last s i (length s) 10 e le (omega arith) found q)

pub lines_end : (s : List ℕ) (i : ℕ) → i ≡ length s → lines_at s i ≡ []
unfolding lines_at
lines_end s i q = ap lines_of (ap (λ (k : ℕ). slice k (length s) s) q ∙ slice_empty (length s) s) ∙ lines-nil

-- ---- comments and other lines
sections-nil : sections [] ≡ no_sections
unfolding sections
sections-nil = refl

sections-cons : (l : List ℕ) (ls : Fields) (p c : Bool) → is_part l ≡ p → is_comment l ≡ c
    → sections (l ∷ ls) ≡ cond p (at_part ls) (cond c (sections ls) (with_line l (sections ls)))
unfolding sections
sections-cons l ls p c e f = ap (λ (x : Bool). cond x (at_part ls) (cond (is_comment l) (sections ls) (with_line l (sections ls)))) e ∙ ap (λ (x : Bool). cond p (at_part ls) (cond x (sections ls) (with_line l (sections ls)))) f

percent : (b : ℕ) (bs : List ℕ) → b ≡ 37 → is_part (b ∷ bs) ≡ false
unfolding same bytes
percent b bs e = ap (λ (t : Bool). t && same bs (65 ∷ 82 ∷ 84 ∷ [])) (ne_eqb b 80 (λ q. omega arith))

module _ (s : List ℕ) (i e : ℕ) (lt : i < length s) (found : FirstAt s i (length s) 10 e) where
  le : i ≤ length s
  le = omega arith

  pub sections-none : e ≡ length s → sections_at s i ≡ no_sections
  sections-none q = ap sections (lines_none s i e le found q) ∙ sections-nil

  module _ (more : e < length s) where
    pub comment-line : get_or s i 0 ≡ 37 → sections_at s i ≡ sections_at s (e + 1)
    comment-line q =
        let some : i < e = omega (arith, found.is, first_on s i (length s) lt (omega arith) 10 (λ z. omega arith)) in
        let l = slice_at s i e some (omega arith) in
        ap sections (lines-on s i e le found more)
        ∙ sections-cons (slice i e s) (lines_at s (e + 1)) false true (ap is_part l ∙ percent (get_or s i 0) (slice (i + 1) e s) q) (eq-eqb _ _ (slice-head s i e some (omega arith) ∙ q))

    other : (get_or s i 0 ≡ 37 → ⊥) → get_or (slice i e s) 0 0 ≡ 37 → ⊥
    other n z = go (ℕ_discrete i e)
      where
        go : Dec (i ≡ e) → ⊥
        go (yes q) = let x : get_or (slice i e s) 0 0 ≡ 0 = ap (λ (k : ℕ). get_or (slice i k s) 0 0) (sym q) ∙ ap (λ (l : List ℕ). get_or l 0 0) (slice_empty i s) in omega (arith, x, z)
        go (no m) = n (sym (slice-head s i e (omega (arith, found.low)) (omega arith)) ∙ z)

    pub other-line : (get_or s i 0 ≡ 37 → ⊥) → sections_at s i ≡ line_then (slice i e s) (lines_at s (e + 1))
    unfolding line_then
    other-line n = ap sections (lines-on s i e le found more) ∙ sections-cons (slice i e s) (lines_at s (e + 1)) (is_part (slice i e s)) false refl (ne_eqb _ _ (other n))

pub sections-end : (s : List ℕ) (i : ℕ) → i ≡ length s → sections_at s i ≡ no_sections
sections-end s i q = ap sections (lines_end s i q) ∙ sections-nil

-- ---- what `row` answers
pub row-found : (s : List ℕ) (at i : ℕ) → at ≤ i → sections_at s at ≡ sections_at s i → (e : ℕ) → i < length s → FirstAt s i (length s) 10 e → e < length s → (get_or s i 0 ≡ 37 → ⊥) → RowAt s at i e
row-found s at i low says e lt found more n = record { low = low; mid = found.low; high = more; line = says ∙ other-line s i e lt found more n }
