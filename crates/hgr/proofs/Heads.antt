-- The first line and the header of an input. Rests on Codes and on passes' laws of rows.
use Prim.Native.Nat.{ℕ, ◌+◌, ◌-◌, ◌≤◌, ◌<◌}
use native.Mathlib.Omega.{arith}
use mathlib.Core.Path.{◌≡◌, refl, ap, sym, ◌∙◌}
use mathlib.Core.Bool.{Bool, true, false, true≢false}
use mathlib.Core.List.{List, [], ◌∷◌}
use borrow.Author.Tests.{eq-eqb}
use lib.ListN.{length, get_or, drop}
use lib.Seq.{slice, take-length}
use Rattle.laws.specs.Fold.{all}
use Rattle.model.specs.Grammar.{Fields, bytes, same, parts, fields, at, is_line, is_line_of}
use Rattle.text.specs.Field.{FirstAt, form_of, Numbered}
use Rattle.text.proofs.Lines.{numbered, line-yes, line-no}
use Rattle.model.specs.Hmetis.{lines_of, is_ended, is_part, Sections, words, is_header, code_in, first_line}
use Rattle.conversion.specs.Well.{Well}
use Rattle.passes.specs.Rows.{lines_at, rows_at, RowAt}
use Rattle.passes.proofs.Lines.{lines-on, lines_none}
use Rattle.passes.proofs.Rows.{then-part, then-row, no_part}
use Rattle.hgr.specs.Form.{FirstRead, NoHeader, HeaderRead}
use Rattle.hgr.proofs.Codes.{header-part, header-nil}

-- ---- the first line
pub HGR-is : bytes "HGR" ≡ 72 ∷ 71 ∷ 82 ∷ []
unfolding bytes
HGR-is = refl

lines-all : (s : List ℕ) → lines_at s 0 ≡ lines_of s
unfolding lines_at
lines-all s = ap lines_of (take-length s)

no_line : is_line_of "HGR" 2 (fields []) ≡ false
unfolding is_line fields parts same bytes all
no_line = refl

empty : (s : List ℕ) → length s ≡ 0 → s ≡ []
empty [] e = refl
empty (x ∷ s) e = absurd (omega arith)

module _ (s : List ℕ) where
  pub first-none : length s ≡ 0 → Well s → ⊥
  first-none q = λ w. true≢false (sym w.ended ∙ ap is_ended (empty s q))

  module _ (e : ℕ) (found : FirstAt s 0 (length s) 10 e) where
    pub first_short : e ≡ length s → Well s → ⊥
    unfolding first_line
    first_short q = λ w. true≢false (sym w.first ∙ ap (λ (ls : Fields). is_line_of "HGR" 2 (fields (get_or ls 0 []))) (sym (lines-all s) ∙ lines_none s 0 e (omega arith) found q) ∙ no_line)

    module _ (more : e < length s) where
      lines_are : lines_of s ≡ slice 0 e s ∷ lines_at s (e + 1)
      lines_are = sym (lines-all s) ∙ lines-on s 0 e (omega arith) found more

      first-is : first_line s ≡ fields (slice 0 e s)
      unfolding first_line
      first-is = ap (λ (ls : Fields). fields (get_or ls 0 [])) lines_are

      module _ (r : ℕ) (form : r ≡ form_of (72 ∷ 71 ∷ 82 ∷ []) (fields (slice 0 e s))) where
        pub first-bad : (r ≡ 3 → ⊥) → Well s → ⊥
        first-bad n = λ w. true≢false (sym w.first ∙ ap (is_line_of "HGR" 2) first-is ∙ line-no "HGR" (72 ∷ 71 ∷ 82 ∷ []) 2 r (slice 0 e s) HGR-is form n)

        pub first-number : (i : ℕ) → r ≡ 3 → 1 ≤ i → i ≤ 2 → Numbered (fields (slice 0 e s)) i
        first-number i q l u = numbered (72 ∷ 71 ∷ 82 ∷ []) (fields (slice 0 e s)) 2 i (sym form ∙ q) l u

        pub first_good : (k t : ℕ) → r ≡ 3 → get_or s (length s - 1) 0 ≡ 10 → k ≡ at (fields (slice 0 e s)) 1 → t ≡ at (fields (slice 0 e s)) 2 → FirstRead s (e + 1) k t
        first_good k t q z p o = record {
          low = omega arith;
          high = omega arith;
          ended = eq-eqb _ _ z;
          first = ap (is_line_of "HGR" 2) first-is ∙ line-yes "HGR" (72 ∷ 71 ∷ 82 ∷ []) 2 r (slice 0 e s) HGR-is form q;
          blocks_is = p ∙ ap (λ (fs : Fields). at fs 1) (sym first-is);
          imbalance-is = o ∙ ap (λ (fs : Fields). at fs 2) (sym first-is);
          lines = sym (ap (drop 1) lines_are);
        }

-- ---- the header
module _ (s : List ℕ) (start b e : ℕ) (row : RowAt s start b e) where
  abbrev l : List ℕ
  l = slice b e s

  pub header-bad : is_header l ≡ false → NoHeader s start
  header-bad q = record { none = λ f h. go (is_part l) refl h }
    where
      go : (p : Bool) → is_part l ≡ p → is_header (get_or (rows_at s start) 0 []) ≡ true → ⊥
      go true p h = true≢false (sym h ∙ ap (λ (x : Sections). is_header (get_or x.graph 0 [])) (row.line ∙ then-part l (lines_at s (e + 1)) p) ∙ header-nil)
      go false p h = true≢false (sym h ∙ ap (λ (x : Sections). is_header (get_or x.graph 0 [])) (row.line ∙ then-row l (lines_at s (e + 1)) p) ∙ q)

  pub header-good : is_header l ≡ true → (c m n : ℕ) → c ≡ code_in l → m ≡ at (words l) 0 → n ≡ at (words l) 1 → HeaderRead s start (e + 1) c m n
  header-good is c m n r p q =
      let x = row.line ∙ then-row l (lines_at s (e + 1)) (no_part is_header header-part l is) in
      let g = ap (λ (x : Sections). x.graph) x in
      let h : get_or (rows_at s start) 0 [] ≡ l = ap (λ (ls : Fields). get_or ls 0 []) g in
      record {
        low = omega arith;
        high = omega (arith, row.high);
        head = ap is_header h ∙ is;
        code_is = r ∙ ap code_in (sym h);
        edges-is = p ∙ ap (λ (y : List ℕ). at (words y) 0) (sym h);
        vertices-is = q ∙ ap (λ (y : List ℕ). at (words y) 1) (sym h);
        rows = g ∙ ap (λ (y : List ℕ). y ∷ rows_at s (e + 1)) (sym h);
        found = sym (ap (λ (x : Sections). x.found) x);
        listing = sym (ap (λ (x : Sections). x.listing) x);
      }
