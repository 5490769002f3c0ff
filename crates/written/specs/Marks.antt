-- A buyer's marks are read as they were written, where they are distinct, lots that there are, and within 8,192 in all (marks-read).
-- Rests on guarantees' Numbers. Assumes nothing.
use Rattle.std.specs.Prelude.{ℕ, suc, ◌+◌, ◌≤◌, ◌<◌, ◌≡◌, refl, Bool, true, false, eqb, length, get_or}
use Rattle.std.proofs.Common.{zero-add, arith, sym, ◌∙◌, subst, length-append}
use Rattle.std.proofs.Math.Path.{ap, ap₂}
use mathlib.Core.List.{List, [], ◌∷◌, ◌++◌, append-nil, append_assoc}
use borrow.Author.Tests.{lt-leb, eqb-true}
use Rattle.std.proofs.Math.ListN.{get_or-append}
use Rattle.std.proofs.Math.Seq.{get_or-append_seam}
use Rattle.laws.specs.Fold.{any, All, any_at}
use Rattle.laws.specs.Occurrence.{Distinct}
use Rattle.model.specs.Catalogue.{Limits, Hypergraph, vertices}
use Rattle.model.specs.Grammar.{value, Marking, marked, mark, marking}
use Rattle.model.specs.Report.{digits}
use Rattle.guarantees.specs.Numbers.{value-digits}
use Rattle.model.specs.CatalogueText.{numbers}
use Rattle.written.specs.Numbers.{inside}

-- the whole list is distinct
abbrev Apart : List ℕ → Type 0
Apart l = Distinct l 0 (length l)

not-before : (us vs : List ℕ) (v : ℕ) → Apart (us ++ (v ∷ vs)) → any us (λ x. eqb x v) ≡ false
not-before us vs v d = go (any us (λ x. eqb x v)) refl
  where
    twice : any us (λ x. eqb x v) ≡ true → ⊥
    twice e =
        let f = any_at us 0 (λ x. eqb x v) e in
        let long = length-append us (v ∷ vs) in
        let here : get_or (us ++ (v ∷ vs)) (0 + f.0) 0 ≡ v = ap (λ (i : ℕ). get_or (us ++ (v ∷ vs)) i 0) (zero-add f.0) ∙ get_or-append us (v ∷ vs) 0 f.0 f.1 ∙ eqb-true _ v f.2 in
        let there : get_or (us ++ (v ∷ vs)) (0 + length us) 0 ≡ v = ap (λ (i : ℕ). get_or (us ++ (v ∷ vs)) i 0) (zero-add (length us)) ∙ get_or-append_seam us v vs 0 in
        omega (arith, f.1, d f.0 (length us) (omega (arith, f.1)) (omega arith) (here ∙ sym there))

    go : (b : Bool) → any us (λ x. eqb x v) ≡ b → b ≡ false
    go true e = absurd (twice e)
    go false e = refl

module _ (limits : Limits) (h : Hypergraph) where
  mark-one : (us vs : List ℕ) (v m : ℕ) → Apart (us ++ (v ∷ vs)) → 1 ≤ v → v ≤ vertices h → m < limits.pin_limit → mark limits h (marked us m) (value (digits v)) ≡ marked (us ++ (v ∷ [])) (suc m)
  unfolding mark
  mark-one us vs v m d l u few = rw (value-digits v, inside 1 (vertices h) v l u, not-before us vs v d, lt-leb limits.pin_limit m few)

  -- us are marked already
  pub marks-read : (us vs : List ℕ) (m : ℕ) → Apart (us ++ vs) → All vs (λ v. (1 ≤ v) × (v ≤ vertices h)) → m + length vs ≤ limits.pin_limit → marking limits h (marked us m) (numbers vs) ≡ marked (us ++ vs) (m + length vs)
  unfolding marking
  marks-read us [] m d a few = ap₂ marked (sym (append-nil us)) (omega arith)
  marks-read us (v ∷ vs) m d a few =
      ap (λ (r : Marking). marking limits h r (numbers vs)) (mark-one us vs v m d a.0.0 a.0.1 (omega arith))
      ∙ marks-read (us ++ (v ∷ [])) vs (suc m) (subst Apart (sym (append_assoc us (v ∷ []) vs)) d) a.1 (omega arith)
      ∙ ap₂ marked (append_assoc us (v ∷ []) vs) (omega arith)
