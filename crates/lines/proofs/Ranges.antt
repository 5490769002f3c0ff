-- What the first line announces, and the ranges of its numbers. Rests on Line of specs.
use Prim.Native.Nat.{ℕ}
use mathlib.Core.Path.{◌≡◌, ap, sym, subst, ◌∙◌}
use mathlib.Core.Bool.{Bool, true, false, ◌||◌, or-true}
use mathlib.Core.List.{List, [], ◌∷◌}
use native.Mathlib.Omega.{arith}
use Rattle.model.specs.Catalogue.{Limits}
use Rattle.model.specs.Grammar.{fields, is_line_of, within}
use Rattle.guarantees.specs.Reading.{within-range}
use Rattle.text.specs.Field.{form_of}
use Rattle.text.proofs.Lines.{numbered, line-yes, line-no}
use Rattle.lines.specs.Line.{Announces, InRange}
use Rattle.std.specs.Prelude.{Result, Ok, Err}
use Rattle.refusal.specs.declared.Refusal.{Refusal}
use Rattle.lines.specs.declared.Head.{Head}
use Rattle.lines.proofs.Asks.{word-SALE, word-EST}

-- the forms of the line x with the words EST and SALE
module _ (x : List ℕ) (est : ℕ) (is : est ≡ form_of (69 ∷ 83 ∷ 84 ∷ []) (fields x)) where
  pub announced-est : est ≡ 5 → Announces (fields x) true
  announced-est e =
      let kind = line-yes "EST" (69 ∷ 83 ∷ 84 ∷ []) 4 est x word-EST is e in
      record { form = ap (λ (t : Bool). is_line_of "SALE" 4 (fields x) || t) kind ∙ or-true (is_line_of "SALE" 4 (fields x)); kind = kind; numbered = λ i l u. numbered (69 ∷ 83 ∷ 84 ∷ []) (fields x) 4 i (sym is ∙ e) l u }

  pub announced-sale : (sale : ℕ) → sale ≡ form_of (83 ∷ 65 ∷ 76 ∷ 69 ∷ []) (fields x) → (est ≡ 5 → ⊥) → sale ≡ 5 → Announces (fields x) false
  announced-sale sale that other e = record {
    form = ap (λ (t : Bool). t || is_line_of "EST" 4 (fields x)) (line-yes "SALE" (83 ∷ 65 ∷ 76 ∷ 69 ∷ []) 4 sale x word-SALE that e);
    kind = line-no "EST" (69 ∷ 83 ∷ 84 ∷ []) 4 est x word-EST is other;
    numbered = λ i l u. numbered (83 ∷ 65 ∷ 76 ∷ 69 ∷ []) (fields x) 4 i (sym that ∙ e) l u;
  }

pub no-sale : {q : Refusal} {a : Head} → ◌≡◌ {A = Result Head Refusal} (Err q) (Ok a) → ⊥
no-sale e = let z : ◌≡◌ {A = ℕ} 0 1 = cc in omega arith

abbrev head_or : Head → Result Head Refusal → Head
head_or a (Ok b) = b
head_or a (Err e) = a

pub sale-ranges : (limits : Limits) (a : Head) {b : Head} → ◌≡◌ {A = Result Head Refusal} (Ok a) (Ok b) → within 1 limits.vertex_limit a.vertices ≡ true → within 0 limits.net_limit a.nets ≡ true → within 2 limits.block_limit a.blocks ≡ true → within 0 1000 a.imbalance ≡ true → InRange limits b.vertices b.nets b.blocks b.imbalance
sale-ranges limits a e p q r w =
    let p1 = within-range 1 limits.vertex_limit a.vertices p in
    let q1 = within-range 0 limits.net_limit a.nets q in
    let r1 = within-range 2 limits.block_limit a.blocks r in
    let w1 = within-range 0 1000 a.imbalance w in
    let range : InRange limits a.vertices a.nets a.blocks a.imbalance = record { l-low = omega arith; l-high = omega arith; b-high = omega arith; k-low = omega arith; k-high = omega arith; t-high = omega arith } in
    subst (λ (h : Head). InRange limits h.vertices h.nets h.blocks h.imbalance) (ap (head_or a) e) range
