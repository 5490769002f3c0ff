-- Weight codes and headers. Rests on Number of specs.
use Prim.Native.Nat.{ℕ, suc, ◌≤◌, ◌<◌}
use native.Mathlib.Omega.{arith}
use mathlib.Core.Path.{◌≡◌, refl, ap, sym, ◌∙◌}
use mathlib.Core.Bool.{Bool, true, false, ◌&&◌, ◌||◌, cond, true≢false}
use mathlib.Core.List.{List, []}
use borrow.Author.Tests.{eqb-true, eq-eqb, ne_eqb, le-leb}
use lib.Dec.{eqb}
use Rattle.laws.specs.Fold.{all}
use Rattle.model.specs.Grammar.{bytes, parts, is_number, at}
use Rattle.model.specs.Hmetis.{later, words, numbers_in, is_header, code_in}
use Rattle.spaced.specs.Row.{Numbers}
use Rattle.spaced.proofs.Edges.{numbers-are}
use Rattle.std.specs.Prelude.{Option, Some, None, MatchOption}
use Rattle.hgr.specs.Number.{code_of, is_code}
use Rattle.hgr.specs.declared.Weighted.{Weighted}

-- ---- headers
header_of : (l : List ℕ) (a b : Bool) → eqb (numbers_in l) 2 ≡ a → eqb (numbers_in l) 3 ≡ b → is_header l ≡ (a || (b && is_code (at (words l) 2)))
unfolding is_header
header_of l a b p q = rw (p, q)

code_of_lem : (l : List ℕ) (b : Bool) → eqb (numbers_in l) 3 ≡ b → code_in l ≡ cond b (at (words l) 2) 0
unfolding code_in
code_of_lem l b q = rw q

module _ (l : List ℕ) (n : ℕ) (is : n ≡ numbers_in l) where
  pub code-none : n ≡ 2 → (is_header l ≡ true) × (0 ≡ code_in l)
  code-none q =
      let e : numbers_in l ≡ 2 = sym is ∙ q in
      let z = ne_eqb (numbers_in l) 3 (λ p. omega arith) in
      (header_of l true false (eq-eqb (numbers_in l) 2 e) z, sym (code_of_lem l false z))

  pub code-bad : (n ≡ 2 → ⊥) → (n ≡ 3 → ⊥) → is_header l ≡ false
  code-bad a b = header_of l false false (ne_eqb (numbers_in l) 2 (λ p. a (is ∙ p))) (ne_eqb (numbers_in l) 3 (λ p. b (is ∙ p)))

  pub code-three : (c : ℕ) → c ≡ at (words l) 2 → n ≡ 3 → (r : Option Weighted) → MatchOption r (is_code c ≡ false) (λ w. (is_code c ≡ true) × (code_of w ≡ c)) → MatchOption r (is_header l ≡ false) (λ w. (is_header l ≡ true) × (code_of w ≡ code_in l))
  code-three c third q r known = go r known
    where
      z : eqb (numbers_in l) 3 ≡ true
      z = eq-eqb (numbers_in l) 3 (sym is ∙ q)

      head : is_header l ≡ is_code c
      head = header_of l false true (ne_eqb (numbers_in l) 2 (λ p. omega arith)) z ∙ ap is_code (sym third)

      go : (x : Option Weighted) → MatchOption x (is_code c ≡ false) (λ w. (is_code c ≡ true) × (code_of w ≡ c)) → MatchOption x (is_header l ≡ false) (λ w. (is_header l ≡ true) × (code_of w ≡ code_in l))
      go None bad = head ∙ bad
      go (Some w) good = (head ∙ good.0, good.1 ∙ third ∙ sym (code_of_lem l true z))

  pub numbers-upto : (i : ℕ) → i < n → Numbers l i
  numbers-upto i h = let m = numbers-are l (suc i) (omega arith) (le-leb (suc i) (numbers_in l) (omega (arith, is))) in record { inside = omega (arith, m.1); are = m.0 }

-- a header has two or three numbers
count-cases : (l : List ℕ) → is_header l ≡ true → 2 ≤ numbers_in l
count-cases l e = go (eqb (numbers_in l) 2) refl (eqb (numbers_in l) 3) refl
  where
    go : (a : Bool) → eqb (numbers_in l) 2 ≡ a → (b : Bool) → eqb (numbers_in l) 3 ≡ b → 2 ≤ numbers_in l
    go true p b q = let t = eqb-true (numbers_in l) 2 p in omega arith
    go false p true q = let t = eqb-true (numbers_in l) 3 q in omega arith
    go false p false q = absurd (true≢false (sym e ∙ header_of l false false p q))

pub header-numbers : (l : List ℕ) (i : ℕ) → is_header l ≡ true → i < 2 → Numbers l i
header-numbers l i e h = numbers-upto l (numbers_in l) refl i (omega (arith, count-cases l e))

pub header-part : is_header (bytes "PART") ≡ false
unfolding is_header numbers_in words later parts is_number bytes all
header-part = refl

pub header-nil : is_header [] ≡ false
unfolding is_header numbers_in words later parts is_number all
header-nil = refl
