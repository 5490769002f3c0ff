-- What is written in base ten is a number of the grammar (digits_number), and a word with numbers behind it is a line of that word
-- (is-line), for numbers of up to nine digits; such a line does not end in `,K` (plain-line). Rests on guarantees' Numbers. Assumes nothing.
use Rattle.std.specs.Prelude.{ℕ, zero, suc, ◌+◌, ◌-◌, ◌^◌, ◌≤◌, ◌<◌, ◌≡◌, refl, true, false, not, ◌&&◌, List, [], ◌∷◌, ◌++◌, ltb, length, get_or, take}
use Prim.Native.String.{String}
use Rattle.std.proofs.Common.{arith, ◌∙◌, le-leb, eq-eqb, ne_eqb, length-append, get_or-append-add}
use Rattle.std.proofs.Math.Path.{ap}
use Rattle.std.proofs.Math.Bool.{Bool, cond, and-false}
use Rattle.std.proofs.Math.Dec.{eqb, leb}
use Rattle.laws.specs.Fold.{all, All, all_map}
use Rattle.model.specs.Grammar.{bytes, same, is_digit, is_number, within, is_line, ends_in_k, before_k}
use Rattle.model.specs.Report.{digits, digits_of}
use Rattle.guarantees.specs.Numbers.{digits_are, digits_le, digits-first}
use Rattle.model.specs.CatalogueText.{numbers}
use Rattle.written.specs.Rows.{Above, joined}

-- at most nine digits
abbrev pub Short : ℕ → Type 0
Short n = n < 10 ^ 9

-- ---- tests that pass
pub both : {a b : Bool} → a ≡ true → b ≡ true → (a && b) ≡ true
both p q = rw (p, q)

pub inside : (low high x : ℕ) → low ≤ x → x ≤ high → within low high x ≡ true
inside low high x l u = both (le-leb low x l) (le-leb x high u)

all_pass : {A : Type 0} (l : List A) (P : A → Type 0) (p : A → Bool) → ((x : A) → P x → p x ≡ true) → All l P → all l p ≡ true
unfolding all
all_pass [] P p f a = refl
all_pass (x ∷ l) P p f a = both (f x a.0) (all_pass l P p f a.1)

same_bytes : (l : List ℕ) → same l l ≡ true
unfolding same
same_bytes [] = refl
same_bytes (x ∷ l) = both (eq-eqb x x refl) (same_bytes l)

-- ---- digits
no_zero : (t z : Bool) → z ≡ false → not (t && z) ≡ true
no_zero true z e = ap not e
no_zero false z e = refl

number-form : (f : List ℕ) → All f (λ b. (48 ≤ b) × (b ≤ 57)) → length f ≤ 9 → 49 ≤ get_or f 0 0 → is_number f ≡ true
unfolding is_number
number-form [] a l h = absurd (omega arith)
number-form (b ∷ bs) a l h =
    both (both (both (le-leb 1 (suc (length bs)) (omega arith)) (le-leb (suc (length bs)) 9 l)) (no_zero (ltb 1 (suc (length bs))) (eqb b 48) (ne_eqb b 48 (λ e. omega arith))))
    (all_pass (b ∷ bs) _ is_digit (λ x r. both (le-leb 48 x r.0) (le-leb x 57 r.1)) a)

pub digits_number : (n : ℕ) → Short n → is_number (digits n) ≡ true
unfolding is_number digits digits_of all
digits_number zero l = refl
digits_number (suc n) l = number-form (digits (suc n)) (digits_are (suc n)) (digits_le 8 (suc n) l) (digits-first (suc n) (omega arith))

-- ---- a line of numbers
numbers-are : (ns : List ℕ) → All ns Short → all (numbers ns) is_number ≡ true
unfolding all
numbers-are [] a = refl
numbers-are (n ∷ ns) a = both (digits_number n a.0) (numbers-are ns a.1)

pub numbers-above : (ns : List ℕ) → All (numbers ns) (Above 44)
numbers-above [] = tt
numbers-above (n ∷ ns) = (all_map (digits n) _ _ (λ b r. omega (arith, r.0)) (digits_are n), numbers-above ns)

pub is-line : (word : String) (ns : List ℕ) → All ns Short → is_line word (bytes word ∷ numbers ns) ≡ true
unfolding is_line
is-line word ns a = both (same_bytes (bytes word)) (numbers-are ns a)

-- ---- such a line ends in a digit
abbrev last : List ℕ → ℕ
last l = get_or l (length l - 1) 0

last-append : (l : List ℕ) (b : ℕ) (m : List ℕ) → last (l ++ (b ∷ m)) ≡ last (b ∷ m)
last-append l b m =
    let e : length (l ++ (b ∷ m)) - 1 ≡ length l + length m = omega (arith, length-append l (b ∷ m)) in
    let z : length m ≡ suc (length m) - 1 = omega arith in
    ap (λ (n : ℕ). get_or (l ++ (b ∷ m)) n 0) e ∙ get_or-append-add l (b ∷ m) (length m) 0 ∙ ap (λ (n : ℕ). get_or (b ∷ m) n 0) z

last-low : (b : ℕ) (l : List ℕ) → b ≤ 57 → All l (λ x. (48 ≤ x) × (x ≤ 57)) → last (b ∷ l) ≤ 57
last-low b [] h a = h
last-low b (x ∷ l) h a = omega (arith, last-append (b ∷ []) x l, last-low x l a.0.1 a.1)

last-digit : (l : List ℕ) (n : ℕ) (ns : List ℕ) → last (joined l (numbers (n ∷ ns))) ≤ 57
unfolding joined
last-digit l n [] = omega (arith, last-append l 44 (digits n), last-low 44 (digits n) (omega arith) (digits_are n))
last-digit l n (m ∷ ns) = omega (arith, last-append l 44 (joined (digits n) (numbers (m ∷ ns))), last-digit (44 ∷ digits n) m ns)

module _ (l : List ℕ) (n : ℕ) (ns : List ℕ) where
  abbrev line : List ℕ
  line = joined l (numbers (n ∷ ns))

  pub plain-line : ends_in_k line ≡ false
  unfolding ends_in_k
  plain-line =
      let before : Bool = leb 2 (length line) && eqb (get_or line (length line - 2) 0) 44 in
      ap (λ (t : Bool). before && t) (ne_eqb (last line) 75 (λ e. omega (arith, last-digit l n ns))) ∙ and-false before

  pub plain-before : before_k line ≡ line
  unfolding before_k
  plain-before = ap (λ (t : Bool). cond t (take (length line - 2) line) line) plain-line
