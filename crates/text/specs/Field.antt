-- The first separator of a stretch of bytes, where a field that is a number ends and what its value is, and a line's form. Rests on model's grammar. Assumes nothing.
use Rattle.std.specs.Prelude.{ℕ, zero, suc, ◌+◌, ◌-◌, ◌≤◌, ◌<◌, ◌≡◌, true, false, cond, List, [], ◌∷◌, eqb, length, get_or, drop, Option, Some, None}
use Rattle.std.proofs.Math.Seq.{slice}
use Rattle.laws.specs.Fold.{all}
use Rattle.model.specs.Grammar.{Fields, same, is_digit, is_number, value}
use Rattle.text.specs.declared.Number.{Number}

-- how many elements stand before the first separator: all of them, where there is none
abbrev pub first : ℕ → List ℕ → ℕ
first sep [] = zero
first sep (b ∷ bs) = cond (eqb b sep) zero (suc (first sep bs))

-- r is where the first separator of s from `at` to `end` stands, or `end`; the bounds follow from `is`
pub record FirstAt (s : List ℕ) (at end sep r : ℕ) : Type 0 where
  pub is : r ≡ at + first sep (slice at end s)
  pub low : at ≤ r
  pub high : r ≤ end

-- none of the n bytes of s from `at` on is b
abbrev pub Without : List ℕ → ℕ → ℕ → ℕ → Type 0
Without s at n b = (j : ℕ) → j < n → get_or s (at + j) 0 ≡ b → ⊥

-- r is where nine digits from `at` on would end, or `end` where that comes before it
pub record NineDigits (at end r : ℕ) : Type 0 where
  pub low : at ≤ r
  pub high : r ≤ end
  pub short : r ≤ at + 9
  pub full : r < end → r ≡ at + 9

-- the digits of s from `at` on stop at e, at `end` at the latest, and have the value v
pub record DigitsRead (s : List ℕ) (at end v e : ℕ) : Type 0 where
  pub low : at ≤ e
  pub high : e ≤ end
  pub digits : all (slice at e s) is_digit ≡ true
  pub stops : e < end → is_digit (get_or s e 0) ≡ false
  pub is : v ≡ value (slice at e s)

-- r is where the field of s from `at` on ends, if it is a number; else `at`
pub record NumberEnd (s : List ℕ) (at end r : ℕ) : Type 0 where
  pub low : at ≤ r
  pub high : r ≤ end
  pub ends : at < r → FirstAt s at end 44 r
  pub is : at < r → is_number (slice at r s) ≡ true
  pub none : r ≡ at → (e : ℕ) → FirstAt s at end 44 e → is_number (slice at e s) ≡ false

-- the same, and the value of such a field is v
pub record NumberRead (s : List ℕ) (at end v r : ℕ) : Type 0 where
  pub ends : NumberEnd s at end r
  pub is : at < r → v ≡ value (slice at r s)

-- the number that stands in the field of s from `at` on, if the field is one
abbrev pub NumberSeen : List ℕ → ℕ → ℕ → Option Number → Type 0
NumberSeen s at end (Some n) = (at < n.end) × NumberRead s at end n.value n.end
NumberSeen s at end None = (e : ℕ) → FirstAt s at end 44 e → is_number (slice at e s) ≡ false

-- the field of s from `at` on ends at e and has the value v
pub record FieldRead (s : List ℕ) (at end v e : ℕ) : Type 0 where
  pub ends : FirstAt s at end 44 e
  pub is : v ≡ value (slice at e s)

-- v is kept as the k-th of four values, the first being 1; those before it stay
pub record Keeps (k v : ℕ) (values values' : List ℕ) : Type 0 where
  pub len : length values' ≡ length values
  pub here : k ≤ 4 → get_or values' (k - 1) 0 ≡ v
  pub before : (n : ℕ) → n + 1 < k → get_or values' n 0 ≡ get_or values n 0

-- the values are those of the fields before the k-th, the first being 1, as far as four go
pub record Kept (fs : Fields) (k : ℕ) (values : List ℕ) : Type 0 where
  pub len : length values ≡ 4
  pub is : (n : ℕ) → n + 1 < k → n < 4 → get_or values n 0 ≡ value (get_or fs n [])

-- k and the number of fields, if all are numbers; else 0
unfoldable pub counted : ℕ → Fields → ℕ
counted k fs = cond (all fs is_number) (k + length fs) 0

-- a line's form: the number of its fields, if it begins with the word and goes on with numbers; else 0
unfoldable pub form_of : List ℕ → Fields → ℕ
form_of w fs = cond (same (get_or fs 0 []) w) (counted 1 (drop 1 fs)) 0

-- the i-th field is there and is a number
pub record Numbered (fs : Fields) (i : ℕ) : Type 0 where
  pub inside : i < length fs
  pub is : is_number (get_or fs i []) ≡ true
