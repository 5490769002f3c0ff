-- The words of a line from a cursor on, and where an edge's weight and its vertices stand. Rests on Hmetis. Assumes nothing.
use Rattle.std.specs.Prelude.{ℕ, ◌+◌, ◌≤◌, ◌<◌, ◌≡◌, Bool, true, false, List, [], ◌∷◌, leb, length}
use Rattle.std.proofs.Math.Seq.{slice}
use Rattle.laws.specs.Fold.{all}
use Rattle.model.specs.Grammar.{Fields, parts, is_digit, is_number, value}
use Rattle.text.specs.Field.{FirstAt}
use Rattle.model.specs.Hmetis.{later, words, numbers_in, is_edge}

-- r is the first place from `at` on that has no space, or `end`
pub record Skipped (s : List ℕ) (at end r : ℕ) : Type 0 where
  pub low : at ≤ r
  pub high : r ≤ end
  pub is : later (parts 32 (slice at end s)) ≡ words (slice r end s)

-- a line's words are numbers, and there are more than i
pub record Numbers (l : List ℕ) (i : ℕ) : Type 0 where
  pub inside : i < length (words l)
  pub are : all (words l) is_number ≡ true

-- the weight of an edge's line, and the words that are its vertices
abbrev pub weight_in : Bool → Fields → ℕ
weight_in false ws = 1
weight_in true [] = 1
weight_in true (w ∷ vs) = value w

abbrev pub pin_words : Bool → Fields → Fields
pin_words false ws = ws
pin_words true [] = []
pin_words true (w ∷ vs) = vs

-- the word of s from `at` on is no number
pub record NoWord (s : List ℕ) (at end : ℕ) : Type 0 where
  pub none : (d : ℕ) → FirstAt s at end 32 d → is_number (slice at d s) ≡ false

-- the word of s from `at` on is a number: where it ends and its value
pub record WordRead (s : List ℕ) (at end v e : ℕ) : Type 0 where
  pub low : at ≤ e
  pub high : e ≤ end
  pub ends : FirstAt s at end 32 e
  pub is : is_number (slice at e s) ≡ true
  pub value-is : v ≡ value (slice at e s)

-- the word of s from `at` on ends at e and is digits of the value v, nine at most
pub record DigitsRead (s : List ℕ) (at end e v : ℕ) : Type 0 where
  pub ends : FirstAt s at end 32 e
  pub short : e ≤ at + 9
  pub digits : all (slice at e s) is_digit ≡ true
  pub is : v ≡ value (slice at e s)

-- the lead of an edge's line: its weight, and where its vertices begin; the line is an edge's if and only if numbers follow, and nothing else
pub record LeadRead (s : List ℕ) (at end : ℕ) (weighted : Bool) (weight first : ℕ) : Type 0 where
  pub low : at ≤ first
  pub high : first ≤ end
  pub form : is_edge weighted (slice at end s) ≡ leb 1 (numbers_in (slice first end s))
  pub weight_is : weight ≡ weight_in weighted (words (slice at end s))
  pub pins-are : words (slice first end s) ≡ pin_words weighted (words (slice at end s))
