-- The vertices of an edge: the stamps that tell which were named, the check of a whole edge, its text. Rests on Row and Convert. Assumes nothing.
use Rattle.std.specs.Prelude.{ℕ, ◌+◌, ◌-◌, ◌*◌, ◌≤◌, ◌<◌, ◌≡◌, Bool, true, false, not, ◌&&◌, List, [], ◌∷◌, ◌++◌, map, eqb, length, get_or}
use Rattle.std.proofs.Math.Seq.{slice}
use Rattle.laws.specs.Fold.{any}
use Rattle.model.specs.Grammar.{value, within}
use Rattle.model.specs.Report.{digits, row}
use Rattle.model.specs.CatalogueText.{numbers}
use Rattle.model.specs.Hmetis.{words, numbers_in, Edge, is_edge, edge_of}
use Rattle.model.specs.Convert.{named, is_carried}

-- no stamp is edge j's yet
pub record Fresh (j : ℕ) (stamps : List ℕ) : Type 0 where
  pub below : (x : ℕ) → get_or stamps x 0 < j

-- the stamp of one of the n vertices is j if and only if it is among those that edge j has named
pub record Stamped (n : ℕ) (seen : List ℕ) (j : ℕ) (stamps : List ℕ) : Type 0 where
  pub below : (x : ℕ) → get_or stamps x 0 ≤ j
  pub told : (v : ℕ) → 1 ≤ v → v ≤ n → any seen (λ x. eqb x v) ≡ eqb (get_or stamps (v - 1) 0) j

-- one vertex more: whether it is known and was not named before
pub record StampOne (v n j : ℕ) (r : Bool) (stamps stamps' : List ℕ) : Type 0 where
  pub len : length stamps' ≡ length stamps
  pub says : (seen : List ℕ) → Stamped n seen j stamps → r ≡ (within 1 n v && not (any seen (λ x. eqb x v)))
  pub next : (seen : List ℕ) → Stamped n seen j stamps → Stamped n (seen ++ (v ∷ [])) j stamps'

-- numbers, each behind a comma
unfoldable pub commas : List ℕ → List ℕ
commas [] = []
commas (x ∷ xs) = (44 ∷ digits x) ++ commas xs

-- not all words from `at` on are numbers
pub record NoPins (s : List ℕ) (at end : ℕ) (stamps : List ℕ) : Type 0 where
  pub len : length stamps ≡ 1024
  pub none : numbers_in (slice at end s) ≡ 0

-- the vertices of edge j in the words from `at` on: how many they are; whether they can be carried over, and the length of their text
pub record PinsChecked (s : List ℕ) (at end n j count : ℕ) (good : Bool) (size : ℕ) (stamps : List ℕ) : Type 0 where
  pub len : length stamps ≡ 1024
  pub some : 1 ≤ count
  pub below : (x : ℕ) → get_or stamps x 0 ≤ j
  pub few : at + count ≤ end + 1
  pub small : size ≤ 11 * count
  pub count-is : count ≡ numbers_in (slice at end s)
  pub says : good ≡ named n [] (map value (words (slice at end s)))
  pub size_is : size ≡ length (commas (map value (words (slice at end s))))

-- the line of an edge in our catalogue
abbrev pub edge_row : Edge → List ℕ
edge_row e = row "BUY" (numbers (e.weight ∷ e.pins))

-- the line is no edge's
pub record NoEdge (s : List ℕ) (at end : ℕ) (weighted : Bool) (stamps : List ℕ) : Type 0 where
  pub len : length stamps ≡ 1024
  pub form : is_edge weighted (slice at end s) ≡ false

-- the same as of vertices, of a whole edge
pub record EdgeChecked (s : List ℕ) (at end : ℕ) (weighted : Bool) (n j count : ℕ) (good : Bool) (size : ℕ) (stamps : List ℕ) : Type 0 where
  pub len : length stamps ≡ 1024
  pub some : 1 ≤ count
  pub below : (x : ℕ) → get_or stamps x 0 ≤ j
  pub few : at + count ≤ end + 1
  pub small : size ≤ 11 * count + 15
  pub form : is_edge weighted (slice at end s) ≡ true
  pub says : good ≡ is_carried n (edge_of weighted (slice at end s))
  pub count-is : count ≡ length (edge_of weighted (slice at end s)).pins
  pub size_is : size ≡ length (edge_row (edge_of weighted (slice at end s)))
