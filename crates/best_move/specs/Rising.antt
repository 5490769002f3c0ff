-- Which candidates a search weighs: tests of a vertex's gains against the best one, and what a failed test says. Vertices and blocks count
-- from 0 here, a vertex's own block from 1. Assumes nothing.
use Rattle.std.specs.Prelude.{Option, MatchOption, ◌≡◌, false, not, ◌&&◌, List, ℕ, ◌+◌, ◌*◌, ◌^◌, ◌≤◌, ◌<◌, leb, eqb, length, get_or, ℤ, pos}
use Rattle.std.specs.Int.Signed.{mag, lt_z, le_z}
use Rattle.laws.specs.Bit.{bit}

-- a weight of 32 bits that fits into a block of weight `load`, which may hold `ceiling`, is not above r
abbrev pub RoomFor : ℕ → ℕ → ℕ → Type 0
RoomFor load ceiling r = (weight : ℕ) → weight < 2 ^ 32 → load + weight ≤ ceiling → weight ≤ r

-- the rooms of the first k blocks
pub record Rooms (loads ceilings : List ℕ) (k : ℕ) (rooms : List ℕ) : Type 0 where
  pub len : length rooms ≡ 16
  pub fits : (b : ℕ) → b < k → RoomFor (get_or loads b 0) (get_or ceilings b 0) (get_or rooms b 0)

-- a gain of 32 bits below `low` is not above `top`
abbrev pub Least : ℤ → ℤ → Type 0
Least top low = (gain : ℤ) → mag gain < 2 ^ 31 → le_z low gain ≡ false → lt_z top gain ≡ false

-- the gain to block b is not above a number that is below `low`, or the block has no room for the weight, or it is the vertex's own
pub record NotBetter (gains : List ℤ) (rooms : List ℕ) (row : ℕ) (low : ℤ) (weight own b : ℕ) : Type 0 where
  pub bound : ℤ
  pub fits : mag bound < 2 ^ 31
  pub under : lt_z bound (get_or gains (row + b) (pos 0)) ≡ false
  pub light : weight < 2 ^ 32
  pub shut : (le_z low bound && (leb weight (get_or rooms b 0) && not (eqb own (b + 1)))) ≡ false

-- what the search of one part asks of the tables' lengths
pub record PartOk (gains blocks weights first size k : ℕ) : Type 0 where
  pub size-to : size ≤ 64
  pub n-to : first + size ≤ 1024
  pub k-to : k ≤ 16
  pub in-gains : 16 * (first + size) ≤ gains
  pub in_blocks : first + size ≤ blocks
  pub in-weights : first + size ≤ weights

-- r is a set bit, and no vertex of a set bit between `from` and r may have a better pair; bit j stands for the vertex first + j
pub record Passed (gains : List ℤ) (blocks weights rooms : List ℕ) (word first size k : ℕ) (low : ℤ) (from r : ℕ) : Type 0 where
  pub start : from ≤ r
  pub high : r ≤ 64
  pub found : r < size → bit word r ≡ 1
  pub not-better : (j : ℕ) → from ≤ j → j < r → j < size → bit word j ≡ 1 → (b : ℕ) → b < k → NotBetter gains rooms (16 * (first + j)) low (get_or weights (first + j) 0) (get_or blocks (first + j) 0) b

-- the next of them below `size`, or that there is none
abbrev pub NextRising : List ℤ → (blocks weights rooms : List ℕ) (word first size k : ℕ) → ℤ → ℕ → Option ℕ → Type 0
NextRising gains blocks weights rooms word first size k low from r =
    MatchOption r (Passed gains blocks weights rooms word first size k low from 64) (λ j. (j < size) × Passed gains blocks weights rooms word first size k low from j)
