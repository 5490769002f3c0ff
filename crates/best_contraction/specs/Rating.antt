-- Ratings as the tables have them: what the nets of a vertex add for each vertex after it, and what the tables must be for that.
-- Rests on incidence's rows of bits and on laws' occurrences. Assumes nothing.
use Rattle.std.specs.Prelude.{◌≡◌, Bool, ◌&&◌, cond, List, ℕ, ◌+◌, ◌-◌, ◌*◌, ◌/◌, ◌≤◌, ◌<◌, eqb, ltb, leb, length, get_or}
use Rattle.incidence.specs.On.{on}
use Rattle.laws.specs.Occurrence.{at, occ}
use Rattle.laws.specs.Sum.{sum}

-- the smaller of two numbers
abbrev pub lesser : ℕ → ℕ → ℕ
lesser a b = a - (a - b)

-- a partner comes after u and is in u's block
abbrev pub near : List ℕ → ℕ → ℕ → ℕ → Bool
near blocks u own z = ltb u z && eqb (get_or blocks (z - 1) 0) own

-- and is not too heavy for u, of block `own` and weight a
abbrev pub fits : List ℕ → List ℕ → ℕ → ℕ → ℕ → ℕ → ℕ → Bool
fits blocks weights u own a limit z = near blocks u own z && leb (a + get_or weights (z - 1) 0) limit

-- what a net of weight w and n present pins adds: 5,040 × weight / (present marks − 1), rounded down; 0 for a sole pin
abbrev pub term_of : ℕ → ℕ → ℕ
term_of w n = 5040 * w / (n - 1)

-- G summed over the nets of x below m
unfoldable pub over : List ℕ → ℕ → ℕ → (ℕ → ℕ) → ℕ
over bits x m G = sum m (λ e. cond (eqb (on bits x e) 1) (G e) 0)

-- what the nets of u below m add for z
abbrev pub row_of : (bits pins firsts sizes net_weights : List ℕ) (u m : ℕ) → ℕ → ℕ
row_of bits pins firsts sizes net_weights u m z = over bits (u - 1) m (λ e. term_of (get_or net_weights e 0) (get_or sizes e 0) * occ pins (get_or firsts e 0) (get_or sizes e 0) z)

-- the terms of u's own nets below m
abbrev pub own_sum : (bits sizes net_weights : List ℕ) (u m : ℕ) → ℕ
own_sum bits sizes net_weights u m = over bits (u - 1) m (λ e. term_of (get_or net_weights e 0) (get_or sizes e 0))

-- the rating where z passes the test, else 0
abbrev pub score_in : (ℕ → Bool) → (ℕ → ℕ) → ℕ → ℕ
score_in test raw z = cond (test z) (raw z) 0

-- the rating of u and z where the two may be contracted, else 0
unfoldable pub score_of : (bits pins firsts sizes net_weights blocks weights : List ℕ) (m limit u : ℕ) → ℕ → ℕ
score_of bits pins firsts sizes net_weights blocks weights m limit u = score_in (fits blocks weights u (get_or blocks (u - 1) 0) (get_or weights (u - 1) 0) limit) (row_of bits pins firsts sizes net_weights u m)

-- ---- what the tables must be

-- the n pins from f on are vertices, each there once, and no entry of the table of ratings l passes `top`
pub record StretchOk (l pins : List ℕ) (f n top : ℕ) : Type 0 where
  pub len : length l ≡ 1025
  pub stretch : f + n ≤ length pins
  pub pin : (i : ℕ) → i < n → at pins f i ≤ 1024
  pub once : (z : ℕ) → occ pins f n z ≤ 1
  pub small : (z : ℕ) → get_or l z 0 ≤ top

-- the n pins from f on are vertices of another table too
pub record TakeOk (len : ℕ) (pins : List ℕ) (other f n : ℕ) : Type 0 where
  pub full : len ≡ 1025
  pub stretch : f + n ≤ length pins
  pub pin : (i : ℕ) → i < n → (1 ≤ at pins f i) × (at pins f i ≤ 1024) × (at pins f i ≤ other)

-- the pin lists of m nets over n vertices: each stretch lies in its table, and its pins are vertices of some block, each there once
pub record TablesOk (bits pins firsts sizes net_weights blocks : List ℕ) (m n : ℕ) : Type 0 where
  pub rows : 16 * n ≤ length bits
  pub nets : m ≤ 1024
  pub vertices : n ≤ 1024
  pub in-firsts : m ≤ length firsts
  pub in-sizes : m ≤ length sizes
  pub in-net_weights : m ≤ length net_weights
  pub in_blocks : n ≤ length blocks
  pub light : (e : ℕ) → e < m → get_or net_weights e 0 ≤ 65535
  pub stretch : (e : ℕ) → e < m → get_or firsts e 0 + get_or sizes e 0 ≤ length pins
  pub pin : (e : ℕ) → e < m → (i : ℕ) → i < get_or sizes e 0 → (1 ≤ at pins (get_or firsts e 0) i) × (at pins (get_or firsts e 0) i ≤ n) × (1 ≤ get_or blocks (at pins (get_or firsts e 0) i - 1) 0)
  pub once : (e z : ℕ) → e < m → occ pins (get_or firsts e 0) (get_or sizes e 0) z ≤ 1

-- what the adding up of ratings needs of them
pub record RowOk (pins firsts sizes net_weights : List ℕ) (m : ℕ) : Type 0 where
  pub nets : m ≤ 1024
  pub in-firsts : m ≤ length firsts
  pub in-sizes : m ≤ length sizes
  pub in-net_weights : m ≤ length net_weights
  pub light : (e : ℕ) → e < m → get_or net_weights e 0 ≤ 65535
  pub stretch : (e : ℕ) → e < m → get_or firsts e 0 + get_or sizes e 0 ≤ length pins
  pub pin : (e : ℕ) → e < m → (i : ℕ) → i < get_or sizes e 0 → at pins (get_or firsts e 0) i ≤ 1024
  pub once : (e z : ℕ) → e < m → occ pins (get_or firsts e 0) (get_or sizes e 0) z ≤ 1

-- what the sum of a vertex's own terms needs
pub record OwnOk (bits sizes net_weights : List ℕ) (u m : ℕ) : Type 0 where
  pub u-from : 1 ≤ u
  pub in-bits : 16 * u ≤ length bits
  pub nets : m ≤ 1024
  pub in-sizes : m ≤ length sizes
  pub in-net_weights : m ≤ length net_weights
  pub light : (e : ℕ) → e < m → get_or net_weights e 0 ≤ 65535

-- the table of ratings before and after each use: all 0
pub record Blank (l : List ℕ) : Type 0 where
  pub len : length l ≡ 1025
  pub zeros : (z : ℕ) → get_or l z 0 ≡ 0

-- ---- the table raised by d, what it holds then, and cleared

pub record Raised (l l' : List ℕ) (d : ℕ → ℕ) : Type 0 where
  pub here : (z : ℕ) → get_or l' z 0 ≡ get_or l z 0 + d z
  pub len : length l' ≡ 1025

-- the table holds d
pub record Holds (l : List ℕ) (d : ℕ → ℕ) : Type 0 where
  pub here : (z : ℕ) → get_or l z 0 ≡ d z
  pub len : length l ≡ 1025

-- the places 1 .. n are 0, and each that was 0 still is
pub record Cleared (l l' : List ℕ) (n : ℕ) : Type 0 where
  pub gone : (z : ℕ) → 1 ≤ z → z ≤ n → get_or l' z 0 ≡ 0
  pub still : (z : ℕ) → get_or l z 0 ≡ 0 → get_or l' z 0 ≡ 0
  pub len : length l' ≡ 1025
