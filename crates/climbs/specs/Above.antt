-- A table of the vertices above, as it shows a stack of contractions. Assumes nothing.
use Rattle.std.specs.Prelude.{ℕ, ◌+◌, ◌<◌, ◌≤◌, ◌≡◌, List, length, get_or}
use Rattle.model.specs.Measure.{Contraction, above}

-- the first n entries are the vertices above: 0 on the board, else one of the vertices 1..n
pub record Aboves (cs : List Contraction) (n : ℕ) (aboves : List ℕ) : Type 0 where
  pub fits : n ≤ length aboves
  pub is : (y : ℕ) → y < n → get_or aboves y 0 ≡ above cs (y + 1)
  pub known : (y : ℕ) → y < n → get_or aboves y 0 ≤ n

-- v is a vertex of some stack that the table shows
pub record Climbable (aboves : List ℕ) (v : ℕ) : Type 0 where
  pub stack : List Contraction
  pub n : ℕ
  pub hangs : Aboves stack n aboves
  pub low : 1 ≤ v
  pub high : v ≤ n
