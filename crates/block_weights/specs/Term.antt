-- What one vertex adds to a block's weight. Assumes nothing.
use Rattle.std.specs.Prelude.{ℕ, cond, List, eqb, get_or}

-- what the i-th lot, counted from 0, adds to session b
abbrev pub block_term : ℕ → List ℕ → List ℕ → ℕ → ℕ
block_term b w d i = cond (eqb (get_or d i 0) b) (get_or w i 0) 0
