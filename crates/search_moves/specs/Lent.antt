-- The tables of a running sale in the order in which the functions of a search take them. Rests on operations's Tables. Assumes nothing.
use Rattle.std.specs.Prelude.{ℕ, List, ℤ}
use Rattle.operations.specs.Tables.{Tables, tables}

-- the tables in the order in which the functions take them; they take neither the vertices above nor the loaded sizes
abbrev pub lent : (counts visited : List ℕ) (gains : List ℤ) (blocks loads pins sizes bits weights net_weights firsts : List ℕ) (n m k total : ℕ) → List ℕ → List ℕ → Tables
lent counts visited gains blocks loads pins sizes bits weights net_weights firsts n m k total aboves loaded = tables counts visited gains pins sizes bits blocks weights aboves loads net_weights firsts loaded n m k total
