-- The tables of a running sale, where what a move only reads of them is one value. Assumes nothing.
use Rattle.std.specs.Prelude.{ℕ, List, ℤ}
use Rattle.operations.specs.Tables.{Tables, tables}
use Rattle.operations.specs.declared.board.Board.{Board}

-- a move takes neither the vertices above nor the loaded sizes
abbrev pub lent_on : (counts visited : List ℕ) (gains : List ℤ) (blocks loads : List ℕ) → Board → (total : ℕ) → List ℕ → List ℕ → Tables
lent_on counts visited gains blocks loads b total aboves loaded = tables counts visited gains b.presentpins.now b.presentsizes.now b.bits.now blocks b.weights.now aboves loads b.netweights.now b.firsts.now loaded b.n b.m b.k total
