-- The number of each refusal, as the converter's answers have it, and the weight code of what has weights. Assumes nothing.
use Rattle.std.specs.Prelude.{ℕ, Bool, ◌||◌, eqb}
use Rattle.hgr.specs.declared.Refusal.{Refusal}
use Rattle.hgr.specs.declared.Refusal.TheVariants.{OutputTooShort, BadlyWritten, NotCarried, BadListing}
use Rattle.hgr.specs.declared.Weighted.{Weighted}
use Rattle.hgr.specs.declared.Weighted.TheVariants.{Nothing, Edges, Vertices, Both}

abbrev pub number_of : Refusal → ℕ
number_of OutputTooShort = 8
number_of BadlyWritten = 17
number_of NotCarried = 18
number_of BadListing = 19

-- a header has no code, or one of three
abbrev pub code_of : Weighted → ℕ
code_of Nothing = 0
code_of Edges = 1
code_of Vertices = 10
code_of Both = 11

abbrev pub is_code : ℕ → Bool
is_code c = eqb c 1 || eqb c 10 || eqb c 11
