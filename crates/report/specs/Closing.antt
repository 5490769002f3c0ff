-- The tables that the closing report is read from, as they show a state of the machine; and that the report fits. Rests on operations's Tables
-- and model's Report. Assumes nothing.
use Rattle.std.specs.Prelude.{ℕ, ◌+◌, ◌<◌, ◌≤◌, ◌≡◌, cond, List, [], ◌∷◌, ltb, length, get_or, ℤ}
use Rattle.laws.specs.Sum.{sum}
use Rattle.laws.specs.Bit.{bit}
use Rattle.model.specs.Catalogue.{Hypergraph, vertices}
use Rattle.model.specs.Measure.{connectivity}
use Rattle.model.specs.Machine.{State}
use Rattle.model.specs.Report.{digits, row, lot_rows, buy_rows, closing}
use Rattle.guarantees.specs.Ends.{Placed}
use Rattle.guarantees.specs.Climbs.{Sound as SoundStack}
use Rattle.guarantees.specs.Splits.{AllInside}
use Rattle.levels.specs.Running.{net_at}
use Rattle.model.specs.Lent.{stack_of}
use Rattle.operations.specs.Tables.{tables, Sound}
pub use Rattle.climbs.specs.Above.{Aboves, Climbable}

-- the vertices' blocks and the vertices above are those of the state; the first `depth` entries of `gone` are the vertices that its joins took
-- off the board, the latest last
pub record Vertices (h : Hypergraph) (s : State) (blocks aboves gone : List ℕ) (n depth : ℕ) : Type 0 where
  pub all : n ≡ vertices h
  pub few : n ≤ 1024
  pub sound : SoundStack s.stack
  pub inside : AllInside h s.stack
  pub placed : Placed h s.stack s.block
  pub hangs : Aboves s.stack n aboves
  pub sits : (y : ℕ) → y < n → get_or blocks y 0 ≡ s.block (y + 1)
  pub blocks-fit : n ≤ length blocks
  pub into : List ℕ
  pub stack_is : s.stack ≡ stack_of into gone depth
  pub stack-fits : depth ≤ 512

-- v is a vertex of some state that the tables show
pub record VertexIn (blocks aboves gone : List ℕ) (v depth : ℕ) : Type 0 where
  pub h : Hypergraph
  pub s : State
  pub n : ℕ
  pub shown : Vertices h s blocks aboves gone n depth
  pub low : 1 ≤ v
  pub high : v ≤ n

-- the line of the vertex at place i, or nothing where its representative has no block
abbrev pub lot_line : ℕ → ℕ → List ℕ
lot_line i b = cond (ltb 0 b) (row "LOT" (digits (i + 1) ∷ digits b ∷ [])) []

-- the lines of the vertices fit into a buffer of `room` bytes
pub record VerticesFit (room at : ℕ) (blocks aboves gone : List ℕ) (n depth : ℕ) : Type 0 where
  pub h : Hypergraph
  pub s : State
  pub shown : Vertices h s blocks aboves gone n depth
  pub fits : at + length (lot_rows h s) ≤ room

-- each mask has a bit for each block that its net is connected to, and no other
pub record Nets (h : Hypergraph) (s : State) (visited : List ℕ) (m : ℕ) : Type 0 where
  pub all : m ≡ length h.nets
  pub few : m ≤ 1024
  pub fits : m ≤ length visited
  pub counts : (e : ℕ) → e < m → sum 16 (bit (get_or visited e 0)) ≡ connectivity h s.stack s.block (net_at h e)

-- the lines of the nets fit
pub record NetsFit (room at : ℕ) (visited : List ℕ) (m : ℕ) : Type 0 where
  pub h : Hypergraph
  pub s : State
  pub shown : Nets h s visited m
  pub fits : at + length (buy_rows h s 1 h.nets) ≤ room

-- these tables, with some others, are sound for the state; `total` is the metric, and `draft` is any number
pub record Ended (h : Hypergraph) (s : State) (blocks aboves visited gone : List ℕ) (n m depth draft total : ℕ) : Type 0 where
  pub counts : List ℕ
  pub gains : List ℤ
  pub pins : List ℕ
  pub sizes : List ℕ
  pub bits : List ℕ
  pub weights : List ℕ
  pub loads : List ℕ
  pub net_weights : List ℕ
  pub firsts : List ℕ
  pub loaded : List ℕ
  pub k : ℕ
  pub sound : Sound h s.stack s.block (tables counts visited gains pins sizes bits blocks weights aboves loads net_weights firsts loaded n m k total)
  pub into : List ℕ
  pub stack_is : s.stack ≡ stack_of into gone depth
  pub stack-fits : depth ≤ 512

-- the closing report fits
pub record ClosingFits (room at : ℕ) (blocks aboves visited gone : List ℕ) (n m depth draft total : ℕ) : Type 0 where
  pub h : Hypergraph
  pub s : State
  pub ended : Ended h s blocks aboves visited gone n m depth draft total
  pub fits : at + length (closing draft h s) ≤ room
