-- What demand 3 speaks of: an accepted catalogue, the sale that a list of calls leads to, what holds of the machine's own states, what stands in lent
-- memory. Rests on Memory and on laws' occurrences. Assumes nothing.
use Rattle.std.specs.Prelude.{ℕ, ◌-◌, ◌≤◌, ◌≡◌, Bool, true, false, List, [], ◌∷◌, ◌++◌, length, get_or}
use Rattle.laws.specs.Occurrence.{occ}
use Rattle.model.specs.Catalogue.{Limits, Hypergraph, capacities}
use Rattle.model.specs.Measure.{Contraction, metric}
use Rattle.model.specs.Machine.{Call, call_j, call_s, call_m, call_b, call_w, call_p, call_a, Move, State}
use Rattle.model.specs.Search.{WithinCeiling, LocallyBest}
use Rattle.model.specs.Sale.{Request, runs, call_x, call_n, Sale, opened, turn, total_of}
use Rattle.model.specs.Grammar.{Book, reading, parse}
use Rattle.model.specs.Report.{refusal}
use Rattle.model.specs.Engine.{after, answers}
use Rattle.model.specs.Memory.{Tables, Holds}

-- an accepted catalogue: one that some sale file loads
pub record Accepted (limits : Limits) (h : Hypergraph) : Type 0 where
  pub file : List ℕ
  pub book : Book
  pub loads : parse limits file ≡ reading book
  pub graph_is : book.graph ≡ h

-- W, P and A
unfoldable pub searches : Call → Bool
searches (call_j u v) = false
searches call_s = false
searches (call_m v t) = false
searches call_b = false
searches (call_w u v) = true
searches call_p = true
searches call_a = true

-- the total in a state of the machine
abbrev pub metric_in : Hypergraph → State → ℕ
metric_in h s = metric h s.stack s.block

-- no session is over its cap
abbrev pub WithinCapacity : Hypergraph → State → Type 0
WithinCapacity h s = WithinCeiling h (capacities h) s

-- the sale that a list of call lines from loading leads to
abbrev pub reached_by : Limits → Hypergraph → List Request → Sale
reached_by limits h calls = after limits (opened h) calls

-- the machine's half: what holds of its own states, from a fresh one on. In the list X and N may stand: the catalogue is then the one that they left
pub record MachineHalf (limits : Limits) (h : Hypergraph) (calls : List Request) : Type 0 where
  pub within-capacity : WithinCapacity (reached_by limits h calls).graph (reached_by limits h calls).state
  -- an accepted W, P or A anywhere in the list does not end higher than it began
  pub never-higher : (before later : List Request) (c : Call) → calls ≡ before ++ (runs c ∷ later) → searches c ≡ true → refusal (turn limits (reached_by limits h before) (runs c)).answer ≡ 0
      → total_of (turn limits (reached_by limits h before) (runs c)).sale ≤ total_of (reached_by limits h before)
  -- and after an accepted A no single move with space lowers the total
  pub locally-best : (before later : List Request) → calls ≡ before ++ (runs call_a ∷ later) → refusal (turn limits (reached_by limits h before) (runs call_a)).answer ≡ 0
      → LocallyBest (reached_by limits h before).graph (capacities (reached_by limits h before).graph) (turn limits (reached_by limits h before) (runs call_a)).sale.state

-- ---- a list of calls on lent memory
-- what stands before, between and after calls: the lent tables, the stack of joins and the record of moves, the latest first
pub record Standing : Type 0 where
  pub tables : Tables
  pub stack : List Contraction
  pub journal : List Move

abbrev pub standing : Tables → List Contraction → List Move → Standing
standing t stack journal = record { tables = t; stack = stack; journal = journal }

-- it is what a sale says, where `old` is what the tables held before loading
pub record Stands (old : Tables) (a : Sale) (x : Standing) : Type 0 where
  pub tables : Holds a old x.tables
  pub joins : x.stack ≡ a.state.stack
  pub moves : x.journal ≡ a.state.journal

-- each buyer's present marks are its loaded ones: as many, and every number as often
pub record LoadedSets (h : Hypergraph) (t : Tables) : Type 0 where
  pub as_many : (e : ℕ) → 1 ≤ e → e ≤ length h.nets → get_or t.present_sizes (e - 1) 0 ≡ get_or t.loaded_sizes (e - 1) 0
  pub as-often : (e v : ℕ) → 1 ≤ e → e ≤ length h.nets
      → occ t.present_pins (get_or t.firsts (e - 1) 0) (get_or t.present_sizes (e - 1) 0) v ≡ occ t.loaded_pins (get_or t.firsts (e - 1) 0) (get_or t.loaded_sizes (e - 1) 0) v
