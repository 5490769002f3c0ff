-- What is promised of every accepted catalogue and every list of its calls, at every entry: the machine's half of demand 3 and what the requests promise of
-- the machine and of the tables (M-104, M-105, M-107, M-108, M-109); demand 3; and what an entry for files promises. Rests on Demand, Clump, Ready and
-- Estimate. Assumes nothing.
use Rattle.std.specs.Prelude.{ℕ, ◌-◌, ◌≤◌, ◌≡◌, Bool, true, false, List, [], ◌∷◌, ◌++◌, length}
use Rattle.model.specs.Catalogue.{Limits, Hypergraph, vertices, drafted, fixed_entry, capacities}
use Rattle.model.specs.Measure.{Contraction, representative, heaviest, metric}
use Rattle.model.specs.Machine.{call_w}
use Rattle.model.specs.Search.{Walk, reversed, walk, walked}
use Rattle.model.specs.Sale.{Request, runs, Sale, opened, turn, total_of}
use Rattle.model.specs.Grammar.{Reading, unread, reading, stopped, parse}
use Rattle.model.specs.Report.{refusal}
use Rattle.model.specs.Engine.{answers}
use Rattle.model.specs.Memory.{Tables, Memory, long_memory, Serves}
use Rattle.model.specs.Clump.{ClumpGains}
use Rattle.model.specs.Ready.{EachPairOnce, FirstIsBest}
use Rattle.model.specs.Estimate.{EveryCount}
use Rattle.model.specs.Demand.{Accepted, reached_by, MachineHalf, Standing, Stands, LoadedSets}

-- ---- M-104: a kept lot stays
-- each kept lot of the sale, which is one that was loaded so and not withdrawn since, stands in its session of the draft
abbrev pub KeptStay : Hypergraph → Sale → Type 0
KeptStay h a = (v : ℕ) → 1 ≤ v → v ≤ vertices a.graph → fixed_entry a.graph v ≡ 1 → a.state.block (representative a.state.stack v) ≡ drafted h v

-- ---- M-105: which prefix of a walk is kept
-- the partition after the first i moves of a walk
abbrev pub after_moves : Walk → ℕ → ℕ → ℕ
after_moves w i = reversed (w.tried - i) w.journal w.block

-- "the kept prefix is the one of lowest total, then of lowest heaviest session in bales, then the first", the empty one among them
pub record KeptPrefix (h : Hypergraph) (cs : List Contraction) (w : Walk) : Type 0 where
  pub lowest : (i : ℕ) → i ≤ w.tried → metric h cs (walked h cs w) ≤ metric h cs (after_moves w i)
  pub lightest : (i : ℕ) → i ≤ w.tried → metric h cs (after_moves w i) ≡ metric h cs (walked h cs w) → heaviest h cs (walked h cs w) ≤ heaviest h cs (after_moves w i)
  pub first : (i : ℕ) → i ≤ w.tried → metric h cs (after_moves w i) ≡ metric h cs (walked h cs w) → heaviest h cs (after_moves w i) ≡ heaviest h cs (walked h cs w) → w.kept ≤ i

-- the walk of a W in a sale by itself
abbrev pub walk_in : Sale → ℕ → ℕ → Walk
walk_in a u v = walk a.graph (capacities a.graph) a.state.stack a.state.block u v

-- ---- the promises
-- of the accepted catalogue h, the calls that were made from loading on, and the tables as they then stand
pub record Promises (limits : Limits) (h : Hypergraph) (calls : List Request) (tables : Tables) : Type 0 where
  -- demand 3's machine half: no session over its cap, no W, P or A ends higher, after A no single move with space lowers the total
  pub machine : MachineHalf limits h calls
  pub kept-stay : KeptStay h (reached_by limits h calls)
  -- of every accepted W of the list
  pub kept-prefix : (before later : List Request) (u v : ℕ) → calls ≡ before ++ (runs (call_w u v) ∷ later) → refusal (turn limits (reached_by limits h before) (runs (call_w u v))).answer ≡ 0
      → KeptPrefix (reached_by limits h before).graph (reached_by limits h before).state.stack (walk_in (reached_by limits h before) u v)
  pub clump-gains : ClumpGains (reached_by limits h calls).graph (reached_by limits h calls).state tables
  pub each-pair-once : EachPairOnce (reached_by limits h calls).graph (reached_by limits h calls).state tables
  pub first-is-best : FirstIsBest (reached_by limits h calls).graph (reached_by limits h calls).state tables
  -- for lists without an accepted X or N
  pub every-count : (reached_by limits h calls).changed ≡ false → EveryCount h (reached_by limits h calls).state

-- Demand 3, of every accepted catalogue and every list of at most 512 calls, from a fresh machine and from tables as loading left them.
-- `old` is what the tables held before loading; `left` is what stands after the calls, `lines` are the answers' bytes, whose totals are
-- the machine's, and `total` is the one that the closing report prints
pub record Demand3 (limits : Limits) (h : Hypergraph) (calls : List Request) (old : Tables) (left : Standing) (lines : List ℕ) (total : ℕ) : Type 0 where
  pub accepted : Accepted limits h
  pub few : length calls ≤ 512
  -- joins, record of moves and every entry of the tables are the machine's
  pub stands : Stands old (reached_by limits h calls) left
  -- with no join standing the mark sets are the loaded ones, less withdrawals plus additions
  pub unjoined : left.stack ≡ [] → LoadedSets (reached_by limits h calls).graph left.tables
  pub answered : lines ≡ answers limits (opened h) calls
  pub total-is : total ≡ total_of (reached_by limits h calls)
  -- what holds of the machine and of these tables beside
  pub promises : Promises limits h calls left.tables

-- ---- an entry for files
-- of an accepted file's catalogue and calls, in memory that is long enough
abbrev pub FilePromises : Bool → Limits → Reading → Tables → Type 0
FilePromises true limits (reading k) tables = Promises limits k.graph k.calls tables
FilePromises true limits (stopped q n) tables = Unit {0}
FilePromises true limits unread tables = Unit {0}
FilePromises false limits r tables = Unit {0}

-- its return and all lent memory at exit, and the promises
pub record FileServes (limits : Limits) (file : List ℕ) (old new : Memory) (code written : ℕ) : Type 0 where
  pub serves : Serves limits file old new code written
  pub promises : FilePromises (long_memory limits old) limits (parse limits file) new.tables
