-- The best open pair as the tables have it: what is open, what it is worth, the best of the pairs seen and the answer read as model's. Rests
-- on model's Search and on incidence's rows of bits. Assumes nothing.
use Rattle.std.specs.Prelude.{Option, Some, None, ◌≡◌, List, Bool, true, not, ◌&&◌, cond, ℕ, zero, suc, ◌+◌, ◌-◌, ◌*◌, ◌/◌, ◌%◌, ◌^◌, ◌≤◌, ◌<◌, leb, eqb, length, get_or, ℤ, pos}
use Rattle.std.specs.Int.Signed.{mag, lt_z}
use Rattle.incidence.specs.On.{on}
use Rattle.laws.specs.Sum.{fold_to}
use Rattle.model.specs.Search.{Best, none, best, better}
use Rattle.best_move.specs.declared.open.Lead.{Lead}
use Rattle.best_move.specs.declared.open.Move.{Move}

-- vertex v to block b
abbrev pub step : ℕ → ℕ → Option Move
step v b = Some (record { vertex = v; block = b })

-- the answer as model has it
abbrev pub best_of : (ℕ → ℕ → ℤ) → Option Move → Best
best_of worth None = none
best_of worth (Some p) = best p.vertex p.block (worth p.vertex p.block)

-- a pair's numbers are in range
abbrev pub PickIn : ℕ → ℕ → Option Move → Type 0
PickIn n k None = Unit
PickIn n k (Some p) = (1 ≤ p.vertex) × (p.vertex ≤ n) × (1 ≤ p.block) × (p.block ≤ k)

-- the gain of vertex v to block b, both from 1
abbrev pub gain_in : List ℤ → ℕ → ℕ → ℤ
gain_in gains v b = get_or gains (16 * (v - 1) + (b - 1)) (pos 0)

-- is there room for the weight in a block of weight `load`, which may hold `ceiling`
abbrev pub room_for : ℕ → ℕ → ℕ → Bool
room_for load weight ceiling = leb (load + weight) ceiling

-- a vertex of block `own` may go to block b, of weight `load`
abbrev pub may_go : ℕ → ℕ → ℕ → ℕ → ℕ → Bool
may_go load own weight ceiling b = not (eqb own b) && room_for load weight ceiling

-- the candidates are the bits of one row: vertex v is bit v - 1
abbrev pub is_candidate : List ℕ → ℕ → Bool
is_candidate candidates v = eqb (on candidates 0 (v - 1)) 1

-- the pair is open: v is a candidate, b is not its block, and has room for it. `loads` are the blocks' weights,
-- `ceilings` the most that they may hold
abbrev pub open_in : (candidates blocks weights loads ceilings : List ℕ) → ℕ → ℕ → Bool
open_in candidates blocks weights loads ceilings v b =
    is_candidate candidates v && may_go (get_or loads (b - 1) 0) (get_or blocks (v - 1) 0) (get_or weights (v - 1) 0) (get_or ceilings (b - 1) 0) b

-- one more pair, where it may be taken
unfoldable pub considered : Bool → ℕ → ℕ → ℤ → Best → Best
considered may v b gain before = cond may (better before v b gain) before

-- the best of `before` and the pairs of vertex v with the blocks 1..k, of which it may go to some
unfoldable pub best_in_row : (ℕ → ℕ → ℤ) → (ℕ → Bool) → ℕ → ℕ → Best → Best
best_in_row worth may v k before = fold_to k (λ c b. considered (may b) v b (worth v b) c) before

-- the best of the pairs of the vertices 1..i with the blocks 1..k
unfoldable pub best_to : (ℕ → ℕ → Bool) → (ℕ → ℕ → ℤ) → ℕ → ℕ → Best
best_to may worth k i = fold_to i (λ c v. best_in_row worth (may v) v k c) none

-- the pair at a place of the table of gains, counted from 1; none at 0
abbrev pub vertex_at : ℕ → ℕ
vertex_at at = (at - 1) / 16 + 1

abbrev pub block_at : ℕ → ℕ
block_at at = (at - 1) % 16 + 1

abbrev pub pair_at : ℕ → Option Move
pair_at zero = None
pair_at (suc x) = step (vertex_at (suc x)) (block_at (suc x))

-- the best pair so far, by its place and its gain, as model has it
abbrev pub lead_of : ℕ → ℤ → Best
lead_of zero top = none
lead_of (suc x) top = best (vertex_at (suc x)) (block_at (suc x)) top

-- the lead is that best pair; where there is none, its gain is below every gain that a table holds
pub record Leads (lead : Lead) (is : Best) : Type 0 where
  pub same : lead_of lead.at lead.top ≡ is
  pub below : lead.at ≡ 0 → (gain : ℤ) → mag gain < 2 ^ 31 → lt_z lead.top gain ≡ true

-- the answer is worth what it should be, and is in range
pub record Chosen (worth : ℕ → ℕ → ℤ) (n k : ℕ) (r : Option Move) (is : Best) : Type 0 where
  pub same : best_of worth r ≡ is
  pub within : PickIn n k r

-- ---- what the functions ask of the tables' lengths and of the numbers

pub record RowOk (gains i k : ℕ) : Type 0 where
  pub i-to : i < 1024
  pub k-to : k ≤ 16
  pub in-gains : 16 * (i + 1) ≤ gains

pub record VertexOk (gains index : ℕ) (blocks : List ℕ) (weights i k : ℕ) : Type 0 where
  pub row : RowOk gains i k
  pub in-index : 16 * (i + 1) ≤ index
  pub in_blocks : i < length blocks
  pub in-weights : i < weights
  pub own : (1 ≤ get_or blocks i 0) × (get_or blocks i 0 ≤ k)

pub record SearchOk (gains blocks weights candidates n k : ℕ) : Type 0 where
  pub n-to : n ≤ 1024
  pub k-to : k ≤ 16
  pub in-gains : 16 * n ≤ gains
  pub in_blocks : n ≤ blocks
  pub in-weights : n ≤ weights
  pub in-candidates : 16 ≤ candidates

-- and of the index: its length, and that candidates are on the board, so that their rows are ranked
pub record IndexOk (index : ℕ) (candidates blocks : List ℕ) (n k : ℕ) : Type 0 where
  pub in-index : 16 * n ≤ index
  pub on-board : (x : ℕ) → x < n → on candidates 0 x ≡ 1 → (1 ≤ get_or blocks x 0) × (get_or blocks x 0 ≤ k)
