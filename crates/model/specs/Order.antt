-- Request M-110, the order of moves: two lists of accepted M calls that continue one list from loading and leave each lot in the same
-- session leave the same tables and the same total. Rests on ListEntry. Assumes nothing.
use Rattle.std.specs.Prelude.{ℕ, ◌≤◌, ◌≡◌, Bool, true, false, List, [], ◌∷◌, ◌++◌, length}
use Rattle.model.specs.Catalogue.{Limits, Hypergraph, vertices}
use Rattle.model.specs.Measure.{Contraction, representative}
use Rattle.model.specs.Machine.{Call, call_j, call_s, call_m, call_b, call_w, call_p, call_a, State}
use Rattle.model.specs.Sale.{Request, runs, call_x, call_n, Sale, turn}
use Rattle.model.specs.Report.{refusal}
use Rattle.model.specs.Grammar.{Book, reading, parse}
use Rattle.model.specs.Memory.{Tables, Memory, long_memory, Holds, Serves}
use Rattle.model.specs.Lent.{stack_of}
use Rattle.model.specs.Demand.{Accepted, reached_by}
use Rattle.model.specs.ListEntry.{list_refusal, list_calls, Returned, ListServes}

-- ---- lists of moves
unfoldable pub is_move : Call → Bool
is_move (call_j u v) = false
is_move call_s = false
is_move (call_m v t) = true
is_move call_b = false
is_move (call_w u v) = false
is_move call_p = false
is_move call_a = false

unfoldable pub asks_move : Request → Bool
asks_move (runs c) = is_move c
asks_move (call_x v) = false
asks_move (call_n bales session buyers) = false

-- M calls from a sale on, each accepted by the machine's own state
unfoldable pub AcceptedMoves : Limits → Sale → List Request → Type 0
AcceptedMoves limits a [] = Unit {0}
AcceptedMoves limits a (c ∷ cs) = (asks_move c ≡ true) × (refusal (turn limits a c).answer ≡ 0) × AcceptedMoves limits (turn limits a c).sale cs

-- a lot's session: that of the lot that stands for it
abbrev pub session_of : State → ℕ → ℕ
session_of s v = s.block (representative s.stack v)

-- ---- the statement
-- two lists of accepted M calls continue one list from loading, within 512 calls in all, and leave each lot in the same session
pub record SameSessions (limits : Limits) (h : Hypergraph) (before moves moves' : List Request) : Type 0 where
  pub accepted : AcceptedMoves limits (reached_by limits h before) moves
  pub accepted' : AcceptedMoves limits (reached_by limits h before) moves'
  pub few : length (before ++ moves) ≤ 512
  pub few' : length (before ++ moves') ≤ 512
  pub sessions : (v : ℕ) → 1 ≤ v → v ≤ vertices (reached_by limits h before).graph
      → session_of (reached_by limits h (before ++ moves')).state v ≡ session_of (reached_by limits h (before ++ moves)).state v

-- the same tables at every entry, the same joins and the same total; the record of moves and the answers may differ
pub record SameLeft (t t' : Tables) (stack stack' : List Contraction) (total total' : ℕ) : Type 0 where
  pub tables : t' ≡ t
  pub joins : stack' ≡ stack
  pub totals : total' ≡ total

-- for every accepted catalogue, every list and two such lists of moves: what two calls of the list's entry on the same bytes and equal lent
-- memory leave
abbrev pub OrderOfMoves : Limits → Type 0
OrderOfMoves limits =
    (file list list' operands operands' : List ℕ) (k : Book) (old new new' : Memory) (r r' : Returned) (before moves moves' : List Request)
    → parse limits file ≡ reading k → long_memory limits old ≡ true
    → list_refusal list operands ≡ 0 → list_calls list operands ≡ before ++ moves → list_refusal list' operands' ≡ 0 → list_calls list' operands' ≡ before ++ moves'
    → SameSessions limits k.graph before moves moves'
    → ListServes limits file list operands old new r → ListServes limits file list' operands' old new' r'
    → SameLeft new.tables new'.tables (stack_of r.stack.xs r.stack.ys r.stack.len) (stack_of r'.stack.xs r'.stack.ys r'.stack.len) r.total r'.total

-- two calls of an entry for files on equal lent memory, whose files have the same catalogue and such lists of calls, leave the same tables
abbrev pub OrderInFiles : Limits → Type 0
OrderInFiles limits =
    (file file' : List ℕ) (k k' : Book) (old new new' : Memory) (code written code' written' : ℕ) (before moves moves' : List Request)
    → parse limits file ≡ reading k → parse limits file' ≡ reading k' → k'.graph ≡ k.graph → long_memory limits old ≡ true
    → k.calls ≡ before ++ moves → k'.calls ≡ before ++ moves' → SameSessions limits k.graph before moves moves'
    → Serves limits file old new code written → Serves limits file' old new' code' written' → new'.tables ≡ new.tables

-- so do any two entries: tables that hold what the one list leads to and tables that hold what the other leads to, from what the same memory held before
abbrev pub OrderOfTables : Limits → Type 0
OrderOfTables limits =
    (h : Hypergraph) (before moves moves' : List Request) (old t t' : Tables) → Accepted limits h → SameSessions limits h before moves moves'
    → Holds (reached_by limits h (before ++ moves)) old t → Holds (reached_by limits h (before ++ moves')) old t' → t' ≡ t

-- two moves of different lots, accepted in either order, are such lists
abbrev pub EitherOrder : Limits → Type 0
EitherOrder limits =
    (h : Hypergraph) (before : List Request) (u a v b : ℕ) → Accepted limits h → length before ≤ 510 → (u ≡ v → ⊥)
    → AcceptedMoves limits (reached_by limits h before) (runs (call_m u a) ∷ runs (call_m v b) ∷ []) → AcceptedMoves limits (reached_by limits h before) (runs (call_m v b) ∷ runs (call_m u a) ∷ [])
    → SameSessions limits h before (runs (call_m u a) ∷ runs (call_m v b) ∷ []) (runs (call_m v b) ∷ runs (call_m u a) ∷ [])
