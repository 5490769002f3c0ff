-- Request M-110 in a hall (M-112), the order of moves: two lists of accepted M call lines, of any of the catalogues, that continue one list from loading and
-- leave each lot of each catalogue in the same session leave the same in every set of tables, and the same totals. Rests on Order and HallRefused.
-- Assumes nothing.
use Rattle.std.specs.Prelude.{ℕ, ◌≤◌, ◌≡◌, true, List, [], ◌∷◌, ◌++◌, length}
use Rattle.model.specs.Catalogue.{Hypergraph, vertices}
use Rattle.model.specs.Machine.{call_m}
use Rattle.model.specs.Sale.{runs, Sale, total_of}
use Rattle.model.specs.Report.{refusal}
use Rattle.model.specs.Memory.{Tables, Holds}
use Rattle.model.specs.Order.{asks_move, session_of, SameLeft}
use Rattle.model.specs.Hall.{Led, led_turn, led_to}
use Rattle.model.specs.HallText.{HallBook, in_calls, graphs, parse_hall}
use Rattle.model.specs.HallDemand.{AcceptedHall, Numbered, AllLed, led, desks_after, desk_after, HallMemory, long_hall, HallServes}
use Rattle.model.specs.HallRefused.{SameHall}

-- M call lines from the desks on, each accepted by the desks as the one before it left them: under both limits as they then stand
unfoldable pub AcceptedLedMoves : ℕ → List Sale → List Led → Type 0
AcceptedLedMoves limit ds [] = Unit {0}
AcceptedLedMoves limit ds (l ∷ ls) = (asks_move l.ask ≡ true) × (refusal (led_turn limit ds l).answer ≡ 0) × AcceptedLedMoves limit (led_to limit ds l) ls

-- ---- the statement
-- two lists of accepted M call lines continue one list from loading, within 512 in all, and leave each lot of each catalogue in the same session
pub record SameSessionsInHall (limit : ℕ) (hs : List Hypergraph) (before moves moves' : List Led) : Type 0 where
  pub accepted : AcceptedLedMoves limit (desks_after limit hs before) moves
  pub accepted' : AcceptedLedMoves limit (desks_after limit hs before) moves'
  pub few : length (before ++ moves) ≤ 512
  pub few' : length (before ++ moves') ≤ 512
  pub sessions : (c v : ℕ) → Numbered (length hs) c → 1 ≤ v → v ≤ vertices (desk_after limit hs before c).graph
      → session_of (desk_after limit hs (before ++ moves') c).state v ≡ session_of (desk_after limit hs (before ++ moves) c).state v

-- two calls of the hall's entry on equal lent memory, whose files have the same limit, the same catalogues and such lists of call lines, leave the same in
-- every set of tables and the same closing reports, the totals in them
abbrev pub OrderInHalls : Type 0
OrderInHalls =
    (file file' : List ℕ) (K K' : HallBook) (old new new' : HallMemory) (code written code' written' : ℕ) (before moves moves' : List Led)
    → parse_hall file ≡ in_calls K → parse_hall file' ≡ in_calls K' → K'.limit ≡ K.limit → graphs K' ≡ graphs K → long_hall old ≡ true
    → K.calls ≡ before ++ moves → K'.calls ≡ before ++ moves' → SameSessionsInHall K.limit (graphs K) before moves moves'
    → HallServes file old new code written → HallServes file' old new' code' written'
    → SameHall K.limit (graphs K) K.calls K'.calls new new' written written'

-- so do any tables that hold what the one list leads to and what the other leads to, from what the same memory held before; the joins and the total of
-- each catalogue are the same too
abbrev pub OrderOfSets : Type 0
OrderOfSets =
    (limit : ℕ) (hs : List Hypergraph) (before moves moves' : List Led) (c : ℕ) (old t t' : Tables) → AcceptedHall limit hs → AllLed (length hs) (before ++ moves) → AllLed (length hs) (before ++ moves')
    → SameSessionsInHall limit hs before moves moves' → Numbered (length hs) c → Holds (desk_after limit hs (before ++ moves) c) old t → Holds (desk_after limit hs (before ++ moves') c) old t'
    → SameLeft t t' (desk_after limit hs (before ++ moves) c).state.stack (desk_after limit hs (before ++ moves') c).state.stack
    (total_of (desk_after limit hs (before ++ moves) c)) (total_of (desk_after limit hs (before ++ moves') c))

-- two moves of different lots, or of lots of different catalogues, accepted in either order, are such lists
abbrev pub EitherOrderInHall : Type 0
EitherOrderInHall =
    (limit : ℕ) (hs : List Hypergraph) (before : List Led) (c u a d v b : ℕ) → Numbered (length hs) c → Numbered (length hs) d → length before ≤ 510 → ((c ≡ d) × (u ≡ v) → ⊥)
    → AcceptedLedMoves limit (desks_after limit hs before) (led c (runs (call_m u a)) ∷ led d (runs (call_m v b)) ∷ [])
    → AcceptedLedMoves limit (desks_after limit hs before) (led d (runs (call_m v b)) ∷ led c (runs (call_m u a)) ∷ [])
    → SameSessionsInHall limit hs before (led c (runs (call_m u a)) ∷ led d (runs (call_m v b)) ∷ []) (led d (runs (call_m v b)) ∷ led c (runs (call_m u a)) ∷ [])
