-- Demand 3 for a hall (M-112): one statement about its catalogues, the limit, a list of call lines of all of them and what they leave; and what the
-- hall's entry returns and leaves in lent memory. All that Promises promises of a catalogue by itself is promised of each catalogue here. Rests on HallText and
-- Promises. Assumes nothing.
use Rattle.std.specs.Prelude.{ℕ, ◌-◌, ◌≤◌, ◌<◌, ◌≡◌, Bool, true, false, ◌&&◌, List, [], ◌∷◌, ◌++◌, leb, length, get_or}
use Rattle.laws.specs.Fold.{All}
use Rattle.model.specs.Catalogue.{main_limits, Hypergraph}
use Rattle.model.specs.Machine.{Call, call_w, call_a}
use Rattle.model.specs.Search.{Walk, walk, LocallyBest}
use Rattle.model.specs.Sale.{Request, runs, call_x, call_n, Sale, total_of}
use Rattle.model.specs.Report.{refusal}
use Rattle.model.specs.Memory.{Tables, long_tables, Written}
use Rattle.model.specs.Clump.{ClumpGains}
use Rattle.model.specs.Ready.{EachPairOnce, FirstIsBest}
use Rattle.model.specs.Estimate.{EveryCount}
use Rattle.model.specs.Demand.{searches, WithinCapacity, Standing, Stands, LoadedSets}
use Rattle.model.specs.Promises.{KeptStay, KeptPrefix}
use Rattle.model.specs.Hall.{Beside, ceiling_beside, Led, no_desk, desk_of, bales, lots, marks, others, beside, led_turn, led_to, hall_after, hall_answers, fresh_desks}
use Rattle.model.specs.HallText.{HallBook, HallReading, hall_unread, in_catalogue, in_calls, hall_stopped, graphs, parse_hall, hall_outcome}

-- an accepted hall: its catalogues and its limit are those of some hall's file
pub record AcceptedHall (limit : ℕ) (hs : List Hypergraph) : Type 0 where
  pub file : List ℕ
  pub book : HallBook
  pub loads : parse_hall file ≡ in_calls book
  pub limit_is : book.limit ≡ limit
  pub graphs-are : graphs book ≡ hs

-- c is the number of one of so many catalogues
abbrev pub Numbered : ℕ → ℕ → Type 0
Numbered count c = (1 ≤ c) × (c ≤ count)

-- the catalogue of a number, as loaded
abbrev pub catalogue_of : List Hypergraph → ℕ → Hypergraph
catalogue_of hs c = get_or hs (c - 1) no_desk.graph

-- each call line of a list is led by such a number
abbrev pub AllLed : ℕ → List Led → Type 0
AllLed count calls = All calls (λ l. Numbered count l.desk)

-- a call line of a catalogue
abbrev pub led : ℕ → Request → Led
led c a = record { desk = c; ask = a }

-- ---- the machine's half
-- for N, which 23 counts for: as many lots and marks
abbrev pub SameCount : Request → List Sale → List Sale → Type 0
SameCount (runs c) ds es = Unit {0}
SameCount (call_x v) ds es = Unit {0}
SameCount (call_n bales session buyers) ds es = (lots es ≡ lots ds) × (marks es ≡ marks ds)

module _ (limit : ℕ) where
  -- a call line alters its own desk alone
  abbrev pub OwnAlone : Type 0
  OwnAlone = (ds : List Sale) (l : Led) (d : ℕ) → 1 ≤ l.desk → 1 ≤ d → (d ≡ l.desk → ⊥) → desk_of (led_to limit ds l) d ≡ desk_of ds d

  -- it depends on the others "only through their bales in each session and, as 23 counts over the hall, their lots and marks"
  abbrev pub OnlyThrough : Type 0
  OnlyThrough = (ds es : List Sale) (l : Led) → desk_of es l.desk ≡ desk_of ds l.desk
      → ((t : ℕ) → bales (others es l.desk) t ≡ bales (others ds l.desk) t) → SameCount l.ask (others ds l.desk) (others es l.desk)
      → led_turn limit es l ≡ led_turn limit ds l

-- the walk of a W in a sale beside others: under both limits as they stand
abbrev pub walk_beside : Beside → Sale → ℕ → ℕ → Walk
walk_beside o a u v = walk a.graph (ceiling_beside o a.graph) a.state.stack a.state.block u v

module _ (limit : ℕ) (hs : List Hypergraph) where
  -- the desks after a list of call lines from loading
  abbrev pub desks_after : List Led → List Sale
  desks_after calls = hall_after limit (fresh_desks hs) calls

  abbrev pub desk_after : List Led → ℕ → Sale
  desk_after calls c = desk_of (desks_after calls) c

  pub record HallHalf (calls : List Led) : Type 0 where
    pub within-capacity : (c : ℕ) → Numbered (length hs) c → WithinCapacity (desk_after calls c).graph (desk_after calls c).state
    -- "after every list of calls no session is over the hall limit"
    pub within-limit : (t : ℕ) → 1 ≤ t → bales (desks_after calls) t ≤ limit
    -- an accepted W, P or A anywhere in the list does not end higher than it began
    pub never-higher : (before later : List Led) (c : ℕ) (k : Call) → calls ≡ before ++ (led c (runs k) ∷ later) → searches k ≡ true
        → refusal (led_turn limit (desks_after before) (led c (runs k))).answer ≡ 0
        → total_of (led_turn limit (desks_after before) (led c (runs k))).sale ≤ total_of (desk_after before c)
    -- after an accepted A "no better single move under both limits as they stood then"
    pub locally-best : (before later : List Led) (c : ℕ) → calls ≡ before ++ (led c (runs call_a) ∷ later)
        → refusal (led_turn limit (desks_after before) (led c (runs call_a))).answer ≡ 0
        → LocallyBest (desk_after before c).graph (ceiling_beside (beside limit (desks_after before) c) (desk_after before c).graph) (led_turn limit (desks_after before) (led c (runs call_a))).sale.state
    -- M-105, of every accepted W of the list: which prefix of its walk is kept
    pub kept-prefix : (before later : List Led) (c u v : ℕ) → calls ≡ before ++ (led c (runs (call_w u v)) ∷ later)
        → refusal (led_turn limit (desks_after before) (led c (runs (call_w u v)))).answer ≡ 0
        → KeptPrefix (desk_after before c).graph (desk_after before c).state.stack (walk_beside (beside limit (desks_after before) c) (desk_after before c) u v)
    pub own_alone : OwnAlone limit
    pub only_through : OnlyThrough limit

-- ---- a list of calls on lent memory
-- what stands of each catalogue is what its sale says
abbrev pub EachSays : {A : Type 0} → (ℕ → Sale → A → Type 0) → List Sale → (ℕ → A) → Type 0
EachSays says ds a = (c : ℕ) → Numbered (length ds) c → says c (desk_of ds c) (a c)

-- Demand 3, of every accepted hall and every list of at most 512 call lines of its catalogues. `old` is what the sets of tables held before loading, by
-- the catalogue's number; `left` is what stands of each after the calls, `lines` are the answers' bytes, and `totals` the ones that the closing reports print
pub record HallDemand3 (limit : ℕ) (hs : List Hypergraph) (calls : List Led) (old : ℕ → Tables) (left : ℕ → Standing) (lines : List ℕ) (totals : ℕ → ℕ) : Type 0 where
  pub accepted : AcceptedHall limit hs
  pub few : length calls ≤ 512
  pub leads : AllLed (length hs) calls
  -- joins, record of moves and every entry of each catalogue's tables are its machine's
  pub stands : EachSays (λ c a x. Stands (old c) a x) (desks_after limit hs calls) left
  pub unjoined : (c : ℕ) → Numbered (length hs) c → (left c).stack ≡ [] → LoadedSets (desk_after limit hs calls c).graph (left c).tables
  pub answered : lines ≡ hall_answers limit (fresh_desks hs) calls
  pub total-is : (c : ℕ) → Numbered (length hs) c → totals c ≡ total_of (desk_after limit hs calls c)
  pub machine : HallHalf limit hs calls

-- ---- what the hall's entry leaves: the output, and four sets of tables by the catalogue's number
pub record HallMemory : Type 0 where
  pub output : List ℕ
  pub sets : ℕ → Tables

-- nothing is short (8): the output, and every table of each of the four sets
unfoldable pub long_hall : HallMemory → Bool
long_hall m = leb 60000 (length m.output) && long_tables main_limits (m.sets 1) && long_tables main_limits (m.sets 2) && long_tables main_limits (m.sets 3) && long_tables main_limits (m.sets 4)

-- what the requests before promise of a catalogue and its tables: that a kept lot stays (M-104), what the gain table says of clumps (M-108), what the
-- index holds and which pair of it is the first, whichever are open (M-107), and, as long as no X or N is accepted, what holds of every count of bales
-- within the ranges (M-109). With HallHalf that is what Promises has of a catalogue by itself
pub record DeskHolds (h : Hypergraph) (a : Sale) (t : Tables) : Type 0 where
  pub kept-stay : KeptStay h a
  pub clump-gains : ClumpGains a.graph a.state t
  pub each-pair-once : EachPairOnce a.graph a.state t
  pub first-is-best : FirstIsBest a.graph a.state t
  pub every-count : a.changed ≡ false → EveryCount h a.state

-- after an accepted file: demand 3 of its list, each catalogue's set of tables as it stands then, and a set without a catalogue keeps what it held
pub record SetsLeft (K : HallBook) (old new : ℕ → Tables) : Type 0 where
  pub left : ℕ → Standing
  pub lines : List ℕ
  pub totals : ℕ → ℕ
  pub demand : HallDemand3 K.limit (graphs K) K.calls old left lines totals
  pub told : (c : ℕ) → Numbered (length (graphs K)) c → new c ≡ (left c).tables
  pub holds : (c : ℕ) → Numbered (length (graphs K)) c → DeskHolds (catalogue_of (graphs K) c) (desk_after K.limit (graphs K) K.calls c) (new c)
  pub kept : (c : ℕ) → length (graphs K) < c → new c ≡ old c

abbrev pub HallLeft : HallReading → (ℕ → Tables) → (ℕ → Tables) → Type 0
HallLeft (in_calls K) old new = SetsLeft K old new
HallLeft (hall_stopped q n) old new = Unit {0}
HallLeft (in_catalogue K r) old new = Unit {0}
HallLeft hall_unread old new = Unit {0}

pub record HallWorked (r : HallReading) (old new : HallMemory) (code written : ℕ) : Type 0 where
  pub code_is : code ≡ (hall_outcome r).code
  pub output : Written (hall_outcome r).report old.output new.output written
  pub tables : HallLeft r old.sets new.sets

pub record HallUntouched (old new : HallMemory) (code written : ℕ) : Type 0 where
  pub code_is : code ≡ 8
  pub nothing : written ≡ 0
  pub output : new.output ≡ old.output
  pub sets : (c : ℕ) → 1 ≤ c → new.sets c ≡ old.sets c

abbrev pub HallServed : Bool → HallReading → HallMemory → HallMemory → ℕ → ℕ → Type 0
HallServed false r old new code written = HallUntouched old new code written
HallServed true r old new code written = HallWorked r old new code written

-- the hall's entry on a file and lent memory
abbrev pub HallServes : List ℕ → HallMemory → HallMemory → ℕ → ℕ → Type 0
HallServes file old new code written = HallServed (long_hall old) (parse_hall file) old new code written
