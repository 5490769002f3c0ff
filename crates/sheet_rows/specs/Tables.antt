-- The engine's tables, as they show a sale. Rests on model's Memory. Assumes nothing.
use Rattle.std.specs.Prelude.{ℕ, ◌+◌, ◌<◌, ◌≤◌, ◌≡◌, true, List, length, get_or, take, drop}
use Rattle.laws.specs.Sum.{sum}
use Rattle.laws.specs.Bit.{bit}
use Rattle.model.specs.Catalogue.{Limits, Hypergraph, vertices}
use Rattle.model.specs.Measure.{representative, connectivity}
use Rattle.model.specs.Machine.{State}
use Rattle.model.specs.Sale.{Sale}
use Rattle.model.specs.Memory.{Tables, long_tables, block_entry, net, Holds}
use Rattle.model.specs.Sheets.{ats, sheet_rows, sheets}
use Rattle.guarantees.specs.Climbs.{Sound}
use Rattle.guarantees.specs.Splits.{AllInside}
use Rattle.guarantees.specs.Reached.{Valid}
pub use Rattle.climbs.specs.Above.{Aboves, Climbable}
use Rattle.sheet_rows.specs.Order.{Known, InOrder, Ranked, entry_of, is_in, printed_of, sheet_text}

-- ---- lots
-- what the table says of the session of a lot's stand
unfoldable pub seat : Hypergraph → State → ℕ → ℕ
seat h s v = block_entry h s.stack s.block (representative s.stack v)

-- sessions and the lots above are those of the state
pub record Lots (h : Hypergraph) (s : State) (blocks aboves : List ℕ) (n : ℕ) : Type 0 where
  pub all : n ≡ vertices h
  pub few : n ≤ 1024
  pub sound : Sound s.stack
  pub inside : AllInside h s.stack
  pub hangs : Aboves s.stack n aboves
  pub fits : n ≤ length blocks
  pub sits : (y : ℕ) → y < n → get_or blocks y 0 ≡ block_entry h s.stack s.block (y + 1)

-- the tables show the lots of some state
pub record LotsIn (blocks aboves : List ℕ) (n : ℕ) : Type 0 where
  pub h : Hypergraph
  pub s : State
  pub shown : Lots h s blocks aboves n

pub record LotIn (blocks aboves : List ℕ) (n v : ℕ) : Type 0 where
  pub lots : LotsIn blocks aboves n
  pub low : 1 ≤ v
  pub high : v ≤ n

-- the first n entries are the sessions of the stands
pub record Seats (h : Hypergraph) (s : State) (sessions : List ℕ) (n : ℕ) : Type 0 where
  pub is : (y : ℕ) → y < n → get_or sessions y 0 ≡ seat h s (y + 1)

-- ---- buyers
-- each buyer's stretch holds its marks, and its mask has a bit for each session that it visits
pub record Buyers (h : Hypergraph) (s : State) (pins firsts sizes visited : List ℕ) (m : ℕ) : Type 0 where
  pub all : m ≡ length h.nets
  pub few : m ≤ 1024
  pub fits : (m ≤ length firsts) × (m ≤ length sizes) × (m ≤ length visited)
  pub within : (e : ℕ) → e < m → get_or firsts e 0 + get_or sizes e 0 ≤ length pins
  pub marks : (e : ℕ) → e < m → take (get_or sizes e 0) (drop (get_or firsts e 0) pins) ≡ (net h (e + 1)).pins
  pub known : (e : ℕ) → e < m → Known (net h (e + 1)).pins
  pub counts : (e : ℕ) → e < m → sum 16 (bit (get_or visited e 0)) ≡ connectivity h s.stack s.block (net h (e + 1))

-- the order of lots is one that every sheet can be read from
pub record Seated (h : Hypergraph) (s : State) (sessions order : List ℕ) (count : ℕ) : Type 0 where
  pub listed : InOrder order count
  pub sheet-is : (e : ℕ) → e < length h.nets → printed_of (entry_of sessions) (is_in (net h (e + 1)).pins) (take count order) ≡ ats h s (net h (e + 1))

-- the marks of the buyer at place i
abbrev pub marks_at : (pins firsts sizes : List ℕ) → ℕ → List ℕ
marks_at pins firsts sizes i = take (get_or sizes i 0) (drop (get_or firsts i 0) pins)

-- its sheet
abbrev pub text_at : (lead sessions order : List ℕ) (count : ℕ) (pins firsts sizes visited : List ℕ) → ℕ → List ℕ
text_at lead sessions order count pins firsts sizes visited i =
    sheet_text lead (entry_of sessions) (take count order) (i + 1) (sum 16 (bit (get_or visited i 0))) (marks_at pins firsts sizes i)

-- the sheet of the buyer at place i fits
pub record BuyerFits (room at : ℕ) (lead sessions order : List ℕ) (count : ℕ) (ranks pins firsts sizes visited : List ℕ) (i : ℕ) : Type 0 where
  pub few : i < 1024
  pub in-firsts : i < length firsts
  pub in-sizes : i < length sizes
  pub in-visited : i < length visited
  pub within : get_or firsts i 0 + get_or sizes i 0 ≤ length pins
  pub known : Known (marks_at pins firsts sizes i)
  pub listed : InOrder order count
  pub ranked : Ranked ranks order count
  pub fits : at + length (text_at lead sessions order count pins firsts sizes visited i) ≤ room

-- those of all buyers of some state that the tables show
pub record BuyersFit (room at : ℕ) (lead sessions order : List ℕ) (count : ℕ) (ranks pins firsts sizes visited : List ℕ) (m : ℕ) : Type 0 where
  pub h : Hypergraph
  pub s : State
  pub shown : Buyers h s pins firsts sizes visited m
  pub seated : Seated h s sessions order count
  pub ranked : Ranked ranks order count
  pub fits : at + length (sheet_rows lead h s 1 h.nets) ≤ room

-- ---- the engine's promise
-- after its calls on a valid sale of n lots and m buyers, these six of its tables hold the sale, whatever they held before
pub record Promised (a : Sale) (blocks aboves pins firsts sizes visited : List ℕ) (n m : ℕ) : Type 0 where
  pub limits : Limits
  pub few : limits.vertex_limit ≤ 1024
  pub narrow : limits.block_limit ≤ 16
  pub valid : Valid limits a
  pub old : Tables
  pub new : Tables
  pub long : long_tables limits old ≡ true
  pub holds : Holds a old new
  pub lots-are : n ≡ vertices a.graph
  pub buyers-are : m ≡ length a.graph.nets
  pub blocks-are : new.blocks ≡ blocks
  pub aboves-are : new.aboves ≡ aboves
  pub pins-are : new.loaded_pins ≡ pins
  pub firsts-are : new.firsts ≡ firsts
  pub sizes-are : new.loaded_sizes ≡ sizes
  pub visited-are : new.visited ≡ visited

-- the sheets of some such sale fit
pub record SheetsFit (room at : ℕ) (lead blocks aboves pins firsts sizes visited : List ℕ) (n m : ℕ) : Type 0 where
  pub sale : Sale
  pub promised : Promised sale blocks aboves pins firsts sizes visited n m
  pub fits : at + length (sheets lead sale) ≤ room

-- the same, where the lots above and the buyers' first places held 65,535 before the engine ran: no entry in use holds that, so they tell how many lots
-- and buyers there are
pub record Ended (a : Sale) (blocks aboves pins firsts sizes visited : List ℕ) : Type 0 where
  pub promised : Promised a blocks aboves pins firsts sizes visited (vertices a.graph) (length a.graph.nets)
  pub aboves-blank : (y : ℕ) → y < length promised.old.aboves → get_or promised.old.aboves y 0 ≡ 65535
  pub firsts-blank : (y : ℕ) → y < length promised.old.firsts → get_or promised.old.firsts y 0 ≡ 65535

-- the sheets of some such sale fit
pub record SaleFits (room at : ℕ) (lead blocks aboves pins firsts sizes visited : List ℕ) : Type 0 where
  pub sale : Sale
  pub ended : Ended sale blocks aboves pins firsts sizes visited
  pub fits : at + length (sheets lead sale) ≤ room
