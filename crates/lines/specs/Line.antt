-- What the functions for the first line, a lot line and a call line other than N answer. Rests on model's grammar. Assumes nothing.
use Rattle.std.specs.Prelude.{ℕ, ◌≤◌, ◌≡◌, Bool, true, cond, not, ◌&&◌, ◌||◌, List, [], eqb, leb, ltb, length, get_or, drop, Option, Some, None, Result, Ok, Err}
use Rattle.std.proofs.Math.Seq.{slice}
use Rattle.model.specs.Catalogue.{Limits, Hypergraph}
use Rattle.model.specs.Sale.{Request, call_n}
use Rattle.model.specs.Grammar.{Fields, at, values, Book, Reading, reading, stopped, Asked, asks, nothing, asked, call_of, grown, with_lot, ends_in_k, before_k, fields, within, is_line, is_line_of, sale_line, lot_line}
use Rattle.model.specs.ListEntry.{is_entry}
use Rattle.text.specs.Field.{Numbered}
use Rattle.guarantees.specs.Ranges.{Few}
use Rattle.lines.specs.declared.Limits.{Limits as Given}
use Rattle.lines.specs.declared.Short.{Short}
use Rattle.lines.specs.declared.Head.{Head}
use Rattle.lines.specs.declared.Lot.{Lot}
use Rattle.refusal.specs.declared.Refusal.{Refusal}
use Rattle.refusal.specs.Number.{number_of}

-- a book by its parts
abbrev pub book : Bool → ℕ → ℕ → Hypergraph → ℕ → List Request → Book
book estimated lots buyers h marks calls = record { estimated = estimated; lots = lots; buyers = buyers; graph = h; marks = marks; calls = calls }

-- limits as code hands them on, in model's names
abbrev pub limits_of : Given → Limits
limits_of g = record { vertex_limit = g.lots; block_limit = g.sessions; net_limit = g.buyers; pin_limit = g.marks }

-- limits that are not above document 01's
pub record Within (limits : Limits) : Type 0 where
  pub lots-few : limits.vertex_limit ≤ 1024
  pub sessions-few : limits.block_limit ≤ 16
  pub few : Few limits

-- entries from n on keep what they held
abbrev pub Past : ℕ → List ℕ → List ℕ → Type 0
Past n old new = (x : ℕ) → n ≤ x → get_or new x 0 ≡ get_or old x 0

-- three numbers stand for a line's call, whatever the operands are
pub record Named (fs : Fields) (k a b : ℕ) : Type 0 where
  pub call : Request
  pub is : (operands : List ℕ) → call_of operands k a b ≡ asks call
  pub says : asked fs ≡ asks call
  pub entry : (n : ℕ) → is_entry n k a b ≡ true

-- an N line, and what it asks
abbrev pub is_late : Fields → Bool
is_late fs = is_line "N" fs && leb 3 (length fs)

abbrev pub late_asked : Fields → Asked
late_asked fs = asks (call_n (at fs 1) (at fs 2) (values (drop 3 fs)))

-- a call line with a fixed number of fields; any other is an N line or none
abbrev pub short_of : ℕ → ℕ → ℕ → Short
short_of k a b = record { letter = k; first = a; second = b }

abbrev pub ShortRead : Fields → Option Short → Type 0
ShortRead fs (Some c) = Named fs c.letter c.first c.second
ShortRead fs None = asked fs ≡ cond (is_late fs) (late_asked fs) nothing

-- ---- the first line
-- it announces a sale or an estimate, and its four numbers are there
pub record Announces (fs : Fields) (estimated : Bool) : Type 0 where
  pub form : (is_line_of "SALE" 4 fs || is_line_of "EST" 4 fs) ≡ true
  pub kind : is_line_of "EST" 4 fs ≡ estimated
  pub numbered : (i : ℕ) → 1 ≤ i → i ≤ 4 → Numbered fs i

-- its numbers are in their ranges
pub record InRange (limits : Limits) (l b k t : ℕ) : Type 0 where
  pub l-low : 1 ≤ l
  pub l-high : l ≤ limits.vertex_limit
  pub b-high : b ≤ limits.net_limit
  pub k-low : 2 ≤ k
  pub k-high : k ≤ limits.block_limit
  pub t-high : t ≤ 1000

abbrev pub opened : ℕ → Result Head Refusal → Reading
opened n (Ok a) = reading (book a.estimated a.vertices a.nets (record { blocks = a.blocks; imbalance = a.imbalance; total_weight = 0; lows = []; weights = []; draft = []; fixed = []; nets = [] }) 0 [])
opened n (Err e) = stopped (number_of e) n

pub record SaleRead (limits : Limits) (fs : Fields) (r : Result Head Refusal) : Type 0 where
  pub says : (n : ℕ) → opened n r ≡ sale_line limits n fs
  pub ranges : (a : Head) → r ≡ Ok a → InRange limits a.vertices a.nets a.blocks a.imbalance

-- ---- the lots
-- r is where the fields of a line that may end in `,K` end
pub record FieldsEnd (s : List ℕ) (at end r : ℕ) : Type 0 where
  pub low : at ≤ r
  pub high : r ≤ end
  pub before : slice at r s ≡ before_k (slice at end s)
  pub fixed : ltb r end ≡ ends_in_k (slice at end s)

-- how many numbers a lot line has: LOT,bales,session or LOT,low,high,session
abbrev pub numbers_of : Bool → ℕ
numbers_of estimated = cond estimated 3 2

-- the refusal of a lot's bales, of its session, and the first of two: 0 for none
abbrev pub bales_refusal : ℕ → ℕ → ℕ
bales_refusal low high = cond (not (within 1 65535 low && within 1 65535 high)) 3 (cond (ltb high low) 21 0)

abbrev pub session_refusal : ℕ → ℕ → ℕ
session_refusal block blocks = cond (within 1 blocks block) 0 3

abbrev pub first_of : ℕ → ℕ → ℕ
first_of one other = cond (eqb one 0) other one

-- a lot line, after a book
abbrev pub lotted : ℕ → Book → Result Lot Refusal → Reading
lotted n k (Ok a) = grown n (book k.estimated k.lots k.buyers (with_lot k.graph a.low a.high a.block a.fixed) k.marks [])
lotted n k (Err e) = stopped (number_of e) n

abbrev pub LotRead : ℕ → Bool → List ℕ → Result Lot Refusal → Type 0
LotRead blocks estimated l r = (n : ℕ) (k : Book) → k.estimated ≡ estimated → k.graph.blocks ≡ blocks → lotted n k r ≡ lot_line n k (ends_in_k l) (fields (before_k l))
