-- The marks of one buyer, the stamps that tell which lots it has marked, and a buyer's line. Rests on Line. Assumes nothing.
use Rattle.std.specs.Prelude.{ℕ, ◌+◌, ◌-◌, ◌≤◌, ◌<◌, ◌≡◌, Bool, false, ◌&&◌, cond, List, [], eqb, leb, length, get_or, take, drop, Option, Some, None, Result, Ok, Err}
use Rattle.std.proofs.Math.Seq.{slice}
use Rattle.laws.specs.Fold.{all, any}
use Rattle.model.specs.Catalogue.{Limits, Hypergraph, vertices}
use Rattle.model.specs.Grammar.{Fields, parts, fields, at as field_at, is_number, is_line, Book, Reading, stopped, Marking, marked, wrong, mark, marking, net_read, buy_line}
use Rattle.lines.specs.Line.{Past}
use Rattle.text.specs.declared.Number.{Number}
use Rattle.lines.specs.declared.Buyer.{Buyer}
use Rattle.refusal.specs.declared.Refusal.{Refusal}
use Rattle.refusal.specs.Number.{number_of}

-- the marks from `first` to m are those of buyer j, at most so many in all, and the stamp of a lot is j if and only if it is among them
pub record Stamped (most first m j : ℕ) (marks stamps : List ℕ) : Type 0 where
  pub f-le : first ≤ m
  pub m-le : m ≤ most
  pub below : (x : ℕ) → get_or stamps x 0 ≤ j
  pub told : (v : ℕ) → 1 ≤ v → v ≤ 1024 → any (slice first m marks) (λ x. eqb x v) ≡ eqb (get_or stamps (v - 1) 0) j

-- no stamp is buyer j's yet
pub record Fresh (j : ℕ) (stamps : List ℕ) : Type 0 where
  pub below : (x : ℕ) → get_or stamps x 0 < j

-- one mark: r is 0 or the refusal
abbrev pub mark_seen : ℕ → ℕ → ℕ → List ℕ → Marking
mark_seen r first m marks = cond (eqb r 0) (marked (slice first (m + 1) marks) (m + 1)) (wrong r)

pub record MarkOne (v lots most j m r : ℕ) (marks stamps marks' stamps' : List ℕ) : Type 0 where
  pub keep : take m marks' ≡ take m marks
  pub past : Past (m + 1) marks marks'
  pub len : length marks' ≡ length marks
  pub slen : length stamps' ≡ length stamps
  pub says : (limits : Limits) (h : Hypergraph) (first : ℕ) → limits.pin_limit ≡ most → vertices h ≡ lots → Stamped most first m j marks stamps → mark limits h (marked (slice first m marks) m) v ≡ mark_seen r first m marks'
  pub next : (first : ℕ) → r ≡ 0 → Stamped most first m j marks stamps → Stamped most first (m + 1) j marks' stamps'
  pub room : r ≡ 0 → m < most

-- the form of a line comes first: 2 where a field is no number, else the refusal q, or the marks after others
abbrev pub refusal_of : ℕ → Fields → ℕ
refusal_of q fs = cond (all fs is_number) q 2

unfoldable pub tested : Limits → Hypergraph → Marking → Fields → Marking
tested limits h m fs = cond (all fs is_number) (marking limits h m fs) (wrong 2)

-- the marks of a line
abbrev pub marks_seen : ℕ → Result ℕ Refusal → List ℕ → Marking
marks_seen first (Ok m) marks = marked (slice first m marks) m
marks_seen first (Err e) marks = wrong (number_of e)

pub record MarksRead (fs : Fields) (lots most j first : ℕ) (r : Result ℕ Refusal) (marks marks' stamps' : List ℕ) : Type 0 where
  pub keep : take first marks' ≡ take first marks
  pub past : (m : ℕ) → r ≡ Ok m → Past m marks marks'
  pub len : length marks' ≡ length marks
  pub slen : length stamps' ≡ 1024
  pub says : (limits : Limits) (h : Hypergraph) → limits.pin_limit ≡ most → vertices h ≡ lots → marks_seen first r marks' ≡ tested limits h (marked [] first) fs
  pub next : (m : ℕ) → r ≡ Ok m → Stamped most first m j marks' stamps'

-- ---- a buyer's line
-- it begins as one and has a lot
abbrev pub is_buy : Fields → Bool
is_buy fs = is_line "BUY" fs && leb 3 (length fs)

-- its weight is v, and the field of it ends at e, before the line does; the form is then that of the fields behind it
pub record WeightRead (s : List ℕ) (at end v e : ℕ) : Type 0 where
  pub more : e < end
  pub form : is_buy (fields (slice at end s)) ≡ all (parts 44 (slice (e + 1) end s)) is_number
  pub is : v ≡ field_at (fields (slice at end s)) 1
  pub rest : parts 44 (slice (e + 1) end s) ≡ drop 2 (fields (slice at end s))

abbrev pub WeightSeen : List ℕ → ℕ → ℕ → Option Number → Type 0
WeightSeen s at end (Some n) = WeightRead s at end n.value n.end
WeightSeen s at end None = is_buy (fields (slice at end s)) ≡ false

abbrev pub buy_seen : ℕ → Book → ℕ → Result Buyer Refusal → List ℕ → Reading
buy_seen n k first (Ok a) marks = net_read n k a.weight (marked (slice first a.pins marks) a.pins)
buy_seen n k first (Err e) marks = stopped (number_of e) n

pub record BuyRead (fs : Fields) (lots most j first : ℕ) (r : Result Buyer Refusal) (marks marks' stamps' : List ℕ) : Type 0 where
  pub keep : take first marks' ≡ take first marks
  pub past : (a : Buyer) → r ≡ Ok a → Past a.pins marks marks'
  pub len : length marks' ≡ length marks
  pub slen : length stamps' ≡ 1024
  pub says : (limits : Limits) (n : ℕ) (k : Book) → limits.pin_limit ≡ most → vertices k.graph ≡ lots → k.marks ≡ first → buy_seen n k first r marks' ≡ buy_line limits n k fs
  pub next : (a : Buyer) → r ≡ Ok a → Stamped most first a.pins j marks' stamps'
