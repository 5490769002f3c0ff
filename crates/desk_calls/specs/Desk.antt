-- What a call line of one catalogue beside others needs and promises: whatever sale its tables stood for, they stand for the one that the line leaves beside
-- the others, and the line of its answer is written. Rests on call_list's Point and on hall_guarantees' Beside. Assumes nothing.
use Rattle.std.specs.Prelude.{ℕ, ◌+◌, ◌<◌, ◌≤◌, ◌≡◌, List, length}
use Rattle.std.proofs.Common.{subst}
use Rattle.model.specs.Catalogue.{main_limits, Hypergraph, average_weight}
use Rattle.model.specs.Sale.{Request, Sale}
use Rattle.model.specs.Report.{answer_row}
use Rattle.model.specs.Memory.{Tables as MemoryTables}
use Rattle.model.specs.Hall.{Beside, space_beside, turn_beside}
use Rattle.hall_guarantees.specs.Beside.{Settled}
use Rattle.fields.specs.Wrote.{Wrote}
use Rattle.beside.specs.Called.{RoomsAre}
use Rattle.call_list.specs.Point.{Point, GoesOn}

-- the numbers that a call line goes by: ⌈W/k⌉, what the others leave of lots and marks, the cap, the lesser of both limits in each session, and what the
-- hall's limit leaves there
pub record Numbers : Type 0 where
  pub average : ℕ
  pub lots : ℕ
  pub marks : ℕ
  pub cap : ℕ
  pub ceilings : List ℕ
  pub rooms : List ℕ

abbrev pub numbers : ℕ → ℕ → ℕ → ℕ → List ℕ → List ℕ → Numbers
numbers average lots marks cap ceilings rooms = record { average = average; lots = lots; marks = marks; cap = cap; ceilings = ceilings; rooms = rooms }

-- they are those of the catalogue h beside the others o
pub record Fits (o : Beside) (h : Hypergraph) (N : Numbers) : Type 0 where
  pub average-is : N.average ≡ average_weight h
  pub lots-are : N.lots ≡ (space_beside o).lots
  pub marks-are : N.marks ≡ (space_beside o).marks
  pub rooms-are : RoomsAre N.ceilings N.rooms N.cap o h

-- the tables stand for the sale a, which is within what the others o leave
pub record Stays (o : Beside) (a : Sale) (old : MemoryTables) (N : Numbers) (p : Point) : Type 0 where
  pub goes : GoesOn main_limits a old p
  pub settled : Settled o a
  pub fits : Fits o a.graph N

-- what a step needs: some sale beside others, a place left on the stack, on the record and among the free numbers, and space for the answer's line
pub record CanStep (N : Numbers) (room at : ℕ) (c : Request) (p : Point) : Type 0 where
  pub o : Beside
  pub a : Sale
  pub old : MemoryTables
  pub stays : Stays o a old N p
  pub ceilings-whole : length N.ceilings ≡ 16
  pub stack-room : p.stack.len < 512
  pub journal-room : p.stock.journal.len < 512
  pub free-room : p.stock.len < 512
  pub fits : at + length (answer_row (turn_beside o a c).answer) ≤ room

-- what it does
pub record Went (o : Beside) (a : Sale) (old : MemoryTables) (c : Request) (p : Point) (out out' : List ℕ) (at at' : ℕ) : Type 0 where
  pub goes : GoesOn main_limits (turn_beside o a c).sale old p
  pub wrote : Wrote out out' at (answer_row (turn_beside o a c).answer) at'

pub record Steps (N : Numbers) (c : Request) (p p' : Point) (out out' : List ℕ) (at at' : ℕ) : Type 0 where
  pub went : (o : Beside) (a : Sale) (old : MemoryTables) → Stays o a old N p → Went o a old c p' out out' at at'

-- another name of the same call line
pub can-as : {N : Numbers} {room at : ℕ} {c c' : Request} {p : Point} → c ≡ c' → CanStep N room at c p → CanStep N room at c' p
can-as {N} {room} {at} {p = p} e = subst (λ (c : Request). CanStep N room at c p) e

pub steps-as : {N : Numbers} {at at' : ℕ} {out out' : List ℕ} {c c' : Request} {p p' : Point} → c ≡ c' → Steps N c p p' out out' at at' → Steps N c' p p' out out' at at'
steps-as {N} {at} {at'} {out} {out'} {p = p} {p' = p'} e = subst (λ (c : Request). Steps N c p p' out out' at at') e
