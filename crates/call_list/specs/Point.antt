-- Where a list of calls stands between two of them, and that it stands for a sale on lent memory: what one step of the list needs and promises. Rests on
-- changes's Stands and on memory's Unused. Assumes nothing.
use Rattle.std.specs.Prelude.{ℕ, ◌+◌, ◌<◌, ◌≤◌, ◌≡◌, List, [], ℤ, length}
use Rattle.std.proofs.Common.{subst}
use Rattle.model.specs.Catalogue.{Limits, Hypergraph, average_weight, capacities}
use Rattle.model.specs.Sale.{Request, Sale, turn}
use Rattle.model.specs.Report.{answer_row}
use Rattle.model.specs.Memory.{Tables as MemoryTables}
use Rattle.model.specs.Lent.{Two, two}
use Rattle.guarantees.specs.Caps.{CeilingIs}
use Rattle.fixed.specs.Starting.{FixedIs}
use Rattle.index.specs.Indexed.{AllRight}
use Rattle.fields.specs.Wrote.{Wrote}
use Rattle.operations.specs.Tables.{tables}
use Rattle.changes.specs.Stands.{Stock, stock, Stands}
use Rattle.memory.specs.Unused.{memory_of, Unused}
use Rattle.call_list.specs.declared.course.Course.{Course}

-- the tables with the column of kept lots, the index, the loaded marks, the free numbers and the record of moves; the stack of joins; who is fixed
pub record Point : Type 0 where
  pub stock : Stock
  pub stack : Two
  pub fixedmarks : List ℕ

abbrev pub point_of : List ℕ → List ℕ → List ℤ → List ℕ → List ℕ → List ℕ → List ℕ → List ℕ → List ℕ → List ℕ → List ℕ → List ℕ → List ℕ → List ℕ → List ℕ → List ℕ → ℕ → ℕ → Course → Point
point_of counts visited gains index pins sizes bits blocks weights aboves fixed loads loaded_pins firsts loaded_sizes net_weights m k c = record {
  stock = stock (tables counts visited gains pins sizes bits blocks weights aboves loads net_weights firsts loaded_sizes c.n m k c.total) fixed index loaded_pins c.free.numbers c.free.len c.marks
      (two c.journal.vertices c.journal.blocks c.journal.len);
  stack = two c.stack.into c.stack.gone c.stack.len;
  fixedmarks = c.fixedmarks;
}

-- lent memory there
abbrev pub lent_at : Point → MemoryTables
lent_at p = memory_of p.stock.tables p.stock.fixed p.stock.pins p.stock.index

-- it stands for the sale a, on lent memory that held `old` before loading: the tables stand for it, the rows of the index are right, and entries that are not
-- in use hold what they should
pub record GoesOn (limits : Limits) (a : Sale) (old : MemoryTables) (p : Point) : Type 0 where
  pub stands : Stands limits a p.stack p.stock
  pub marked : FixedIs p.fixedmarks a.graph []
  pub right : AllRight p.stock.tables.gains p.stock.tables.blocks p.stock.tables.n p.stock.tables.k p.stock.index
  pub unused : Unused a.changed p.stock.tables.n p.stock.tables.m p.stock.tables.k p.stock.marks old (lent_at p)

-- the numbers that calls go by are the catalogue's and the entry's: ⌈W/k⌉, the limit of lots, the cap of each session
pub record Under (limits : Limits) (h : Hypergraph) (average lots : ℕ) (ceilings : List ℕ) : Type 0 where
  pub average-is : average ≡ average_weight h
  pub lots-are : lots ≡ limits.vertex_limit
  pub ceiling-is : CeilingIs ceilings h (capacities h)

-- what a step needs: some sale, a place left on the stack, on the record and among the free numbers, and space for the answer's line from `at` on
pub record CanStep (average lots : ℕ) (ceilings : List ℕ) (room at : ℕ) (c : Request) (p : Point) : Type 0 where
  pub limits : Limits
  pub a : Sale
  pub old : MemoryTables
  pub goes : GoesOn limits a old p
  pub under : Under limits a.graph average lots ceilings
  pub ceilings-whole : length ceilings ≡ 16
  pub stack-room : p.stack.len < 512
  pub journal-room : p.stock.journal.len < 512
  pub free-room : p.stock.len < 512
  pub fits : at + length (answer_row (turn limits a c).answer) ≤ room

-- what it does: whatever sale the list stood for, it stands for the one that the call line leaves, and the line of its answer is written
pub record Went (limits : Limits) (a : Sale) (old : MemoryTables) (c : Request) (p : Point) (out out' : List ℕ) (at at' : ℕ) : Type 0 where
  pub goes : GoesOn limits (turn limits a c).sale old p
  pub wrote : Wrote out out' at (answer_row (turn limits a c).answer) at'

pub record Steps (average lots : ℕ) (ceilings : List ℕ) (c : Request) (p p' : Point) (out out' : List ℕ) (at at' : ℕ) : Type 0 where
  pub went : (limits : Limits) (a : Sale) (old : MemoryTables) → GoesOn limits a old p → Under limits a.graph average lots ceilings → Went limits a old c p' out out' at at'

-- another name of the same call line
pub can-as : {average lots room at : ℕ} {ceilings : List ℕ} {c c' : Request} {p : Point} → c ≡ c' → CanStep average lots ceilings room at c p → CanStep average lots ceilings room at c' p
can-as {average} {lots} {room} {at} {ceilings} {p = p} e = subst (λ (c : Request). CanStep average lots ceilings room at c p) e

pub steps-as : {average lots at at' : ℕ} {ceilings out out' : List ℕ} {c c' : Request} {p p' : Point} → c ≡ c' → Steps average lots ceilings c p p' out out' at at' → Steps average lots ceilings c' p p' out out' at at'
steps-as {average} {lots} {at} {at'} {ceilings} {out} {out'} {p = p} {p' = p'} e = subst (λ (c : Request). Steps average lots ceilings c p p' out out' at at') e
