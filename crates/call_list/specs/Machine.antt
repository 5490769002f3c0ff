-- A call of the machine in a list: what stood for a sale stands for the one that the call leaves. Rests on changes's Running and on memory's Unused.
-- Assumes nothing.
use Rattle.std.specs.Prelude.{ℕ, ◌+◌, ◌*◌, ◌<◌, ◌≤◌, ◌≡◌, List, length, get_or}
use Rattle.std.proofs.Common.{arith, sym, ap, subst}
use Rattle.model.specs.Catalogue.{Limits, capacities}
use Rattle.model.specs.Machine.{Call, Answer, State}
use Rattle.model.specs.Sale.{Request, runs, Sale, ran, turn_under, turn}
use Rattle.model.specs.Report.{answer_row}
use Rattle.model.specs.Memory.{Tables as MemoryTables}
use Rattle.model.specs.Lent.{Two}
use Rattle.index.specs.Indexed.{KeepsRight}
use Rattle.operations.specs.Tables.{Tables, Keeps}
use Rattle.fields.specs.Wrote.{Wrote}
use Rattle.edit_calls.specs.Called.{Called}
use Rattle.search_calls.specs.Cycling.{ReadyA}
use Rattle.renewal.specs.Nets.{stretch-fit}
use Rattle.changes.specs.Lot.{Long}
use Rattle.changes.specs.Stands.{Stock, stock, Stands, all-lots}
use Rattle.changes.specs.Running.{runs-turns}
use Rattle.memory.specs.Unused.{unused-runs}
use Rattle.call_list.specs.Point.{Point, GoesOn, CanStep, Went}

-- a buyer's stretch ends within the marks
stretch-ends : {limits : Limits} {a : Sale} {S : Two} {K : Stock} → Stands limits a S K → (e : ℕ) → e < K.tables.m → get_or K.tables.firsts e 0 + get_or K.tables.loaded e 0 ≤ K.marks
stretch-ends {a = a} {K = K} w e l =
    let u : e < length a.graph.nets = omega (arith, w.runs.sound.follows.says.all-nets) in
    omega (arith, w.stored.first-is e u, w.stored.size_is e u, stretch-fit w.stored e u, w.marks-are)

-- the machine goes over to the state s: what stood for the sale stands for the sale in that state
pub goes_kept : {limits : Limits} {a : Sale} {old : MemoryTables} {p : Point} {T' : Tables} {index' : List ℕ} {S' J' : Two} {s : State} → GoesOn limits a old p
    → Stands limits (record { graph = a.graph; free = a.free; changed = a.changed; state = s }) S' (stock T' p.stock.fixed index' p.stock.pins p.stock.numbers p.stock.len p.stock.marks J')
    → Keeps p.stock.tables T' → T'.n ≡ p.stock.tables.n → T'.m ≡ p.stock.tables.m → T'.k ≡ p.stock.tables.k → T'.firsts ≡ p.stock.tables.firsts → T'.loaded ≡ p.stock.tables.loaded
    → KeepsRight p.stock.tables.gains p.stock.tables.blocks T'.gains T'.blocks p.stock.tables.n p.stock.tables.k p.stock.index index'
    → GoesOn limits (record { graph = a.graph; free = a.free; changed = a.changed; state = s }) old
    (record { stock = stock T' p.stock.fixed index' p.stock.pins p.stock.numbers p.stock.len p.stock.marks J'; stack = S'; fixedmarks = p.fixedmarks })
goes_kept g stands keeps n m k f l w =
    let u = unused-runs g.unused keeps w.kept f l (stretch-ends g.stands) in
    record {
      stands = stands;
      marked = g.marked;
      right = rw (n, k) (w.right g.right);
      unused = rw (n, m, k) u;
    }

goes-machine : {limits : Limits} {a : Sale} {old : MemoryTables} {p : Point} {T' : Tables} {index' : List ℕ} {S' J' : Two} {x : Answer} → GoesOn limits a old p → (c : Call)
    → Called a.graph (capacities a.graph) p.stock.tables T' p.stack S' p.stock.journal J' c x → T'.n ≡ p.stock.tables.n → T'.m ≡ p.stock.tables.m → T'.k ≡ p.stock.tables.k
    → T'.firsts ≡ p.stock.tables.firsts → T'.loaded ≡ p.stock.tables.loaded
    → KeepsRight p.stock.tables.gains p.stock.tables.blocks T'.gains T'.blocks p.stock.tables.n p.stock.tables.k p.stock.index index'
    → Long limits.vertex_limit T' p.stock.fixed index' p.stock.pins
    → GoesOn limits (turn limits a (runs c)).sale old
    (record { stock = stock T' p.stock.fixed index' p.stock.pins p.stock.numbers p.stock.len p.stock.marks J'; stack = S'; fixedmarks = p.fixedmarks })
unfolding turn_under ran
goes-machine {a = a} g c d n m k f l w long = goes_kept g (runs-turns g.stands c d n (sym f) (sym l) long).stands (d.keeps a.state g.stands.runs) n m k f l w

-- what `perform` needs
pub can-perform : {average lots room at : ℕ} {ceilings : List ℕ} {c : Request} {p : Point} → CanStep average lots ceilings room at c p → ReadyA p.stock.tables p.stack p.stock.journal average p.fixedmarks × (16 * p.stock.tables.n ≤ length p.stock.index)
can-perform {p = p} k = (
  record {
    ready = record { h = k.a.graph; s = k.a.state; runs = k.goes.stands.runs; stack-room = k.stack-room; room = k.journal-room };
    average-is = k.under.average-is;
    fixed = k.goes.marked;
  },
  omega (arith, k.goes.stands.long.index-long, all-lots k.goes.stands, k.goes.stands.valid.ranges.vertices-high),
)

-- tables that are as long as they were have room
pub long_as : {lots : ℕ} {T T' : Tables} {fixed index index' pins : List ℕ} → Long lots T fixed index pins → length T'.weights ≡ length T.weights → length T'.blocks ≡ length T.blocks
    → length T'.aboves ≡ length T.aboves → length T'.gains ≡ length T.gains → length T'.bits ≡ length T.bits → length T'.pins ≡ length T.pins → length index' ≡ length index
    → Long lots T' fixed index' pins
long_as g w b a n t p i = record {
  few = g.few;
  weights-long = omega (arith, g.weights-long);
  blocks-long = omega (arith, g.blocks-long);
  aboves-long = omega (arith, g.aboves-long);
  fixed-long = g.fixed-long;
  gains-long = omega (arith, g.gains-long);
  bits-long = omega (arith, g.bits-long);
  index-long = omega (arith, g.index-long);
  pins-long = omega (arith, g.pins-long);
  loaded-long = g.loaded-long;
}

-- the answer is the turn's, so its line has space
pub machine-fits : {average lots room at : ℕ} {ceilings : List ℕ} {c : Call} {p : Point} {T' : Tables} {S' J' : Two} {x : Answer} (k : CanStep average lots ceilings room at (runs c) p)
    → Called k.a.graph (capacities k.a.graph) p.stock.tables T' p.stack S' p.stock.journal J' c x → at + length (answer_row x) ≤ room
unfolding turn_under ran
machine-fits {at = at} k d = omega (arith, k.fits, ap (λ (y : Answer). at + length (answer_row y)) (d.steps k.a.state k.goes.stands.runs).says)

pub went-machine : {limits : Limits} {a : Sale} {old : MemoryTables} {p : Point} {T' : Tables} {index' : List ℕ} {S' J' : Two} {x : Answer} {out out' : List ℕ} {at at' : ℕ} → GoesOn limits a old p → (c : Call)
    → Called a.graph (capacities a.graph) p.stock.tables T' p.stack S' p.stock.journal J' c x → T'.n ≡ p.stock.tables.n → T'.m ≡ p.stock.tables.m → T'.k ≡ p.stock.tables.k
    → T'.firsts ≡ p.stock.tables.firsts → T'.loaded ≡ p.stock.tables.loaded
    → KeepsRight p.stock.tables.gains p.stock.tables.blocks T'.gains T'.blocks p.stock.tables.n p.stock.tables.k p.stock.index index'
    → Long limits.vertex_limit T' p.stock.fixed index' p.stock.pins → Wrote out out' at (answer_row x) at'
    → Went limits a old (runs c) (record { stock = stock T' p.stock.fixed index' p.stock.pins p.stock.numbers p.stock.len p.stock.marks J'; stack = S'; fixedmarks = p.fixedmarks }) out out' at at'
unfolding turn_under ran
went-machine {a = a} {out = out} {out'} {at} {at'} g c d n m k f l w long t = record {
  goes = goes-machine g c d n m k f l w long;
  wrote = subst (λ (y : Answer). Wrote out out' at (answer_row y) at') (d.steps a.state g.stands.runs).says t;
}
