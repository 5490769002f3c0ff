-- A call of the machine beside others: what stood for a sale stands for the one that the call leaves. Rests on beside's Called and on call_list's Machine.
-- Assumes nothing.
use Rattle.std.specs.Prelude.{ℕ, ◌+◌, ◌*◌, ◌<◌, ◌≤◌, ◌≡◌, length}
use Rattle.std.proofs.Common.{arith, sym, ap}
use Rattle.std.proofs.Math.Path.{subst}
use mathlib.Core.List.{List}
use Rattle.model.specs.Catalogue.{main_limits}
use Rattle.model.specs.Machine.{Call, Answer}
use Rattle.model.specs.Sale.{Request, runs, Sale, ran}
use Rattle.model.specs.Report.{answer_row}
use Rattle.model.specs.Memory.{Tables as MemoryTables}
use Rattle.model.specs.Lent.{Two}
use Rattle.model.specs.Hall.{Beside, call_beside, turn_beside}
use Rattle.hall_guarantees.specs.Beside.{settled-turn}
use Rattle.index.specs.Indexed.{KeepsRight}
use Rattle.operations.specs.Tables.{Tables}
use Rattle.fields.specs.Wrote.{Wrote}
use Rattle.search_calls.specs.Cycling.{ReadyA}
use Rattle.renewal.specs.Nets.{Stored}
use Rattle.changes.specs.Lot.{Long}
use Rattle.changes.specs.Stands.{stock, Stands, all-lots}
use Rattle.beside.specs.Called.{BesideCalled}
use Rattle.call_list.specs.Point.{Point}
use Rattle.call_list.specs.Machine.{goes_kept}
use Rattle.desk_calls.specs.Desk.{Numbers, Stays, CanStep, Went}

-- what `perform_beside` needs
pub can-perform : {N : Numbers} {room at : ℕ} {c : Request} {p : Point} → CanStep N room at c p → ReadyA p.stock.tables p.stack p.stock.journal N.average p.fixedmarks × (16 * p.stock.tables.n ≤ length p.stock.index)
can-perform k =
    let g = k.stays.goes in (
      record {
        ready = record { h = k.a.graph; s = k.a.state; runs = g.stands.runs; stack-room = k.stack-room; room = k.journal-room };
        average-is = k.stays.fits.average-is;
        fixed = g.marked;
      },
      omega (arith, g.stands.long.index-long, all-lots g.stands, g.stands.valid.ranges.vertices-high),
    )

-- the answer is the turn's, so its line has space
pub machine-fits : {N : Numbers} {room at : ℕ} {c : Call} {p : Point} {T' : Tables} {S' J' : Two} {x : Answer} (k : CanStep N room at (runs c) p)
    → BesideCalled k.o k.a.graph p.stock.tables T' p.stack S' p.stock.journal J' c x → at + length (answer_row x) ≤ room
unfolding turn_beside ran
machine-fits {at = at} k d = omega (arith, k.fits, ap (λ (y : Answer). at + length (answer_row y)) (d.steps k.a.state k.stays.goes.stands.runs).says)

module _ {o : Beside} {a : Sale} {old : MemoryTables} {N : Numbers} {p : Point} (y : Stays o a old N p) (c : Call) {T' : Tables} {index' : List ℕ} {S' J' : Two} {x : Answer}
    (d : BesideCalled o a.graph p.stock.tables T' p.stack S' p.stock.journal J' c x) (n : T'.n ≡ p.stock.tables.n) (m : T'.m ≡ p.stock.tables.m) (k : T'.k ≡ p.stock.tables.k)
    (f : T'.firsts ≡ p.stock.tables.firsts) (l : T'.loaded ≡ p.stock.tables.loaded)
    (w : KeepsRight p.stock.tables.gains p.stock.tables.blocks T'.gains T'.blocks p.stock.tables.n p.stock.tables.k p.stock.index index')
    (long : Long 1024 T' p.stock.fixed index' p.stock.pins) where
  stands-left : Stands main_limits (ran a (call_beside o a.graph a.state c)).sale S' (stock T' p.stock.fixed index' p.stock.pins p.stock.numbers p.stock.len p.stock.marks J')
  unfolding turn_beside ran
  stands-left =
      let g = y.goes.stands in
      record {
        narrow = g.narrow;
        short = g.short;
        valid = (settled-turn o a y.settled (runs c)).valid;
        runs = (d.steps a.state g.runs).runs;
        stored = subst (λ (z : List ℕ). Stored a.graph.nets p.stock.pins T'.firsts z) (sym l) (subst (λ (z : List ℕ). Stored a.graph.nets p.stock.pins z p.stock.tables.loaded) (sym f) g.stored);
        fixed-is = λ z q. g.fixed-is z (omega (arith, n));
        free-is = g.free-is;
        free-whole = g.free-whole;
        free-short = g.free-short;
        marks-are = g.marks-are;
        long = long;
      }

  pub went-machine : {out out' : List ℕ} {at at' : ℕ} → Wrote out out' at (answer_row x) at'
      → Went o a old (runs c) (record { stock = stock T' p.stock.fixed index' p.stock.pins p.stock.numbers p.stock.len p.stock.marks J'; stack = S'; fixedmarks = p.fixedmarks }) out out' at at'
  unfolding turn_beside ran
  went-machine {out} {out'} {at} {at'} t = record {
    goes = goes_kept y.goes stands-left (d.keeps a.state y.goes.stands.runs) n m k f l w;
    wrote = subst (λ (z : Answer). Wrote out out' at (answer_row z) at') (d.steps a.state y.goes.stands.runs).says t;
  }
