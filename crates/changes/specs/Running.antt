-- A call of the machine on a sale's tables: they stand for the sale that its turn leaves, so that a list may hold calls of the machine, X and N in any
-- order. Rests on edit_calls's Called and on guarantees's Reached. Assumes nothing.
use Rattle.std.specs.Prelude.{ℕ, ◌+◌, ◌<◌, ◌≡◌, List}
use Rattle.std.proofs.Common.{arith, subst}
use Rattle.model.specs.Catalogue.{Limits, capacities}
use Rattle.model.specs.Machine.{Call, Answer}
use Rattle.model.specs.Sale.{runs, Sale, ran, turn_under, turn}
use Rattle.model.specs.Lent.{Two}
use Rattle.guarantees.specs.Reached.{valid-turn}
use Rattle.operations.specs.Tables.{Tables}
use Rattle.edit_calls.specs.Called.{Called}
use Rattle.renewal.specs.Nets.{Stored}
use Rattle.changes.specs.Lot.{Long}
use Rattle.changes.specs.Stands.{Stock, stock, Stands, Turns}

-- it leaves the loaded marks, the column of kept lots, the free numbers and how many lots are known
pub runs-turns : {limits : Limits} {a : Sale} {S S' : Two} {K : Stock} {T' : Tables} {index' : List ℕ} {J' : Two} {x : Answer} → Stands limits a S K → (c : Call)
    → Called a.graph (capacities a.graph) K.tables T' S S' K.journal J' c x → T'.n ≡ K.tables.n → K.tables.firsts ≡ T'.firsts → K.tables.loaded ≡ T'.loaded
    → Long limits.vertex_limit T' K.fixed index' K.pins → Turns limits (turn limits a (runs c)) S' (stock T' K.fixed index' K.pins K.numbers K.len K.marks J') x
unfolding turn_under ran
runs-turns {limits} {a} {K = K} {T' = T'} w c d n f l long =
    let s = d.steps a.state w.runs in
    record {
      stands = record {
        narrow = w.narrow;
        short = w.short;
        valid = valid-turn limits a w.valid (runs c);
        runs = s.runs;
        stored = subst (λ (z : List ℕ). Stored a.graph.nets K.pins T'.firsts z) l (subst (λ (y : List ℕ). Stored a.graph.nets K.pins y K.tables.loaded) f w.stored);
        fixed-is = λ y q. w.fixed-is y (omega (arith, n));
        free-is = w.free-is;
        free-whole = w.free-whole;
        free-short = w.free-short;
        marks-are = w.marks-are;
        long = long;
      };
      says = s.says;
    }
