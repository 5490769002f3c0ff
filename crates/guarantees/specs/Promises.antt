-- What `model` promises at every entry holds of every accepted catalogue, its calls and the tables that stand for the sale they lead to (promised), so an
-- entry for files that serves a file keeps the promises (file-serves). Rests on MachineHalf, Stays, Walks, ClumpGain, Ready and Counts. Assumes nothing.
use Prim.Native.Nat.{ℕ, ◌*◌, ◌≤◌}
use Rattle.std.specs.Prelude.{◌≡◌, false, ◌&&◌, List, length}
use Rattle.std.proofs.Math.Path.{refl}
use Rattle.std.proofs.Common.{sym, ◌∙◌, subst}
use Rattle.std.proofs.Math.Bool.{Bool, true}
use borrow.Author.Tests.{leb-true}
use Rattle.std.proofs.Math.Dec.{leb}
use Rattle.laws.specs.Choice.{and_left, and_right}
use Rattle.model.specs.Catalogue.{Limits, Hypergraph, capacities}
use Rattle.model.specs.Sale.{Request, Sale}
use Rattle.model.specs.Grammar.{Book, Reading, unread, reading, stopped, parse}
use Rattle.model.specs.Memory.{Tables, Memory, long_lists, long_tables, long_memory, Holds, TablesLeft, Served, Serves}
use Rattle.model.specs.Demand.{Accepted, reached_by}
use Rattle.model.specs.Promises.{Promises, FilePromises, FileServes}
use Rattle.guarantees.specs.Ranges.{Few}
use Rattle.guarantees.specs.Reached.{reached}
use Rattle.guarantees.specs.MachineHalf.{machine-half}
use Rattle.guarantees.specs.Stays.{fixed-stays}
use Rattle.guarantees.specs.Walks.{first-lowest}
use Rattle.guarantees.specs.ClumpGain.{clump-gains}
use Rattle.guarantees.specs.Ready.{each-pair-once, first-is-best}
use Rattle.guarantees.specs.Counts.{every-count}

module _ (limits : Limits) (few : Few limits) (narrow : limits.block_limit ≤ 16) where
  pub promised : (h : Hypergraph) → Accepted limits h → (calls : List Request) (old new : Tables) → 16 * limits.vertex_limit ≤ length old.gains → 16 * limits.vertex_limit ≤ length old.index
      → Holds (reached_by limits h calls) old new → Promises limits h calls new
  promised h accepted calls old new gains-long index-long holds =
      let a : Sale = reached_by limits h calls in
      let valid = reached limits few h accepted calls in
      let kept = fixed-stays limits h few accepted calls in
      record {
        machine = machine-half limits few h accepted calls;
        kept-stay = λ v l u q. kept.kept.stays v l u q ∙ kept.drafts v l u q;
        kept-prefix = λ before later u v q allowed.
            let b : Sale = reached_by limits h before in
            let k = first-lowest b.graph (capacities b.graph) b.state.stack b.state.block u v (reached limits few h accepted before).held.legal.placed in
            record { lowest = k.lowest; lightest = k.lightest; first = k.shortest };
        clump-gains = clump-gains limits a valid narrow old new gains-long holds;
        each-pair-once = each-pair-once limits a valid narrow old new index-long holds;
        first-is-best = first-is-best limits a valid narrow old new index-long holds;
        every-count = every-count limits few h accepted calls;
      }

  -- the gains and the index of memory that is long enough
  long-enough : (t : Tables) → long_tables limits t ≡ true → (16 * limits.vertex_limit ≤ length t.gains) × (16 * limits.vertex_limit ≤ length t.index)
  unfolding long_tables
  long-enough t q =
      let v : ℕ = limits.vertex_limit in
      let before : Bool = leb v (length t.weights) && leb v (length t.blocks) && leb v (length t.aboves) && leb v (length t.fixed) && long_lists t && leb 16384 (length t.counts) in
      let gains : Bool = leb (16 * v) (length t.gains) in
      let index : Bool = leb (16 * v) (length t.index) in
      let both = and_left (before && gains && index) (leb 1024 (length t.visited)) q in
      (leb-true (16 * v) (length t.gains) (and_right before gains (and_left (before && gains) index both)), leb-true (16 * v) (length t.index) (and_right (before && gains) index both))

  pub file-serves : (file : List ℕ) (old new : Memory) (code written : ℕ) → Serves limits file old new code written → FileServes limits file old new code written
  unfolding long_memory
  file-serves file old new code written s = record { serves = s; promises = by_length (long_memory limits old) refl s }
    where
      by-reading : (r : Reading) → parse limits file ≡ r → long_memory limits old ≡ true → TablesLeft limits r old.tables new.tables → FilePromises true limits r new.tables
      by-reading (reading k) e long t =
          let l = long-enough old.tables (and_right (leb 60000 (length old.output)) _ long) in
          promised k.graph (record { file = file; book = k; loads = e; graph_is = refl }) k.calls old.tables new.tables l.0 l.1 t
      by-reading (stopped q n) e long t = tt
      by-reading unread e long t = tt

      by_length : (b : Bool) → long_memory limits old ≡ b → Served limits b (parse limits file) old new code written → FilePromises b limits (parse limits file) new.tables
      by_length true e w = by-reading (parse limits file) refl e w.tables
      by_length false e w = tt
