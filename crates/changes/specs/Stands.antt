-- A sale and all its tables, what X and N need and promise, and the sale made anew on the catalogue that they leave. Rests on Lot, Free and guarantees's
-- Reached. Assumes nothing.
use Rattle.std.specs.Prelude.{ℕ, suc, ◌+◌, ◌*◌, ◌-◌, ◌<◌, ◌≤◌, ◌≡◌, List, [], length, get_or, replicate, ℤ}
use Rattle.std.proofs.Common.{arith, sym, ap, ◌∙◌, subst}
use Rattle.std.proofs.lemmas.List.{length-replicate}
use Rattle.laws.specs.Fold.{zeros-get}
use Rattle.model.specs.Catalogue.{Limits, Net, Hypergraph, vertices, fixed_entry, drafted}
use Rattle.model.specs.Measure.{Contraction}
use Rattle.model.specs.Machine.{Answer, fresh}
use Rattle.model.specs.Memory.{no_net, all_pins}
use Rattle.model.specs.Sale.{Sale, Turn, changed_at}
use Rattle.model.specs.Lent.{Two}
use Rattle.guarantees.specs.Ranges.{Ranges}
use Rattle.guarantees.specs.Reached.{Valid}
use Rattle.index.specs.Indexed.{TablesOk, Indexed}
use Rattle.levels.specs.Running.{net_at}
use Rattle.operations.specs.Pairs.{pairs-length}
use Rattle.operations.specs.Tables.{Tables, tables, Sound}
use Rattle.search_moves.specs.Tabled.{rows_ok}
use Rattle.edit_calls.specs.Steps.{Runs}
use Rattle.edit_calls.specs.Start.{Empty, runs-fresh}
use Rattle.renewal.specs.Nets.{Stored, Holding}
use Rattle.reopening.specs.Reopening.{Reopens, CanReopen, Reopened}
use Rattle.changes.specs.Nets.{marks-is}
use Rattle.change_rules.specs.Free.{free_of}
use Rattle.change_rules.specs.Lot.{LotSet}
use Rattle.changes.specs.Lot.{Long, new-above, new-fixed, reopens}

-- ---- a sale and its tables

-- the running tables, the column of kept lots, the index, the loaded marks; the free numbers; how many marks there are; the record of moves
pub record Stock : Type 0 where
  pub tables : Tables
  pub fixed : List ℕ
  pub index : List ℕ
  pub pins : List ℕ
  pub numbers : List ℕ
  pub len : ℕ
  pub marks : ℕ
  pub journal : Two

abbrev pub stock : Tables → List ℕ → List ℕ → List ℕ → List ℕ → ℕ → ℕ → Two → Stock
stock T fixed index pins numbers len marks J = record { tables = T; fixed = fixed; index = index; pins = pins; numbers = numbers; len = len; marks = marks; journal = J }

-- they stand for the sale a, with the stack of contractions S
pub record Stands (limits : Limits) (a : Sale) (S : Two) (K : Stock) : Type 0 where
  pub narrow : limits.block_limit ≤ 16
  pub short : limits.vertex_limit ≤ 1024
  pub valid : Valid limits a
  pub runs : Runs a.graph a.state K.tables S K.journal
  pub stored : Stored a.graph.nets K.pins K.tables.firsts K.tables.loaded
  pub fixed-is : (x : ℕ) → x < K.tables.n → get_or K.fixed x 0 ≡ fixed_entry a.graph (x + 1)
  pub free-is : free_of K.numbers K.len ≡ a.free
  pub free-whole : length K.numbers ≡ 512
  pub free-short : K.len ≤ 512
  pub marks-are : K.marks ≡ length (all_pins a.graph.nets)
  pub long : Long limits.vertex_limit K.tables K.fixed K.index K.pins

-- what X and N need: some sale, `joins` contractions on its stack, and a place left for a free number
pub record CanChange (joins : ℕ) (K : Stock) : Type 0 where
  pub limits : Limits
  pub a : Sale
  pub S : Two
  pub joins-are : joins ≡ S.len
  pub stands : Stands limits a S K
  pub room : K.len < 512

-- what they do: whatever sale the tables stood for, they stand for the one that the turn leaves, with its answer
pub record Turns (limits : Limits) (t : Turn) (S : Two) (K : Stock) (answer : Answer) : Type 0 where
  pub stands : Stands limits t.sale S K
  pub says : answer ≡ t.answer

-- ---- made anew, and the index

pub record Renewed (loaded_pins loaded_sizes pins pins' sizes sizes' blocks firsts weights net_weights : List ℕ) (n m k total : ℕ) (bits bits' counts counts' visited visited' : List ℕ) (gains gains' : List ℤ) (loads index index' : List ℕ) (metric : ℕ) : Type 0 where
  pub reopened : Reopened loaded_pins loaded_sizes pins pins' sizes sizes' blocks firsts weights net_weights n m k total bits bits' counts counts' visited visited' gains gains' loads metric
  pub indexed : Indexed gains' blocks n k index index'

pub renew-rows : {loaded_pins loaded_sizes pins pins' sizes sizes' blocks firsts weights net_weights bits bits' counts counts' visited visited' loads loads' : List ℕ} {gains gains' : List ℤ} {n m k total metric places : ℕ} →
    CanReopen loaded_pins loaded_sizes pins sizes blocks firsts weights net_weights bits counts visited gains loads n m k total → 16 * n ≤ places →
    Reopened loaded_pins loaded_sizes pins pins' sizes sizes' blocks firsts weights net_weights n m k total bits bits' counts counts' visited visited' gains gains' loads' metric → TablesOk places (length gains') blocks n k
renew-rows {n = n} o l r = rows_ok (r.sound o.h (replicate n 0) o.reopens (omega (arith, length-replicate {A = ℕ} n 0)) (λ y _. zeros-get n y)) l

module _ {limits : Limits} {a : Sale} {S : Two} {K : Stock} (w : Stands limits a S K) where
  abbrev h : Hypergraph
  h = a.graph

  abbrev p : ℕ → ℕ
  p = a.state.block

  abbrev T : Tables
  T = K.tables

  -- the stack is as long as its array says
  pub joins-length : S.len ≡ length a.state.stack
  joins-length = sym (pairs-length (λ u v. record { into = u; gone = v }) S.xs S.ys S.len) ∙ ap length w.runs.stack_is

  pub all-lots : T.n ≡ vertices h
  all-lots = w.runs.sound.follows.says.all-vertices

  pub marks-few : K.marks ≤ 8192
  marks-few = omega (arith, w.marks-are, marks-is h.nets, w.valid.ranges.marks-high)

  -- the tables hold the nets
  pub holding : Holding K.pins T.firsts T.loaded T.m
  holding = record { nets = h.nets; count = sym w.runs.sound.follows.says.all-nets; stored = w.stored; few = omega (arith, marks-few, w.marks-are) }

  -- with no contraction on the stack
  module _ (none : a.state.stack ≡ []) where
    pub sound-now : Sound h [] p T
    sound-now = subst (λ (cs : List Contraction). Sound h cs p T) none w.runs.sound

    pub stack-empty : Empty S
    stack-empty = record { whole = w.runs.stack-whole; none = joins-length ∙ ap length none }

    -- the catalogue that is left, and what the code wrote
    module _ (v bales session : ℕ) (nets : List Net) (vl : 1 ≤ v) (vu : v ≤ suc (vertices h)) (r : Ranges limits (changed_at h p v bales session nets)) (there : v ≤ vertices (changed_at h p v bales session nets))
        {weights' blocks' aboves' fixed' : List ℕ} (c : LotSet (v - 1) bales session T.weights weights' T.blocks blocks' T.aboves aboves' K.fixed fixed')
        {lp' firsts' loaded' : List ℕ} {n' total : ℕ} (n-is : n' ≡ vertices (changed_at h p v bales session nets)) (st : Stored nets lp' firsts' loaded') (total-is : total ≡ length (all_pins nets))
        (as_many : length nets ≡ length h.nets) (costs : (e : ℕ) → e < length h.nets → (get_or nets e no_net).weight ≡ (net_at h e).weight) (lp-len : length lp' ≡ length K.pins) where
      abbrev left : Hypergraph
      left = changed_at h p v bales session nets

      few : total ≤ 8192
      unfolding changed_at
      few = omega (arith, total-is, marks-is nets, r.marks-high)

      pub left-reopens : Reopens left lp' loaded' T.pins T.sizes blocks' firsts' weights' T.net_weights T.bits T.counts T.visited T.gains n' T.m T.k total
      left-reopens = reopens sound-now v bales session nets vl vu c limits w.narrow w.short r w.long there n-is st total-is few as_many costs lp-len

      pub left-can : CanReopen lp' loaded' T.pins T.sizes blocks' firsts' weights' T.net_weights T.bits T.counts T.visited T.gains T.loads n' T.m T.k total
      left-can = record { h = left; reopens = left-reopens; loads-len = w.runs.sound.loads-fit }

      pub left-index : 16 * n' ≤ length K.index
      left-index = omega (arith, n-is, r.vertices-high, w.long.index-long)

      module _ {pins' sizes' bits' counts' visited' loads' index' : List ℕ} {gains' : List ℤ} {metric : ℕ}
          (t : Renewed lp' loaded' T.pins pins' T.sizes sizes' blocks' firsts' weights' T.net_weights n' T.m T.k total T.bits bits' T.counts counts' T.visited visited' T.gains gains' loads' K.index index' metric) where
        abbrev T' : Tables
        T' = tables counts' visited' gains' pins' sizes' bits' blocks' weights' aboves' loads' T.net_weights firsts' loaded' n' T.m T.k metric

        left-sound : Sound left [] (drafted left) T'
        left-sound = t.reopened.sound left aboves' left-reopens
            (omega (arith, c.aboves-len, w.long.aboves-long, n-is, r.vertices-high))
            (λ y l. new-above sound-now v bales session nets vl vu c (omega (arith, there, r.vertices-high, w.long.aboves-long)) y (omega (arith, n-is)))

        pub left-runs : {J' : Two} → Empty J' → Runs left (fresh left) T' S J'
        left-runs e = runs-fresh left-sound stack-empty e

        pub left-fixed : (x : ℕ) → x < n' → get_or fixed' x 0 ≡ fixed_entry left (x + 1)
        left-fixed x l = new-fixed sound-now v bales session nets vl vu c (omega (arith, there, r.vertices-high, w.long.fixed-long)) w.valid.ranges.loaded.fixed-long w.fixed-is x (omega (arith, n-is))

        pub left-long : Long limits.vertex_limit T' fixed' index' lp'
        left-long = let g = w.long in let o = t.reopened in record {
          few = g.few;
          weights-long = omega (arith, g.weights-long, c.weights-len);
          blocks-long = omega (arith, g.blocks-long, c.blocks-len);
          aboves-long = omega (arith, g.aboves-long, c.aboves-len);
          fixed-long = omega (arith, g.fixed-long, c.fixed-len);
          gains-long = omega (arith, g.gains-long, o.prepared.gains.gains-len);
          bits-long = omega (arith, g.bits-long, o.prepared.bits-len);
          index-long = omega (arith, g.index-long, t.indexed.kept.len);
          pins-long = omega (arith, g.pins-long, o.ordered.len);
          loaded-long = omega (arith, g.loaded-long, lp-len);
        }
