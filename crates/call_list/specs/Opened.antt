-- Tables as loading a catalogue left them, a sale's or one of a hall's: they can be opened, and opened they stand for the catalogue as loaded, before any call.
-- Rests on Point and on memory's Open. Assumes nothing.
use Rattle.std.specs.Prelude.{ℕ, ◌*◌, ◌<◌, ◌≤◌, ◌≡◌, List, [], length, get_or, replicate, ℤ}
use Rattle.std.proofs.Common.{arith, sym, ◌∙◌}
use Rattle.std.proofs.lemmas.List.{length-replicate}
use Rattle.laws.specs.Fold.{zeros-get}
use Rattle.model.specs.Catalogue.{Limits, Hypergraph, drafted}
use Rattle.model.specs.Sale.{opened}
use Rattle.model.specs.Memory.{all_pins}
use Rattle.model.specs.Lent.{Lists, lent}
use Rattle.guarantees.specs.Ranges.{Few}
use Rattle.guarantees.specs.Reached.{Valid}
use Rattle.index.specs.Indexed.{TablesOk, Indexed}
use Rattle.operations.specs.Tables.{Tables, tables, Sound}
use Rattle.search_moves.specs.Tabled.{rows_ok}
use Rattle.edit_calls.specs.Start.{runs-fresh}
use Rattle.opening.specs.Opening.{Opens, CanOpen, Opened}
use Rattle.loader.specs.Tables.{LongLists, graph, Accepts}
use Rattle.loader.specs.declared.Sizes.{Sizes}
use Rattle.change_rules.specs.Free.{free-none}
use Rattle.changes.specs.Nets.{marks-is}
use Rattle.memory.specs.Open.{all-vertices, all-nets, opens, none_above, stored, fixed-at, fixed-long, fixed-marked}
use Rattle.memory.specs.Unused.{unused-opened}
use Rattle.call_list.specs.Start.{Starts}
use Rattle.call_list.specs.Point.{Point, point_of, GoesOn}
use Rattle.call_list.specs.declared.course.Course.{Course}

-- a catalogue was loaded: `old` held what it held before, `new` is what loading left; counts, gains, the index and connectivity sets are not yet filled
pub record Prepared (limits : Limits) (z : Sizes) (old new : Lists) (nw lo counts : List ℕ) (gains : List ℤ) (index visited : List ℕ) : Type 0 where
  pub narrow : limits.block_limit ≤ 16
  pub short : limits.vertex_limit ≤ 1024
  pub few : Few limits
  pub long : LongLists limits.vertex_limit old
  pub counts-long : 16384 ≤ length counts
  pub gains-long : 16 * limits.vertex_limit ≤ length gains
  pub index-long : 16 * limits.vertex_limit ≤ length index
  pub visited-long : 1024 ≤ length visited
  pub accepts : Accepts limits z old new nw lo
  pub valid : Valid limits (opened (graph z new nw lo))

-- the bitset as the engine makes it
pub record Blank (bits : List ℕ) : Type 0 where
  pub len : length bits ≡ 16384
  pub zeros : (i : ℕ) → get_or bits i 0 ≡ 0

pub blank : (n : ℕ) → n ≡ 16384 → Blank (replicate n 0)
blank n e = record { len = length-replicate {A = ℕ} n 0 ∙ e; zeros = zeros-get n }

module _ {limits : Limits} {z : Sizes} {old new : Lists} {nw lo counts : List ℕ} {gains : List ℤ} {index visited : List ℕ} (g : Prepared limits z old new nw lo counts gains index visited) where
  abbrev h : Hypergraph
  h = graph z new nw lo

  -- who is fixed can be marked
  pub can-begin : (z.vertices ≤ 1024) × (z.vertices ≤ length new.fixed)
  can-begin = fixed-long g.narrow g.short g.few g.long g.accepts

  marks-are : z.pins ≡ length (all_pins h.nets)
  marks-are = sym g.accepts.pins-are ∙ marks-is h.nets

  module _ {bits : List ℕ} (b : Blank bits) where
    can-open-h : Opens h new.present_pins new.blocks new.firsts new.present_sizes new.loaded_sizes new.weights nw bits counts visited gains z.vertices z.nets z.blocks
    can-open-h = opens g.narrow g.short g.few g.long g.accepts g.counts-long g.visited-long g.gains-long b.len b.zeros

    pub can-open : {loads : List ℕ} → length loads ≡ 16 → CanOpen new.present_pins new.blocks new.firsts new.present_sizes new.weights nw bits counts visited gains loads z.vertices z.nets z.blocks
    can-open l = record { h = h; loaded_sizes = new.loaded_sizes; opens = can-open-h; loads-len = l }

    module _ {bits' counts' visited' loads' : List ℕ} {gains' : List ℤ} {draft : ℕ}
        (o : Opened new.present_pins new.blocks new.firsts new.present_sizes new.weights nw z.vertices z.nets z.blocks bits bits' counts counts' visited visited' gains gains' loads' draft) where
      abbrev pub T₀ : Tables
      T₀ = tables counts' visited' gains' new.present_pins new.present_sizes bits' new.blocks new.weights new.aboves loads' nw new.firsts new.loaded_sizes z.vertices z.nets z.blocks draft

      pub sound : Sound h [] (drafted h) T₀
      sound = let n = none_above g.narrow g.short g.few g.long g.accepts in o.sound h new.loaded_sizes new.aboves can-open-h n.0 n.1

      -- the rows of the index can be made right
      pub rows_fit : TablesOk (length index) (length gains') new.blocks z.vertices z.blocks
      rows_fit = rows_ok sound (omega (arith, g.accepts.range.l-high, g.index-long))

      module _ {index' : List ℕ} (x : Indexed gains' new.blocks z.vertices z.blocks index index') {c : Course} (f : Starts new.fixed z.vertices z.pins draft c) where
        abbrev pub p₀ : Point
        p₀ = point_of counts' visited' gains' index' new.present_pins new.present_sizes bits' new.blocks new.weights new.aboves new.fixed loads' new.loaded_pins new.firsts new.loaded_sizes nw z.nets z.blocks c

        -- before the first call the tables stand for the catalogue as loaded
        pub goes : GoesOn limits (opened h) (lent old counts gains index visited) p₀
        goes = let a = g.accepts in record {
          stands = record {
            narrow = g.narrow;
            short = g.short;
            valid = g.valid;
            runs = rw (f.n-is, f.total-is) (runs-fresh sound f.no_joins f.no-moves);
            stored = stored g.narrow g.short g.few g.long g.accepts;
            fixed-is = λ y l. fixed-at g.narrow g.short g.few g.long g.accepts y (omega (arith, f.n-is));
            free-is = rw f.none_free (free-none c.free.numbers);
            free-whole = f.free-whole;
            free-short = omega (arith, f.none_free);
            marks-are = f.marks-are ∙ marks-are;
            long = record {
              few = g.short;
              weights-long = omega (arith, g.long.weights, a.started.weights.as_long);
              blocks-long = omega (arith, g.long.blocks, a.started.blocks.as_long);
              aboves-long = omega (arith, g.long.aboves, a.started.aboves.as_long);
              fixed-long = omega (arith, g.long.fixed, a.started.fixed.as_long);
              gains-long = omega (arith, g.gains-long, o.prepared.gains.gains-len);
              bits-long = omega (arith, b.len, g.short, o.prepared.bits-len);
              index-long = omega (arith, g.index-long, x.kept.len);
              pins-long = omega (arith, g.long.present_pins, a.started.present_pins.as_long);
              loaded-long = omega (arith, g.long.loaded_pins, a.started.loaded_pins.as_long);
            };
          };
          marked = fixed-marked g.narrow g.short g.few g.long g.accepts f.marked;
          right = rw f.n-is x.rows;
          unused = rw (f.n-is, f.marks-are, marks-are) (unused-opened loads' draft a.started o.prepared x.kept (all-vertices g.narrow g.short g.few g.long g.accepts) (all-nets g.narrow g.short g.few g.long g.accepts));
        }
