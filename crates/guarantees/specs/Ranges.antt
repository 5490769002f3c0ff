-- An accepted file is within every range that document 01 names: its catalogue (accepted-ranges) has marks that are distinct, in range,
-- at least one a net and at most 8,192 in all, and a draft within the capacity; its book (accepted-book) is of the announced sizes, with at
-- most 512 calls, from at most 60,000 bytes. Rests on Loads. Assumes nothing.
use Rattle.std.specs.Prelude.{ℕ, ◌*◌, ◌≤◌, ◌≡◌, refl, Bool, true, false, cond, List, [], eqb, ltb, length}
use Rattle.std.proofs.Common.{mul-le-mul_left, arith, ap, subst, true≢false, ltb-false, eqb-true}
use Rattle.laws.specs.Choice.{and_left, and_right}
use Rattle.laws.specs.Fold.{sum_over, sum_over-le}
use Rattle.model.specs.Catalogue.{Limits, Hypergraph, vertices, drafted}
use Rattle.model.specs.Machine.{fresh}
use Rattle.model.specs.Grammar.{Book, Reading, unread, reading, stopped, whole, lines, parts, parse}
use Rattle.model.specs.Demand.{Accepted, WithinCapacity}
use Rattle.guarantees.specs.Ends.{Placed}
use Rattle.guarantees.specs.Loads.{Loaded, WellFormed, loaded-formed, Sized, Read, sum_below, read_all, parsed, parsed-size, parsed-whole, placed-start, capped-draft}

-- limits of buyers and marks that are not above document 01's
pub record Few (limits : Limits) : Type 0 where
  pub nets-few : limits.net_limit ≤ 1024
  pub pins-few : limits.pin_limit ≤ 8192

-- the catalogue, as loaded or with lots withdrawn and added; `loaded` has the ranges of single fields and each net's marks
pub record Ranges (limits : Limits) (h : Hypergraph) : Type 0 where
  pub vertices-low : 1 ≤ vertices h
  pub vertices-high : vertices h ≤ limits.vertex_limit
  pub nets-high : length h.nets ≤ 1024
  pub marks-high : sum_over h.nets (λ e. length e.pins) ≤ 8192
  pub total-high : h.total_weight ≤ 65535 * limits.vertex_limit
  pub loaded : WellFormed limits h
  pub placed : Placed h [] (drafted h)
  pub draft-within : WithinCapacity h (fresh h)

-- the book, and the file that it was read from
pub record InBook (limits : Limits) (file : List ℕ) (k : Book) : Type 0 where
  pub file-high : length file ≤ 60000
  pub vertices-are : vertices k.graph ≡ k.lots
  pub nets-are : length k.graph.nets ≡ k.buyers
  pub marks-are : sum_over k.graph.nets (λ e. length e.pins) ≡ k.marks
  pub calls-high : length k.calls ≤ 512

is_stopped : Reading → Bool
is_stopped unread = false
is_stopped (stopped q n) = true
is_stopped (reading k) = false

read_short : (b : Bool) (r : Reading) (k : Book) → cond b (stopped 1 0) r ≡ reading k → b ≡ false
unfolding is_stopped
read_short true r k q = absurd (true≢false (ap is_stopped q))
read_short false r k q = refl

pub accepted-book : (limits : Limits) (file : List ℕ) (k : Book) → parse limits file ≡ reading k → InBook limits file k
unfolding parse
accepted-book limits file k q =
    let w = parsed-whole limits file k q in
    let z = parsed-size limits file k q in
    record {
      file-high = ltb-false 60000 (length file) (read_short (ltb 60000 (length file)) (lines limits 1 unread (parts 10 file)) k q);
      vertices-are = w.0;
      nets-are = w.1;
      marks-are = z.marks-are;
      calls-high = z.calls-high;
    }

-- a catalogue that is read whole, wherever in a file it begins
pub read-ranges : (limits : Limits) → Few limits → (k : Book) → Read limits k → whole k ≡ true → Ranges limits k.graph
unfolding fresh
read-ranges limits small k r w =
    let z = r.sized in
    let g = r.loads in
    let h = k.graph in
    let lots = eqb-true (vertices h) k.lots (and_left _ _ w) in
    let nets = eqb-true (length h.nets) k.buyers (and_right (eqb (vertices h) k.lots) _ w) in
    let few : vertices h ≤ limits.vertex_limit = omega (arith, lots, z.lots-high) in
    record {
      vertices-low = omega (arith, lots, z.lots-low);
      vertices-high = few;
      nets-high = omega (arith, nets, z.buyers-high, small.nets-few);
      marks-high = omega (arith, z.marks-are, z.marks-high, small.pins-few);
      total-high = omega (
        arith,
        g.total-is,
        sum_below h.lows h.weights g.lows-long g.lows-in,
        sum_over-le h.weights _ (λ w. w) 65535 g.weights-in (λ w i. i.1),
        mul-le-mul_left 65535 few,
      );
      loaded = loaded-formed g;
      placed = placed-start limits h g;
      draft-within = capped-draft limits h (r.even w);
    }

-- limits that are no narrower
pub ranges-wide : (limits wide : Limits) → limits.vertex_limit ≤ wide.vertex_limit → limits.block_limit ≤ wide.block_limit → (h : Hypergraph) → Ranges limits h → Ranges wide h
ranges-wide limits wide lots blocks h r =
    let g = r.loaded in
    record {
      vertices-low = r.vertices-low;
      vertices-high = omega (arith, lots, r.vertices-high);
      nets-high = r.nets-high;
      marks-high = r.marks-high;
      total-high = omega (arith, r.total-high, mul-le-mul_left 65535 lots);
      loaded = record { blocks-low = g.blocks-low; blocks-high = omega (arith, blocks, g.blocks-high); as_long = g.as_long; fixed-long = g.fixed-long; fixed_in = g.fixed_in; fixed-sale = g.fixed-sale; lows-long = g.lows-long; nets-in = g.nets-in; nets-sale = g.nets-sale; nets-distinct = g.nets-distinct; weights-in = g.weights-in; net-weights = g.net-weights; imbalance-high = g.imbalance-high };
      placed = r.placed;
      draft-within = r.draft-within;
    }

book-ranges : (limits : Limits) → Few limits → (file : List ℕ) (k : Book) → parse limits file ≡ reading k → Ranges limits k.graph
book-ranges limits small file k q = let r = read_all limits file k q in read-ranges limits small k r.0 r.1

pub accepted-ranges : (limits : Limits) → Few limits → (h : Hypergraph) → Accepted limits h → Ranges limits h
accepted-ranges limits few h a = subst (Ranges limits) a.graph_is (book-ranges limits few a.file a.book a.loads)

-- what loading gives beyond that
pub accepted-loaded : (limits : Limits) (h : Hypergraph) → Accepted limits h → Loaded limits h
accepted-loaded limits h a = subst (Loaded limits) a.graph_is (parsed limits a.file a.book a.loads)
