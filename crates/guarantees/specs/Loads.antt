-- An accepted file's catalogue is loaded (parsed): blocks, draft, weights and pins in range, W the sum of all weights, the marks of each net distinct and at
-- least one. Its book is of the announced size (parsed-size), with at most 8,192 marks and 512 calls; and a fresh machine over it is in a
-- state that all laws of calls want (held_start). Rests on Reading. Assumes nothing.
use Prim.Native.Nat.{ℕ, zero, suc, ◌+◌, ◌-◌, ◌≤◌, ◌<◌}
use Rattle.std.proofs.Math.Decide.{ℕ_discrete}
use native.Mathlib.Omega.{arith}
use Rattle.std.specs.Prelude.{◌≡◌, refl, Bool, true, ◌||◌, ◌&&◌, eqb, leb, get_or}
use Rattle.std.proofs.Math.Path.{sym, ap}
use Rattle.std.proofs.Common.{ap₂, ◌∙◌, true≢false}
use Rattle.std.proofs.Math.Bool.{false}
use mathlib.Core.List.{List, [], ◌∷◌, ◌++◌}
use borrow.Author.Tests.{eqb-true, eq-eqb, ltb-false, lt-ltb, leb-false}
use Rattle.std.proofs.Math.Dec.{ltb}
use Rattle.std.proofs.Math.ListN.{length, length-append}
use Rattle.laws.specs.Fold.{sum_over, sum_over-more, All, all_map, all_more, all-get}
use Rattle.laws.specs.Occurrence.{Distinct}
use Rattle.laws.specs.Sum.{fold_to}
use Rattle.laws.specs.Choice.{one, one-le, and_left, and_right, or-none}
use Rattle.model.specs.Catalogue.{Limits, Hypergraph, vertices, loaded, drafted, fixed_entry, in_sale, capacity, capacities}
use Rattle.model.specs.Measure.{block_weight}
use Rattle.model.specs.Machine.{fresh}
use Rattle.model.specs.Sale.{Request}
use Rattle.model.specs.Grammar.{unread, Book, reading, whole, full, overfull, with_lot, with_net, parse}
use Rattle.model.specs.Through.{Stage, ended, refused, through}
use Rattle.guarantees.specs.Reading.{Kept, part-keeps, Marks, Even, blank, lotted, netted, called, accepted-keeps}
use Rattle.guarantees.specs.Board.{board-is}
use Rattle.guarantees.specs.Ends.{Placed}
use Rattle.guarantees.specs.Splits.{above-none}
use Rattle.guarantees.specs.Caps.{Capped, Held}
use Rattle.guarantees.specs.Calls.{Legal, legal-fresh}
use Rattle.guarantees.specs.Clumps.{Within}

pub record Loaded (limits : Limits) (h : Hypergraph) : Type 0 where
  pub blocks-low : 2 ≤ h.blocks
  pub blocks-high : h.blocks ≤ limits.block_limit
  pub draft-in : All h.draft (λ b. (1 ≤ b) × (b ≤ h.blocks))
  pub as_long : length h.draft ≡ length h.weights
  pub fixed-long : length h.fixed ≡ length h.weights
  pub fixed_in : All h.fixed (λ x. x ≤ 1)
  pub lows-long : length h.lows ≡ length h.weights
  pub lows-in : (i : ℕ) → i < length h.weights → get_or h.lows i 0 ≤ get_or h.weights i 0
  pub total-is : h.total_weight ≡ sum_over h.lows (λ w. w)
  pub nets-in : All h.nets (Within (vertices h))
  pub nets-distinct : All h.nets (λ e. Distinct e.pins 0 (length e.pins))
  pub nets-some : All h.nets (λ e. 1 ≤ length e.pins)
  pub weights-in : All h.weights (λ w. (1 ≤ w) × (w ≤ 65535))
  pub net-weights : All h.nets (λ e. (1 ≤ e.weight) × (e.weight ≤ 1000))
  pub imbalance-high : h.imbalance ≤ 1000

-- what a catalogue keeps while lots are withdrawn and added
pub record WellFormed (limits : Limits) (h : Hypergraph) : Type 0 where
  pub blocks-low : 2 ≤ h.blocks
  pub blocks-high : h.blocks ≤ limits.block_limit
  pub as_long : length h.draft ≡ length h.weights
  pub fixed-long : length h.fixed ≡ length h.weights
  pub fixed_in : All h.fixed (λ x. x ≤ 1)
  pub fixed-sale : (x : ℕ) → 1 ≤ x → x ≤ vertices h → fixed_entry h x ≡ 1 → in_sale h x ≡ true
  pub lows-long : length h.lows ≡ length h.weights
  pub nets-in : All h.nets (Within (vertices h))
  pub nets-sale : All h.nets (λ e. All e.pins (λ x. in_sale h x ≡ true))
  pub nets-distinct : All h.nets (λ e. Distinct e.pins 0 (length e.pins))
  pub weights-in : All h.weights (λ w. w ≤ 65535)
  pub net-weights : All h.nets (λ e. (1 ≤ e.weight) × (e.weight ≤ 1000))
  pub imbalance-high : h.imbalance ≤ 1000

-- each lot of a loaded catalogue is in the sale
pub loaded-sale : {limits : Limits} {h : Hypergraph} → Loaded limits h → (x : ℕ) → 1 ≤ x → x ≤ vertices h → in_sale h x ≡ true
loaded-sale {h = h} g x l u = lt-ltb 0 (loaded h x) (omega (arith, (all-get h.weights _ 0 g.weights-in (x - 1) (omega arith)).0))

pub loaded-formed : {limits : Limits} {h : Hypergraph} → Loaded limits h → WellFormed limits h
loaded-formed {h = h} g = record {
  blocks-low = g.blocks-low;
  blocks-high = g.blocks-high;
  as_long = g.as_long;
  fixed-long = g.fixed-long;
  fixed_in = g.fixed_in;
  fixed-sale = λ x l u q. loaded-sale g x l u;
  lows-long = g.lows-long;
  nets-in = g.nets-in;
  nets-sale = all_map h.nets _ _ (λ e w. all_map e.pins _ _ (λ x r. loaded-sale g x r.0 r.1) w) g.nets-in;
  nets-distinct = g.nets-distinct;
  weights-in = all_map h.weights _ _ (λ w r. r.1) g.weights-in;
  net-weights = g.net-weights;
  imbalance-high = g.imbalance-high;
}

-- limits that are no narrower
pub loaded-wide : (limits wide : Limits) → limits.block_limit ≤ wide.block_limit → (h : Hypergraph) → Loaded limits h → Loaded wide h
loaded-wide limits wide blocks h g = record { blocks-low = g.blocks-low; blocks-high = omega (arith, blocks, g.blocks-high); draft-in = g.draft-in; as_long = g.as_long; fixed-long = g.fixed-long; fixed_in = g.fixed_in; lows-long = g.lows-long; lows-in = g.lows-in; total-is = g.total-is; nets-in = g.nets-in; nets-distinct = g.nets-distinct; nets-some = g.nets-some; weights-in = g.weights-in; net-weights = g.net-weights; imbalance-high = g.imbalance-high }

-- how much has been read, of what the first line announces
pub record Sized (limits : Limits) (k : Book) : Type 0 where
  pub lots-low : 1 ≤ k.lots
  pub lots-high : k.lots ≤ limits.vertex_limit
  pub buyers-high : k.buyers ≤ limits.net_limit
  pub lots-le : vertices k.graph ≤ k.lots
  pub nets-le : length k.graph.nets ≤ k.buyers
  pub marks-are : sum_over k.graph.nets (λ e. length e.pins) ≡ k.marks
  pub marks-high : k.marks ≤ limits.pin_limit
  pub calls-high : length k.calls ≤ 512

-- one lot more keeps every low at most its high
lows-more : (ls ws : List ℕ) (low high : ℕ) → length ls ≡ length ws → low ≤ high → ((i : ℕ) → i < length ws → get_or ls i 0 ≤ get_or ws i 0)
    → (i : ℕ) → i < length (ws ++ (high ∷ [])) → get_or (ls ++ (low ∷ [])) i 0 ≤ get_or (ws ++ (high ∷ [])) i 0
lows-more [] [] low high q m f i l = at i l
  where
    at : (i : ℕ) → i < 1 → get_or (low ∷ []) i 0 ≤ get_or (high ∷ []) i 0
    at zero l = m
    at (suc i) l = absurd (omega arith)
lows-more [] (w ∷ ws) low high q m f i l = absurd (omega arith)
lows-more (x ∷ ls) [] low high q m f i l = absurd (omega arith)
lows-more (x ∷ ls) (w ∷ ws) low high q m f zero l = f 0 (omega arith)
lows-more (x ∷ ls) (w ∷ ws) low high q m f (suc i) l = lows-more ls ws low high (omega arith) m (λ j k. f (suc j) (omega arith)) i (omega arith)

-- lists that are entry by entry at most others have no larger sum
pub sum_below : (ls ws : List ℕ) → length ls ≡ length ws → ((i : ℕ) → i < length ws → get_or ls i 0 ≤ get_or ws i 0) → sum_over ls (λ w. w) ≤ sum_over ws (λ w. w)
unfolding sum_over
sum_below [] [] q f = omega arith
sum_below [] (w ∷ ws) q f = absurd (omega arith)
sum_below (x ∷ ls) [] q f = absurd (omega arith)
sum_below (x ∷ ls) (w ∷ ws) q f = omega (arith, f 0 (omega arith), sum_below ls ws (omega arith) (λ j k. f (suc j) (omega arith)))

module _ (limits : Limits) where
  -- ---- what is read so far
  pub record Read (k : Book) : Type 0 where
    pub loads : Loaded limits k.graph
    pub even : Even k
    pub sized : Sized limits k

  read_first : (estimated : Bool) (n m k s : ℕ) → 1 ≤ n → n ≤ limits.vertex_limit → m ≤ limits.net_limit → 2 ≤ k → k ≤ limits.block_limit → s ≤ 1000 → Read (blank estimated n m k s)
  unfolding sum_over
  read_first estimated n m k s nl nu mu kl ku su = record {
    loads = record { blocks-low = kl; blocks-high = ku; draft-in = tt; as_long = refl; fixed-long = refl; fixed_in = tt; lows-long = refl; lows-in = λ i l. absurd (omega arith); total-is = refl; nets-in = tt; nets-distinct = tt; nets-some = tt; weights-in = tt; net-weights = tt; imbalance-high = su };
    even = λ w. absurd (omega (arith, eqb-true 0 n (and_left _ _ w)));
    sized = record { lots-low = nl; lots-high = nu; buyers-high = mu; lots-le = omega arith; nets-le = omega arith; marks-are = refl; marks-high = omega arith; calls-high = omega arith };
  }

  read-vertex : (k : Book) (low high b : ℕ) (fixed : Bool) → Read k → vertices k.graph < k.lots → 1 ≤ low → low ≤ high → high ≤ 65535 → 1 ≤ b → b ≤ k.graph.blocks
      → Even (lotted k low high b fixed) → Read (lotted k low high b fixed)
  unfolding with_lot
  read-vertex k low high b fixed r l wl wm wu bl bu e =
      let g = r.loads in
      let z = r.sized in
      let h = k.graph in
      let longer : length (h.weights ++ (high ∷ [])) ≡ length h.weights + 1 = length-append h.weights (high ∷ []) in
      record {
        loads = record {
          blocks-low = g.blocks-low;
          blocks-high = g.blocks-high;
          draft-in = all_more h.draft _ b g.draft-in (bl, bu);
          as_long = length-append h.draft (b ∷ []) ∙ ap (λ (n : ℕ). n + 1) g.as_long ∙ sym longer;
          fixed-long = length-append h.fixed (one fixed ∷ []) ∙ ap (λ (n : ℕ). n + 1) g.fixed-long ∙ sym longer;
          fixed_in = all_more h.fixed _ (one fixed) g.fixed_in (one-le fixed);
          lows-long = length-append h.lows (low ∷ []) ∙ ap (λ (n : ℕ). n + 1) g.lows-long ∙ sym longer;
          lows-in = lows-more h.lows h.weights low high g.lows-long wm g.lows-in;
          total-is = ap (λ (n : ℕ). n + low) g.total-is ∙ sym (sum_over-more h.lows low (λ x. x));
          nets-in = all_map h.nets _ _ (λ e. all_map e.pins _ _ (λ x r. (r.0, omega (arith, r.1, longer)))) g.nets-in;
          nets-distinct = g.nets-distinct;
          nets-some = g.nets-some;
          weights-in = all_more h.weights _ high g.weights-in (omega arith, wu);
          net-weights = g.net-weights;
          imbalance-high = g.imbalance-high;
        };
        even = e;
        sized = record { lots-low = z.lots-low; lots-high = z.lots-high; buyers-high = z.buyers-high; lots-le = omega (arith, longer); nets-le = z.nets-le; marks-are = z.marks-are; marks-high = z.marks-high; calls-high = omega arith };
      }

  read-net : (k : Book) (w : ℕ) (vs : List ℕ) (m : ℕ) → Read k → length k.graph.nets < k.buyers → 1 ≤ w → w ≤ 1000 → 1 ≤ length vs → Marks limits k.graph k.marks vs m → Even (netted k w vs m) → Read (netted k w vs m)
  unfolding with_net
  read-net k w vs m r l wl wu vl a e =
      let g = r.loads in
      let z = r.sized in
      let ns = k.graph.nets in
      let longer : length (ns ++ (record { weight = w; pins = vs } ∷ [])) ≡ length ns + 1 = length-append ns (record { weight = w; pins = vs } ∷ []) in
      record {
        loads = record {
          blocks-low = g.blocks-low;
          blocks-high = g.blocks-high;
          draft-in = g.draft-in;
          as_long = g.as_long;
          fixed-long = g.fixed-long;
          fixed_in = g.fixed_in;
          lows-long = g.lows-long;
          lows-in = g.lows-in;
          total-is = g.total-is;
          nets-in = all_more ns _ _ g.nets-in a.in-range;
          nets-distinct = all_more ns _ _ g.nets-distinct a.distinct;
          nets-some = all_more ns _ _ g.nets-some vl;
          weights-in = g.weights-in;
          net-weights = all_more ns _ _ g.net-weights (wl, wu);
          imbalance-high = g.imbalance-high;
        };
        even = e;
        sized = record {
          lots-low = z.lots-low;
          lots-high = z.lots-high;
          buyers-high = z.buyers-high;
          lots-le = z.lots-le;
          nets-le = omega (arith, longer);
          marks-are = sum_over-more ns (record { weight = w; pins = vs }) (λ n. length n.pins) ∙ ap (λ (n : ℕ). n + length vs) z.marks-are ∙ sym a.counted;
          marks-high = a.few z.marks-high;
          calls-high = omega arith;
        };
      }

  read-call : (k : Book) (c : Request) → Read k → k.lots ≤ vertices k.graph → k.buyers ≤ length k.graph.nets → full k ≡ false → Read (called k c)
  read-call k c r l m f =
      let z = r.sized in
      let complete : whole k ≡ true = ap₂ (λ (a b : Bool). a && b) (eq-eqb (vertices k.graph) k.lots (omega (arith, z.lots-le))) (eq-eqb (length k.graph.nets) k.buyers (omega (arith, z.nets-le))) in
      let room : length k.calls < 512 = leb-false 512 (length k.calls) (ap (λ (b : Bool). b && leb 512 (length k.calls)) (sym complete) ∙ f) in
      record {
        loads = r.loads;
        even = r.even;
        sized = record {
          lots-low = z.lots-low;
          lots-high = z.lots-high;
          buyers-high = z.buyers-high;
          lots-le = z.lots-le;
          nets-le = z.nets-le;
          marks-are = z.marks-are;
          marks-high = z.marks-high;
          calls-high = omega (arith, length-append k.calls (c ∷ []));
        };
      }

  -- every line keeps it
  pub read_keeps : Kept limits Read
  read_keeps = record { first = read_first; vertex = read-vertex; net = read-net; asking = read-call }

  pub read_all : (file : List ℕ) (k : Book) → parse limits file ≡ reading k → Read k × (whole k ≡ true)
  read_all file k q = accepted-keeps limits Read read_keeps file k q

  pub parsed : (file : List ℕ) (k : Book) → parse limits file ≡ reading k → Loaded limits k.graph
  parsed file k q = (read_all file k q).0.loads

  pub parsed-size : (file : List ℕ) (k : Book) → parse limits file ≡ reading k → Sized limits k
  parsed-size file k q = (read_all file k q).0.sized

  -- as many vertices and nets as the first line announces
  pub parsed-whole : (file : List ℕ) (k : Book) → parse limits file ≡ reading k → (vertices k.graph ≡ k.lots) × (length k.graph.nets ≡ k.buyers)
  parsed-whole file k q =
      let w = (read_all file k q).1 in
      (eqb-true (vertices k.graph) k.lots (and_left _ _ w), eqb-true (length k.graph.nets) k.buyers (and_right (eqb (vertices k.graph) k.lots) _ w))

  pub placed-start : (h : Hypergraph) → Loaded limits h → Placed h [] (drafted h)
  placed-start h g x l u = record {
    board = λ o. all-get h.draft _ 0 g.draft-in (x - 1) (omega (arith, g.as_long));
    off = λ o. absurd (true≢false (sym (board-is h [] x (above-none x) (loaded-sale g x l u)) ∙ o));
  }

  pub legal-start : (h : Hypergraph) → Loaded limits h → Legal h (fresh h)
  legal-start h g = legal-fresh h (placed-start h g)

  -- ---- no block of the draft is above its capacity
  pub none_over : (n : ℕ) (f : ℕ → Bool) → fold_to n (λ b s. b || f s) false ≡ false → (i : ℕ) → 1 ≤ i → i ≤ n → f i ≡ false
  unfolding fold_to
  none_over zero f q i l u = absurd (omega arith)
  none_over (suc n) f q i l u = go (or-none (fold_to n (λ b s. b || f s) false) (f (suc n)) q) (λ r k. none_over n f r i l k) (ℕ_discrete i (suc n))
    where
      go : (fold_to n (λ b s. b || f s) false ≡ false) × (f (suc n) ≡ false) → (fold_to n (λ b s. b || f s) false ≡ false → i ≤ n → f i ≡ false) → Dec (i ≡ suc n) → f i ≡ false
      go both ih (yes e) = ap f e ∙ both.1
      go both ih (no m) = ih both.0 (omega arith)

  pub capped-draft : (h : Hypergraph) → overfull h ≡ false → Capped h (capacities h) [] (drafted h)
  unfolding overfull
  capped-draft h q b l u = ltb-false (capacity h) (block_weight h [] (drafted h) b) (none_over h.blocks (λ s. ltb (capacity h) (block_weight h [] (drafted h) s)) q b l u)

  -- the same of a catalogue whose lines begin anywhere in a file
  pub part-read : (n : ℕ) (ls : List (List ℕ)) (k : Book) (n' : ℕ) (rest : List (List ℕ)) → through limits n unread ls ≡ ended k n' rest → Read k × (whole k ≡ true)
  part-read n ls k n' rest q = part-keeps limits Read read_keeps n ls k n' rest q

  pub held-part : (n : ℕ) (ls : List (List ℕ)) (k : Book) (n' : ℕ) (rest : List (List ℕ)) → through limits n unread ls ≡ ended k n' rest → Held k.graph (capacities k.graph) (fresh k.graph)
  unfolding fresh
  held-part n ls k n' rest q =
      let r = part-read n ls k n' rest q in
      record { legal = legal-start k.graph r.0.loads; capped = capped-draft k.graph (r.0.even r.1); back = tt }

  pub held_start : (file : List ℕ) (k : Book) → parse limits file ≡ reading k → Held k.graph (capacities k.graph) (fresh k.graph)
  unfolding fresh
  held_start file k q =
      let r = read_all file k q in
      record {
        legal = legal-start k.graph r.0.loads;
        capped = capped-draft k.graph (r.0.even r.1);
        back = tt;
      }
