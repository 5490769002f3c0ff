-- Weights added up: all of them, those of a block, the capacity rounded, and the test for a block above it. Rests on guarantees' laws of a catalogue with no contraction.
use Prim.Native.Nat.{ℕ, suc, ◌+◌, ◌-◌, ◌*◌, ◌/◌, ◌%◌, ◌≤◌, ◌<◌}
use mathlib.Core.Path.{◌≡◌, refl, ap, sym, ◌∙◌}
use mathlib.Core.Bool.{Bool, true, false, ◌||◌, cond}
use mathlib.Core.List.{List, []}
use native.Mathlib.Omega.{arith}
use native.Mathlib.Numerals.{add-one}
use borrow.Author.Tests.{le-ltb, lt-ltb, eq-eqb, ne_eqb}
use lib.Dec.{eqb, ltb}
use lib.ListN.{length, take}
use lib.Seq.{length-take-le, get_or-take}
use Rattle.laws.specs.Sum.{sum, sum_to, fold_to, fold_to-none, fold_to-more, fold_to-found, sum-sum_to}
use Rattle.model.specs.Catalogue.{Net, Hypergraph, vertices, loaded, drafted, average_weight, nearest, capacity}
use Rattle.model.specs.Measure.{block_weight}
use Rattle.model.specs.Grammar.{overfull}
use Rattle.guarantees.specs.Splits.{block_weight-none}
use Rattle.reader.specs.Seen.{lots_graph}
use Rattle.reader.specs.Buyers.{with_nets}
use Rattle.block_weights.specs.Term.{block_term}
use Rattle.reader.specs.Whole.{average_of}

-- the cases of rounding
module _ (x : ℕ) where
  pub nearest-down : x % 1000 < 500 → x / 1000 ≡ nearest x
  unfolding nearest
  nearest-down l = rw (lt-ltb (x % 1000) 500 l)

  pub nearest-half : x % 1000 ≡ 500 → x / 1000 + x / 1000 % 2 ≡ nearest x
  unfolding nearest
  nearest-half e = rw (le-ltb (x % 1000) 500 (omega arith), eq-eqb (x % 1000) 500 e)

  pub nearest-up : 500 ≤ x % 1000 → (x % 1000 ≡ 500 → ⊥) → x / 1000 + 1 ≡ nearest x
  unfolding nearest
  nearest-up l n = rw (le-ltb (x % 1000) 500 l, ne_eqb (x % 1000) 500 n)

-- the catalogue that the tables show, whichever lots are kept and whoever its buyers are
module _ (l k t : ℕ) (w d fx lo : List ℕ) (ns : List Net) where
  abbrev graph : Hypergraph
  graph = with_nets (lots_graph k t l w d fx lo) ns

  pub average-is : average_weight graph ≡ average_of k (take l lo)
  unfolding average_weight
  average-is = refl

  pub capacity-is : capacity graph ≡ nearest ((1000 + t) * average_of k (take l lo))
  unfolding capacity
  capacity-is = ap (λ (a : ℕ). nearest ((1000 + t) * a)) average-is

  -- the test of a session, and of the first n
  abbrev over : ℕ → Bool
  over s = ltb (capacity graph) (block_weight graph [] (drafted graph) s)

  abbrev pub up_to : ℕ → Bool
  up_to n = fold_to n (λ b s. b || over s) false

  overfull-is : overfull graph ≡ up_to k
  unfolding overfull
  overfull-is = refl

  pub over_none : up_to 0 ≡ false
  over_none = fold_to-none over

  pub over-all : (b : ℕ) → b ≡ k → up_to b ≡ false → false ≡ overfull graph
  over-all b e z = sym (overfull-is ∙ ap up_to (sym e) ∙ z)

  module _ (l_le : l ≤ length w) where
    size : vertices graph ≡ l
    size = length-take-le l w l_le

    block-is : (b : ℕ) → block_weight graph [] (drafted graph) b ≡ sum l (block_term b w d)
    block-is b =
        block_weight-none graph (drafted graph) b
        ∙ ap (λ (n : ℕ). sum_to n (λ u. cond (eqb (drafted graph u) b) (loaded graph u) 0)) size
        ∙ sym (sum-sum_to l (block_term b w d) (λ u. cond (eqb (drafted graph u) b) (loaded graph u) 0) (λ i u.
        let z : suc i - 1 ≡ i = omega arith in
        rw (z, get_or-take l d i 0 u, get_or-take l w i 0 u)))

    module _ (b a c r : ℕ) (ea : a ≡ average_of k (take l lo)) (ec : c ≡ nearest ((1000 + t) * a)) (er : r ≡ sum l (block_term (b + 1) w d)) where
      over-here : over (suc b) ≡ ltb c r
      over-here = ap over (sym (add-one b)) ∙ rw (capacity-is, block-is (b + 1), ← ea, ← ec, ← er)

      pub over-next : up_to b ≡ false → r ≤ c → up_to (b + 1) ≡ false
      over-next e le = ap up_to (add-one b) ∙ fold_to-more b over e (over-here ∙ le-ltb c r le)

      pub over-found : b < k → c < r → true ≡ overfull graph
      over-found u lt = sym (overfull-is ∙ fold_to-found k (suc b) over (omega arith) (omega arith) (over-here ∙ lt-ltb c r lt))
