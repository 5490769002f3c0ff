-- Estimates (M-109): after every list of calls on an accepted catalogue, for every count of bales within the ranges, no block holds more of that
-- count than the cap that this count itself gives (every-count). A block's weight by a count is at most that by the highs, which is at most the cap
-- of the lows, which is at most the count's own cap. Rests on Reached and Capacity. Assumes nothing.
use Rattle.std.specs.Prelude.{ℕ, suc, ◌-◌, ◌≤◌, ◌≡◌, refl, Bool, true, false, ◌&&◌, List, get_or}
use native.Mathlib.Omega.{arith}
use Rattle.std.proofs.Common.{sym, ◌∙◌, subst}
use Rattle.std.proofs.Math.Path.{ap}
use Rattle.std.proofs.Math.Bool.{cond}
use Rattle.std.proofs.Math.Dec.{eqb}
use Rattle.laws.specs.Sum.{sum_to, sum_to-mono}
use Rattle.model.specs.Catalogue.{Limits, Hypergraph, vertices, loaded, capacity}
use Rattle.model.specs.Measure.{Contraction, is_top, representative, weight, block_weight}
use Rattle.model.specs.Machine.{State}
use Rattle.model.specs.Sale.{Request}
use Rattle.model.specs.Demand.{Accepted, WithinCapacity, reached_by}
use Rattle.model.specs.Estimate.{InRanges, counted, EveryCount}
use Rattle.guarantees.specs.Capacity.{capacity-grows}
use Rattle.guarantees.specs.Loads.{Loaded, sum_below}
use Rattle.guarantees.specs.Ranges.{Few, accepted-loaded}
use Rattle.guarantees.specs.Reached.{within-capacity, unchanged}

module _ (h : Hypergraph) (count : List ℕ) (r : InRanges h count) where
  -- the same sums with each vertex's weight by the count in place of its high, under the same tests
  part-below : (b : Bool) (x y : ℕ) → x ≤ y → cond b x 0 ≤ cond b y 0
  part-below true x y l = l
  part-below false x y l = omega arith

  weight-below : (cs : List Contraction) (u : ℕ) → weight (counted h count) cs u ≤ weight h cs u
  unfolding weight
  weight-below cs u = omega (
    arith,
    ap (λ (n : ℕ). sum_to n (λ v. cond (eqb (representative cs v) u) (get_or count (v - 1) 0) 0)) r.each-lot,
    sum_to-mono (vertices h) (λ v. cond (eqb (representative cs v) u) (get_or count (v - 1) 0) 0) (λ v. cond (eqb (representative cs v) u) (loaded h v) 0)
        (λ v l k. part-below (eqb (representative cs v) u) (get_or count (v - 1) 0) (loaded h v) (r.to_high v l k)),
  )

  block-below : (cs : List Contraction) (p : ℕ → ℕ) (b : ℕ) → block_weight (counted h count) cs p b ≤ block_weight h cs p b
  unfolding block_weight
  block-below cs p b = omega (
    arith,
    ap (λ (n : ℕ). sum_to n (λ u. cond (is_top cs u && eqb (p u) b) (weight (counted h count) cs u) 0)) r.each-lot,
    sum_to-mono (vertices h) (λ u. cond (is_top cs u && eqb (p u) b) (weight (counted h count) cs u) 0) (λ u. cond (is_top cs u && eqb (p u) b) (weight h cs u) 0)
        (λ u l k. part-below (is_top cs u && eqb (p u) b) (weight (counted h count) cs u) (weight h cs u) (weight-below cs u)),
  )

  -- place i is that of the vertex i + 1
  below : (P : ℕ → Type 0) (i : ℕ) → P (suc i - 1) → P i
  below P i p = subst P (let q : suc i - 1 ≡ i = omega arith in q) p

  -- the count has no less in all than the lows, so no lower cap
  cap-below : {limits : Limits} → Loaded limits h → capacity h ≤ capacity (counted h count)
  cap-below g = capacity-grows h (counted h count) (omega (arith, g.blocks-low)) refl refl (omega (
    arith,
    g.total-is,
    sum_below h.lows count (g.lows-long ∙ sym r.each-lot) (λ i l. below (λ v. get_or h.lows v 0 ≤ get_or count v 0) i (r.from_low (suc i) (omega arith) (omega (arith, r.each-lot)))),
  ))

-- for every count of bales within the ranges no block passes the cap that this count itself gives, where none passes that of the catalogue
pub count-within : (limits : Limits) (h : Hypergraph) → Loaded limits h → (s : State) → WithinCapacity h s → EveryCount h s
count-within limits h g s now count r b l u = omega (
  arith,
  block-below h count r s.stack s.block b,
  now b l u,
  cap-below h count r g,
)

-- so it is as long as no X or N is accepted
pub every-count : (limits : Limits) → Few limits → (h : Hypergraph) → Accepted limits h → (calls : List Request) → (reached_by limits h calls).changed ≡ false → EveryCount h (reached_by limits h calls).state
every-count limits few h a calls same =
    let s : State = (reached_by limits h calls).state in
    count-within limits h (accepted-loaded limits h a) s (subst (λ (g : Hypergraph). WithinCapacity g s) (unchanged limits h calls same) (within-capacity limits few h a calls))
