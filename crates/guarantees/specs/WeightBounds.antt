-- How heavy things get: a vertex and a block have no more than all loaded weight, contracted or not (weight-le, block_weight-le), which is at
-- most 67,107,840 (loaded-le), and so is W (total-le), ⌈W/k⌉ is at most 33,553,920 (average-le), the capacity at most 67,107,840 (capacity-le) and the product before
-- its division at most 67,107,840,000 (product_le). Rests on Ranges and laws' sums. Assumes nothing.
use Rattle.std.specs.Prelude.{ℕ, zero, suc, ◌+◌, ◌-◌, ◌*◌, ◌/◌, ◌≤◌, ◌≡◌, ◌&&◌, List}
use Rattle.std.proofs.Common.{mul-le-mul, mul-le-mul_left, div-mul-le_self, suc-mul}
use native.Mathlib.Omega.{arith}
use Rattle.std.proofs.Math.Bool.{cond}
use Rattle.std.proofs.Math.Dec.{eqb}
use Rattle.laws.specs.Choice.{cond-le}
use Rattle.laws.specs.Fold.{sum_over, sum_over-le}
use Rattle.laws.specs.Sum.{sum_to, sum_to-list, sum_to-mono, sum_to-swap, sum_to-once}
use Rattle.model.specs.Catalogue.{Limits, Hypergraph, vertices, loaded, average_weight, capacity}
use Rattle.model.specs.Measure.{Contraction, is_top, representative, weight, block_weight}
use Rattle.guarantees.specs.Capacity.{nearest-le}
use Rattle.guarantees.specs.Ranges.{Ranges}

module _ (h : Hypergraph) where
  -- all loaded weight
  unfoldable pub loaded_weight : ℕ
  loaded_weight = sum_over h.weights (λ w. w)

  -- the same, summed by number
  all-loaded : sum_to (vertices h) (loaded h) ≡ loaded_weight
  unfolding loaded_weight
  all-loaded = sum_to-list h.weights 0 (λ w. w)

  module _ (cs : List Contraction) where
    pub weight-le : (u : ℕ) → weight h cs u ≤ loaded_weight
    unfolding weight
    weight-le u = omega (arith, all-loaded, sum_to-mono (vertices h) (λ v. cond (eqb (representative cs v) u) (loaded h v) 0) (loaded h) (λ v _ _. cond-le (eqb (representative cs v) u) (loaded h v) (loaded h v) (omega arith)))

    -- each vertex is counted with its representative alone
    all-weights : sum_to (vertices h) (weight h cs) ≤ loaded_weight
    unfolding weight
    all-weights = omega (
      arith,
      all-loaded,
      sum_to-swap (vertices h) (vertices h) (λ u v. cond (eqb (representative cs v) u) (loaded h v) 0),
      sum_to-mono (vertices h) (λ v. sum_to (vertices h) (λ u. cond (eqb (representative cs v) u) (loaded h v) 0)) (loaded h) (λ v _ _. sum_to-once (vertices h) (representative cs v) (loaded h v)),
    )

    pub block_weight-le : (p : ℕ → ℕ) (b : ℕ) → block_weight h cs p b ≤ loaded_weight
    unfolding block_weight
    block_weight-le p b = omega (
      arith,
      all-weights,
      sum_to-mono (vertices h) (λ u. cond (is_top cs u && eqb (p u) b) (weight h cs u) 0) (weight h cs) (λ u _ _. cond-le (is_top cs u && eqb (p u) b) (weight h cs u) (weight h cs u) (omega arith)),
    )

-- ⌈w/k⌉ for k from 2 on: twice it is at most w + 1
half : (w k : ℕ) → 2 ≤ k → 2 * ((w + (k - 1)) / k) ≤ w + 1
half w k l = go ((w + (k - 1)) / k) (div-mul-le_self (w + (k - 1)) k)
  where
    go : (q : ℕ) → q * k ≤ w + (k - 1) → 2 * q ≤ w + 1
    go zero e = omega arith
    go (suc q) e = omega (arith, suc-mul q k, mul-le-mul_left q l)

module _ (limits : Limits) (small : limits.vertex_limit ≤ 1024) (h : Hypergraph) (r : Ranges limits h) where
  pub loaded-le : loaded_weight h ≤ 67107840
  unfolding loaded_weight
  loaded-le = omega (arith, sum_over-le h.weights _ (λ w. w) 65535 r.loaded.weights-in (λ w i. i), r.vertices-high)

  pub total-le : h.total_weight ≤ 67107840
  total-le = omega (arith, r.total-high)

  pub average-le : average_weight h ≤ 33553920
  unfolding average_weight
  average-le = omega (arith, half h.total_weight h.blocks r.loaded.blocks-low, total-le)

  pub product_le : (1000 + h.imbalance) * average_weight h ≤ 67107840000
  product_le =
      let a : 1000 + h.imbalance ≤ 2000 = omega (arith, r.loaded.imbalance-high) in
      omega (arith, mul-le-mul a average-le)

  pub capacity-le : capacity h ≤ 67107840
  unfolding capacity
  capacity-le = nearest-le ((1000 + h.imbalance) * average_weight h) 67107840 (omega (arith, product_le))
