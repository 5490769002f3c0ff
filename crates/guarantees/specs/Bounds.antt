-- How large the numbers of a loaded catalogue get: a gain's two halves and its size are at most 1,024,000 and the metric at most 15,360,000, which
-- fit 32 bits (freed-le, drawn-le, gain-le, metric-le), and a rating is at most 5,160,960,000, which fits 64 (rating-le). Rests on Loads.
-- Assumes nothing.
use Rattle.std.specs.Prelude.{ℕ, ◌-◌, ◌*◌, ◌/◌, ◌≤◌, Bool, ◌&&◌, List, ◌-ℤ◌, length}
use Rattle.std.proofs.Math.Nat.{mul-le-mul_left}
use Rattle.std.proofs.Common.{div-le_self}
use native.Mathlib.Omega.{arith}
use Rattle.std.proofs.Math.Bool.{true, false, cond}
use Rattle.std.proofs.Math.Dec.{eqb, ltb}
use Rattle.std.proofs.Math.IntN.{pos, nat_abs}
use Rattle.laws.specs.Choice.{cond-le}
use Rattle.laws.specs.Integer.{nat_abs-diff}
use Rattle.laws.specs.Fold.{sum_over-le}
use Rattle.laws.specs.Sum.{count_to-le}
use Rattle.model.specs.Catalogue.{Limits, Net, Hypergraph}
use Rattle.model.specs.Measure.{Contraction, pin, size, pin_count, connectivity, metric, freed, drawn, gain}
use Rattle.model.specs.Search.{rating}
use Rattle.guarantees.specs.Loads.{WellFormed}

module _ (limits : Limits) (narrow : limits.block_limit ≤ 16) (h : Hypergraph) (g : WellFormed limits h) (few : length h.nets ≤ 1024) (cs : List Contraction) (p : ℕ → ℕ) where
  pub freed-le : (v : ℕ) → freed h cs p v ≤ 1024000
  unfolding freed
  freed-le v = omega (arith, sum_over-le h.nets _ (λ e. cond (pin cs e v && eqb (pin_count h cs p e (p v)) 1) e.weight 0) 1000 g.net-weights (λ e r. cond-le (pin cs e v && eqb (pin_count h cs p e (p v)) 1) e.weight 1000 r.1))

  pub drawn-le : (v t : ℕ) → drawn h cs p v t ≤ 1024000
  unfolding drawn
  drawn-le v t = omega (arith, sum_over-le h.nets _ (λ e. cond (pin cs e v && eqb (pin_count h cs p e t) 0) e.weight 0) 1000 g.net-weights (λ e r. cond-le (pin cs e v && eqb (pin_count h cs p e t) 0) e.weight 1000 r.1))

  pub gain-le : (v t : ℕ) → nat_abs (gain h cs p v t) ≤ 1024000
  unfolding gain
  gain-le v t = go (eqb (p v) t)
    where
      go : (b : Bool) → nat_abs (cond b (pos 0) (pos (freed h cs p v) -ℤ pos (drawn h cs p v t))) ≤ 1024000
      go true = omega arith
      go false = nat_abs-diff (freed h cs p v) (drawn h cs p v t) 1024000 (freed-le v) (drawn-le v t)

  pub connectivity-le : (e : Net) → connectivity h cs p e ≤ h.blocks
  unfolding connectivity
  connectivity-le e = count_to-le h.blocks (λ b. ltb 0 (pin_count h cs p e b))

  pub metric-le : metric h cs p ≤ 15360000
  unfolding metric
  metric-le = omega (arith, sum_over-le h.nets _ (λ e. e.weight * (connectivity h cs p e - 1)) 15000 g.net-weights (λ e r. each e r.1))
    where
      each : (e : Net) → e.weight ≤ 1000 → e.weight * (connectivity h cs p e - 1) ≤ 15000
      each e l =
          let c : connectivity h cs p e - 1 ≤ 15 = omega (arith, connectivity-le e, g.blocks-high) in
          omega (arith, mul-le-mul_left e.weight c)

pub rating-le : (limits : Limits) (h : Hypergraph) → WellFormed limits h → length h.nets ≤ 1024 → (cs : List Contraction) (u v : ℕ) → rating h cs u v ≤ 5160960000
unfolding rating
rating-le limits h g few cs u v = omega (arith, sum_over-le h.nets _ (λ e. cond (pin cs e u && pin cs e v) (5040 * e.weight / (size h cs e - 1)) 0) 5040000 g.net-weights (λ e r. each e r.1))
  where
    each : (e : Net) → e.weight ≤ 1000 → cond (pin cs e u && pin cs e v) (5040 * e.weight / (size h cs e - 1)) 0 ≤ 5040000
    each e l = cond-le (pin cs e u && pin cs e v) (5040 * e.weight / (size h cs e - 1)) 5040000 (omega (arith, div-le_self (5040 * e.weight) (size h cs e - 1)))
