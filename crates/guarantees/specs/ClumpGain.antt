-- What a clump's gain means: in every sale that call lines reach, the gain of a vertex on the board to another block is
-- the metric of the uncontracted hypergraph, each vertex in its representative's block, less that metric once all vertices that it
-- stands for are in the target (clump-gain); so the gain table's entries say (clump-gains). Rests on Clumps, Reached and model's Clump. Assumes nothing.
use Prim.Native.Nat.{ℕ, suc, ◌+◌, ◌-◌, ◌*◌, ◌/◌, ◌%◌, ◌≤◌}
use native.Mathlib.Omega.{arith}
use Rattle.std.specs.Prelude.{◌≡◌, Bool, length, get_or, ℤ, pos, ◌-ℤ◌}
use Rattle.std.proofs.Math.Path.{ap, ap₂}
use Rattle.std.proofs.Common.{◌∙◌, lt-ltb}
use Rattle.std.proofs.Math.Bool.{true, cond, ◌&&◌}
use Rattle.std.proofs.Math.Dec.{ltb}
use Rattle.laws.specs.Integer.{up, dn, eq-by, pos-is, sub_is}
use Rattle.laws.specs.Place.{place}
use Rattle.model.specs.Catalogue.{Limits, Hypergraph, vertices}
use Rattle.model.specs.Measure.{on_board, gain}
use Rattle.model.specs.Machine.{State}
use Rattle.model.specs.Sale.{Sale}
use Rattle.model.specs.Memory.{Tables, Holds, gain_entry}
use Rattle.model.specs.Clump.{unjoined_total, in_clumps, clump_to, ClumpGains}
use Rattle.guarantees.specs.Clumps.{gain-out}
use Rattle.guarantees.specs.Reached.{Valid}

less : (a b : ℕ) (g : ℤ) → pos b ≡ pos a -ℤ g → g ≡ pos a -ℤ pos b
less a b g q = eq-by _ _ (omega (arith, ap up q, ap dn q, sub_is (pos a) g, sub_is (pos a) (pos b), pos-is a, pos-is b))

module _ (limits : Limits) (a : Sale) (valid : Valid limits a) where
  abbrev h : Hypergraph
  h = a.graph

  abbrev s : State
  s = a.state

  pub clump-gain : (v t : ℕ) → 1 ≤ v → v ≤ vertices h → on_board h s.stack v ≡ true → 1 ≤ t → t ≤ h.blocks → (s.block v ≡ t → ⊥)
      → gain h s.stack s.block v t ≡ pos (unjoined_total h (in_clumps s.stack s.block)) -ℤ pos (unjoined_total h (clump_to s.stack s.block v t))
  unfolding place
  clump-gain v t vl vu on tl tu away =
      let k = valid.held.legal in
      let r = (k.placed v vl vu).board on in
      less _ _ _ (gain-out h s.stack k.sound k.inside s.block valid.ranges.loaded.nets-in v t vl vu r.0 r.1 tl tu away)

  -- the gain table's entries in use say so
  pub clump-gains : limits.block_limit ≤ 16 → (old t : Tables) → 16 * limits.vertex_limit ≤ length old.gains → Holds a old t → ClumpGains h s t
  unfolding gain_entry
  clump-gains narrow old t long q v b vl vu on bl bu away =
      let i : ℕ = 16 * (v - 1) + (b - 1) in
      let r = valid.ranges in
      let few : b ≤ 16 = omega (arith, r.loaded.blocks-high) in
      let row : i / 16 ≡ v - 1 = omega arith in
      let place : i % 16 ≡ b - 1 = omega arith in
      let vertex : suc (v - 1) ≡ v = omega arith in
      let block : suc (b - 1) ≡ b = omega arith in
      let used : (ltb (i / 16) (vertices h) && ltb (i % 16) h.blocks) ≡ true = ap₂ ◌&&◌ (lt-ltb (i / 16) (vertices h) (omega arith)) (lt-ltb (i % 16) h.blocks (omega arith)) in
      q.gains.entries i (omega (arith, r.vertices-high))
      ∙ ap (λ (c : Bool). cond c (gain_entry h s.stack s.block (suc (i / 16)) (suc (i % 16))) (get_or old.gains i (pos 0))) used
      ∙ ap₂ (λ (x y : ℕ). gain_entry h s.stack s.block x y) (ap suc row ∙ vertex) (ap suc place ∙ block)
      ∙ ap (λ (c : Bool). cond c (gain h s.stack s.block v b) (pos 0)) on
      ∙ clump-gain v b vl vu on bl bu away
