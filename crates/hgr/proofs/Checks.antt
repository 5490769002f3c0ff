-- What is carried over, by a plan of a well-written input: edges, weights, listing. Rests on Check of specs.
use Prim.Native.Nat.{ℕ, zero, suc, ◌≤◌}
use native.Mathlib.Omega.{arith}
use mathlib.Core.Path.{◌≡◌, refl, ap, ap₂, sym, ◌∙◌, subst}
use mathlib.Core.Bool.{Bool, true, false, ◌&&◌, cond}
use mathlib.Core.List.{List, ◌∷◌, map}
use lib.Dec.{leb}
use lib.ListN.{length, take, replicate, length-replicate, length-map, length-drop}
use Rattle.laws.specs.Fold.{all}
use Rattle.model.specs.Grammar.{is_number, value, within}
use Rattle.guarantees.specs.Reading.{within-range}
use Rattle.model.specs.Hmetis.{is_edge, edge_of, edges_weighted, vertices_weighted, Hmetis, body, code, edge_lines, said}
use Rattle.model.specs.Convert.{carried}
use Rattle.conversion.specs.Well.{edges-count}
use Rattle.conversion.specs.Carries.{carried-parts}
use Rattle.passes.specs.Rows.{rows_at, well_rows, RowsPassed}
use Rattle.passes.specs.Read.{edges_at}
use Rattle.passes.proofs.Rows.{all-well, rows_start, rows-done}
use Rattle.hgr.specs.Number.{code_of}
use Rattle.hgr.specs.Form.{Sound}
use Rattle.hgr.specs.Check.{in_range, weights_from, Weighed, Within}
use Rattle.hgr.specs.declared.Plan.{Plan}

-- ---- ranges
pub range-is : (k t v m : ℕ) (a b c d : Bool) → within 2 16 k ≡ a → within 0 1000 t ≡ b → within 1 1024 v ≡ c → leb m 1024 ≡ d → in_range k t v m ≡ (a && b && c && d)
unfolding in_range
range-is k t v m a b c d p q r u = rw (← p, ← q, ← r, ← u)

-- ---- weights
take_same : (n m x : ℕ) → n ≤ m → take n (replicate m x) ≡ replicate n x
take_same zero m x l = refl
take_same (suc n) zero x l = absurd (omega arith)
take_same (suc n) (suc m) x l = ap (λ (t : List ℕ). x ∷ t) (take_same n m x (omega arith))

ones_in : (n : ℕ) → all (replicate n 1) (within 1 65535) ≡ true
unfolding all
ones_in zero = refl
ones_in (suc n) = ones_in n

pub ones-long : (table : List ℕ) → table ≡ replicate 1024 1 → length table ≡ 1024
ones-long table q = ap length q ∙ length-replicate {A = ℕ} 1024 1

module _ (c : ℕ) (s : List ℕ) (start n : ℕ) where
  pub weigh-ones : (table : List ℕ) → vertices_weighted c ≡ false → 1 ≤ start → start ≤ length s → table ≡ replicate 1024 1 → Weighed c s start n start true table
  weigh-ones table q low high ones =
      let e : weights_from c s start n ≡ replicate n 1 = ap (λ (b : Bool). cond b (map value (take n (rows_at s start))) (replicate n 1)) q in
      record {
        len = ones-long table ones;
        passed = subst (λ (b : Bool). RowsPassed is_number s start (cond b n 0) start) (sym q) (rows-done is_number s start 0 start 0 (rows_start is_number s start 0 low high) (omega arith));
        says = sym (ap (λ (l : List ℕ). all l (within 1 65535)) e ∙ ones_in n);
        are = λ few. ap (take n) ones ∙ take_same n 1024 1 few ∙ sym e;
      }

-- ---- the plan of a well-written input
module _ (s : List ℕ) (p : Plan) (sound : Sound s p) where
  abbrev f : Hmetis
  f = said s

  pub blocks-said : p.blocks ≡ f.blocks
  unfolding said
  blocks-said = sound.blocks_is

  imbalance-said : p.imbalance ≡ f.imbalance
  unfolding said
  imbalance-said = sound.imbalance-is

  pub vertices-said : p.vertices ≡ f.vertices
  unfolding said
  vertices-said = sound.vertices-is

  pub edges-long : length f.edges ≡ p.edges
  unfolding said
  edges-long = length-map (edge_lines s) (edge_of (edges_weighted (code s))) ∙ edges-count s sound.well ∙ sym sound.edges-is

  module _ (weighted : Bool) (we : weighted ≡ edges_weighted (code_of p.code)) where
    weighted-is : weighted ≡ edges_weighted (code s)
    weighted-is = we ∙ ap edges_weighted sound.code_is

    lines_are : take p.edges (rows_at s p.first) ≡ edge_lines s
    unfolding edge_lines
    lines_are = ap₂ take sound.edges-is sound.first-is

    pub edges-said : edges_at weighted s p.first p.edges ≡ f.edges
    unfolding said
    edges-said = ap₂ (λ (w : Bool) (ls : List (List ℕ)). map (edge_of w) ls) weighted-is lines_are

    pub edges-well : well_rows (is_edge weighted) p.edges (rows_at s p.first) ≡ true
    edges-well = all-well (is_edge weighted) p.edges (rows_at s p.first) (omega (arith, sound.edges-is, sound.well.count, ap length sound.first-is, length-drop 1 (body s).graph)) (ap₂ (λ (w : Bool) (ls : List (List ℕ)). all ls (is_edge w)) weighted-is lines_are ∙ sound.well.edges)

  -- ---- ranges of what is carried over
  pub carried-within : carried f ≡ true → Within p
  carried-within e =
      let c = carried-parts f e in
      let k = within-range 2 16 f.blocks c.blocks in
      let t = within-range 0 1000 f.imbalance c.imbalance in
      let v = within-range 1 1024 f.vertices c.vertices in
      record { blocks-low = omega (arith, k.0, blocks-said); blocks-high = omega (arith, k.1, blocks-said); imbalance-high = omega (arith, t.1, imbalance-said); vertices-high = omega (arith, v.1, vertices-said) }
