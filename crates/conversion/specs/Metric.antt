-- The total of the catalogue is the connectivity metric of the input's partition. Rests on Carries and on guarantees' Clumps. Assumes nothing.
use Rattle.std.specs.Prelude.{ℕ, zero, suc, ◌+◌, ◌-◌, ◌*◌, ◌≤◌, ◌<◌, ◌≡◌, refl, Bool, ◌||◌, length, get_or}
use Rattle.std.proofs.Common.{arith, ap₂, ◌∙◌}
use Rattle.std.proofs.Math.Path.{ap}
use mathlib.Core.List.{List, [], ◌∷◌, map}
use Rattle.std.proofs.Math.Dec.{eqb}
use Rattle.laws.specs.Choice.{one}
use Rattle.laws.specs.Sum.{sum_to-ext}
use Rattle.laws.specs.Fold.{sum_over, sum_over-all, any, All, all_map}
use Rattle.model.specs.Catalogue.{Net, Hypergraph, vertices, drafted}
use Rattle.model.specs.Measure.{climb, representative, connectivity, metric}
use Rattle.guarantees.specs.Clumps.{visited-any}
use Rattle.model.specs.Hmetis.{Edge, Hmetis, block_of, spans, cost}
use Rattle.model.specs.Convert.{net_of, catalogue_of}

any_same : (l : List ℕ) (P : ℕ → Type 0) (p q : ℕ → Bool) → All l P → ((x : ℕ) → P x → p x ≡ q x) → any l p ≡ any l q
unfolding any
any_same [] P p q a e = refl
any_same (x ∷ l) P p q a e = ap₂ (λ (b c : Bool). b || c) (e x a.0) (any_same l P p q a.1 e)

one_more : (l : List ℕ) (n : ℕ) → n < length l → get_or (map suc l) n 0 ≡ suc (get_or l n 0)
one_more [] n h = absurd (omega arith)
one_more (x ∷ l) zero h = refl
one_more (x ∷ l) (suc n) h = one_more l n (omega arith)

sum-map : (es : List Edge) (g : Net → ℕ) → sum_over (map net_of es) g ≡ sum_over es (λ e. g (net_of e))
unfolding sum_over
sum-map [] g = refl
sum-map (e ∷ es) g = ap (λ (n : ℕ). g (net_of e) + n) (sum-map es g)

module _ (f : Hmetis) (vertices-is : vertices (catalogue_of f) ≡ f.vertices) (long : length f.listing ≡ f.vertices) where
  abbrev h : Hypergraph
  h = catalogue_of f

  abbrev In : ℕ → Type 0
  In x = (1 ≤ x) × (x ≤ f.vertices)

  drafted-is : (x : ℕ) → In x → drafted h x ≡ block_of f x
  unfolding catalogue_of
  drafted-is x r = one_more f.listing (x - 1) (omega (arith, r.0, r.1))

  spans-is : (e : Edge) → All e.pins In → connectivity h [] (drafted h) (net_of e) ≡ spans f e
  unfolding connectivity spans representative climb catalogue_of
  spans-is e a =
      let b : All e.pins (λ x. (1 ≤ x) × (x ≤ vertices h)) = all_map e.pins _ _ (λ x r. (r.0, omega (arith, r.1, vertices-is))) a in
      sum_to-ext f.blocks _ _ (λ k _ _. ap one (visited-any h [] (drafted h) (net_of e) b k ∙ any_same e.pins In _ _ a (λ x r. ap (λ (y : ℕ). eqb y k) (drafted-is x r))))

  pub metric-is : All f.edges (λ e. All e.pins In) → metric h [] (drafted h) ≡ cost f
  unfolding metric cost catalogue_of
  metric-is a =
      sum-map f.edges (λ e. e.weight * (connectivity h [] (drafted h) e - 1))
      ∙ sum_over-all f.edges (λ e. All e.pins In) _ _ a (λ e r. ap (λ (n : ℕ). e.weight * (n - 1)) (spans-is e r))
