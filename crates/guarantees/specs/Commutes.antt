-- Moves of different vertices commute: in either order they leave the same partition, and so the same pin counts, block weights,
-- gains and metric; on the machine, two accepted calls M do. Rests on laws' place-swap. Assumes nothing.
use Rattle.std.specs.Prelude.{ℕ, ◌≡◌, List}
use Rattle.std.proofs.Common.{ap}
use Rattle.laws.specs.Place.{place, place-swap}
use Rattle.model.specs.Catalogue.{Net, Hypergraph}
use Rattle.model.specs.Measure.{Contraction, pin_count, block_weight, connectivity, metric, gain}
use Rattle.model.specs.Machine.{State, does_m}

-- two partitions are one, and what is worked out from them is
pub record Alike (h : Hypergraph) (cs : List Contraction) (p q : ℕ → ℕ) : Type 0 where
  pub blocks : p ≡ q
  pub counts : (e : Net) (b : ℕ) → pin_count h cs p e b ≡ pin_count h cs q e b
  pub connectivities : (e : Net) → connectivity h cs p e ≡ connectivity h cs q e
  pub weights : (b : ℕ) → block_weight h cs p b ≡ block_weight h cs q b
  pub gains : (x b : ℕ) → gain h cs p x b ≡ gain h cs q x b
  pub metrics : metric h cs p ≡ metric h cs q

alike : (h : Hypergraph) (cs : List Contraction) (p q : ℕ → ℕ) → p ≡ q → Alike h cs p q
alike h cs p q e = record {
  blocks = e;
  counts = λ n b. ap (λ (r : ℕ → ℕ). pin_count h cs r n b) e;
  connectivities = λ n. ap (λ (r : ℕ → ℕ). connectivity h cs r n) e;
  weights = λ b. ap (λ (r : ℕ → ℕ). block_weight h cs r b) e;
  gains = λ x b. ap (λ (r : ℕ → ℕ). gain h cs r x b) e;
  metrics = ap (metric h cs) e;
}

pub moves-commute : (h : Hypergraph) (cs : List Contraction) (p : ℕ → ℕ) (v t u b : ℕ) → (u ≡ v → ⊥) → Alike h cs (place (place p v t) u b) (place (place p u b) v t)
moves-commute h cs p v t u b ne = alike h cs _ _ (place-swap p v t u b ne)

-- what two accepted calls M leave, in either order
pub calls-commute : (h : Hypergraph) (s : State) (v t u b : ℕ) → (u ≡ v → ⊥)
    → Alike h s.stack (does_m h (does_m h s v t).state u b).state.block (does_m h (does_m h s u b).state v t).state.block
unfolding does_m
calls-commute h s v t u b ne = moves-commute h s.stack s.block v t u b ne
