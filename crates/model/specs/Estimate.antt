-- Request M-109, bales not yet counted: a count of bales within the ranges of an estimate, and what holds of every such count. Rests on Demand.
-- Assumes nothing.
use Rattle.std.specs.Prelude.{ℕ, ◌-◌, ◌≤◌, ◌≡◌, List, length, get_or}
use Rattle.laws.specs.Fold.{sum_over}
use Rattle.model.specs.Catalogue.{Hypergraph, vertices, least, loaded}
use Rattle.model.specs.Machine.{State}
use Rattle.model.specs.Demand.{WithinCapacity}

-- a count of bales within the ranges: for each lot a number from its low to its high
pub record InRanges (h : Hypergraph) (count : List ℕ) : Type 0 where
  pub each-lot : length count ≡ vertices h
  pub from_low : (v : ℕ) → 1 ≤ v → v ≤ vertices h → least h v ≤ get_or count (v - 1) 0
  pub to_high : (v : ℕ) → 1 ≤ v → v ≤ vertices h → get_or count (v - 1) 0 ≤ loaded h v

-- the catalogue with its bales by that count, and with the cap that the count itself gives
abbrev pub counted : Hypergraph → List ℕ → Hypergraph
counted h count = record {
  blocks = h.blocks;
  imbalance = h.imbalance;
  total_weight = sum_over count (λ w. w);
  lows = count;
  weights = count;
  draft = h.draft;
  fixed = h.fixed;
  nets = h.nets;
}

-- for every count of bales within the ranges no session passes the cap that this count itself would give
abbrev pub EveryCount : Hypergraph → State → Type 0
EveryCount h s = (count : List ℕ) → InRanges h count → WithinCapacity (counted h count) s
