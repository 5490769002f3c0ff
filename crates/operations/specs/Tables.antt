-- The tables of a running sale as one record; Sound, what they are for a catalogue, a stack and a partition of the machine; and Keeps,
-- that entries which the catalogue has no use for are untouched. Rests on levels. Assumes nothing.
use Rattle.std.specs.Prelude.{ℕ, ◌+◌, ◌-◌, ◌<◌, ◌≤◌, ◌≡◌, List, length, get_or, ℤ}
use Rattle.laws.specs.Bit.{bit}
use Rattle.model.specs.Catalogue.{Limits, Hypergraph}
use Rattle.model.specs.Measure.{Contraction, above, block_weight, metric}
use Rattle.model.specs.Memory.{weight_entry}
use Rattle.guarantees.specs.Splits.{AllInside}
use Rattle.guarantees.specs.Ends.{Placed}
use Rattle.guarantees.specs.Ranges.{Ranges}
use Rattle.levels.specs.Running.{Running, running, Follows, Untouched}

-- Nets: counts, connectivity sets, their stretches of pins, weights. Vertices: gains, incidence bits, blocks, weights, the vertex
-- above. Blocks: loads, which are their weights. Then the numbers of vertices, nets and blocks, and the metric
pub record Tables : Type 0 where
  pub counts : List ℕ
  pub visited : List ℕ
  pub gains : List ℤ
  pub pins : List ℕ
  pub sizes : List ℕ
  pub bits : List ℕ
  pub blocks : List ℕ
  pub weights : List ℕ
  pub aboves : List ℕ
  pub loads : List ℕ
  pub net_weights : List ℕ
  pub firsts : List ℕ
  pub loaded : List ℕ
  pub n : ℕ
  pub m : ℕ
  pub k : ℕ
  pub total : ℕ

abbrev pub tables : List ℕ → List ℕ → List ℤ → List ℕ → List ℕ → List ℕ → List ℕ → List ℕ → List ℕ → List ℕ → List ℕ → List ℕ → List ℕ → ℕ → ℕ → ℕ → ℕ → Tables
tables counts visited gains pins sizes bits blocks weights aboves loads net_weights firsts loaded n m k total = record {
  counts = counts;
  visited = visited;
  gains = gains;
  pins = pins;
  sizes = sizes;
  bits = bits;
  blocks = blocks;
  weights = weights;
  aboves = aboves;
  loads = loads;
  net_weights = net_weights;
  firsts = firsts;
  loaded = loaded;
  n = n;
  m = m;
  k = k;
  total = total;
}

-- those of them that levels' operations run on
abbrev pub running_of : Tables → Running
running_of T = running T.counts T.visited T.gains T.pins T.sizes T.bits T.blocks T.net_weights T.firsts

-- a catalogue within the ranges of document 01
pub record Fit (h : Hypergraph) : Type 0 where
  pub limits : Limits
  pub narrow : limits.block_limit ≤ 16
  pub short : limits.vertex_limit ≤ 1024
  pub ranges : Ranges limits h

-- the tables are those of the catalogue h with the contractions cs, and each vertex in the block that `block` says
pub record Sound (h : Hypergraph) (cs : List Contraction) (block : ℕ → ℕ) (T : Tables) : Type 0 where
  pub fit : Fit h
  pub inside : AllInside h cs
  pub placed : Placed h cs block
  -- pin lists, incidence, net weights and blocks; counts, connectivity sets and gains
  pub follows : Follows h cs block T.loaded (running_of T) T.n T.m T.k
  pub no-more-blocks : (e j : ℕ) → e < T.m → T.k ≤ j → bit (get_or T.visited e 0) j ≡ 0
  -- the vertices' weights and the vertices above, and the blocks' weights
  pub weighs : (y : ℕ) → y < T.n → get_or T.weights y 0 ≡ weight_entry h cs block (y + 1)
  pub hangs : (y : ℕ) → y < T.n → get_or T.aboves y 0 ≡ above cs (y + 1)
  pub bears : (j : ℕ) → j < T.k → get_or T.loads j 0 ≡ block_weight h cs block (j + 1)
  pub total-is : T.total ≡ metric h cs block
  pub weights-fit : T.n ≤ length T.weights
  pub aboves-fit : T.n ≤ length T.aboves
  pub loads-fit : length T.loads ≡ 16

-- entries from n on are the same
pub record Past (n : ℕ) (l l' : List ℕ) : Type 0 where
  pub len : length l' ≡ length l
  pub past : (i : ℕ) → n ≤ i → get_or l' i 0 ≡ get_or l i 0

-- what is not in use is untouched
pub record Keeps (T T' : Tables) : Type 0 where
  pub running : Untouched T.loaded T.n T.m T.k (running_of T) (running_of T')
  pub weights : Past T.n T.weights T'.weights
  pub aboves : Past T.n T.aboves T'.aboves
