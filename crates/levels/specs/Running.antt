-- The running tables, the machine's state that they follow, and what an operation leaves alone. Rests on World and on pins' Board.
use Rattle.std.specs.Prelude.{ℕ, ◌+◌, ◌<◌, ◌≤◌, ◌≡◌, List, length, get_or, ℤ}
use Rattle.model.specs.Catalogue.{Net, Hypergraph, vertices}
use Rattle.model.specs.Measure.{Contraction}
use Rattle.model.specs.Memory.{no_net}
use Rattle.guarantees.specs.Climbs.{Sound}
use Rattle.connectivity.specs.Matrix.{Kept}
use Rattle.pins.specs.Stack.{loaded_pin}
use Rattle.pins.specs.Board.{Board, Room, KeptLists}
use Rattle.levels.specs.World.{World}

-- the running tables, each as the list of its entries: pin counts, connectivity sets and gains; pin lists, their sizes and the bitset; the
-- vertices' blocks; the nets' weights and first places, which never change
pub record Running : Type 0 where
  pub counts : List ℕ
  pub visited : List ℕ
  pub gains : List ℤ
  pub pins : List ℕ
  pub sizes : List ℕ
  pub bits : List ℕ
  pub blocks : List ℕ
  pub weights : List ℕ
  pub firsts : List ℕ

abbrev pub running : List ℕ → List ℕ → List ℤ → List ℕ → List ℕ → List ℕ → List ℕ → List ℕ → List ℕ → Running
running counts visited gains pins sizes bits blocks weights firsts = record {
  counts = counts;
  visited = visited;
  gains = gains;
  pins = pins;
  sizes = sizes;
  bits = bits;
  blocks = blocks;
  weights = weights;
  firsts = firsts;
}

-- the net e, from 0
abbrev pub net_at : Hypergraph → ℕ → Net
net_at h e = get_or h.nets e no_net

-- pin lists, blocks and nets' weights are those of the machine's catalogue, stack and partition; `loaded` has the loaded sizes
pub record Says (h : Hypergraph) (cs : List Contraction) (block : ℕ → ℕ) (weights pins blocks firsts sizes loaded bits : List ℕ) (n m k : ℕ) : Type 0 where
  pub sound : Sound cs
  pub board : Board (λ e. loaded_pin (net_at h e)) (λ _. cs) pins firsts sizes loaded bits n m
  pub all-vertices : n ≡ vertices h
  pub all-nets : m ≡ length h.nets
  pub all_blocks : k ≡ h.blocks
  pub weighs : (e : ℕ) → e < m → get_or weights e 0 ≡ (net_at h e).weight
  pub sits : (y : ℕ) → y < n → get_or blocks y 0 ≡ block (y + 1)

-- the running tables follow the machine: they say its state, and counts, connectivity sets and gains stand for the pin lists and blocks
pub record Follows (h : Hypergraph) (cs : List Contraction) (block : ℕ → ℕ) (loaded : List ℕ) (T : Running) (n m k : ℕ) : Type 0 where
  pub says : Says h cs block T.weights T.pins T.blocks T.firsts T.sizes loaded T.bits n m k
  pub world : World T.weights T.counts T.visited T.pins T.blocks T.firsts T.sizes T.gains n m k
  pub room : Room T.pins T.firsts T.sizes loaded T.bits n m

-- no entry that is not in use has changed
pub record Untouched (loaded : List ℕ) (n m k : ℕ) (T T' : Running) : Type 0 where
  pub tables : Kept n m k T.counts T'.counts T.visited T'.visited T.gains T'.gains
  pub lists : KeptLists T.firsts loaded m T.pins T'.pins T.sizes T'.sizes
  pub blocks-len : length T'.blocks ≡ length T.blocks
  pub blocks-past : (y : ℕ) → n ≤ y → get_or T'.blocks y 0 ≡ get_or T.blocks y 0
