-- A hall's lent tables as loading, opening and the calls name them. Rests on model's HallLent and on the sets of hall_loader, hall_opening and hall_step. Assumes nothing.
use Rattle.std.specs.Prelude.{ℕ, ◌≤◌, List, [], length, get_or}
use Rattle.model.specs.Memory.{Tables}
use Rattle.model.specs.Lent.{lent}
use Rattle.hall_loader.specs.Sets.{Set as LoaderSet, Sets as LoaderSets, set_of as loader_set}
use Rattle.hall_step.specs.Sets.{Sets}
use Rattle.hall_opening.specs.Filled.{Fills, Reads}
use Rattle.model.specs.HallLent.{HallTables}

-- with the net weights and the lows, as loading leaves them
abbrev pub loaded_in : HallTables → List (List ℕ) → List (List ℕ) → LoaderSets
loaded_in T costs lows = record { weights = T.weights; blocks = T.blocks; aboves = T.aboves; fixed = T.fixed; loaded_pins = T.loaded_pins; present_pins = T.present_pins; firsts = T.firsts; loaded_sizes = T.loaded_sizes; present_sizes = T.present_sizes; costs = costs; lows = lows }

-- with the engine's own bits and loads, as opening fills them and the calls change them
abbrev pub fills_in : HallTables → List (List ℕ) → List (List ℕ) → Fills
fills_in T bits loads = record { counts = T.counts; visited = T.visited; gains = T.gains; index = T.index; bits = bits; loads = loads }

abbrev pub reads_in : HallTables → List (List ℕ) → Reads
reads_in T netweights = record { presentpins = T.present_pins; presentsizes = T.present_sizes; blocks = T.blocks; weights = T.weights; fixed = T.fixed; firsts = T.firsts; netweights = netweights }

abbrev pub sets_in : HallTables → List (List ℕ) → List (List ℕ) → Sets
sets_in T bits loads = record { counts = T.counts; visited = T.visited; gains = T.gains; index = T.index; presentpins = T.present_pins; presentsizes = T.present_sizes; bits = bits; blocks = T.blocks; weights = T.weights; aboves = T.aboves; fixed = T.fixed; loads = loads; loadedpins = T.loaded_pins; firsts = T.firsts; loadedsizes = T.loaded_sizes }

-- the set c, the first being 0, whose lists that loading writes are Y's
abbrev pub tables_with : LoaderSet → HallTables → ℕ → Tables
tables_with Y T c = lent Y.lists (get_or T.counts c []) (get_or T.gains c []) (get_or T.index c []) (get_or T.visited c [])

-- what the sets held before loading: the lists that loading writes are `old`'s, and it leaves the others as they were
abbrev pub held_in : LoaderSets → HallTables → ℕ → Tables
held_in old T c = tables_with (loader_set c old) T c

-- there are four of each
pub record Four (T : HallTables) : Type 0 where
  pub weights-four : 4 ≤ length T.weights
  pub blocks-four : 4 ≤ length T.blocks
  pub aboves-four : 4 ≤ length T.aboves
  pub fixed-four : 4 ≤ length T.fixed
  pub loaded_pins-four : 4 ≤ length T.loaded_pins
  pub present_pins-four : 4 ≤ length T.present_pins
  pub firsts-four : 4 ≤ length T.firsts
  pub loaded_sizes-four : 4 ≤ length T.loaded_sizes
  pub present_sizes-four : 4 ≤ length T.present_sizes
  pub counts-four : 4 ≤ length T.counts
  pub gains-four : 4 ≤ length T.gains
  pub index-four : 4 ≤ length T.index
  pub visited-four : 4 ≤ length T.visited
