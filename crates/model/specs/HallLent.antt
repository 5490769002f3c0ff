-- How what the hall's entry takes reads in the definitions: each table a list of arrays, one array for each catalogue, and the lots as four such tables or as
-- records, 1,024 for each catalogue, in a row. Rests on HallDemand and Lent. Assumes nothing.
use Rattle.std.specs.Prelude.{ℕ, ◌-◌, ◌*◌, List, [], map, ℤ, get_or, take, drop}
use Rattle.model.specs.Memory.{Tables}
use Rattle.model.specs.Lent.{others, in_tables}
use Rattle.model.specs.HallDemand.{HallMemory}

pub record HallTables : Type 0 where
  pub weights : List (List ℕ)
  pub blocks : List (List ℕ)
  pub aboves : List (List ℕ)
  pub fixed : List (List ℕ)
  pub loaded_pins : List (List ℕ)
  pub present_pins : List (List ℕ)
  pub firsts : List (List ℕ)
  pub loaded_sizes : List (List ℕ)
  pub present_sizes : List (List ℕ)
  pub counts : List (List ℕ)
  pub gains : List (List ℤ)
  pub index : List (List ℕ)
  pub visited : List (List ℕ)

abbrev pub hall_tables : List (List ℕ) → List (List ℕ) → List (List ℕ) → List (List ℕ) → List (List ℕ) → List (List ℕ) → List (List ℕ) → List (List ℕ) → List (List ℕ) → List (List ℕ) → List (List ℤ) → List (List ℕ) → List (List ℕ) → HallTables
hall_tables weights blocks aboves fixed loaded_pins present_pins firsts loaded_sizes present_sizes counts gains index visited = record { weights = weights; blocks = blocks; aboves = aboves; fixed = fixed; loaded_pins = loaded_pins; present_pins = present_pins; firsts = firsts; loaded_sizes = loaded_sizes; present_sizes = present_sizes; counts = counts; gains = gains; index = index; visited = visited }

-- the set at place c, the first being 0; none has no entries
abbrev pub tables_at : HallTables → ℕ → Tables
tables_at T c = record { weights = get_or T.weights c []; blocks = get_or T.blocks c []; aboves = get_or T.aboves c []; fixed = get_or T.fixed c []; loaded_pins = get_or T.loaded_pins c []; present_pins = get_or T.present_pins c []; firsts = get_or T.firsts c []; loaded_sizes = get_or T.loaded_sizes c []; present_sizes = get_or T.present_sizes c []; counts = get_or T.counts c []; gains = get_or T.gains c []; index = get_or T.index c []; visited = get_or T.visited c [] }

-- the set of the catalogue c, counted from 1
abbrev pub tables_of : HallTables → ℕ → Tables
tables_of T c = tables_at T (c - 1)

-- ---- the lots as four tables
abbrev pub hall_memory : List ℕ → HallTables → HallMemory
hall_memory output T = record { output = output; sets = tables_of T }

-- ---- the lots as records
-- the tables that no lot's record holds
pub record HallOthers : Type 0 where
  pub loaded_pins : List (List ℕ)
  pub present_pins : List (List ℕ)
  pub firsts : List (List ℕ)
  pub loaded_sizes : List (List ℕ)
  pub present_sizes : List (List ℕ)
  pub counts : List (List ℕ)
  pub gains : List (List ℤ)
  pub index : List (List ℕ)
  pub visited : List (List ℕ)

abbrev pub hall_others : List (List ℕ) → List (List ℕ) → List (List ℕ) → List (List ℕ) → List (List ℕ) → List (List ℕ) → List (List ℤ) → List (List ℕ) → List (List ℕ) → HallOthers
hall_others loaded_pins present_pins firsts loaded_sizes present_sizes counts gains index visited = record { loaded_pins = loaded_pins; present_pins = present_pins; firsts = firsts; loaded_sizes = loaded_sizes; present_sizes = present_sizes; counts = counts; gains = gains; index = index; visited = visited }

-- those of the catalogue c, counted from 1
abbrev pub others_of : HallOthers → ℕ → Tables
others_of t c = others
    (get_or t.loaded_pins (c - 1) []) (get_or t.present_pins (c - 1) []) (get_or t.firsts (c - 1) []) (get_or t.loaded_sizes (c - 1) []) (get_or t.present_sizes (c - 1) [])
    (get_or t.counts (c - 1) []) (get_or t.gains (c - 1) []) (get_or t.index (c - 1) []) (get_or t.visited (c - 1) [])

-- the records of the catalogue c: 1,024, from place 1,024 × (c − 1) on
unfoldable pub set_of_lots : {A : Type 0} → ℕ → List A → List A
set_of_lots c lots = take 1024 (drop (1024 * (c - 1)) lots)

-- each of the four fields is a table of every set
abbrev pub hall_in_records : {A : Type 0} → (bales session above kept : A → ℕ) → List ℕ → List A → HallOthers → HallMemory
hall_in_records bales session above kept output lots t = record {
  output = output;
  sets = λ c. (in_tables output (map bales (set_of_lots c lots)) (map session (set_of_lots c lots)) (map above (set_of_lots c lots)) (map kept (set_of_lots c lots)) (others_of t c)).tables;
}
