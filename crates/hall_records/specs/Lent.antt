-- A hall's lent memory as the functions of this crate name it: the lots as four tables of each set beside the other tables, and as records. Rests on model's
-- HallLent. Assumes nothing.
use Rattle.std.specs.Prelude.{ℕ, ◌-◌, List, [], get_or}
use Rattle.model.specs.Lent.{in_tables}
use Rattle.model.specs.HallDemand.{HallMemory}
use Rattle.model.specs.HallLent.{HallOthers, others_of, hall_in_records}
use Rattle.records.specs.declared.Lot.{Lot}

-- lent memory whose lots are four tables for each catalogue: model's `hall_memory` on all thirteen
abbrev pub hall_in_tables : List ℕ → List (List ℕ) → List (List ℕ) → List (List ℕ) → List (List ℕ) → HallOthers → HallMemory
hall_in_tables output weights blocks aboves fixed t = record {
  output = output;
  sets = λ c. (in_tables output (get_or weights (c - 1) []) (get_or blocks (c - 1) []) (get_or aboves (c - 1) []) (get_or fixed (c - 1) []) (others_of t c)).tables;
}

-- lent memory whose lots are records
abbrev pub lent_hall : List ℕ → List Lot → HallOthers → HallMemory
lent_hall = hall_in_records (λ (l : Lot). l.bales) (λ (l : Lot). l.session) (λ (l : Lot). l.above) (λ (l : Lot). l.kept)
