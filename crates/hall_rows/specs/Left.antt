-- What the hall's entry left for a file, in memory in which the lots above and the buyers' first places of every set held 65,535. Rests on model's
-- HallDemand. Assumes nothing.
use Rattle.std.specs.Prelude.{ℕ, suc, ◌<◌, ◌≡◌, true, List, [], length, get_or}
use Rattle.model.specs.Memory.{Tables}
use Rattle.model.specs.HallText.{parse_hall}
use Rattle.model.specs.HallDemand.{HallMemory, long_hall, HallWorked}

-- the set of a catalogue, as six arrays of six tables
pub record Arrays (t : Tables) (c : ℕ) (blocks aboves pins firsts sizes visited : List (List ℕ)) : Type 0 where
  pub blocks-are : t.blocks ≡ get_or blocks c []
  pub aboves-are : t.aboves ≡ get_or aboves c []
  pub pins-are : t.loaded_pins ≡ get_or pins c []
  pub firsts-are : t.firsts ≡ get_or firsts c []
  pub sizes-are : t.loaded_sizes ≡ get_or sizes c []
  pub visited-are : t.visited ≡ get_or visited c []

-- its answer, its report and those of its tables that sheets are read from
pub record LeftByHall (file : List ℕ) (code written : ℕ) (report : List ℕ) (blocks aboves pins firsts sizes visited : List (List ℕ)) : Type 0 where
  pub old : HallMemory
  pub new : HallMemory
  pub long : long_hall old ≡ true
  pub aboves-blank : (c : ℕ) → c < 4 → (y : ℕ) → y < length (old.sets (suc c)).aboves → get_or (old.sets (suc c)).aboves y 0 ≡ 65535
  pub firsts-blank : (c : ℕ) → c < 4 → (y : ℕ) → y < length (old.sets (suc c)).firsts → get_or (old.sets (suc c)).firsts y 0 ≡ 65535
  pub worked : HallWorked (parse_hall file) old new code written
  pub report-is : new.output ≡ report
  pub four : length aboves ≡ 4
  pub arrays : (c : ℕ) → c < 4 → Arrays (new.sets (suc c)) c blocks aboves pins firsts sizes visited
