-- What the engine left for a file in this crate's own memory. Rests on model's Memory. Assumes nothing.
use Rattle.std.specs.Prelude.{ℕ, ◌<◌, ◌≤◌, ◌≡◌, true, List, length, get_or}
use Rattle.model.specs.Catalogue.{main_limits}
use Rattle.model.specs.Grammar.{parse}
use Rattle.model.specs.Memory.{Memory, long_memory, Worked}

-- its answer, its report and those of its tables that sheets are read from. Its tables were long enough, and the lots above and the buyers' first places held
-- 65,535
pub record Left (file : List ℕ) (code written : ℕ) (report blocks aboves pins firsts sizes visited : List ℕ) : Type 0 where
  pub old : Memory
  pub new : Memory
  pub long : long_memory main_limits old ≡ true
  pub aboves-blank : (y : ℕ) → y < length old.tables.aboves → get_or old.tables.aboves y 0 ≡ 65535
  pub firsts-blank : (y : ℕ) → y < length old.tables.firsts → get_or old.tables.firsts y 0 ≡ 65535
  pub worked : Worked main_limits (parse main_limits file) old new code written
  pub report-is : new.output ≡ report
  pub blocks-are : new.tables.blocks ≡ blocks
  pub aboves-are : new.tables.aboves ≡ aboves
  pub pins-are : new.tables.loaded_pins ≡ pins
  pub firsts-are : new.tables.firsts ≡ firsts
  pub sizes-are : new.tables.loaded_sizes ≡ sizes
  pub visited-are : new.tables.visited ≡ visited

-- it left this for some file, and the lent output is long enough
pub record CanHandOver (room code written : ℕ) (report blocks aboves pins firsts sizes visited : List ℕ) : Type 0 where
  pub file : List ℕ
  pub left : Left file code written report blocks aboves pins firsts sizes visited
  pub roomy : 122880 ≤ room
