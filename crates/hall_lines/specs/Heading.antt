-- What the first line of a hall's file is read as. Rests on model's HallText. Assumes nothing.
use Rattle.std.specs.Prelude.{ℕ, ◌≤◌, ◌≡◌, List, [], Result, Ok, Err}
use Rattle.model.specs.Grammar.{Fields, Book, unread}
use Rattle.model.specs.Hall.{Led}
use Rattle.model.specs.HallText.{HallBook, HallReading, in_catalogue, hall_stopped, hall_head}
use Rattle.hall_lines.specs.declared.First.{First}
use Rattle.refusal.specs.declared.Refusal.{Refusal}
use Rattle.refusal.specs.Number.{number_of}

-- a hall's book by its parts
abbrev pub hall_book : ℕ → ℕ → List Book → List Led → HallBook
hall_book count limit books calls = record { announced = count; limit = limit; books = books; calls = calls }

abbrev pub announcing : ℕ → Result First Refusal → HallReading
announcing n (Ok a) = in_catalogue (hall_book a.catalogues a.limit [] []) unread
announcing n (Err e) = hall_stopped (number_of e) n

-- two to four catalogues, and a limit
pub record Announced (count limit : ℕ) : Type 0 where
  pub some : 2 ≤ count
  pub few : count ≤ 4
  pub limit-low : 1 ≤ limit
  pub limit-high : limit ≤ 999999999

pub record FirstRead (fs : Fields) (r : Result First Refusal) : Type 0 where
  pub says : (n : ℕ) → announcing n r ≡ hall_head n fs
  pub ranges : (a : First) → r ≡ Ok a → Announced a.catalogues a.limit
