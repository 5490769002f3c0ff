-- The table of led calls, four numbers each: the catalogue's number, the letter's byte and two numbers; and what the call lines of a hall are read as.
-- Rests on model's Lent, ListEntry and HallText. Assumes nothing.
use Rattle.std.specs.Prelude.{ℕ, zero, suc, ◌+◌, ◌*◌, ◌≤◌, ◌≡◌, Bool, true, ◌&&◌, List, [], ◌++◌, map, length, get_or, Result, Ok, Err}
use Rattle.std.proofs.Math.Seq.{slice}
use Rattle.model.specs.Sale.{Request}
use Rattle.model.specs.Grammar.{Book, within, parts, call_of}
use Rattle.model.specs.Lent.{listed}
use Rattle.model.specs.ListEntry.{is_entry}
use Rattle.model.specs.Hall.{Led}
use Rattle.model.specs.HallText.{HallReading, in_calls, hall_stopped, hall_lines}
use Rattle.refusal.specs.declared.Refused.{Refused}
use Rattle.refusal.specs.Number.{number_of}
use Rattle.hall_lines.specs.Heading.{hall_book}

-- a call led by a number
abbrev pub led : ℕ → Request → Led
led d ask = record { desk = d; ask = ask }

-- the first c calls of a table
unfoldable pub led_calls_of : List ℕ → ℕ → List ℕ → List Led
led_calls_of operands zero t = []
led_calls_of operands (suc c) t = led_calls_of operands c t ++ map (led (get_or t (4 * c) 0)) (listed (call_of operands (get_or t (4 * c + 1) 0) (get_or t (4 * c + 2) 0) (get_or t (4 * c + 3) 0)))

-- each of them is led by the number of one of `count` catalogues and has its form; there are so many operands
unfoldable pub led_entries_to : ℕ → ℕ → ℕ → List ℕ → Bool
led_entries_to count operands zero t = true
led_entries_to count operands (suc c) t = led_entries_to count operands c t && (within 1 count (get_or t (4 * c) 0) && is_entry operands (get_or t (4 * c + 1) 0) (get_or t (4 * c + 2) 0) (get_or t (4 * c + 3) 0))

-- n led calls: each four numbers of the table are one, whose operands are there
pub record LedCallsKnown (count n : ℕ) (calls operands : List ℕ) : Type 0 where
  pub calls-le : n ≤ 512
  pub known : length (led_calls_of operands n calls) ≡ n
  pub entries : led_entries_to count (length operands) n calls ≡ true

-- what a hall whose catalogues are read says with its calls
abbrev pub led_seen : ℕ → ℕ → List Book → Result ℕ Refused → List ℕ → List ℕ → HallReading
led_seen count limit books (Ok c) t ops = in_calls (hall_book count limit books (led_calls_of ops c t))
led_seen count limit books (Err e) t ops = hall_stopped (number_of e.refusal) e.line

-- the call lines, of which the first is line n
pub record LedCallsRead (count : ℕ) (s : List ℕ) (at n : ℕ) (r : Result ℕ Refused) (t ops : List ℕ) : Type 0 where
  pub known : (c : ℕ) → r ≡ Ok c → LedCallsKnown count c t ops
  pub says : (limit : ℕ) (books : List Book) → led_seen count limit books r t ops ≡ hall_lines n (in_calls (hall_book count limit books [])) (parts 10 (slice at (length s) s))
