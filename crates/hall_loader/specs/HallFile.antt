-- What loading a hall's file promises: model's HallText on the same bytes, the tables of each catalogue, the table of led calls. Rests on Books, Drafts and
-- hall_lines. Assumes nothing.
use Rattle.std.specs.Prelude.{ℕ, ◌-◌, ◌≤◌, ◌<◌, ◌≡◌, Bool, cond, List, [], length, Result, Ok, Err}
use Rattle.std.proofs.Math.Seq.{slice}
use Rattle.model.specs.Grammar.{Book, unread, parts}
use Rattle.model.specs.HallText.{HallReading, in_catalogue, in_calls, hall_stopped, hall_lines, parse_hall}
use Rattle.loader.specs.declared.Sizes.{Sizes}
use Rattle.hall_lines.specs.Heading.{hall_book, Announced}
use Rattle.hall_lines.specs.LedTable.{led_calls_of, LedCallsKnown}
use Rattle.hall_loader.specs.Sets.{Sets, set_of}
use Rattle.hall_loader.specs.Books.{books_to, AcceptsIn}
use Rattle.hall_loader.specs.Drafts.{drafts_above}
use Rattle.hall_loader.specs.declared.HallLoaded.{HallLoaded}
use Rattle.refusal.specs.declared.Refused.{Refused}
use Rattle.refusal.specs.Number.{number_of}

-- ---- what follows the catalogues
-- tables for 512 led calls and the operands of a file of 60,000 bytes
pub record RoomForCalls (s calls operands : List ℕ) : Type 0 where
  pub short : length s ≤ 60000
  pub calls-long : 2048 ≤ length calls
  pub operands-long : 30000 ≤ length operands

-- a hall whose catalogues are `books`
abbrev pub after_books : ℕ → ℕ → List Book → Result ℕ Refused → List ℕ → List ℕ → HallReading
after_books count limit books (Ok c) calls ops = in_calls (hall_book count limit books (led_calls_of ops c calls))
after_books count limit books (Err e) calls ops = hall_stopped (number_of e.refusal) e.line

pub record CallsLoaded (s : List ℕ) (at n count limit : ℕ) (zs : List Sizes) (r : Result ℕ Refused) (weights blocks : List (List ℕ)) (calls ops : List ℕ) : Type 0 where
  pub says : (books : List Book) → after_books count limit books r calls ops
      ≡ hall_lines n (cond (drafts_above count limit zs weights blocks) (hall_stopped 24 (n - 1)) (in_calls (hall_book count limit books []))) (parts 10 (slice at (length s) s))
  pub known : (c : ℕ) → r ≡ Ok c → LedCallsKnown count c calls ops

-- ---- the file
-- what the answer, the sizes and the tables say
abbrev pub hall_seen : (ℕ → Bool) → Result HallLoaded Refused → Sets → List ℕ → List ℕ → HallReading
hall_seen estimated (Ok a) H calls ops = in_calls (hall_book a.count a.limit (books_to estimated a.sizes H a.count) (led_calls_of ops a.calls calls))
hall_seen estimated (Err e) H calls ops = hall_stopped (number_of e.refusal) e.line

-- of an accepted hall: two to four catalogues and a limit; each catalogue's tables; the led calls with their operands; sets without a catalogue keep what they held
pub record AcceptsHall (estimated : ℕ → Bool) (count limit n : ℕ) (zs : List Sizes) (old new : Sets) (calls ops : List ℕ) : Type 0 where
  pub announced : Announced count limit
  pub sizes-long : length zs ≡ 4
  pub catalogues : (c : ℕ) → c < count → AcceptsIn estimated zs old new c
  pub calls-known : LedCallsKnown count n calls ops
  pub kept : (c : ℕ) → count ≤ c → set_of c new ≡ set_of c old

-- what follows the first line, which announces so many catalogues and a limit
pub record BodyLoads (s : List ℕ) (at count limit : ℕ) (r : Result HallLoaded Refused) (old new : Sets) (calls ops : List ℕ) : Type 0 where
  pub estimated : ℕ → Bool
  pub says : hall_seen estimated r new calls ops ≡ hall_lines 2 (in_catalogue (hall_book count limit [] []) unread) (parts 10 (slice at (length s) s))
  pub accepts : (a : HallLoaded) → r ≡ Ok a → AcceptsHall estimated a.count a.limit a.calls a.sizes old new calls ops

-- the promise of a hall's file
pub record HallLoads (file : List ℕ) (r : Result HallLoaded Refused) (old new : Sets) (calls ops : List ℕ) : Type 0 where
  pub estimated : ℕ → Bool
  pub says : hall_seen estimated r new calls ops ≡ parse_hall file
  pub accepts : (a : HallLoaded) → r ≡ Ok a → AcceptsHall estimated a.count a.limit a.calls a.sizes old new calls ops
