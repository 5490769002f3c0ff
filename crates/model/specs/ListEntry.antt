-- The entry that takes a catalogue's bytes and a list of calls apart from each other: when the list is refused, and what the entry returns
-- and leaves in lent memory. Rests on Lent and Promises. Assumes nothing.
use Rattle.std.specs.Prelude.{ℕ, zero, suc, ◌+◌, ◌*◌, ◌/◌, ◌%◌, ◌≡◌, Bool, true, false, not, cond, ◌&&◌, ◌||◌, List, eqb, leb, ltb, length, get_or}
use Rattle.model.specs.Catalogue.{Limits, Hypergraph}
use Rattle.model.specs.Sale.{Request}
use Rattle.model.specs.Grammar.{Reading, unread, reading, stopped, parse, letter_j, letter_s, letter_m, letter_b, letter_w, letter_p, letter_a, letter_x, letter_n}
use Rattle.model.specs.Memory.{Memory, long_memory, Written, Worked, Untouched}
use Rattle.model.specs.Lent.{calls_of, Two, stack_of, journal_of, ZeroPast}
use Rattle.model.specs.Demand.{standing}
use Rattle.model.specs.Promises.{Demand3}

-- ---- the list
-- the letter of a call
abbrev pub is_letter : ℕ → Bool
is_letter letter = (eqb letter letter_j || eqb letter letter_s) || ((eqb letter letter_m || (eqb letter letter_b || (eqb letter letter_w || eqb letter letter_p))) || (eqb letter letter_a || (eqb letter letter_x || eqb letter letter_n)))

-- a call of the list has its form: the letter of a call; and N a stretch of the operands that has bales and session at least and does not reach past them
unfoldable pub is_entry : ℕ → ℕ → ℕ → ℕ → Bool
is_entry operands letter x y = is_letter letter && (not (eqb letter letter_n) || (leb 2 y && leb (x + y) operands))

-- each of the first n calls of a list, three numbers each, has its form; there are so many operands
unfoldable pub entries_to : ℕ → ℕ → List ℕ → Bool
entries_to operands zero l = true
entries_to operands (suc n) l = entries_to operands n l && is_entry operands (get_or l (3 * n) 0) (get_or l (3 * n + 1) 0) (get_or l (3 * n + 2) 0)

-- a list of more than 512 calls is refused as 7, one that is not three numbers for each call in its form as 2
unfoldable pub list_refusal : List ℕ → List ℕ → ℕ
list_refusal l operands = cond (ltb 1536 (length l)) 7 (cond (eqb (length l % 3) 0 && entries_to (length operands) (length l / 3) l) 0 2)

-- the calls of a list
abbrev pub list_calls : List ℕ → List ℕ → List Request
list_calls l operands = calls_of operands (length l / 3) l

-- ---- what the entry returns
-- 0 or the number of the refusal, the bytes written, the total at the end, the stack of joins and the record of moves
pub record Returned : Type 0 where
  pub code : ℕ
  pub bytes : ℕ
  pub total : ℕ
  pub stack : Two
  pub journal : Two

abbrev pub returned : ℕ → ℕ → ℕ → Two → Two → Returned
returned code bytes total stack journal = record { code = code; bytes = bytes; total = total; stack = stack; journal = journal }

-- ---- what it promises
-- the calls ran: demand 3 with the promises, and the answers' lines in the output
pub record Listed (limits : Limits) (h : Hypergraph) (calls : List Request) (old new : Memory) (r : Returned) : Type 0 where
  pub code_is : r.code ≡ 0
  pub lines : List ℕ
  pub demand : Demand3 limits h calls old.tables
      (standing new.tables (stack_of r.stack.xs r.stack.ys r.stack.len) (journal_of r.journal.xs r.journal.ys r.journal.len))
      lines r.total
  pub output : Written lines old.output new.output r.bytes
  pub stack-whole : ZeroPast r.stack
  pub journal-whole : ZeroPast r.journal

-- nothing ran: no join stands, no move is on record, and no total is told
pub record Idle (r : Returned) : Type 0 where
  pub no_joins : r.stack.len ≡ 0
  pub no-moves : r.journal.len ≡ 0
  pub zero-total : r.total ≡ 0
  pub stack-whole : ZeroPast r.stack
  pub journal-whole : ZeroPast r.journal

-- the catalogue is refused as a file is, or the calls of the list run on it; calls that its bytes hold are read and do not run
abbrev pub ListWorked : Limits → Reading → List Request → Memory → Memory → Returned → Type 0
ListWorked limits (reading k) calls old new r = Listed limits k.graph calls old new r
ListWorked limits (stopped q n) calls old new r = Worked limits (stopped q n) old new r.code r.bytes × Idle r
ListWorked limits unread calls old new r = Worked limits unread old new r.code r.bytes × Idle r

-- 8 is tested first, then the list; these touch nothing and write nothing
abbrev pub ListServed : Bool → ℕ → Limits → Reading → List Request → Memory → Memory → Returned → Type 0
ListServed false q limits read calls old new r = Untouched old new r.code r.bytes × Idle r
ListServed true (suc q) limits read calls old new r = (r.code ≡ suc q) × (r.bytes ≡ 0) × (new ≡ old) × Idle r
ListServed true zero limits read calls old new r = ListWorked limits read calls old new r

-- the entry on a catalogue's bytes, a list and lent memory: its return and all lent memory at exit
abbrev pub ListServes : Limits → (file list operands : List ℕ) → Memory → Memory → Returned → Type 0
ListServes limits file list operands old new r = ListServed (long_memory limits old) (list_refusal list operands) limits (parse limits file) (list_calls list operands) old new r
