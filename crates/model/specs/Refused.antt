-- Demand 1, "a refused call changes nothing", as a statement about lent memory: what stands after a refused call is what stood before it, and calls
-- with or without the refused ones among them leave the same, in every entry. Rests on ListEntry. Assumes nothing.
use Rattle.std.specs.Prelude.{ℕ, zero, suc, ◌≤◌, ◌≡◌, true, List, [], ◌∷◌, length, take, drop}
use Rattle.model.specs.Catalogue.{Limits, Hypergraph}
use Rattle.model.specs.Sale.{Request, Sale, opened, turn}
use Rattle.model.specs.Report.{refusal}
use Rattle.model.specs.Grammar.{Book, reading, parse}
use Rattle.model.specs.Engine.{answers}
use Rattle.model.specs.Memory.{Tables, Memory, long_memory, Serves}
use Rattle.model.specs.Lent.{stack_of, journal_of}
use Rattle.model.specs.Demand.{Standing, standing, Stands}
use Rattle.model.specs.ListEntry.{list_refusal, list_calls, Returned, ListServes}

-- ---- a list without its refused calls
-- c before the list, where q is no refusal
unfoldable pub unless : ℕ → Request → List Request → List Request
unless zero c cs = c ∷ cs
unless (suc q) c cs = cs

-- the calls of a list that are accepted, from a sale on, each by the sale that the one before it left
unfoldable pub accepted_from : Limits → Sale → List Request → List Request
accepted_from limits a [] = []
accepted_from limits a (c ∷ cs) = unless (refusal (turn limits a c).answer) c (accepted_from limits (turn limits a c).sale cs)

-- a list from loading on without its refused calls
abbrev pub accepted_calls : Limits → Hypergraph → List Request → List Request
accepted_calls limits h calls = accepted_from limits (opened h) calls

-- ---- what is the same
-- what the list's entry leaves: the tables, the stack of joins and the record of moves
abbrev pub left_by : Memory → Returned → Standing
left_by new r = standing new.tables (stack_of r.stack.xs r.stack.ys r.stack.len) (journal_of r.journal.xs r.journal.ys r.journal.len)

-- every entry of the tables, the stack, the record and the total
pub record SameEnd (x x' : Standing) (total total' : ℕ) : Type 0 where
  pub standing : x' ≡ x
  pub totals : total' ≡ total

-- the closing report in an output with so many bytes written: what stands past the answers' lines
abbrev pub closing_in : Limits → Hypergraph → List Request → List ℕ → ℕ → List ℕ
closing_in limits h calls output written = drop (length (answers limits (opened h) calls)) (take written output)

-- every entry of the tables, and the closing report
pub record SameSale (limits : Limits) (h : Hypergraph) (calls calls' : List Request) (new new' : Memory) (written written' : ℕ) : Type 0 where
  pub tables : new'.tables ≡ new.tables
  pub closing : closing_in limits h calls' new'.output written' ≡ closing_in limits h calls new.output written

-- ---- the statement
pub record RefusedChangeNothing (limits : Limits) : Type 0 where
  -- what stands after a refused call is what stood before it
  pub call-leaves : (old : Tables) (a : Sale) (c : Request) (x y : Standing) → Stands old a x → Stands old (turn limits a c).sale y → 1 ≤ refusal (turn limits a c).answer → y ≡ x
  -- a list and the same list without its refused calls: two calls of the list's entry on the same bytes and equal lent memory
  pub lists :
      (file list list' operands operands' : List ℕ) (k : Book) (old new new' : Memory) (r r' : Returned)
      → parse limits file ≡ reading k → long_memory limits old ≡ true
      → list_refusal list operands ≡ 0 → list_refusal list' operands' ≡ 0 → list_calls list' operands' ≡ accepted_calls limits k.graph (list_calls list operands)
      → ListServes limits file list operands old new r → ListServes limits file list' operands' old new' r'
      → SameEnd (left_by new r) (left_by new' r') r.total r'.total
  -- two files of the same catalogue whose calls, without the refused ones, are the same: two calls of an entry for files on equal lent memory
  pub files :
      (file file' : List ℕ) (k k' : Book) (old new new' : Memory) (code written code' written' : ℕ)
      → parse limits file ≡ reading k → parse limits file' ≡ reading k' → long_memory limits old ≡ true
      → k'.graph ≡ k.graph → accepted_calls limits k.graph k'.calls ≡ accepted_calls limits k.graph k.calls
      → Serves limits file old new code written → Serves limits file' old new' code' written'
      → SameSale limits k.graph k.calls k'.calls new new' written written'
