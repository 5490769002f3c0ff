-- Books read off the tables, and what the lot lines and the call lines are read as. Rests on model's grammar and Through. Assumes nothing.
use Rattle.std.specs.Prelude.{ℕ, ◌+◌, ◌≤◌, ◌≡◌, Bool, true, List, [], length, take, Result, Ok, Err}
use Rattle.std.proofs.Math.Seq.{slice}
use Rattle.laws.specs.Fold.{sum_over}
use Rattle.model.specs.Catalogue.{Limits, Hypergraph}
use Rattle.model.specs.Grammar.{Reading, reading, stopped, grown, whole, lines, parts}
use Rattle.model.specs.Through.{Stage, refused, through}
use Rattle.model.specs.Lent.{calls_of}
use Rattle.model.specs.ListEntry.{entries_to}
use Rattle.lines.specs.Line.{book, Past}
use Rattle.refusal.specs.declared.Refused.{Refused}
use Rattle.refusal.specs.Number.{number_of}

-- ---- calls
-- the calls of a file whose catalogue is read
abbrev pub called : Bool → ℕ → ℕ → Hypergraph → ℕ → Result ℕ Refused → List ℕ → List ℕ → Reading
called estimated l b h m (Ok c) t ops = reading (book estimated l b h m (calls_of ops c t))
called estimated l b h m (Err e) t ops = stopped (number_of e.refusal) e.line

-- the call lines, of which the first is line n; each three numbers of an accepted table are a call, whose operands are there
pub record CallsRead (s : List ℕ) (at n : ℕ) (r : Result ℕ Refused) (t ops : List ℕ) : Type 0 where
  pub known : (c : ℕ) → r ≡ Ok c → (c ≤ 512) × (length (calls_of ops c t) ≡ c)
  pub entries : (c : ℕ) → r ≡ Ok c → entries_to (length ops) c t ≡ true
  pub says : (limits : Limits) (estimated : Bool) (l b m : ℕ) (h : Hypergraph) → whole (book estimated l b h m []) ≡ true → called estimated l b h m r t ops ≡ lines limits n (reading (book estimated l b h m [])) (parts 10 (slice at (length s) s))

-- the catalogue with no buyer yet: the first k lots of the tables, by their most bales, sessions, whether they are kept, and their least bales
abbrev pub lots_graph : ℕ → ℕ → ℕ → List ℕ → List ℕ → List ℕ → List ℕ → Hypergraph
lots_graph blocks imbalance k w d fx lo = record { blocks = blocks; imbalance = imbalance; total_weight = sum_over (take k lo) (λ x. x); lows = take k lo; weights = take k w; draft = take k d; fixed = take k fx; nets = [] }

-- the lot lines of a catalogue whose first line is line n: what is left to read, from the place where they end
abbrev pub lots_seen : ℕ → Limits → List ℕ → Bool → ℕ → ℕ → ℕ → ℕ → Result ℕ Refused → List ℕ → List ℕ → List ℕ → List ℕ → Stage
lots_seen n limits s estimated l b blocks imbalance (Ok i) w d fx lo = through limits (n + l + 1) (grown (n + l) (book estimated l b (lots_graph blocks imbalance l w d fx lo) 0 [])) (parts 10 (slice i (length s) s))
lots_seen n limits s estimated l b blocks imbalance (Err e) w d fx lo = refused (number_of e.refusal) e.line

pub record LotsRead (n : ℕ) (s : List ℕ) (at l blocks : ℕ) (estimated : Bool) (r : Result ℕ Refused) (w₀ d₀ fx₀ w d fx lo : List ℕ) : Type 0 where
  pub inside : (i : ℕ) → r ≡ Ok i → i ≤ length s
  pub w-past : Past l w₀ w
  pub d-past : Past l d₀ d
  pub fx-past : Past l fx₀ fx
  pub lo-len : length lo ≡ 1024
  pub says : (limits : Limits) (b imbalance : ℕ) → lots_seen n limits s estimated l b blocks imbalance r w d fx lo ≡ through limits (n + 1) (reading (book estimated l b (lots_graph blocks imbalance 0 w d fx lo) 0 [])) (parts 10 (slice at (length s) s))
