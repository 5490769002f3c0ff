-- Request M-111, withdrawn and late lots: a sale is a catalogue that calls may change, and the machine on it; the calls X and N and their refusals;
-- what every call line does. Rests on Search. Assumes nothing.
use Rattle.std.specs.Prelude.{ℕ, zero, suc, ◌+◌, ◌-◌, Bool, true, false, not, ◌&&◌, ◌||◌, cond, List, [], ◌∷◌, ◌++◌, map, eqb, leb, ltb, length, drop}
use Rattle.laws.specs.Sum.{count_to}
use Rattle.laws.specs.Fold.{sum_over, all, any}
use Rattle.model.specs.Catalogue.{Limits, Net, Hypergraph, vertices, in_sale, is_vertex, is_block, is_net, capacities}
use Rattle.model.specs.Measure.{on_board, block_weight, metric}
use Rattle.model.specs.Machine.{Call, Answer, says_x, says_n, says_no, State, Step, fresh}
use Rattle.model.specs.Search.{call_under}

-- a call line: one of the machine's seven calls; X,lot; N,bales,session,buyer,..
pub data Request : Type 0 where
  runs : Call → Request
  call_x : ℕ → Request
  call_n : ℕ → ℕ → List ℕ → Request

-- the catalogue as loaded less withdrawals plus additions; the numbers withdrawn and still free, the latest first; whether an X or N has been
-- accepted; and the machine's state on that catalogue
pub record Sale : Type 0 where
  pub graph : Hypergraph
  pub free : List ℕ
  pub changed : Bool
  pub state : State

-- what a call line leaves and answers
pub record Turn : Type 0 where
  pub sale : Sale
  pub answer : Answer

-- a sale as loading leaves it
abbrev pub opened : Hypergraph → Sale
opened h = record { graph = h; free = []; changed = false; state = fresh h }

-- how many lots and marks a catalogue may have
pub record Space : Type 0 where
  pub lots : ℕ
  pub marks : ℕ

-- that of an entry: its limit of lots, and 8,192 marks
abbrev pub space_of : Limits → Space
space_of limits = record { lots = limits.vertex_limit; marks = 8192 }

-- lots present, and marks in use
unfoldable pub lots_in : Hypergraph → ℕ
lots_in h = count_to (vertices h) (λ v. in_sale h v)

unfoldable pub marks_in : Hypergraph → ℕ
marks_in h = sum_over h.nets (λ e. length e.pins)

-- ---- changes of a catalogue
-- the list with x in place i, from 0, or behind the last
unfoldable pub put : List ℕ → ℕ → ℕ → List ℕ
put [] i x = x ∷ []
put (y ∷ l) zero x = x ∷ l
put (y ∷ l) (suc i) x = y ∷ put l i x

-- the sessions of the lots 1..n
unfoldable pub sessions : ℕ → (ℕ → ℕ) → List ℕ
sessions zero block = []
sessions (suc n) block = sessions n block ++ (block (suc n) ∷ [])

-- marks without those at lot v
unfoldable pub unmarked : ℕ → List ℕ → List ℕ
unmarked v [] = []
unmarked v (x ∷ xs) = cond (eqb x v) (unmarked v xs) (x ∷ unmarked v xs)

-- no buyer has a mark at lot v
unfoldable pub nets_without : ℕ → List Net → List Net
nets_without v nets = map (λ e. record { weight = e.weight; pins = unmarked v e.pins }) nets

-- the buyers from number i on; those that are named have a mark more, at lot v
unfoldable pub nets_with : ℕ → List ℕ → ℕ → List Net → List Net
nets_with v buyers i [] = []
nets_with v buyers i (e ∷ es) = record { weight = e.weight; pins = cond (any buyers (λ b. eqb b i)) (e.pins ++ (v ∷ [])) e.pins } ∷ nets_with v buyers (suc i) es

-- lot v with these bales, low and high alike, and this session, not kept; the other lots where they are; and other nets. W stays
unfoldable pub changed_at : Hypergraph → (ℕ → ℕ) → ℕ → ℕ → ℕ → List Net → Hypergraph
changed_at h block v bales session nets = record {
  blocks = h.blocks;
  imbalance = h.imbalance;
  total_weight = h.total_weight;
  lows = put h.lows (v - 1) bales;
  weights = put h.weights (v - 1) bales;
  draft = put (sessions (vertices h) block) (v - 1) session;
  fixed = put h.fixed (v - 1) 0;
  nets = nets;
}

-- X: the lot and its marks are out
unfoldable pub withdrawn : Hypergraph → (ℕ → ℕ) → ℕ → Hypergraph
withdrawn h block v = changed_at h block v 0 0 (nets_without v h.nets)

-- N: a lot more
unfoldable pub added : Hypergraph → (ℕ → ℕ) → ℕ → ℕ → ℕ → List ℕ → Hypergraph
added h block v bales session buyers = changed_at h block v bales session (nets_with v buyers 1 h.nets)

-- N's number: the one most recently withdrawn and still free, or the next unused one
unfoldable pub number_for : Hypergraph → List ℕ → ℕ
number_for h [] = suc (vertices h)
number_for h (v ∷ free) = v

-- ---- refusals
-- a join stands
abbrev pub joins_stand : State → Bool
joins_stand s = ltb 0 (length s.stack)

-- a buyer is named twice
unfoldable pub named_twice : List ℕ → Bool
named_twice [] = false
named_twice (b ∷ bs) = any bs (λ x. eqb x b) || named_twice bs

-- X: 9, 16, 10
unfoldable pub refuses_x : Hypergraph → State → ℕ → ℕ
refuses_x h s v =
    cond (not (is_vertex h v)) 9
    (cond (joins_stand s) 16
    (cond (not (on_board h s.stack v)) 10 0))

-- N: 9, 16, 22, 23, 14
unfoldable pub refuses_n : Space → Hypergraph → (ℕ → ℕ) → State → ℕ → ℕ → List ℕ → ℕ
refuses_n space h ceiling s bales session buyers =
    cond (not (leb 1 bales && leb bales 65535 && is_block h session && all buyers (is_net h))) 9
    (cond (joins_stand s) 16
    (cond (named_twice buyers) 22
    (cond (leb space.lots (lots_in h) || ltb space.marks (marks_in h + length buyers)) 23
    (cond (not (leb (block_weight h s.stack s.block session + bales) (ceiling session))) 14 0))))

-- ---- what a call line does
-- the sale on a changed catalogue: a fresh machine, whose draft is the present sessions
abbrev pub started_over : Hypergraph → List ℕ → Sale
started_over h free = record { graph = h; free = free; changed = true; state = fresh h }

abbrev pub total_of : Sale → ℕ
total_of a = metric a.graph a.state.stack a.state.block

-- the turn of a change: by a refusal's number the sale as it was, and by 0 what the accepted call does
unfoldable pub turned : ℕ → Sale → Turn → Turn
turned zero a done = done
turned (suc q) a done = record { sale = a; answer = says_no (suc q) }

-- X accepted
unfoldable pub does_x : Sale → ℕ → Turn
does_x a v =
    let next : Sale = started_over (withdrawn a.graph a.state.block v) (v ∷ a.free) in
    record { sale = next; answer = says_x (total_of next) }

-- N accepted
unfoldable pub does_n : Sale → ℕ → ℕ → List ℕ → Turn
does_n a bales session buyers =
    let v : ℕ = number_for a.graph a.free in
    let next : Sale = started_over (added a.graph a.state.block v bales session buyers) (drop 1 a.free) in
    record { sale = next; answer = says_n v (total_of next) }

-- a call of the machine
unfoldable pub ran : Sale → Step → Turn
ran a r = record { sale = record { graph = a.graph; free = a.free; changed = a.changed; state = r.state }; answer = r.answer }

-- what a call line does under a ceiling
unfoldable pub turn_under : Space → (ℕ → ℕ) → Sale → Request → Turn
turn_under space ceiling a (runs c) = ran a (call_under a.graph ceiling a.state c)
turn_under space ceiling a (call_x v) = turned (refuses_x a.graph a.state v) a (does_x a v)
turn_under space ceiling a (call_n bales session buyers) = turned (refuses_n space a.graph ceiling a.state bales session buyers) a (does_n a bales session buyers)

-- what a call line of a sale by itself does: under its cap, which stays as at loading
abbrev pub turn : Limits → Sale → Request → Turn
turn limits a c = turn_under (space_of limits) (capacities a.graph) a c
