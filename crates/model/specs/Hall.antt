-- Request M-112, several catalogues in one hall: a call line of one sale beside others, the hall's desks, a list of call lines, and the report. Rests on
-- Engine. Assumes nothing.
use Rattle.std.specs.Prelude.{ℕ, zero, suc, ◌+◌, ◌-◌, cond, List, [], ◌∷◌, ◌++◌, map, leb, get_or, set, take, drop}
use Rattle.laws.specs.Fold.{sum_over}
use Rattle.model.specs.Catalogue.{main_limits, Hypergraph, capacity, capacities}
use Rattle.model.specs.Measure.{weight, block_weight}
use Rattle.model.specs.Machine.{Call, call_j, call_s, call_m, call_b, call_w, call_p, call_a, Move, State, Step, settle, refuses_m, does_m, does_b}
use Rattle.model.specs.Search.{call_under}
use Rattle.model.specs.Sale.{Request, runs, call_x, call_n, Sale, Turn, opened, Space, lots_in, marks_in, refuses_x, refuses_n, turned, does_x, does_n, ran}
use Rattle.model.specs.Report.{digits, answer_row, closing}
use Rattle.model.specs.Engine.{draft_total}

-- ---- a call line of one sale beside others
-- all that it knows of the hall: the limit of bales in a session, the others' bales in each session, their lots and their marks
pub record Beside : Type 0 where
  pub limit : ℕ
  pub bales : ℕ → ℕ
  pub lots : ℕ
  pub marks : ℕ

-- what the limit leaves to this sale in a session
abbrev pub leaves : Beside → ℕ → ℕ
leaves o t = o.limit - o.bales t

-- "as 23 counts over the hall": what the others leave of 1,024 lots and 8,192 marks
abbrev pub space_beside : Beside → Space
space_beside o = record { lots = main_limits.vertex_limit - o.lots; marks = main_limits.pin_limit - o.marks }

-- the ceiling of W, P and A: a session is open "only if the hall limit allows it as well"
unfoldable pub ceiling_beside : Beside → Hypergraph → ℕ → ℕ
ceiling_beside o h t = cond (leb (capacity h) (leaves o t)) (capacity h) (leaves o t)

-- the first of two refusals, 0 for none
abbrev pub first_of : ℕ → ℕ → ℕ
first_of zero q = q
first_of (suc p) q = suc p

module _ (o : Beside) (h : Hypergraph) (s : State) where
  -- 25: so many bales more in a session are above the hall's limit
  unfoldable pub over_limit : ℕ → ℕ → ℕ
  over_limit bales t = cond (leb (block_weight h s.stack s.block t + bales) (leaves o t)) 0 25

  -- M: 9, 10, 12, 20, 14, 25
  unfoldable pub refuses_beside_m : ℕ → ℕ → ℕ
  refuses_beside_m v t = first_of (refuses_m h (capacities h) s v t) (over_limit (weight h s.stack v) t)

  -- B: 15, 25
  unfoldable pub refuses_beside_b : List Move → ℕ
  refuses_beside_b [] = 15
  refuses_beside_b (m ∷ ms) = over_limit (weight h s.stack m.vertex) m.from

  -- N: 9, 16, 22, 23, 14, 25
  unfoldable pub refuses_beside_n : ℕ → ℕ → List ℕ → ℕ
  refuses_beside_n bales session buyers = first_of (refuses_n (space_beside o) h (capacities h) s bales session buyers) (over_limit bales session)

-- what a call of the machine does beside the others: M and B are tested for 25, W, P and A go by both limits, J and S by none
unfoldable pub call_beside : Beside → Hypergraph → State → Call → Step
call_beside o h s (call_j u v) = call_under h (ceiling_beside o h) s (call_j u v)
call_beside o h s call_s = call_under h (ceiling_beside o h) s call_s
call_beside o h s (call_m v t) = settle (refuses_beside_m o h s v t) s (does_m h s v t)
call_beside o h s call_b = settle (refuses_beside_b o h s s.journal) s (does_b h s s.journal)
call_beside o h s (call_w u v) = call_under h (ceiling_beside o h) s (call_w u v)
call_beside o h s call_p = call_under h (ceiling_beside o h) s call_p
call_beside o h s call_a = call_under h (ceiling_beside o h) s call_a

-- what a call line does beside the others: N is tested for 25, X goes by no limit
unfoldable pub turn_beside : Beside → Sale → Request → Turn
turn_beside o a (runs c) = ran a (call_beside o a.graph a.state c)
turn_beside o a (call_x v) = turned (refuses_x a.graph a.state v) a (does_x a v)
turn_beside o a (call_n bales session buyers) = turned (refuses_beside_n o a.graph a.state bales session buyers) a (does_n a bales session buyers)

-- ---- the hall: its desks are sales, one for each catalogue
-- a call line: the number of the catalogue that leads it, from 1, and what it asks
pub record Led : Type 0 where
  pub desk : ℕ
  pub ask : Request

-- the desk of a number; none has no lots
abbrev pub no_desk : Sale
no_desk = opened (record { blocks = 0; imbalance = 0; total_weight = 0; lows = []; weights = []; draft = []; fixed = []; nets = [] })

abbrev pub desk_of : List Sale → ℕ → Sale
desk_of ds c = get_or ds (c - 1) no_desk

-- a desk's bales in a session, and those of several together; their lots, and their marks
abbrev pub desk_bales : ℕ → Sale → ℕ
desk_bales t a = block_weight a.graph a.state.stack a.state.block t

unfoldable pub bales : List Sale → ℕ → ℕ
bales ds t = sum_over ds (desk_bales t)

unfoldable pub lots : List Sale → ℕ
lots ds = sum_over ds (λ a. lots_in a.graph)

unfoldable pub marks : List Sale → ℕ
marks ds = sum_over ds (λ a. marks_in a.graph)

-- all desks but the one of a number
abbrev pub others : List Sale → ℕ → List Sale
others ds c = take (c - 1) ds ++ drop c ds

abbrev pub beside : ℕ → List Sale → ℕ → Beside
beside limit ds c = record { limit = limit; bales = bales (others ds c); lots = lots (others ds c); marks = marks (others ds c) }

-- what a call line of the hall does to its own desk, and answers
abbrev pub led_turn : ℕ → List Sale → Led → Turn
led_turn limit ds l = turn_beside (beside limit ds l.desk) (desk_of ds l.desk) l.ask

-- the desks after it: no other desk changes
unfoldable pub led_to : ℕ → List Sale → Led → List Sale
led_to limit ds l = set ds (l.desk - 1) (led_turn limit ds l).sale

-- the desks after a list of call lines
unfoldable pub hall_after : ℕ → List Sale → List Led → List Sale
hall_after limit ds [] = ds
hall_after limit ds (l ∷ ls) = hall_after limit (led_to limit ds l) ls

-- the lines of their answers, each led by the catalogue's number and a comma
unfoldable pub hall_answers : ℕ → List Sale → List Led → List ℕ
hall_answers limit ds [] = []
hall_answers limit ds (l ∷ ls) = digits l.desk ++ (44 ∷ answer_row (led_turn limit ds l).answer) ++ hall_answers limit (led_to limit ds l) ls

-- sales as loading leaves them
unfoldable pub fresh_desks : List Hypergraph → List Sale
fresh_desks hs = map (λ h. opened h) hs

-- the closing reports, in turn, each behind its draft's total
unfoldable pub closings : List Hypergraph → List Sale → List ℕ
closings [] ds = []
closings (h ∷ hs) [] = []
closings (h ∷ hs) (a ∷ ds) = closing (draft_total h) a.graph a.state ++ closings hs ds

-- an accepted hall's report
unfoldable pub hall_run : ℕ → List Hypergraph → List Led → List ℕ
hall_run limit hs calls = hall_answers limit (fresh_desks hs) calls ++ closings hs (hall_after limit (fresh_desks hs) calls)
