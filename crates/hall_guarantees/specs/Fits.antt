-- A hall's file is turned down with a number from 1 to 24 and a line number of at most 60,001, and whatever a file holds, the code is at most 24 and the
-- report fits into the lent 60,000 bytes (hall-code-in, hall-engine-fits). Rests on Half, Loading and guarantees' ReportFits and Refusals. Assumes nothing.
use Rattle.std.specs.Prelude.{ℕ, zero, suc, ◌+◌, ◌-◌, ◌*◌, ◌≤◌, ◌<◌, ◌≡◌, refl, Bool, true, false, not, cond, ◌&&◌, leb, ltb, length, get_or, drop}
use native.Mathlib.Omega.{arith}
use Rattle.std.proofs.Common.{sym, ap, ◌∙◌, subst, ltb-false, length-append}
use mathlib.Core.List.{List, [], ◌∷◌, ◌++◌, map}
use Rattle.laws.specs.Fold.{sum_over, All}
use Rattle.model.specs.Catalogue.{main_limits, Hypergraph, capacities}
use Rattle.model.specs.Measure.{weight, block_weight}
use Rattle.model.specs.Machine.{Call, call_j, call_s, call_m, call_b, call_w, call_p, call_a, Move, State, Step, settle, refuses_m, does_m, does_b}
use Rattle.model.specs.Sale.{Request, runs, call_x, call_n, Sale, opened, lots_in, refuses_x, refuses_n, turned, does_x, does_n, ran}
use Rattle.model.specs.Grammar.{Fields, at, fields, is_number, is_line_of, within, parts, Book, Reading, unread, reading, stopped, whole, line, Asked, asks, nothing, asked}
use Rattle.model.specs.Report.{digits, answer_row, closing}
use Rattle.model.specs.Engine.{draft_total}
use Rattle.model.specs.Hall.{Beside, leaves, space_beside, ceiling_beside, first_of, over_limit, refuses_beside_m, refuses_beside_b, refuses_beside_n, call_beside, turn_beside, Led, no_desk, desk_of, lots, beside, led_turn, led_to, hall_after, hall_answers, fresh_desks, closings, hall_run}
use Rattle.model.specs.HallText.{HallBook, HallReading, hall_unread, in_catalogue, in_calls, hall_stopped, hall_head, limits_left, graphs, drafts_over, with_book, taken, with_led, full_hall, led_line, hall_line, hall_ending, hall_lines, parse_hall, hall_outcome, hall_engine}
use Rattle.model.specs.HallDemand.{AllLed}
use Rattle.guarantees.specs.Numbers.{digits_le}
use Rattle.guarantees.specs.AnswerBounds.{Bounded, either-le, metric-in, settled, refusals-M, bounded-M, bounded-B, bounded-call}
use Rattle.guarantees.specs.Ranges.{Ranges}
use Rattle.guarantees.specs.Reached.{Valid, accepts-X, accepts-in, number-known}
use Rattle.guarantees.specs.ReportFits.{answer_le, closing-by, turned-bounded, refusals-X, refusals-N}
use Rattle.guarantees.specs.Refusals.{Stops, stops-none, stops-later, stops-line, stopped-in, parts-le, no_le}
use Rattle.hall_guarantees.specs.Limit.{HallFine, fine-led, led-length, hall-fine}
use Rattle.hall_guarantees.specs.Loading.{Whole, Opened, hall-opens, hall-start, fresh-length}
use Rattle.hall_guarantees.specs.Half.{hall-length}

-- ---- every answer
first-le : (p q : ℕ) → p ≤ 25 → q ≤ 25 → first_of p q ≤ 25
first-le zero q l m = m
first-le (suc p) q l m = l

module _ (o : Beside) (a : Sale) (k : Valid main_limits a) where
  over-le : (w t : ℕ) → over_limit o a.graph a.state w t ≤ 25
  unfolding over_limit
  over-le w t = either-le (leb (block_weight a.graph a.state.stack a.state.block t + w) (leaves o t)) 0 25 25 (omega arith) (omega arith)

  back-le : (l : List Move) → refuses_beside_b o a.graph a.state l ≤ 25
  unfolding refuses_beside_b
  back-le [] = omega arith
  back-le (m ∷ l) = over-le (weight a.graph a.state.stack m.vertex) m.from

  machine : (c : Call) → Bounded (call_beside o a.graph a.state c).answer
  unfolding call_beside refuses_beside_m
  machine (call_j u v) = bounded-call main_limits (omega arith) (omega arith) a.graph k.ranges (ceiling_beside o a.graph) a.state (call_j u v) k.held.legal k.listed
  machine call_s = bounded-call main_limits (omega arith) (omega arith) a.graph k.ranges (ceiling_beside o a.graph) a.state call_s k.held.legal k.listed
  machine (call_m v t) = settled main_limits (omega arith) (omega arith) a.graph k.ranges _ a.state (does_m a.graph a.state v t)
      (first-le _ _ (refusals-M main_limits (omega arith) (omega arith) a.graph k.ranges (capacities a.graph) a.state v t) (over-le _ t))
      (λ _. bounded-M main_limits (omega arith) (omega arith) a.graph k.ranges (capacities a.graph) a.state v t)
  machine call_b = settled main_limits (omega arith) (omega arith) a.graph k.ranges _ a.state (does_b a.graph a.state a.state.journal) (back-le a.state.journal)
      (λ _. bounded-B main_limits (omega arith) (omega arith) a.graph k.ranges (capacities a.graph) a.state a.state.journal k.held.legal.recorded k.listed)
  machine (call_w u v) = bounded-call main_limits (omega arith) (omega arith) a.graph k.ranges (ceiling_beside o a.graph) a.state (call_w u v) k.held.legal k.listed
  machine call_p = bounded-call main_limits (omega arith) (omega arith) a.graph k.ranges (ceiling_beside o a.graph) a.state call_p k.held.legal k.listed
  machine call_a = bounded-call main_limits (omega arith) (omega arith) a.graph k.ranges (ceiling_beside o a.graph) a.state call_a k.held.legal k.listed

  first-accepts : (p q : ℕ) → first_of p q ≡ 0 → p ≡ 0
  first-accepts zero q e = refl
  first-accepts (suc p) q e = absurd (omega (arith, e))

  pub bounded-beside : (c : Request) → Bounded (turn_beside o a c).answer
  unfolding turn_beside ran does_x does_n refuses_beside_n
  bounded-beside (runs c) = machine c
  bounded-beside (call_x v) = turned-bounded main_limits (omega arith) (omega arith) (refuses_x a.graph a.state v) a (does_x a v) (refusals-X main_limits (omega arith) (omega arith) a.graph a.state v)
      (λ q. metric-in main_limits (omega arith) (omega arith) _ (accepts-X main_limits a k v q).ranges _ _)
  bounded-beside (call_n bales session buyers) = turned-bounded main_limits (omega arith) (omega arith) _ a (does_n a bales session buyers)
      (first-le _ _ (refusals-N main_limits (omega arith) (omega arith) (space_beside o) a.graph (capacities a.graph) a.state bales session buyers) (over-le bales session))
      (λ q. let t = accepts-in main_limits a k (space_beside o) (omega arith) (omega arith) bales session buyers (first-accepts _ _ q) in (omega (arith, number-known main_limits a k bales session buyers, t.ranges.vertices-high), metric-in main_limits (omega arith) (omega arith) _ t.ranges _ _))

-- ---- all answers
pub hall-answers-le : (limit : ℕ) (ds : List Sale) (calls : List Led) → length ds ≤ 4 → AllLed (length ds) calls → HallFine limit ds → length (hall_answers limit ds calls) ≤ 43 * length calls
unfolding hall_answers
hall-answers-le limit ds [] four ok f = omega arith
hall-answers-le limit ds (l ∷ ls) four ok f = omega (
  arith,
  length-append (digits l.desk ++ (44 ∷ answer_row (led_turn limit ds l).answer)) (hall_answers limit (led_to limit ds l) ls),
  length-append (digits l.desk) (44 ∷ answer_row (led_turn limit ds l).answer),
  digits_le 0 l.desk (omega (arith, ok.0.1, four)),
  answer_le (led_turn limit ds l).answer (bounded-beside (beside limit ds l.desk) (desk_of ds l.desk) (f.valid (l.desk - 1) (omega (arith, ok.0.0, ok.0.1))) l.ask),
  hall-answers-le limit (led_to limit ds l) ls (omega (arith, led-length limit ds l, four)) (subst (λ (n : ℕ). AllLed n ls) (sym (led-length limit ds l)) ok.1) (fine-led limit ds f l ok.0.0 ok.0.1),
)

-- ---- the closing reports
pub closings-le : (hs : List Hypergraph) (ds : List Sale) → All hs (Ranges main_limits) → All ds (Valid main_limits) → length (closings hs ds) ≤ 24 * length hs + (12 * lots ds + 12 * sum_over ds (λ a. length a.graph.nets))
unfolding closings lots sum_over
closings-le [] ds r k = omega arith
closings-le (h ∷ hs) [] r k = omega arith
closings-le (h ∷ hs) (a ∷ ds) r k = omega (
  arith,
  length-append (closing (draft_total h) a.graph a.state) (closings hs ds),
  closing-by main_limits (omega arith) (omega arith) a.graph k.0.ranges (draft_total h) (metric-in main_limits (omega arith) (omega arith) h r.0 _ _) a.state k.0.held.legal,
  closings-le hs ds r.1 k.1,
)

pub all_of : {A : Type 0} (P : A → Type 0) (l : List A) (d : A) → ((i : ℕ) → i < length l → P (get_or l i d)) → All l P
all_of P [] d f = tt
all_of P (x ∷ l) d f = (f 0 (omega arith), all_of P l d (λ i u. f (suc i) (omega arith)))

books-ranges : (ks : List Book) → All ks Whole → All (map (λ k. k.graph) ks) (Ranges main_limits)
books-ranges [] a = tt
books-ranges (k ∷ ks) a = (a.0.valid.ranges, books-ranges ks a.1)

pub graphs-length : (ks : List Book) → length (map (λ k. k.graph) ks) ≡ length ks
graphs-length [] = refl
graphs-length (k ∷ ks) = ap suc (graphs-length ks)

pub hall-report-fits : (K : HallBook) → Opened K → length (hall_run K.limit (graphs K) K.calls) ≤ 60000
unfolding hall_run
hall-report-fits K g =
    let ds : List Sale = fresh_desks (graphs K) in
    let n = graphs-length K.books in
    let m = fresh-length (graphs K) in
    let led : AllLed (length ds) K.calls = subst (λ (i : ℕ). AllLed i K.calls) (sym (m ∙ n ∙ g.all_there)) g.leads in
    let start = hall-start K g in
    let f = hall-fine K.limit ds K.calls led start in
    omega (
      arith,
      length-append (hall_answers K.limit ds K.calls) (closings (graphs K) (hall_after K.limit ds K.calls)),
      hall-answers-le K.limit ds K.calls (omega (arith, m, n, g.all_there, g.announced.few)) led start,
      closings-le (graphs K) (hall_after K.limit ds K.calls) (books-ranges K.books g.stocked.each) (all_of (Valid main_limits) (hall_after K.limit ds K.calls) no_desk f.valid),
      g.calls-few,
      f.lots-few,
      f.nets-few,
      n,
      g.all_there,
      g.announced.few,
    )

-- ---- refusals of a file
StopsHall : ℕ → HallReading → Type 0
StopsHall m hall_unread = Unit {0}
StopsHall m (in_catalogue K r) = Stops m r
StopsHall m (in_calls K) = Unit {0}
StopsHall m (hall_stopped q n) = (1 ≤ q) × (q ≤ 24) × (n ≤ m)

stop-at : (q n : ℕ) → 1 ≤ q → q ≤ 24 → StopsHall n (hall_stopped q n)
unfolding StopsHall
stop-at q n l u = (l, u, omega arith)

stop-if : (m : ℕ) (b : Bool) (x y : HallReading) → StopsHall m x → StopsHall m y → StopsHall m (cond b x y)
stop-if m true x y s t = s
stop-if m false x y s t = t

stop-calls : (m : ℕ) (K : HallBook) → StopsHall m (in_calls K)
unfolding StopsHall
stop-calls m K = tt

stop-in : (m : ℕ) (K : HallBook) (r : Reading) → Stops m r → StopsHall m (in_catalogue K r)
unfolding StopsHall
stop-in m K r s = s

in-stop : (n : ℕ) (K : HallBook) (r : Reading) → StopsHall n (in_catalogue K r) → Stops n r
unfolding StopsHall
in-stop n K r s = s

stop-later : (m n : ℕ) (r : HallReading) → m ≤ n → StopsHall m r → StopsHall n r
unfolding StopsHall
stop-later m n hall_unread l s = tt
stop-later m n (in_catalogue K r) l s = stops-later m n r l s
stop-later m n (in_calls K) l s = tt
stop-later m n (hall_stopped q i) l s = (s.0, s.1, omega (arith, s.2))

stop-with : (n : ℕ) (K : HallBook) (k : Book) → StopsHall n (with_book n K k)
unfolding with_book
stop-with n K k =
    let L : HallBook = record { announced = K.announced; limit = K.limit; books = K.books ++ (k ∷ []); calls = [] } in
    stop-if n (ltb (length L.books) L.announced) (in_catalogue L unread) _ (stop-in n L unread (stops-none n))
    (stop-if n (drafts_over L.limit (graphs L)) (hall_stopped 24 n) (in_calls L) (stop-at 24 n (omega arith) (omega arith)) (stop-calls n L))

stop-by : (n q m : ℕ) → (1 ≤ q) × (q ≤ 21) × (m ≤ n) → StopsHall n (hall_stopped q m)
unfolding StopsHall
stop-by n q m i = (i.0, omega (arith, i.1), i.2)

stop-taken : (n : ℕ) (K : HallBook) (r : Reading) → Stops n r → StopsHall n (taken n K r)
unfolding taken
stop-taken n K unread s = stop-in n K unread s
stop-taken n K (stopped q m) s = stop-by n q m (stopped-in main_limits n q m s)
stop-taken n K (reading k) s = stop-if n (whole k) (with_book n K k) (in_catalogue K (reading k)) (stop-with n K k) (stop-in n K (reading k) s)

stop-led : (n : ℕ) (K : HallBook) (c : ℕ) (a : Asked) → StopsHall n (with_led n K c a)
unfolding with_led
stop-led n K c nothing = stop-at 2 n (omega arith) (omega arith)
stop-led n K c (asks ask) = stop-if n (not (within 1 K.announced c)) (hall_stopped 3 n) _ (stop-at 3 n (omega arith) (omega arith)) (stop-calls n _)

stop-line : (n : ℕ) (r : HallReading) (l : List ℕ) → StopsHall n r → StopsHall n (hall_line n r l)
unfolding hall_line hall_head led_line
stop-line n (hall_stopped q m) l s = s
stop-line n hall_unread l s =
    stop-if n (not (is_line_of "HALL" 2 (fields l))) (hall_stopped 2 n) _ (stop-at 2 n (omega arith) (omega arith))
    (stop-if n (not (within 2 4 (at (fields l) 1) && within 1 999999999 (at (fields l) 2))) (hall_stopped 3 n) _ (stop-at 3 n (omega arith) (omega arith)) (stop-in n _ unread (stops-none n)))
stop-line n (in_catalogue K r) l s = stop-taken n K (line (limits_left K.books) n r l) (stops-line (limits_left K.books) n r l (in-stop n K r s))
stop-line n (in_calls K) l s =
    stop-if n (full_hall K) (hall_stopped 7 n) _ (stop-at 7 n (omega arith) (omega arith))
    (stop-if n (not (is_number (get_or (fields l) 0 []))) (hall_stopped 2 n) _ (stop-at 2 n (omega arith) (omega arith)) (stop-led n K (at (fields l) 0) (asked (drop 1 (fields l)))))

stop-ending : (n : ℕ) (r : HallReading) (l : List ℕ) → StopsHall n r → StopsHall n (hall_ending n r l)
unfolding hall_ending
stop-ending n (hall_stopped q m) l s = s
stop-ending n hall_unread l s = stop-at 2 n (omega arith) (omega arith)
stop-ending n (in_catalogue K r) l s = stop-at 2 n (omega arith) (omega arith)
stop-ending n (in_calls K) [] s = s
stop-ending n (in_calls K) (b ∷ bs) s = stop-if n (full_hall K) (hall_stopped 7 n) (hall_stopped 2 n) (stop-at 7 n (omega arith) (omega arith)) (stop-at 2 n (omega arith) (omega arith))

stop-lines : (n : ℕ) (r : HallReading) (ls : List (List ℕ)) → StopsHall n r → StopsHall (n + (length ls - 1)) (hall_lines n r ls)
unfolding hall_lines
stop-lines n r [] s = stop-later n _ r (omega arith) s
stop-lines n r (l ∷ []) s = stop-later n _ (hall_ending n r l) (omega arith) (stop-ending n r l s)
stop-lines n r (l ∷ (m ∷ ls)) s =
    stop-later (suc n + (length (m ∷ ls) - 1)) _ (hall_lines (suc n) (hall_line n r l) (m ∷ ls)) (omega arith)
    (stop-lines (suc n) (hall_line n r l) (m ∷ ls) (stop-later n (suc n) (hall_line n r l) (omega arith) (stop-line n r l s)))

stop-unread : (n : ℕ) → StopsHall n hall_unread
unfolding StopsHall
stop-unread n = tt

stop-parse : (file : List ℕ) → StopsHall 60001 (parse_hall file)
unfolding parse_hall
stop-parse file = go (ltb 60000 (length file)) refl
  where
    go : (b : Bool) → ltb 60000 (length file) ≡ b → StopsHall 60001 (cond b (hall_stopped 1 0) (hall_lines 1 hall_unread (parts 10 file)))
    go true e = stop-later 0 60001 (hall_stopped 1 0) (omega arith) (stop-at 1 0 (omega arith) (omega arith))
    go false e =
        stop-later (1 + (length (parts 10 file) - 1)) 60001 (hall_lines 1 hall_unread (parts 10 file)) (omega (arith, parts-le 10 file, ltb-false 60000 (length file) e))
        (stop-lines 1 hall_unread (parts 10 file) (stop-unread 1))

pub hall-refused-in : (file : List ℕ) (q n : ℕ) → parse_hall file ≡ hall_stopped q n → (1 ≤ q) × (q ≤ 24) × (n ≤ 60001)
unfolding StopsHall
hall-refused-in file q n e = subst (StopsHall 60001) e (stop-parse file)

pub hall-code-in : (file : List ℕ) → (hall_engine file).code ≤ 24
unfolding hall_engine hall_outcome
hall-code-in file = go (parse_hall file) refl
  where
    go : (r : HallReading) → parse_hall file ≡ r → (hall_outcome r).code ≤ 24
    go hall_unread e = omega arith
    go (in_catalogue K r) e = omega arith
    go (hall_stopped q n) e = (hall-refused-in file q n e).1
    go (in_calls K) e = omega arith

pub hall-engine-fits : (file : List ℕ) → length (hall_engine file).report ≤ 60000
unfolding hall_engine hall_outcome
hall-engine-fits file = go (parse_hall file) refl
  where
    go : (r : HallReading) → parse_hall file ≡ r → length (hall_outcome r).report ≤ 60000
    go hall_unread e = omega (arith, no_le main_limits 2 1 (omega arith) (omega arith))
    go (in_catalogue K r) e = omega (arith, no_le main_limits 2 1 (omega arith) (omega arith))
    go (hall_stopped q n) e = let b = hall-refused-in file q n e in omega (arith, no_le main_limits q n (omega (arith, b.1)) b.2)
    go (in_calls K) e = hall-report-fits K (hall-opens file K e)
