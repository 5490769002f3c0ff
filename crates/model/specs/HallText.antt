-- Request M-112, the file of a hall: its first line, the catalogues in turn, the call lines with their leads, refusals 2, 3, 7 and 24; and what the
-- engine returns and writes for it. Rests on Grammar, Engine and Hall. Assumes nothing.
use Rattle.std.specs.Prelude.{ℕ, suc, ◌-◌, Bool, false, not, cond, ◌||◌, ◌&&◌, List, [], ◌∷◌, ◌++◌, map, eqb, leb, ltb, length, get_or, drop}
use Rattle.laws.specs.Fold.{sum_over}
use Rattle.laws.specs.Sum.{fold_to}
use Rattle.model.specs.Catalogue.{Limits, main_limits, Hypergraph}
use Rattle.model.specs.Grammar.{Fields, fields, at, value, is_number, is_line_of, within, parts, Book, Reading, unread, reading, stopped, whole, line, Asked, asks, nothing, asked}
use Rattle.model.specs.Report.{digits, row}
use Rattle.model.specs.Engine.{Outcome}
use Rattle.model.specs.Hall.{Led, bales, fresh_desks, hall_run}

-- what has been read: how many catalogues the first line announces, the limit, the catalogues that are whole, in turn, and the calls
pub record HallBook : Type 0 where
  pub announced : ℕ
  pub limit : ℕ
  pub books : List Book
  pub calls : List Led

-- nothing yet; in a catalogue, of which nothing may have been read yet; all catalogues are there; or refused
pub data HallReading : Type 0 where
  hall_unread : HallReading
  in_catalogue : HallBook → Reading → HallReading
  in_calls : HallBook → HallReading
  hall_stopped : ℕ → ℕ → HallReading

-- HALL,catalogues,limit
unfoldable pub hall_head : ℕ → Fields → HallReading
hall_head n fs =
    cond (not (is_line_of "HALL" 2 fs)) (hall_stopped 2 n)
    (cond (not (within 2 4 (at fs 1) && within 1 999999999 (at fs 2))) (hall_stopped 3 n)
    (in_catalogue (record { announced = at fs 1; limit = at fs 2; books = []; calls = [] }) unread))

-- "all catalogues together have at most 1,024 lots, 1,024 buyers and 8,192 marks": what the catalogues so far leave of that
unfoldable pub limits_left : List Book → Limits
limits_left ks = record {
  vertex_limit = main_limits.vertex_limit - sum_over ks (λ k. k.lots);
  block_limit = main_limits.block_limit;
  net_limit = main_limits.net_limit - sum_over ks (λ k. k.buyers);
  pin_limit = main_limits.pin_limit - sum_over ks (λ k. k.marks);
}

abbrev pub graphs : HallBook → List Hypergraph
graphs K = map (λ k. k.graph) K.books

-- the drafts are above the limit together in a session
unfoldable pub drafts_over : ℕ → List Hypergraph → Bool
drafts_over limit hs = fold_to main_limits.block_limit (λ b t. b || ltb limit (bales (fresh_desks hs) t)) false

-- one catalogue more: after the last one, 24
unfoldable pub with_book : ℕ → HallBook → Book → HallReading
with_book n K k =
    let L : HallBook = record { announced = K.announced; limit = K.limit; books = K.books ++ (k ∷ []); calls = [] } in
    cond (ltb (length L.books) L.announced) (in_catalogue L unread)
    (cond (drafts_over L.limit (graphs L)) (hall_stopped 24 n) (in_calls L))

-- after the n-th line, which is one of a catalogue
unfoldable pub taken : ℕ → HallBook → Reading → HallReading
taken n K (stopped q m) = hall_stopped q m
taken n K unread = in_catalogue K unread
taken n K (reading k) = cond (whole k) (with_book n K k) (in_catalogue K (reading k))

-- one call more: 2, or 3 for a lead that names no catalogue
unfoldable pub with_led : ℕ → HallBook → ℕ → Asked → HallReading
with_led n K c nothing = hall_stopped 2 n
with_led n K c (asks ask) =
    cond (not (within 1 K.announced c)) (hall_stopped 3 n)
    (in_calls (record { announced = K.announced; limit = K.limit; books = K.books; calls = K.calls ++ (record { desk = c; ask = ask } ∷ []) }))

-- 512 calls are there
abbrev pub full_hall : HallBook → Bool
full_hall K = leb 512 (length K.calls)

-- a call line, led by a number and a comma: 7 before its form
unfoldable pub led_line : ℕ → HallBook → Fields → HallReading
led_line n K fs =
    cond (full_hall K) (hall_stopped 7 n)
    (cond (not (is_number (get_or fs 0 []))) (hall_stopped 2 n)
    (with_led n K (at fs 0) (asked (drop 1 fs))))

-- the n-th line, which ends in a line feed
unfoldable pub hall_line : ℕ → HallReading → List ℕ → HallReading
hall_line n (hall_stopped q m) l = hall_stopped q m
hall_line n hall_unread l = hall_head n (fields l)
hall_line n (in_catalogue K r) l = taken n K (line (limits_left K.books) n r l)
hall_line n (in_calls K) l = led_line n K (fields l)

-- what stands behind the last line feed
unfoldable pub hall_ending : ℕ → HallReading → List ℕ → HallReading
hall_ending n (hall_stopped q m) l = hall_stopped q m
hall_ending n hall_unread l = hall_stopped 2 n
hall_ending n (in_catalogue K r) l = hall_stopped 2 n
hall_ending n (in_calls K) [] = in_calls K
hall_ending n (in_calls K) (b ∷ bs) = cond (full_hall K) (hall_stopped 7 n) (hall_stopped 2 n)

-- the lines from the n-th on
unfoldable pub hall_lines : ℕ → HallReading → List (List ℕ) → HallReading
hall_lines n r [] = r
hall_lines n r (l ∷ []) = hall_ending n r l
hall_lines n r (l ∷ (m ∷ ls)) = hall_lines (suc n) (hall_line n r l) (m ∷ ls)

-- what a hall's file says
unfoldable pub parse_hall : List ℕ → HallReading
parse_hall file = cond (ltb 60000 (length file)) (hall_stopped 1 0) (hall_lines 1 hall_unread (parts 10 file))

-- ---- what the engine returns and writes, where no lent table is short
abbrev no_hall : Outcome
no_hall = record { code = 2; report = row "NO" (digits 2 ∷ digits 1 ∷ []) }

-- `hall_unread` and `in_catalogue` do not come: a line that is missing is 2
unfoldable pub hall_outcome : HallReading → Outcome
hall_outcome hall_unread = no_hall
hall_outcome (in_catalogue K r) = no_hall
hall_outcome (hall_stopped q n) = record { code = q; report = row "NO" (digits q ∷ digits n ∷ []) }
hall_outcome (in_calls K) = record { code = 0; report = hall_run K.limit (graphs K) K.calls }

unfoldable pub hall_engine : List ℕ → Outcome
hall_engine file = hall_outcome (parse_hall file)
