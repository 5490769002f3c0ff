-- A hall's file that is accepted has two to four catalogues, each within the ranges and valid, with at most 1,024 lots, 1,024 buyers and 8,192 marks
-- together, drafts within the limit, and at most 512 call lines that each name a catalogue (hall-opens). So the hall is as Limit wants it (hall-start).
-- Rests on Limit and on guarantees' Ranges. Assumes nothing.
use Rattle.std.specs.Prelude.{ℕ, zero, suc, ◌+◌, ◌-◌, ◌≤◌, ◌<◌, ◌≡◌, refl, Bool, true, false, not, cond, ◌&&◌, ◌||◌, List, [], ◌∷◌, ◌++◌, map, eqb, leb, ltb, length, get_or, drop}
use Rattle.std.proofs.Math.Decide.{dec_lt}
use Rattle.std.proofs.Common.{arith, sym, ap, ◌∙◌, subst, leb-true, leb-false, ltb-true, ltb-false, eqb-true, length-append}
use Rattle.std.proofs.lemmas.Bool.{not-false}
use Rattle.laws.specs.Choice.{and_left, and_right}
use Rattle.laws.specs.Fold.{sum_over, sum_over-more, All, all_more, all-get}
use Rattle.model.specs.Catalogue.{Limits, main_limits, Hypergraph, vertices}
use Rattle.model.specs.Measure.{block_weight}
use Rattle.model.specs.Machine.{fresh}
use Rattle.model.specs.Sale.{Sale, opened, lots_in, marks_in}
use Rattle.model.specs.Grammar.{Fields, at, fields, is_number, is_line_of, within, parts, onto, Book, Reading, unread, reading, stopped, whole, line, Asked, asks, nothing, asked}
use Rattle.model.specs.Hall.{Led, no_desk, desk_bales, bales, lots, marks, fresh_desks}
use Rattle.model.specs.HallText.{HallBook, HallReading, hall_unread, in_catalogue, in_calls, hall_stopped, hall_head, limits_left, graphs, drafts_over, with_book, taken, with_led, full_hall, led_line, hall_line, hall_ending, hall_lines, parse_hall}
use Rattle.model.specs.HallDemand.{AllLed}
use Rattle.guarantees.specs.Reading.{within-range, Good, good-line, good-unread, read-good}
use Rattle.guarantees.specs.Loads.{Loaded, loaded-wide, Read, read_keeps, loaded-sale, none_over}
use Rattle.guarantees.specs.Ranges.{Few, Ranges, read-ranges, ranges-wide}
use Rattle.guarantees.specs.Reached.{Valid, all-lots, valid-opened}
use Rattle.hall_guarantees.specs.Limit.{HallFine, past-blocks}

-- a catalogue that has been read
pub record Whole (k : Book) : Type 0 where
  pub loads : Loaded main_limits k.graph
  pub valid : Valid main_limits (opened k.graph)
  pub lots-are : lots_in k.graph ≡ k.lots
  pub nets-are : length k.graph.nets ≡ k.buyers
  pub marks-are : marks_in k.graph ≡ k.marks

-- several, one after another
pub record Stocked (ks : List Book) : Type 0 where
  pub each : All ks Whole
  pub lots-sum : sum_over ks (λ k. k.lots) ≤ 1024
  pub buyers-sum : sum_over ks (λ k. k.buyers) ≤ 1024
  pub marks-sum : sum_over ks (λ k. k.marks) ≤ 8192

-- the first line
pub record Announced (K : HallBook) : Type 0 where
  pub some : 2 ≤ K.announced
  pub few : K.announced ≤ 4
  pub limit-low : 1 ≤ K.limit
  pub limit-high : K.limit ≤ 999999999

-- in a catalogue
record Begun (K : HallBook) (r : Reading) : Type 0 where
  announced : Announced K
  stocked : Stocked K.books
  more : length K.books < K.announced
  part : Good (limits_left K.books) (Read (limits_left K.books)) (read_keeps (limits_left K.books)) r

-- all catalogues are there
pub record Opened (K : HallBook) : Type 0 where
  pub announced : Announced K
  pub stocked : Stocked K.books
  pub all_there : length K.books ≡ K.announced
  pub drafts : drafts_over K.limit (graphs K) ≡ false
  pub leads : AllLed K.announced K.calls
  pub calls-few : length K.calls ≤ 512

-- (no abbreviation: what it is of is then read off from its type)
GoodHall : HallReading → Type 0
GoodHall hall_unread = Unit {0}
GoodHall (in_catalogue K r) = Begun K r
GoodHall (in_calls K) = Opened K
GoodHall (hall_stopped q n) = Unit {0}

good-stop : (q n : ℕ) → GoodHall (hall_stopped q n)
unfolding GoodHall
good-stop q n = tt

good-begun : (K : HallBook) (r : Reading) → Begun K r → GoodHall (in_catalogue K r)
unfolding GoodHall
good-begun K r g = g

good-open : (K : HallBook) → Opened K → GoodHall (in_calls K)
unfolding GoodHall
good-open K g = g

good-if : (b : Bool) (x y : HallReading) → (b ≡ true → GoodHall x) → (b ≡ false → GoodHall y) → GoodHall (cond b x y)
good-if true x y f g = f refl
good-if false x y f g = g refl

good-or : (b : Bool) (q n : ℕ) (y : HallReading) → (b ≡ false → GoodHall y) → GoodHall (cond b (hall_stopped q n) y)
good-or b q n y f = good-if b (hall_stopped q n) y (λ _. good-stop q n) f

-- ---- the first line
stocked-none : Stocked []
unfolding sum_over
stocked-none = record { each = tt; lots-sum = omega arith; buyers-sum = omega arith; marks-sum = omega arith }

good-head : (n : ℕ) (fs : Fields) → GoodHall (hall_head n fs)
unfolding hall_head
good-head n fs =
    good-or (not (is_line_of "HALL" 2 fs)) 2 n _
    (λ _. good-or (not (within 2 4 (at fs 1) && within 1 999999999 (at fs 2))) 3 n _
    (λ q.
    let w = not-false _ q in
    let a = within-range 2 4 (at fs 1) (and_left _ _ w) in
    let b = within-range 1 999999999 (at fs 2) (and_right (within 2 4 (at fs 1)) _ w) in
    good-begun _ _ (record { announced = record { some = a.0; few = a.1; limit-low = b.0; limit-high = b.1 }; stocked = stocked-none; more = omega (arith, a.0); part = good-unread _ _ _ })))

-- ---- one catalogue more
few-left : (ks : List Book) → Few (limits_left ks)
unfolding limits_left
few-left ks = record { nets-few = omega arith; pins-few = omega arith }

whole-read : (ks : List Book) (k : Book) → Read (limits_left ks) k → whole k ≡ true → Whole k
unfolding limits_left marks_in
whole-read ks k r w =
    let h = k.graph in
    let n = eqb-true (vertices h) k.lots (and_left _ _ w) in
    record {
      loads = loaded-wide (limits_left ks) main_limits (omega arith) h r.loads;
      valid = valid-opened main_limits h (ranges-wide (limits_left ks) main_limits (omega arith) (omega arith) h (read-ranges (limits_left ks) (few-left ks) k r w)) (loaded-sale r.loads);
      lots-are = all-lots main_limits h (loaded-sale r.loads) ∙ n;
      nets-are = eqb-true (length h.nets) k.buyers (and_right (eqb (vertices h) k.lots) _ w);
      marks-are = r.sized.marks-are;
    }

stocked-more : (ks : List Book) (k : Book) → Stocked ks → Read (limits_left ks) k → whole k ≡ true → Stocked (ks ++ (k ∷ []))
unfolding limits_left
stocked-more ks k s r w = record {
  each = all_more ks Whole k s.each (whole-read ks k r w);
  lots-sum = omega (arith, sum_over-more ks k (λ k. k.lots), s.lots-sum, r.sized.lots-high);
  buyers-sum = omega (arith, sum_over-more ks k (λ k. k.buyers), s.buyers-sum, r.sized.buyers-high);
  marks-sum = omega (arith, sum_over-more ks k (λ k. k.marks), s.marks-sum, r.sized.marks-high);
}

good-with : (n : ℕ) (K : HallBook) (k : Book) → Begun K (reading k) → whole k ≡ true → GoodHall (with_book n K k)
unfolding with_book
good-with n K k g w =
    let L : HallBook = record { announced = K.announced; limit = K.limit; books = K.books ++ (k ∷ []); calls = [] } in
    let s = stocked-more K.books k g.stocked (read-good _ _ _ k g.part) w in
    let a : Announced L = record { some = g.announced.some; few = g.announced.few; limit-low = g.announced.limit-low; limit-high = g.announced.limit-high } in
    let longer = length-append K.books (k ∷ []) in
    good-if (ltb (length L.books) L.announced) _ _ (λ t. good-begun L unread (record { announced = a; stocked = s; more = ltb-true _ _ t; part = good-unread _ _ _ }))
    (λ t. good-or (drafts_over L.limit (graphs L)) 24 n _
    (λ d. good-open L (record { announced = a; stocked = s; all_there = omega (arith, longer, g.more, ltb-false (length L.books) L.announced t); drafts = d; leads = tt; calls-few = omega arith })))

good-taken : (n : ℕ) (K : HallBook) (r : Reading) → Begun K r → GoodHall (taken n K r)
unfolding taken
good-taken n K (stopped q m) g = good-stop q m
good-taken n K unread g = good-begun K unread g
good-taken n K (reading k) g = good-if (whole k) _ _ (λ w. good-with n K k g w) (λ w. good-begun K (reading k) g)

-- ---- a call line
good-led : (n : ℕ) (K : HallBook) (c : ℕ) (a : Asked) → Opened K → length K.calls < 512 → GoodHall (with_led n K c a)
unfolding with_led
good-led n K c nothing g l = good-stop 2 n
good-led n K c (asks ask) g l =
    good-or (not (within 1 K.announced c)) 3 n _
    (λ q.
    let i = within-range 1 K.announced c (not-false _ q) in
    good-open _ (record {
      announced = record { some = g.announced.some; few = g.announced.few; limit-low = g.announced.limit-low; limit-high = g.announced.limit-high };
      stocked = g.stocked;
      all_there = g.all_there;
      drafts = g.drafts;
      leads = all_more K.calls _ (record { desk = c; ask = ask }) g.leads i;
      calls-few = omega (arith, length-append K.calls (record { desk = c; ask = ask } ∷ []));
    }))

good-hall-line : (n : ℕ) (r : HallReading) (l : List ℕ) → GoodHall r → GoodHall (hall_line n r l)
unfolding hall_line led_line GoodHall
good-hall-line n (hall_stopped q m) l g = tt
good-hall-line n hall_unread l g = good-head n (fields l)
good-hall-line n (in_catalogue K r) l g = good-taken n K (line (limits_left K.books) n r l) (record { announced = g.announced; stocked = g.stocked; more = g.more; part = good-line _ _ _ n r l g.part })
good-hall-line n (in_calls K) l g =
    good-or (full_hall K) 7 n _
    (λ q. good-or (not (is_number (get_or (fields l) 0 []))) 2 n _
    (λ _. good-led n K (at (fields l) 0) (asked (drop 1 (fields l))) g (leb-false 512 (length K.calls) q)))

good-ending : (n : ℕ) (r : HallReading) (l : List ℕ) → GoodHall r → GoodHall (hall_ending n r l)
unfolding hall_ending
good-ending n (hall_stopped q m) l g = good-stop q m
good-ending n hall_unread l g = good-stop 2 n
good-ending n (in_catalogue K r) l g = good-stop 2 n
good-ending n (in_calls K) [] g = g
good-ending n (in_calls K) (b ∷ bs) g = good-or (full_hall K) 7 n _ (λ _. good-stop 2 n)

good-lines : (n : ℕ) (r : HallReading) (ls : List (List ℕ)) → GoodHall r → GoodHall (hall_lines n r ls)
unfolding hall_lines
good-lines n r [] g = g
good-lines n r (l ∷ []) g = good-ending n r l g
good-lines n r (l ∷ (m ∷ ls)) g = good-lines (suc n) (hall_line n r l) (m ∷ ls) (good-hall-line n r l g)

good-unread-hall : GoodHall hall_unread
unfolding GoodHall
good-unread-hall = tt

pub hall-opens : (file : List ℕ) (K : HallBook) → parse_hall file ≡ in_calls K → Opened K
unfolding parse_hall GoodHall
hall-opens file K q = subst GoodHall q (good-or (ltb 60000 (length file)) 1 0 _ (λ _. good-lines 1 hall_unread (parts 10 file) good-unread-hall))

-- ---- the hall as loading leaves it
fresh-valid : (ks : List Book) → All ks Whole → All (fresh_desks (map (λ k. k.graph) ks)) (Valid main_limits)
unfolding fresh_desks
fresh-valid [] a = tt
fresh-valid (k ∷ ks) a = (a.0.valid, fresh-valid ks a.1)

fresh-lots : (ks : List Book) → All ks Whole → lots (fresh_desks (map (λ k. k.graph) ks)) ≡ sum_over ks (λ k. k.lots)
unfolding fresh_desks lots sum_over
fresh-lots [] a = refl
fresh-lots (k ∷ ks) a = omega (arith, a.0.lots-are, fresh-lots ks a.1)

fresh-marks : (ks : List Book) → All ks Whole → marks (fresh_desks (map (λ k. k.graph) ks)) ≡ sum_over ks (λ k. k.marks)
unfolding fresh_desks marks sum_over
fresh-marks [] a = refl
fresh-marks (k ∷ ks) a = omega (arith, a.0.marks-are, fresh-marks ks a.1)

fresh-nets : (ks : List Book) → All ks Whole → sum_over (fresh_desks (map (λ k. k.graph) ks)) (λ a. length a.graph.nets) ≡ sum_over ks (λ k. k.buyers)
unfolding fresh_desks sum_over
fresh-nets [] a = refl
fresh-nets (k ∷ ks) a = omega (arith, a.0.nets-are, fresh-nets ks a.1)

-- no catalogue has a session past the sixteenth
no-bales : (ds : List Sale) (t : ℕ) → All ds (Valid main_limits) → 16 < t → bales ds t ≡ 0
unfolding bales sum_over
no-bales [] t a l = refl
no-bales (d ∷ ds) t a l = omega (arith, no-bales ds t a.1 l, past-blocks d.graph d.state.stack d.state.block t a.0.held.legal.placed (omega (arith, l, a.0.ranges.loaded.blocks-high)))

pub fresh-length : (hs : List Hypergraph) → length (fresh_desks hs) ≡ length hs
unfolding fresh_desks
fresh-length [] = refl
fresh-length (h ∷ hs) = ap suc (fresh-length hs)

pub hall-start : (K : HallBook) → Opened K → HallFine K.limit (fresh_desks (graphs K))
unfolding drafts_over
hall-start K g =
    let a = fresh-valid K.books g.stocked.each in
    record {
      valid = λ d l. all-get (fresh_desks (graphs K)) (Valid main_limits) no_desk a d l;
      within = λ t l. go a t l (dec_lt 16 t);
      lots-few = omega (arith, fresh-lots K.books g.stocked.each, g.stocked.lots-sum);
      marks-few = omega (arith, fresh-marks K.books g.stocked.each, g.stocked.marks-sum);
      nets-few = omega (arith, fresh-nets K.books g.stocked.each, g.stocked.buyers-sum);
    }
  where
    go : All (fresh_desks (graphs K)) (Valid main_limits) → (t : ℕ) → 1 ≤ t → Dec (16 < t) → bales (fresh_desks (graphs K)) t ≤ K.limit
    go a t l (yes p) = omega (arith, no-bales (fresh_desks (graphs K)) t a p)
    go a t l (no n) = ltb-false K.limit (bales (fresh_desks (graphs K)) t) (none_over main_limits 16 (λ t. ltb K.limit (bales (fresh_desks (graphs K)) t)) g.drafts t l (omega (arith, n)))
