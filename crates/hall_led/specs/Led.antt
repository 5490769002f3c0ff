-- What the function of a led call line needs and promises: whatever desks the sets stood for, they stand for those that the line leaves, and its answer's line
-- is written behind the catalogue's number. Rests on Desks and Own. Assumes nothing.
use Rattle.std.specs.Prelude.{ℕ, ◌+◌, ◌-◌, ◌<◌, ◌≤◌, ◌≡◌, List, [], ◌∷◌, ◌++◌, length, get_or, set}
use Rattle.std.proofs.Math.Decide.{ℕ_discrete}
use Rattle.std.proofs.Common.{arith, sym, ap, ◌∙◌, subst, length-set, length-append, get_or-set_same, get_or-set_other}
use Rattle.model.specs.Sale.{Request, Sale}
use Rattle.model.specs.Report.{digits, answer_row}
use Rattle.model.specs.Memory.{Tables as MemoryTables}
use Rattle.model.specs.Hall.{Led, no_desk, desk_of, desk_bales, bales, beside, led_turn, led_to}
use Rattle.hall_guarantees.specs.Limit.{HallFine}
use Rattle.fields.specs.Wrote.{Wrote}
use Rattle.fields.proofs.Laws.{wrote-append}
use Rattle.changes.specs.Stands.{all-lots, marks-few}
use Rattle.call_list.specs.declared.course.Course.{Course}
use Rattle.call_list.specs.Point.{Point}
use Rattle.desk_calls.specs.Desk.{Numbers, numbers, Stays, Went}
use Rattle.desk_calls.specs.Desk.{CanStep as CanStepDesk}
use Rattle.hall_rooms.specs.Rooms.{FewBales, Leaves, Least, bearing}
use Rattle.hall_step.specs.Sets.{Sets, Own, set_of, put_set, point_in, Whole, own_put, other-put, whole-put}
use Rattle.hall_step.specs.Step.{CanStep, Stepped}
use Rattle.hall_led.specs.declared.Terms.{Terms}
use Rattle.hall_led.specs.Others.{no_course, lots_beside, marks_beside, Few}
use Rattle.hall_led.specs.Own.{sum_one, desk-settled}
use Rattle.hall_led.specs.Desks.{no_terms, DeskStands, HallStands, bears-as, average-kept, cap-kept, led-fits}

abbrev pub led_by : ℕ → Request → Led
led_by desk ask = record { desk = desk; ask = ask }

-- the line of a led call's answer
abbrev pub led_row : ℕ → List Sale → Led → List ℕ
led_row limit ds l = (digits l.desk ++ (44 ∷ [])) ++ answer_row (led_turn limit ds l).answer

-- how many sessions each catalogue has, as the code keeps it
pub record Counts (ds : List Sale) (count : ℕ) (ks : List ℕ) (ts : List Terms) : Type 0 where
  pub count-is : count ≡ length ds
  pub ks-are : (d : ℕ) → d < length ds → get_or ks d 0 ≡ (get_or ts d no_terms).frame.k

pub record LedReady (H : Sets) (netweights : List (List ℕ)) (limit count : ℕ) (ks : List ℕ) (ts : List Terms) (cs : List Course) (room at : ℕ) (l : Led) : Type 0 where
  pub ds : List Sale
  pub olds : ℕ → MemoryTables
  pub stands : HallStands ds olds H netweights ts cs
  pub fine : HallFine limit ds
  pub counts : Counts ds count ks ts
  pub limit-few : limit ≤ 999999999
  pub low : 1 ≤ l.desk
  pub high : l.desk ≤ count
  pub ks-len : length ks ≡ 4
  pub ts-len : length ts ≡ 4
  pub cs-len : length cs ≡ 4
  pub stack-room : (get_or cs (l.desk - 1) no_course).stack.len < 512
  pub journal-room : (get_or cs (l.desk - 1) no_course).journal.len < 512
  pub free-room : (get_or cs (l.desk - 1) no_course).free.len < 512
  pub fits : at + length (led_row limit ds l) ≤ room

pub record LedDone (H H' : Sets) (netweights : List (List ℕ)) (limit count : ℕ) (ks : List ℕ) (ts : List Terms) (cs cs' : List Course) (l : Led) (out out' : List ℕ) (at at' : ℕ) : Type 0 where
  pub stands : (ds : List Sale) (olds : ℕ → MemoryTables) → HallStands ds olds H netweights ts cs → HallFine limit ds → Counts ds count ks ts → HallStands (led_to limit ds l) olds H' netweights ts cs'
  pub wrote : (ds : List Sale) (olds : ℕ → MemoryTables) → HallStands ds olds H netweights ts cs → HallFine limit ds → Counts ds count ks ts → Wrote out out' at (led_row limit ds l) at'
  pub as_many : length cs' ≡ length cs
  -- no other set changes
  pub kept : (d : ℕ) → (d ≡ l.desk - 1 → ⊥) → set_of d H' ≡ set_of d H

-- ---- one desk changed
-- the own set goes over to the desk's next sale, and no other set or desk changes
stands_after : (limit : ℕ) (l : Led) {H H' : Sets} {netweights : List (List ℕ)} {ts : List Terms} {cs : List Course} {Y : Own} {course : Course} (ds : List Sale) (olds : ℕ → MemoryTables) → HallStands ds olds H netweights ts cs
    → l.desk - 1 < length ds → l.desk - 1 < 4 → length cs ≡ 4 → H' ≡ put_set (l.desk - 1) Y H
    → DeskStands (led_turn limit ds l).sale (olds (l.desk - 1)) Y (get_or netweights (l.desk - 1) []) (get_or ts (l.desk - 1) no_terms) course
    → HallStands (led_to limit ds l) olds H' netweights ts (set cs (l.desk - 1) course)
unfolding led_to
stands_after limit l {H} {H'} {netweights} {ts} {cs} {Y} {course} ds olds r inside four len put own = record {
  whole = subst (λ (X : Sets). Whole X netweights) (sym put) (whole-put (l.desk - 1) Y H r.whole);
  few = simp length-set r.few;
  each = λ d ld. go d (simp length-set at ld) (ℕ_discrete d (l.desk - 1));
}
  where
    c : ℕ
    c = l.desk - 1

    next : Sale
    next = (led_turn limit ds l).sale

    Stood : ℕ → Sale → Own → Course → Type 0
    Stood d a X k = DeskStands a (olds d) X (get_or netweights d []) (get_or ts d no_terms) k

    go : (d : ℕ) → d < length ds → Dec (d ≡ c) → Stood d (get_or (set ds c next) d no_desk) (set_of d H') (get_or (set cs c course) d no_course)
    go d ld (yes e) =
        subst (λ (i : ℕ). Stood i (get_or (set ds c next) i no_desk) (set_of i H') (get_or (set cs c course) i no_course)) (sym e)
        (subst (λ (z : Sale). Stood c z (set_of c H') (get_or (set cs c course) c no_course)) (sym (get_or-set_same ds c next no_desk inside))
        (subst (λ (X : Own). Stood c next X (get_or (set cs c course) c no_course)) (sym (ap (set_of c) put ∙ own_put c Y H four r.whole))
        (subst (Stood c next Y) (sym (get_or-set_same cs c course no_course (omega (arith, four, len)))) own)))
    go d ld (no n) =
        subst (λ (z : Sale). Stood d z (set_of d H') (get_or (set cs c course) d no_course)) (sym (get_or-set_other ds c d next no_desk n))
        (subst (λ (X : Own). Stood d (get_or ds d no_desk) X (get_or (set cs c course) d no_course)) (sym (ap (set_of d) put ∙ other-put c d Y H n))
        (subst (Stood d (get_or ds d no_desk) (set_of d H)) (sym (get_or-set_other cs c d course no_course n)) (r.each d ld)))

-- ---- what the code needs
module _ {H : Sets} {netweights : List (List ℕ)} {limit count : ℕ} {ks : List ℕ} {ts : List Terms} {cs : List Course} {room at : ℕ} {l : Led} (g : LedReady H netweights limit count ks ts cs room at l) where
  abbrev c : ℕ
  c = l.desk - 1

  pub in-range : (c < 4) × (count ≤ 4)
  in-range = omega (arith, g.low, g.high, g.counts.count-is, g.stands.few)

  -- a desk's bales are at most those of all
  desk-le : (t d : ℕ) → d < length g.ds → desk_bales t (get_or g.ds d no_desk) ≤ bales g.ds t
  unfolding bales
  desk-le t d ld = omega (arith, sum_one g.ds d no_desk (desk_bales t) ld)

  pub few-bales : (t : ℕ) → t < 16 → FewBales H.loads ks count t
  few-bales t u d ld =
      let i : d < length g.ds = omega (arith, ld, g.counts.count-is) in
      omega (arith, ap (λ (k : ℕ). bearing (get_or H.loads d []) k t) (g.counts.ks-are d i), bears-as (g.stands.each d i) t, desk-le (t + 1) d i, g.fine.within (t + 1) (omega arith), g.limit-few)

  pub few-lots : Few cs count
  few-lots d ld =
      let w = (g.stands.each d (omega (arith, ld, g.counts.count-is))).goes.stands in
      (omega (arith, all-lots w, w.valid.ranges.vertices-high), marks-few w)

  pub lead-fits : at + length (digits l.desk ++ (44 ∷ [])) ≤ room
  lead-fits = omega (arith, g.fits, length-append (digits l.desk ++ (44 ∷ [])) (answer_row (led_turn limit g.ds l).answer))

  -- the numbers that the code works out
  module _ {rooms ceilings : List ℕ} {lotroom markroom : ℕ} (lv : Leaves limit H.loads ks count c 16 rooms) (le : Least (get_or ts c no_terms).cap rooms 16 ceilings)
      (ql : lotroom ≡ 1024 - lots_beside cs count c) (qm : markroom ≡ 8192 - marks_beside cs count c) where
    abbrev N : Numbers
    N = numbers (get_or ts c no_terms).frame.average lotroom markroom (get_or ts c no_terms).cap ceilings rooms

    stays : (ds : List Sale) (olds : ℕ → MemoryTables) → HallStands ds olds H netweights ts cs → HallFine limit ds → Counts ds count ks ts
        → Stays (beside limit ds l.desk) (desk_of ds l.desk) (olds c) N (point_in (set_of c H) (get_or netweights c []) (get_or ts c no_terms).frame.m (get_or ts c no_terms).frame.k (get_or cs c no_course))
    stays ds olds r f k =
        let high : l.desk ≤ length ds = omega (arith, g.high, k.count-is) in
        record {
          goes = (r.each c (omega (arith, g.low, high))).goes;
          settled = desk-settled limit ds f l.desk g.low high;
          fits = led-fits r l.desk g.low high ks k.ks-are limit
              (subst (λ (n : ℕ). Leaves limit H.loads ks n c 16 rooms) k.count-is lv) le
              (ql ∙ ap (λ (n : ℕ). 1024 - lots_beside cs n c) k.count-is) (qm ∙ ap (λ (n : ℕ). 8192 - marks_beside cs n c) k.count-is);
        }

    -- what `step_on` needs; the lead ends at p
    pub can-step : (course : Course) {p room' : ℕ} → course.at ≡ p → p ≡ at + length (digits l.desk ++ (44 ∷ [])) → room' ≡ room
        → point_in (set_of c H) (get_or netweights c []) (get_or ts c no_terms).frame.m (get_or ts c no_terms).frame.k course ≡ point_in (set_of c H) (get_or netweights c []) (get_or ts c no_terms).frame.m (get_or ts c no_terms).frame.k (get_or cs c no_course)
        → CanStep c H netweights N (get_or ts c no_terms).frame.m (get_or ts c no_terms).frame.k room' l.ask course
    can-step course {p} {room'} e q w same = record {
      whole = g.stands.whole;
      known = in-range.0;
      can = subst (λ (q : Point). CanStepDesk N room' course.at l.ask q) (sym same) (record {
        o = beside limit g.ds l.desk;
        a = desk_of g.ds l.desk;
        old = g.olds c;
        stays = stays g.ds g.olds g.stands g.fine g.counts;
        ceilings-whole = le.len;
        stack-room = g.stack-room;
        journal-room = g.journal-room;
        free-room = g.free-room;
        fits = omega (arith, e, q, w, g.fits, length-append (digits l.desk ++ (44 ∷ [])) (answer_row (led_turn limit g.ds l).answer));
      });
    }

    -- ---- what it does
    pub done : {H' : Sets} {out mid out' : List ℕ} {p : ℕ} (course course' : Course) → Wrote out mid at (digits l.desk ++ (44 ∷ [])) p → length out ≡ room → course.at ≡ p
        → point_in (set_of c H) (get_or netweights c []) (get_or ts c no_terms).frame.m (get_or ts c no_terms).frame.k course ≡ point_in (set_of c H) (get_or netweights c []) (get_or ts c no_terms).frame.m (get_or ts c no_terms).frame.k (get_or cs c no_course)
        → Stepped c H H' netweights N (get_or ts c no_terms).frame.m (get_or ts c no_terms).frame.k l.ask course course' mid out'
        → LedDone H H' netweights limit count ks ts cs (set cs c course') l out out' at course'.at
    done {H'} {out} {mid} {out'} {p} course course' lead ol ep same st = record {
      stands = λ ds olds r f k. after ds olds r f k;
      wrote = λ ds olds r f k. wrote-append (omega (arith, lead-fits, ol)) lead (subst (λ (q : ℕ). Wrote mid out' q (answer_row (led_turn limit ds l).answer) course'.at) ep (went ds olds r f k).wrote);
      as_many = length-set cs c course';
      kept = λ d n. ap (set_of d) st.put ∙ other-put c d st.after H n;
    }
      where
        went : (ds : List Sale) (olds : ℕ → MemoryTables) (r : HallStands ds olds H netweights ts cs) (f : HallFine limit ds) (k : Counts ds count ks ts)
            → Went (beside limit ds l.desk) (desk_of ds l.desk) (olds c) l.ask (point_in st.after (get_or netweights c []) (get_or ts c no_terms).frame.m (get_or ts c no_terms).frame.k course') mid out' course.at course'.at
        went ds olds r f k = st.steps.went (beside limit ds l.desk) (desk_of ds l.desk) (olds c)
            (subst (Stays (beside limit ds l.desk) (desk_of ds l.desk) (olds c) N) (sym same) (stays ds olds r f k))

        after : (ds : List Sale) (olds : ℕ → MemoryTables) → HallStands ds olds H netweights ts cs → HallFine limit ds → Counts ds count ks ts → HallStands (led_to limit ds l) olds H' netweights ts (set cs c course')
        after ds olds r f k = stands_after limit l ds olds r (omega (arith, g.low, g.high, k.count-is)) in-range.0 g.cs-len st.put (record {
          goes = (went ds olds r f k).goes;
          average-is = (r.each c (omega (arith, g.low, g.high, k.count-is))).average-is ∙ sym (average-kept (beside limit ds l.desk) (desk_of ds l.desk) l.ask);
          cap-is = (r.each c (omega (arith, g.low, g.high, k.count-is))).cap-is ∙ sym (cap-kept (beside limit ds l.desk) (desk_of ds l.desk) l.ask);
        })
