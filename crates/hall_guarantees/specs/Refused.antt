-- A refused call line of a hall leaves its sale (refused-turn) and so all desks (refused-led), a list of call lines and the same list without its refused ones
-- end in the same desks (after-accepted), and what the hall's entry promises leaves it no choice: a refused call line changes nothing in lent memory
-- (refused-change-nothing). Rests on Half and on guarantees' Refused and Determined. Assumes nothing.
use Rattle.std.specs.Prelude.{ℕ, zero, suc, ◌-◌, ◌≤◌, ◌<◌, ◌≡◌, refl, Bool, true, List, [], ◌∷◌, ◌++◌, length, set, take, drop}
use Rattle.std.proofs.Math.Decide.{dec_lt}
use Rattle.std.proofs.Common.{arith, sym, ap, ◌∙◌, subst}
use Rattle.std.proofs.lemmas.List.{set-get_or}
use Rattle.std.proofs.Math.Seq.{take-append_seam, drop-append_seam}
use Rattle.model.specs.Catalogue.{Hypergraph}
use Rattle.model.specs.Machine.{Call, call_j, call_s, call_m, call_b, call_w, call_p, call_a, Move, State, settle, does_m, does_b}
use Rattle.model.specs.Sale.{Request, runs, call_x, call_n, Sale, refuses_x, does_x, does_n, ran}
use Rattle.model.specs.Report.{refusal}
use Rattle.model.specs.Memory.{Tables, Holds, Written}
use Rattle.model.specs.Demand.{Standing, Stands}
use Rattle.model.specs.Hall.{Beside, ceiling_beside, refuses_beside_m, refuses_beside_b, refuses_beside_n, call_beside, turn_beside, Led, no_desk, desk_of, beside, led_turn, led_to, hall_after, hall_answers, fresh_desks, closings, hall_run}
use Rattle.model.specs.HallText.{HallBook, HallReading, in_calls, graphs, parse_hall, hall_outcome}
use Rattle.model.specs.HallDemand.{Numbered, desks_after, desk_after, EachSays, HallMemory, long_hall, HallWorked, HallServed, HallServes}
use Rattle.model.specs.HallRefused.{unless_led, accepted_led_from, accepted_led, closings_in, SameHall, RefusedChangeNothingInHall}
use Rattle.guarantees.specs.Determined.{holds_same}
use Rattle.guarantees.specs.Refused.{settle-refused, refused-same, change-refused, stands_same}
use Rattle.hall_guarantees.specs.Loading.{fresh-length}
use Rattle.hall_guarantees.specs.Half.{hall-length}

-- ---- the machine
back-refused : (o : Beside) (h : Hypergraph) (s : State) (ms : List Move) → 1 ≤ refusal (settle (refuses_beside_b o h s ms) s (does_b h s ms)).answer → (settle (refuses_beside_b o h s ms) s (does_b h s ms)).state ≡ s
unfolding refuses_beside_b settle does_b refusal
back-refused o h s [] k = refl
back-refused o h s (m ∷ ms) k = settle-refused (refuses_beside_b o h s (m ∷ ms)) s (does_b h s (m ∷ ms)) refl k

refused-call : (o : Beside) (h : Hypergraph) (s : State) (c : Call) → 1 ≤ refusal (call_beside o h s c).answer → (call_beside o h s c).state ≡ s
unfolding call_beside does_m refusal
refused-call o h s (call_j u v) k = refused-same h (ceiling_beside o h) s (call_j u v) k
refused-call o h s call_s k = refused-same h (ceiling_beside o h) s call_s k
refused-call o h s (call_m v t) k = settle-refused (refuses_beside_m o h s v t) s (does_m h s v t) refl k
refused-call o h s call_b k = back-refused o h s s.journal k
refused-call o h s (call_w u v) k = refused-same h (ceiling_beside o h) s (call_w u v) k
refused-call o h s call_p k = refused-same h (ceiling_beside o h) s call_p k
refused-call o h s call_a k = refused-same h (ceiling_beside o h) s call_a k

-- ---- the sale, and the desks
pub refused-turn : (o : Beside) (a : Sale) (c : Request) → 1 ≤ refusal (turn_beside o a c).answer → (turn_beside o a c).sale ≡ a
unfolding turn_beside ran does_x does_n refusal
refused-turn o a (runs c) k = ap (λ (s : State). record { graph = a.graph; free = a.free; changed = a.changed; state = s }) (refused-call o a.graph a.state c k)
refused-turn o a (call_x v) k = change-refused (refuses_x a.graph a.state v) a (does_x a v) refl k
refused-turn o a (call_n bales session buyers) k = change-refused (refuses_beside_n o a.graph a.state bales session buyers) a (does_n a bales session buyers) refl k

pub refused-led : (limit : ℕ) (ds : List Sale) (l : Led) → 1 ≤ refusal (led_turn limit ds l).answer → led_to limit ds l ≡ ds
unfolding led_to
refused-led limit ds l k = ap (set ds (l.desk - 1)) (refused-turn (beside limit ds l.desk) (desk_of ds l.desk) l.ask k) ∙ set-get_or ds (l.desk - 1) no_desk

-- ---- a list without its refused call lines
accepted-step : (limit : ℕ) (ds : List Sale) (l : Led) (rest : List Led) (z : List Sale) → hall_after limit (led_to limit ds l) rest ≡ z → (q : ℕ) → refusal (led_turn limit ds l).answer ≡ q → hall_after limit ds (unless_led q l rest) ≡ z
unfolding hall_after unless_led
accepted-step limit ds l rest z ih zero e = ih
accepted-step limit ds l rest z ih (suc q) e = ap (λ (y : List Sale). hall_after limit y rest) (sym (refused-led limit ds l (omega (arith, e)))) ∙ ih

pub after-accepted : (limit : ℕ) (ds : List Sale) (ls : List Led) → hall_after limit ds (accepted_led_from limit ds ls) ≡ hall_after limit ds ls
unfolding hall_after accepted_led_from
after-accepted limit ds [] = refl
after-accepted limit ds (l ∷ ls) = accepted-step limit ds l (accepted_led_from limit (led_to limit ds l) ls) (hall_after limit (led_to limit ds l) ls) (after-accepted limit (led_to limit ds l) ls) (refusal (led_turn limit ds l).answer) refl

-- two lists that differ in refused call lines alone end in the same desks
after_same : (limit : ℕ) (hs : List Hypergraph) (ls ls' : List Led) → accepted_led limit hs ls' ≡ accepted_led limit hs ls → desks_after limit hs ls' ≡ desks_after limit hs ls
after_same limit hs ls ls' e = sym (after-accepted limit (fresh_desks hs) ls') ∙ ap (hall_after limit (fresh_desks hs)) e ∙ after-accepted limit (fresh_desks hs) ls

-- ---- what stands is told by the desks
refused-stands : (limit : ℕ) (old : ℕ → Tables) (ds : List Sale) (l : Led) (x y : ℕ → Standing) → EachSays (λ c a z. Stands (old c) a z) ds x → EachSays (λ c a z. Stands (old c) a z) (led_to limit ds l) y
    → 1 ≤ refusal (led_turn limit ds l).answer → (c : ℕ) → Numbered (length ds) c → y c ≡ x c
refused-stands limit old ds l x y p q k c n = stands_same (subst (λ (es : List Sale). EachSays (λ c a z. Stands (old c) a z) es y) (refused-led limit ds l k) q c n) (p c n)

-- ---- the hall's entry
-- what it leaves of a limit, catalogues and call lines that it accepts, in memory that is long enough
pub record LeftOf (limit : ℕ) (hs : List Hypergraph) (calls : List Led) (old new : HallMemory) (written : ℕ) : Type 0 where
  pub tables : (c : ℕ) → Numbered (length hs) c → Holds (desk_after limit hs calls c) (old.sets c) (new.sets c)
  pub past : (c : ℕ) → length hs < c → new.sets c ≡ old.sets c
  pub output : Written (hall_run limit hs calls) old.output new.output written

worked-in : (file : List ℕ) (K : HallBook) (old new : HallMemory) (code written : ℕ) → parse_hall file ≡ in_calls K → long_hall old ≡ true
    → HallServes file old new code written → HallWorked (in_calls K) old new code written
worked-in file K old new code written p l s =
    subst (λ (r : HallReading). HallWorked r old new code written) p
    (subst (λ (b : Bool). HallServed b (parse_hall file) old new code written) l s)

left_by : (K : HallBook) (old new : HallMemory) (code written : ℕ) → HallWorked (in_calls K) old new code written → LeftOf K.limit (graphs K) K.calls old new written
unfolding hall_outcome
left_by K old new code written w = record {
  tables = λ c n.
      let many = hall-length K.limit (fresh_desks (graphs K)) K.calls in
      let x = (w.tables.demand.stands c (n.0, omega (arith, n.1, many, fresh-length (graphs K)))).tables in
      subst (Holds (desk_after K.limit (graphs K) K.calls c) (old.sets c)) (sym (w.tables.told c n)) x;
  past = w.tables.kept;
  output = w.output;
}

pub left_in : (limit : ℕ) (hs : List Hypergraph) (calls : List Led) (file : List ℕ) (K : HallBook) (old new : HallMemory) (code written : ℕ) → parse_hall file ≡ in_calls K → long_hall old ≡ true
    → K.limit ≡ limit → graphs K ≡ hs → K.calls ≡ calls → HallServes file old new code written → LeftOf limit hs calls old new written
left_in limit hs calls file K old new code written p l e g q s =
    subst (λ (n : ℕ). LeftOf n hs calls old new written) e
    (subst (λ (gs : List Hypergraph). LeftOf K.limit gs calls old new written) g
    (subst (λ (cs : List Led). LeftOf K.limit (graphs K) cs old new written) q
    (left_by K old new code written (worked-in file K old new code written p l s))))

-- what is written past the answers are the closing reports
closings-in : (limit : ℕ) (hs : List Hypergraph) (calls : List Led) (old new : List ℕ) (written : ℕ) → Written (hall_run limit hs calls) old new written → closings_in limit hs calls new written ≡ closings hs (desks_after limit hs calls)
unfolding hall_run
closings-in limit hs calls old new written w =
    let lines : List ℕ = hall_answers limit (fresh_desks hs) calls in
    let end : List ℕ = closings hs (desks_after limit hs calls) in
    ap (drop (length lines)) (ap (take written) w.output ∙ ap (λ (n : ℕ). take n ((lines ++ end) ++ drop written old)) w.bytes ∙ take-append_seam (lines ++ end) (drop written old))
    ∙ drop-append_seam lines end

-- two lists after which each catalogue's tables can hold but the same, and whose closing reports are the same
pub same_left : (limit : ℕ) (hs : List Hypergraph) (calls calls' : List Led) (old new new' : HallMemory) (written written' : ℕ) → LeftOf limit hs calls old new written → LeftOf limit hs calls' old new' written'
    → ((c : ℕ) → Numbered (length hs) c → (t t' : Tables) → Holds (desk_after limit hs calls c) (old.sets c) t → Holds (desk_after limit hs calls' c) (old.sets c) t' → t' ≡ t)
    → closings hs (desks_after limit hs calls') ≡ closings hs (desks_after limit hs calls) → SameHall limit hs calls calls' new new' written written'
same_left limit hs calls calls' old new new' written written' p q same shown = record {
  sets = λ c l. go c l (dec_lt (length hs) c);
  closings = closings-in limit hs calls' old.output new'.output written' q.output ∙ shown ∙ sym (closings-in limit hs calls old.output new.output written p.output);
}
  where
    go : (c : ℕ) → 1 ≤ c → Dec (length hs < c) → new'.sets c ≡ new.sets c
    go c l (yes u) = q.past c u ∙ sym (p.past c u)
    go c l (no n) = let i : Numbered (length hs) c = (l, omega (arith, n)) in same c i (new.sets c) (new'.sets c) (p.tables c i) (q.tables c i)

refused-files : (limit : ℕ) (hs : List Hypergraph) (calls calls' : List Led) (old new new' : HallMemory) (written written' : ℕ) → accepted_led limit hs calls' ≡ accepted_led limit hs calls
    → LeftOf limit hs calls old new written → LeftOf limit hs calls' old new' written' → SameHall limit hs calls calls' new new' written written'
refused-files limit hs calls calls' old new new' written written' e p q =
    let end : desks_after limit hs calls' ≡ desks_after limit hs calls = after_same limit hs calls calls' e in
    same_left limit hs calls calls' old new new' written written' p q
    (λ c n t t' x y. holds_same (subst (λ (ds : List Sale). Holds (desk_of ds c) (old.sets c) t') end y) x)
    (ap (closings hs) end)

-- ---- the statement
pub refused-change-nothing : RefusedChangeNothingInHall
refused-change-nothing = record {
  call-leaves = refused-stands;
  files = λ file file' K K' old new new' code written code' written' p p' l e g same a b. refused-files K.limit (graphs K) K.calls K'.calls old new new' written written' same
      (left_in K.limit (graphs K) K.calls file K old new code written p l refl refl refl a)
      (left_in K.limit (graphs K) K'.calls file' K' old new' code' written' p' l e g refl b);
}
