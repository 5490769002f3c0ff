-- The order of moves in a hall (M-110): call lines of accepted moves, of any of the catalogues, that continue one list and leave each lot of each catalogue in
-- the same session leave the same in every set of tables, the same joins and the same totals (order-of-sets, order-in-halls); two moves of different
-- lots, or in different catalogues, accepted in either order, are such lists (either_order). Rests on Refused and on guarantees' Order. Assumes nothing.
use Rattle.std.specs.Prelude.{ℕ, zero, suc, ◌-◌, ◌≤◌, ◌<◌, ◌≡◌, refl, true, List, [], ◌∷◌, ◌++◌, length, get_or}
use Rattle.std.proofs.Math.Decide.{ℕ_discrete}
use Rattle.std.proofs.Common.{arith, sym, ap, ap₂, ◌∙◌, subst, true≢false, length-append, get_or-set_same}
use Rattle.laws.specs.Fold.{All}
use Rattle.laws.specs.Place.{place, place-swap}
use Rattle.model.specs.Catalogue.{main_limits, Net, Hypergraph, capacities}
use Rattle.model.specs.Measure.{Contraction, representative, connectivity, metric}
use Rattle.model.specs.Machine.{call_j, call_s, call_m, call_b, call_w, call_p, call_a, Move, State, settle, refuses_m, does_m}
use Rattle.model.specs.Sale.{Request, runs, call_x, call_n, Sale, ran, total_of}
use Rattle.model.specs.Report.{digits, row, refusal, lot_rows, buy_rows, closing}
use Rattle.model.specs.Engine.{draft_total}
use Rattle.model.specs.Memory.{Tables, Holds}
use Rattle.model.specs.Order.{is_move, asks_move, session_of}
use Rattle.model.specs.Hall.{Beside, first_of, over_limit, refuses_beside_m, call_beside, turn_beside, Led, no_desk, desk_of, beside, led_turn, led_to, hall_after, fresh_desks, closings}
use Rattle.model.specs.HallText.{HallBook, in_calls, graphs, parse_hall}
use Rattle.model.specs.HallDemand.{AcceptedHall, Numbered, AllLed, led, desks_after, desk_after}
use Rattle.model.specs.HallRefused.{SameHall}
use Rattle.model.specs.HallOrder.{AcceptedLedMoves, SameSessionsInHall, OrderInHalls, OrderOfSets, EitherOrderInHall}
use Rattle.guarantees.specs.Reached.{Valid}
use Rattle.guarantees.specs.Order.{Places, places-M, OnlyMoved, none-moved, moved_on, one-moved, same_graph, same-stack, same_block, same_total, same_tables}
use Rattle.hall_guarantees.specs.Limit.{led-length}
use Rattle.hall_guarantees.specs.Loading.{hall-opens, fresh-length}
use Rattle.hall_guarantees.specs.Apart.{own_alone}
use Rattle.hall_guarantees.specs.Half.{hall-length, desk-valid}
use Rattle.hall_guarantees.specs.Fits.{graphs-length}
use Rattle.hall_guarantees.specs.Refused.{left_in, same_left}

-- ---- accepted moves
-- an accepted M beside others places one vertex
places : (o : Beside) (a : Sale) (v t : ℕ) → refusal (turn_beside o a (runs (call_m v t))).answer ≡ 0 → Places a.graph a.state (turn_beside o a (runs (call_m v t))).sale.state v t
unfolding turn_beside ran call_beside refuses_beside_m settle refusal
places o a v t q = go (refuses_m h (capacities h) s v t) (over_limit o h s _ t) refl q
  where
    h : Hypergraph
    h = a.graph

    s : State
    s = a.state

    go : (n m : ℕ) → refuses_m h (capacities h) s v t ≡ n → refusal (settle (first_of n m) s (does_m h s v t)).answer ≡ 0 → Places h s (settle (first_of n m) s (does_m h s v t)).state v t
    go (suc n) m e q = absurd (omega arith)
    go zero (suc m) e q = absurd (omega arith)
    go zero zero e q = places-M h (capacities h) s v t e

turn_moved : (o : Beside) (a : Sale) (c : Request) → asks_move c ≡ true → refusal (turn_beside o a c).answer ≡ 0 → OnlyMoved a (turn_beside o a c).sale
unfolding asks_move is_move turn_beside ran
turn_moved o a (runs (call_m v t)) m q = one-moved a (turn_beside o a (runs (call_m v t))).sale v t refl refl (places o a v t q)
turn_moved o a (runs (call_j u v)) m q = absurd (true≢false (sym m))
turn_moved o a (runs call_s) m q = absurd (true≢false (sym m))
turn_moved o a (runs call_b) m q = absurd (true≢false (sym m))
turn_moved o a (runs (call_w u v)) m q = absurd (true≢false (sym m))
turn_moved o a (runs call_p) m q = absurd (true≢false (sym m))
turn_moved o a (runs call_a) m q = absurd (true≢false (sym m))
turn_moved o a (call_x v) m q = absurd (true≢false (sym m))
turn_moved o a (call_n bales session buyers) m q = absurd (true≢false (sym m))

-- the desk of a call line after it
own-desk : (limit : ℕ) (ds : List Sale) (l : Led) → Numbered (length ds) l.desk → desk_of (led_to limit ds l) l.desk ≡ (led_turn limit ds l).sale
unfolding led_to
own-desk limit ds l n = get_or-set_same ds (l.desk - 1) (led_turn limit ds l).sale no_desk (omega (arith, n.0, n.1))

-- on each desk
led-moved : (limit : ℕ) (ds : List Sale) (l : Led) → Numbered (length ds) l.desk → asks_move l.ask ≡ true → refusal (led_turn limit ds l).answer ≡ 0 → (c : ℕ) → 1 ≤ c → OnlyMoved (desk_of ds c) (desk_of (led_to limit ds l) c)
led-moved limit ds l n m q c low = go (ℕ_discrete c l.desk)
  where
    go : Dec (c ≡ l.desk) → OnlyMoved (desk_of ds c) (desk_of (led_to limit ds l) c)
    go (yes e) =
        subst (λ (d : ℕ). OnlyMoved (desk_of ds d) (desk_of (led_to limit ds l) d)) (sym e)
        (subst (OnlyMoved (desk_of ds l.desk)) (sym (own-desk limit ds l n)) (turn_moved (beside limit ds l.desk) (desk_of ds l.desk) l.ask m q))
    go (no e) = subst (OnlyMoved (desk_of ds c)) (sym (own_alone limit ds l c n.0 low e)) (none-moved (desk_of ds c))

moved : (limit : ℕ) (ds : List Sale) (ms : List Led) → AllLed (length ds) ms → AcceptedLedMoves limit ds ms → (c : ℕ) → 1 ≤ c → OnlyMoved (desk_of ds c) (desk_of (hall_after limit ds ms) c)
unfolding AcceptedLedMoves hall_after
moved limit ds [] a q c l = none-moved (desk_of ds c)
moved limit ds (m ∷ ms) a q c l = moved_on (led-moved limit ds m a.0 q.0 q.1 c l) (moved limit (led_to limit ds m) ms (subst (λ (n : ℕ). AllLed n ms) (sym (led-length limit ds m)) a.1) q.2 c l)

after-append : (limit : ℕ) (ds : List Sale) (before ms : List Led) → hall_after limit ds (before ++ ms) ≡ hall_after limit (hall_after limit ds before) ms
unfolding hall_after
after-append limit ds [] ms = refl
after-append limit ds (l ∷ before) ms = after-append limit (led_to limit ds l) before ms

all-behind : {A : Type 0} (P : A → Type 0) (xs ys : List A) → All (xs ++ ys) P → All ys P
all-behind P [] ys a = a
all-behind P (x ∷ xs) ys a = all-behind P xs ys a.1

moved-behind : (limit : ℕ) (hs : List Hypergraph) (before ms : List Led) → AllLed (length hs) (before ++ ms) → AcceptedLedMoves limit (desks_after limit hs before) ms → (c : ℕ) → 1 ≤ c
    → OnlyMoved (desk_after limit hs before c) (desk_after limit hs (before ++ ms) c)
moved-behind limit hs before ms a q c l =
    let many : length (desks_after limit hs before) ≡ length hs = hall-length limit (fresh_desks hs) before ∙ fresh-length hs in
    subst (λ (ds : List Sale). OnlyMoved (desk_after limit hs before c) (desk_of ds c)) (sym (after-append limit (fresh_desks hs) before ms))
    (moved limit (desks_after limit hs before) ms (subst (λ (n : ℕ). AllLed n ms) (sym many) (all-behind (λ l. Numbered (length hs) l.desk) before ms a)) q c l)

-- ---- closing reports go by catalogue, stack and partition
record SameShown (b b' : Sale) : Type 0 where
  graph_same : b'.graph ≡ b.graph
  stack_same : b'.state.stack ≡ b.state.stack
  block_same : b'.state.block ≡ b.state.block

abbrev state_of : List Contraction → (ℕ → ℕ) → List Move → State
state_of cs p ms = record { stack = cs; block = p; journal = ms }

buys-journal : (h : Hypergraph) (cs : List Contraction) (p : ℕ → ℕ) (ms ms' : List Move) (i : ℕ) (es : List Net) → buy_rows h (state_of cs p ms) i es ≡ buy_rows h (state_of cs p ms') i es
unfolding buy_rows
buys-journal h cs p ms ms' i [] = refl
buys-journal h cs p ms ms' i (e ∷ es) = ap (λ (r : List ℕ). row "BUY" (digits i ∷ digits (connectivity h cs p e) ∷ []) ++ r) (buys-journal h cs p ms ms' (suc i) es)

closing-journal : (draft : ℕ) (h : Hypergraph) (cs : List Contraction) (p : ℕ → ℕ) (ms ms' : List Move) → closing draft h (state_of cs p ms) ≡ closing draft h (state_of cs p ms')
unfolding closing lot_rows
closing-journal draft h cs p ms ms' = ap (λ (r : List ℕ). row "TOTAL" (digits draft ∷ digits (metric h cs p) ∷ []) ++ lot_rows h (state_of cs p ms) ++ r) (buys-journal h cs p ms ms' 1 h.nets)

closing_same : (draft : ℕ) (b b' : Sale) → SameShown b b' → closing draft b'.graph b'.state ≡ closing draft b.graph b.state
closing_same draft b b' s =
    (λ i. closing draft (s.graph_same i) (state_of (s.stack_same i) (s.block_same i) b'.state.journal))
    ∙ closing-journal draft b.graph b.state.stack b.state.block b'.state.journal b.state.journal

closings-same : (hs : List Hypergraph) (ds ds' : List Sale) → length ds' ≡ length ds → ((d : ℕ) → d < length ds → SameShown (get_or ds d no_desk) (get_or ds' d no_desk)) → closings hs ds' ≡ closings hs ds
unfolding closings
closings-same [] ds ds' e s = refl
closings-same (h ∷ hs) [] [] e s = refl
closings-same (h ∷ hs) [] (b' ∷ ds') e s = absurd (omega (arith, e))
closings-same (h ∷ hs) (b ∷ ds) [] e s = absurd (omega (arith, e))
closings-same (h ∷ hs) (b ∷ ds) (b' ∷ ds') e s = ap₂ (λ (x y : List ℕ). x ++ y) (closing_same (draft_total h) b b' (s 0 (omega arith))) (closings-same hs ds ds' (omega (arith, e)) (λ d l. s (suc d) (omega arith)))

-- ---- two lists of moves behind one list from loading
module _ (limit : ℕ) (hs : List Hypergraph) (ok : AcceptedHall limit hs) (before moves moves' : List Led) (a : AllLed (length hs) (before ++ moves)) (a' : AllLed (length hs) (before ++ moves')) (s : SameSessionsInHall limit hs before moves moves') where
  module _ (c : ℕ) (n : Numbered (length hs) c) where
    abbrev start : Sale
    start = desk_after limit hs before c

    abbrev one_end : Sale
    one_end = desk_after limit hs (before ++ moves) c

    abbrev other-end : Sale
    other-end = desk_after limit hs (before ++ moves') c

    one-moves : OnlyMoved start one_end
    one-moves = moved-behind limit hs before moves a s.accepted c n.0

    other-moves : OnlyMoved start other-end
    other-moves = moved-behind limit hs before moves' a' s.accepted' c n.0

    one-valid : Valid main_limits one_end
    one-valid = desk-valid limit hs ok (before ++ moves) a c n

    other-valid : Valid main_limits other-end
    other-valid = desk-valid limit hs ok (before ++ moves') a' c n

    ends-tables : {old t t' : Tables} → Holds one_end old t → Holds other-end old t' → t' ≡ t
    ends-tables = same_tables start one_end other-end one-moves other-moves one-valid.held.legal.placed other-valid.held.legal.placed (λ v. s.sessions c v n)

    ends-total : total_of other-end ≡ total_of one_end
    ends-total = same_total start one_end other-end one-moves other-moves one-valid.held.legal.placed other-valid.held.legal.placed (λ v. s.sessions c v n)

    ends-shown : SameShown one_end other-end
    ends-shown = record {
      graph_same = same_graph start one_end other-end one-moves other-moves one-valid.held.legal.placed other-valid.held.legal.placed (λ v. s.sessions c v n);
      stack_same = same-stack start one_end other-end one-moves other-moves one-valid.held.legal.placed other-valid.held.legal.placed (λ v. s.sessions c v n);
      block_same = same_block start one_end other-end one-moves other-moves one-valid.held.legal.placed other-valid.held.legal.placed (λ v. s.sessions c v n);
    }

  ends-closings : closings hs (desks_after limit hs (before ++ moves')) ≡ closings hs (desks_after limit hs (before ++ moves))
  ends-closings =
      let many = hall-length limit (fresh_desks hs) (before ++ moves) in
      let many' = hall-length limit (fresh_desks hs) (before ++ moves') in
      closings-same hs (desks_after limit hs (before ++ moves)) (desks_after limit hs (before ++ moves')) (many' ∙ sym many)
      (λ d l.
      let down : suc d - 1 ≡ d = omega arith in
      subst (λ (i : ℕ). SameShown (get_or (desks_after limit hs (before ++ moves)) i no_desk) (get_or (desks_after limit hs (before ++ moves')) i no_desk)) down
      (ends-shown (suc d) (omega arith, omega (arith, l, many, fresh-length hs))))

pub order-of-sets : OrderOfSets
order-of-sets limit hs before moves moves' c old t t' ok a a' s n x y = record {
  tables = ends-tables limit hs ok before moves moves' a a' s c n x y;
  joins = (ends-shown limit hs ok before moves moves' a a' s c n).stack_same;
  totals = ends-total limit hs ok before moves moves' a a' s c n;
}

-- ---- the hall's entry
pub order-in-halls : OrderInHalls
order-in-halls file file' K K' old new new' code written code' written' before moves moves' p p' e g l q q' s a b =
    let ok : AcceptedHall K.limit (graphs K) = record { file = file; book = K; loads = p; limit_is = refl; graphs-are = refl } in
    let leads : AllLed (length (graphs K)) (before ++ moves) = subst (AllLed (length (graphs K))) q (leads-in file K p) in
    let leads' : AllLed (length (graphs K)) (before ++ moves') = subst (AllLed (length (graphs K))) q' (subst (λ (gs : List Hypergraph). AllLed (length gs) K'.calls) g (leads-in file' K' p')) in
    subst (λ (cs : List Led). SameHall K.limit (graphs K) cs K'.calls new new' written written') (sym q)
    (subst (λ (cs : List Led). SameHall K.limit (graphs K) (before ++ moves) cs new new' written written') (sym q')
    (same_left K.limit (graphs K) (before ++ moves) (before ++ moves') old new new' written written'
    (left_in K.limit (graphs K) (before ++ moves) file K old new code written p l refl refl q a)
    (left_in K.limit (graphs K) (before ++ moves') file' K' old new' code' written' p' l e g q' b)
    (λ c n t t' x y. ends-tables K.limit (graphs K) ok before moves moves' leads leads' s c n x y)
    (ends-closings K.limit (graphs K) ok before moves moves' leads leads' s)))
  where
    leads-in : (file : List ℕ) (K : HallBook) → parse_hall file ≡ in_calls K → AllLed (length (graphs K)) K.calls
    leads-in file K p = let o = hall-opens file K p in subst (λ (n : ℕ). AllLed n K.calls) (sym (graphs-length K.books ∙ o.all_there)) o.leads

-- ---- two moves
-- what an accepted M of a catalogue leaves on a desk: on its own the vertex is placed
record Moves (ds ds' : List Sale) (c v t : ℕ) : Type 0 where
  own : Places (desk_of ds c).graph (desk_of ds c).state (desk_of ds' c).state v t
  others : (x : ℕ) → 1 ≤ x → (x ≡ c → ⊥) → desk_of ds' x ≡ desk_of ds x

moves-M : (limit : ℕ) (ds : List Sale) (c v t : ℕ) → Numbered (length ds) c → refusal (led_turn limit ds (led c (runs (call_m v t)))).answer ≡ 0 → Moves ds (led_to limit ds (led c (runs (call_m v t)))) c v t
moves-M limit ds c v t n q = record {
  own = subst (λ (b : Sale). Places (desk_of ds c).graph (desk_of ds c).state b.state v t) (sym (own-desk limit ds (led c (runs (call_m v t))) n)) (places (beside limit ds c) (desk_of ds c) v t q);
  others = λ x l e. own_alone limit ds (led c (runs (call_m v t))) x n.0 l e;
}

-- two such moves in either order
module _ (ds one two other both : List Sale) (c u a d v b : ℕ) (cl : 1 ≤ c) (dl : 1 ≤ d) (ne : (c ≡ d) × (u ≡ v) → ⊥) (p : Moves ds one c u a) (q : Moves one two d v b) (p' : Moves ds other d v b) (q' : Moves other both c u a) where
  abbrev block_at : List Sale → ℕ → ℕ → ℕ
  block_at es x = (desk_of es x).state.block

  abbrev stack_at : List Sale → ℕ → List Contraction
  stack_at es x = (desk_of es x).state.stack

  abbrev Ends : ℕ → Type 0
  Ends x = (block_at both x ≡ block_at two x) × (stack_at both x ≡ stack_at two x)

  -- both are of the same catalogue
  in_one : c ≡ d → (u ≡ v → ⊥) → Ends c
  in_one e n =
      let q-own = subst (λ (y : ℕ). Places (desk_of one y).graph (desk_of one y).state (desk_of two y).state v b) (sym e) q.own in
      let p-own = subst (λ (y : ℕ). Places (desk_of ds y).graph (desk_of ds y).state (desk_of other y).state v b) (sym e) p'.own in (
        q'.own.placed ∙ ap (λ (f : ℕ → ℕ). place f u a) p-own.placed ∙ place-swap (block_at ds c) v b u a n ∙ sym (q-own.placed ∙ ap (λ (f : ℕ → ℕ). place f v b) p.own.placed),
        q'.own.stack_same ∙ p-own.stack_same ∙ sym (q-own.stack_same ∙ p.own.stack_same),
      )

  -- they are of two
  first_alone : (c ≡ d → ⊥) → Ends c
  first_alone n =
      let w = q.others c cl n in
      let w' = p'.others c cl n in (
        q'.own.placed ∙ ap (λ (z : Sale). place z.state.block u a) w' ∙ sym (ap (λ (z : Sale). z.state.block) w ∙ p.own.placed),
        q'.own.stack_same ∙ ap (λ (z : Sale). z.state.stack) w' ∙ sym (ap (λ (z : Sale). z.state.stack) w ∙ p.own.stack_same),
      )

  second-alone : (d ≡ c → ⊥) → Ends d
  second-alone n =
      let w = p.others d dl n in
      let w' = q'.others d dl n in (
        ap (λ (z : Sale). z.state.block) w' ∙ p'.own.placed ∙ sym (q.own.placed ∙ ap (λ (z : Sale). place z.state.block v b) w),
        ap (λ (z : Sale). z.state.stack) w' ∙ p'.own.stack_same ∙ sym (q.own.stack_same ∙ ap (λ (z : Sale). z.state.stack) w),
      )

  neither : (x : ℕ) → 1 ≤ x → (x ≡ c → ⊥) → (x ≡ d → ⊥) → Ends x
  neither x l n m =
      let z : desk_of both x ≡ desk_of two x = q'.others x l n ∙ p'.others x l m ∙ sym (q.others x l m ∙ p.others x l n) in
      (ap (λ (y : Sale). y.state.block) z, ap (λ (y : Sale). y.state.stack) z)

  same_ends : (x : ℕ) → 1 ≤ x → Ends x
  same_ends x l = go (ℕ_discrete x c) (ℕ_discrete x d)
    where
      go : Dec (x ≡ c) → Dec (x ≡ d) → Ends x
      go (yes e) (yes f) = subst Ends (sym e) (in_one (sym e ∙ f) (λ w. ne (sym e ∙ f, w)))
      go (yes e) (no m) = subst Ends (sym e) (first_alone (λ w. m (e ∙ w)))
      go (no n) (yes f) = subst Ends (sym f) (second-alone (λ w. n (f ∙ w)))
      go (no n) (no m) = neither x l n m

pub either_order : EitherOrderInHall
unfolding AcceptedLedMoves hall_after
either_order limit hs before c u a d v b n m few ne x y =
    let ds : List Sale = desks_after limit hs before in
    let many : length ds ≡ length hs = hall-length limit (fresh_desks hs) before ∙ fresh-length hs in
    let uv : List Led = led c (runs (call_m u a)) ∷ led d (runs (call_m v b)) ∷ [] in
    let vu : List Led = led d (runs (call_m v b)) ∷ led c (runs (call_m u a)) ∷ [] in
    let one : List Sale = led_to limit ds (led c (runs (call_m u a))) in
    let other : List Sale = led_to limit ds (led d (runs (call_m v b))) in
    let p = moves-M limit ds c u a (n.0, omega (arith, n.1, many)) x.1 in
    let q = moves-M limit one d v b (m.0, omega (arith, m.1, many, led-length limit ds (led c (runs (call_m u a))))) x.2.1 in
    let p' = moves-M limit ds d v b (m.0, omega (arith, m.1, many)) y.1 in
    let q' = moves-M limit other c u a (n.0, omega (arith, n.1, many, led-length limit ds (led d (runs (call_m v b))))) y.2.1 in
    let same = same_ends ds one (hall_after limit ds uv) other (hall_after limit ds vu) c u a d v b n.0 m.0 ne p q p' q' in
    record {
      accepted = x;
      accepted' = y;
      few = omega (arith, length-append before uv);
      few' = omega (arith, length-append before vu);
      sessions = λ z w i _ _.
          ap (λ (es : List Sale). session_of (desk_of es z).state w) (after-append limit (fresh_desks hs) before vu)
          ∙ ap₂ (λ (f : ℕ → ℕ) (cs : List Contraction). f (representative cs w)) (same z i.0).0 (same z i.0).1
          ∙ sym (ap (λ (es : List Sale). session_of (desk_of es z).state w) (after-append limit (fresh_desks hs) before uv));
    }
