-- X and N beside others: X is the call of a sale by itself, N the one under both limits with what the others leave of lots and marks, in which 14 becomes 25
-- where there is space under the cap. Rests on call_list's Late and on beside's Under. Assumes nothing.
use Rattle.std.specs.Prelude.{ℕ, zero, suc, ◌+◌, ◌-◌, ◌<◌, ◌≤◌, ◌≡◌, Bool, true, false, not, cond, ◌&&◌, ◌||◌, eqb, ltb, length, get_or, replicate}
use Rattle.std.proofs.Math.Decide.{ℕ_discrete}
use native.Mathlib.Omega.{arith}
use Rattle.std.proofs.Math.Path.{refl, sym, ap, ap₂, subst}
use Rattle.std.proofs.Common.{◌∙◌}
use mathlib.Core.List.{List}
use borrow.Author.Tests.{eq-eqb, ne_eqb, leb-true, leb-false, lt-leb, le-leb, not-false}
use Rattle.std.proofs.Math.Dec.{leb}
use Rattle.std.proofs.Math.ListN.{length-replicate}
use Rattle.laws.specs.Choice.{and_left, and_right}
use Rattle.laws.specs.Fold.{all}
use Rattle.model.specs.Catalogue.{main_limits, Hypergraph, is_block, is_net, capacity, capacities}
use Rattle.model.specs.Measure.{block_weight}
use Rattle.model.specs.Machine.{Answer, says_n, State}
use Rattle.model.specs.Sale.{Request, call_x, call_n, Sale, Turn, Space, joins_stand, named_twice, lots_in, marks_in, turned, turn_under, does_n, refuses_n}
use Rattle.model.specs.Report.{refusal, answer_row}
use Rattle.model.specs.Memory.{Tables as MemoryTables}
use Rattle.model.specs.Lent.{Two}
use Rattle.model.specs.Hall.{Beside, leaves, space_beside, ceiling_beside, first_of, over_limit, refuses_beside_n, turn_beside}
use Rattle.guarantees.specs.Caps.{CeilingIs, room-some, room-none}
use Rattle.fields.specs.Wrote.{Wrote}
use Rattle.edit_calls.specs.Steps.{told}
use Rattle.edit_calls.specs.Refusal.{known}
use Rattle.changes.specs.Stands.{Stock, Stands, Turns, all-lots}
use Rattle.index.specs.Indexed.{AllRight}
use Rattle.fixed.specs.Starting.{FixedMarked}
use Rattle.changes.specs.Spared.{Spared}
use Rattle.changes.specs.Adding.{AskN}
use Rattle.beside.specs.Under.{least}
use Rattle.call_list.specs.Point.{Point, GoesOn, Under}
use Rattle.call_list.specs.Point.{CanStep as CanStepAlone, Steps as StepsAlone}
use Rattle.call_list.specs.Late.{goes-changed, no-N, lot-told, lots-turned, turned-refused}
use Rattle.desk_calls.specs.Desk.{Numbers, Stays, CanStep, Went, Steps}

-- ---- X
-- the caps of the sessions
pub caps-are : (h : Hypergraph) (cap : ℕ) → cap ≡ capacity h → h.blocks ≤ 16 → CeilingIs (replicate 16 cap) h (capacities h)
caps-are h cap e few b l u = row (b - 1) 16 (omega arith) ∙ e
  where
    row : (i n : ℕ) → i < n → get_or (replicate n cap) i 0 ≡ cap
    row i zero q = absurd (omega arith)
    row zero (suc n) q = refl
    row (suc i) (suc n) q = row i n (omega arith)

module _ {N : Numbers} {p : Point} where
  alone : {o : Beside} {a : Sale} {old : MemoryTables} → Stays o a old N p → Under main_limits a.graph N.average 1024 (replicate 16 N.cap)
  alone {a = a} y = let r = y.goes.stands.runs.sound.follows in record {
    average-is = y.fits.average-is;
    lots-are = refl;
    ceiling-is = caps-are a.graph N.cap y.fits.rooms-are.cap-is (omega (arith, r.says.all_blocks, r.world.frame.few));
  }

  pub can-alone : {room at v : ℕ} → CanStep N room at (call_x v) p → CanStepAlone N.average 1024 (replicate 16 N.cap) room at (call_x v) p
  unfolding turn_under turn_beside
  can-alone k = record {
    limits = main_limits;
    a = k.a;
    old = k.old;
    goes = k.stays.goes;
    under = alone k.stays;
    ceilings-whole = length-replicate {A = ℕ} 16 N.cap;
    stack-room = k.stack-room;
    journal-room = k.journal-room;
    free-room = k.free-room;
    fits = k.fits;
  }

  pub steps-alone : {p' : Point} {out out' : List ℕ} {at at' v : ℕ} → StepsAlone N.average 1024 (replicate 16 N.cap) (call_x v) p p' out out' at at' → Steps N (call_x v) p p' out out' at at'
  unfolding turn_under turn_beside
  steps-alone s = record { went = λ o a old y. let w = s.went main_limits a old y.goes (alone y) in record { goes = w.goes; wrote = w.wrote } }

-- ---- N: the number of its refusal
-- there is space under the cap
unfoldable pub room_for : (loads : List ℕ) (cap k bales session : ℕ) → Bool
room_for loads cap k bales session = known k session && leb (get_or loads (session - 1) 0 + bales) cap

-- 14 where there is becomes 25
unfoldable pub by_room : Bool → ℕ → ℕ
by_room room q = cond (eqb q 14 && room) 25 q

by-other : (room : Bool) (q : ℕ) → (q ≡ 14 → ⊥) → by_room room q ≡ q
unfolding by_room
by-other room q n = ap (λ (t : Bool). cond (t && room) 25 q) (ne_eqb q 14 n)

by_tests : (p9 p16 p22 p23 a b r : Bool) → (p9 ≡ false → r ≡ a)
    → first_of (cond p9 9 (cond p16 16 (cond p22 22 (cond p23 23 (cond (not a) 14 0))))) (cond b 0 25) ≡ by_room r (cond p9 9 (cond p16 16 (cond p22 22 (cond p23 23 (cond (not (a && b)) 14 0)))))
unfolding by_room
by_tests true p16 p22 p23 a b r e = refl
by_tests false true p22 p23 a b r e = refl
by_tests false false true p23 a b r e = refl
by_tests false false false true a b r e = refl
by_tests false false false false false b r e = rw (e refl)
by_tests false false false false true true r e = refl
by_tests false false false false true false r e = rw (e refl)

-- r is whether there is space under the cap, where that is asked
beside-N : (o : Beside) (h : Hypergraph) (s : State) (bales session : ℕ) (buyers : List ℕ) (r : Bool) → (is_block h session ≡ true → r ≡ leb (block_weight h s.stack s.block session + bales) (capacity h))
    → refuses_beside_n o h s bales session buyers ≡ by_room r (refuses_n (space_beside o) h (ceiling_beside o h) s bales session buyers)
unfolding refuses_beside_n refuses_n over_limit ceiling_beside
beside-N o h s bales session buyers r e =
    let x = block_weight h s.stack s.block session + bales in
    rw (least x (capacity h) (leaves o session))
    (by_tests (not (leb 1 bales && leb bales 65535 && is_block h session && all buyers (is_net h))) (joins_stand s) (named_twice buyers) (leb (space_beside o).lots (lots_in h) || ltb (space_beside o).marks (marks_in h + length buyers))
    (leb x (capacity h)) (leb x (leaves o session)) r (λ q. e (and_right (leb 1 bales && leb bales 65535) (is_block h session) (and_left _ _ (not-false _ q)))))

-- the code's arms
module _ (loads : List ℕ) (cap k bales session : ℕ) where
  pub room-low : session < 1 → false ≡ room_for loads cap k bales session
  unfolding room_for
  room-low l = sym (ap (λ (b : Bool). (b && leb session k) && leb (get_or loads (session - 1) 0 + bales) cap) (lt-leb 1 session l))

  pub room-past : 1 ≤ session → k < session → false ≡ room_for loads cap k bales session
  unfolding room_for
  room-past l u = sym (ap₂ (λ (a b : Bool). (a && b) && leb (get_or loads (session - 1) 0 + bales) cap) (le-leb 1 session l) (lt-leb session k u))

  room_at : 1 ≤ session → session ≤ k → room_for loads cap k bales session ≡ leb (get_or loads (session - 1) 0 + bales) cap
  unfolding room_for
  room_at l u = ap₂ (λ (a b : Bool). (a && b) && leb (get_or loads (session - 1) 0 + bales) cap) (le-leb 1 session l) (le-leb session k u)

  pub room-over : 1 ≤ session → session ≤ k → cap < bales → false ≡ room_for loads cap k bales session
  room-over l u q = room-none (get_or loads (session - 1) 0) bales cap q ∙ sym (room_at l u)

  pub room-left : 1 ≤ session → session ≤ k → bales ≤ cap → leb (get_or loads (session - 1) 0) (cap - bales) ≡ room_for loads cap k bales session
  room-left l u q = room-some (get_or loads (session - 1) 0) bales cap q ∙ sym (room_at l u)

-- by the test that the session is known
pub room-no : (loads : List ℕ) (cap k bales session : ℕ) {r : Bool} → r ≡ known k session → r ≡ false → false ≡ room_for loads cap k bales session
unfolding room_for
room-no loads cap k bales session e z = sym (ap (λ (b : Bool). b && leb (get_or loads (session - 1) 0 + bales) cap) (sym e ∙ z))

pub room-yes : (loads : List ℕ) (cap k bales session : ℕ) {r t : Bool} → r ≡ known k session → r ≡ true → t ≡ leb (get_or loads (session - 1) 0 + bales) cap → t ≡ room_for loads cap k bales session
unfolding room_for
room-yes loads cap k bales session e z f = f ∙ sym (ap (λ (b : Bool). b && leb (get_or loads (session - 1) 0 + bales) cap) (sym e ∙ z))

pub known-session : (k session : ℕ) {r : Bool} → r ≡ known k session → r ≡ true → (1 ≤ session) × (session ≤ k)
known-session k session e z = let y = sym e ∙ z in (leb-true 1 session (and_left _ _ y), leb-true session k (and_right (leb 1 session) _ y))

pub by-not : (room : Bool) (q : ℕ) → (q ≡ 14 → ⊥) → q ≡ by_room room q
by-not room q n = sym (by-other room q n)

pub by-25 : (room : Bool) (q : ℕ) {r : Bool} → r ≡ room → r ≡ true → q ≡ 14 → 25 ≡ by_room room q
unfolding by_room
by-25 room q e z n = sym (ap₂ (λ (a b : Bool). cond (a && b) 25 q) (eq-eqb q 14 n) (sym e ∙ z))

pub by-14 : (room : Bool) (q : ℕ) {r : Bool} → r ≡ room → r ≡ false → q ≡ 14 → 14 ≡ by_room room q
unfolding by_room
by-14 room q e z n = sym (ap₂ (λ (a b : Bool). cond (a && b) 25 q) (eq-eqb q 14 n) (sym e ∙ z) ∙ n)

-- ---- N: its turn
pub by-none : (room : Bool) → by_room room 0 ≡ 0
unfolding by_room
by-none room = refl

pub by-some : (room : Bool) (q : ℕ) → 1 ≤ by_room room q → 1 ≤ q
by-some room zero l = omega (arith, by-none room)
by-some room (suc q) l = omega arith

some-by : (room : Bool) (q : ℕ) → 1 ≤ q → 1 ≤ by_room room q
unfolding by_room
some-by room q l = go (eqb q 14 && room)
  where
    go : (t : Bool) → 1 ≤ cond t 25 q
    go true = omega arith
    go false = l

pub by_zero : (room : Bool) (q : ℕ) → by_room room q ≡ 0 → q ≡ 0
by_zero room zero e = refl
by_zero room (suc q) e = absurd (omega (arith, some-by room (suc q) (omega arith)))

refusal-told : (num : ℕ) (x : Answer) → refusal x ≡ 0 → refusal (told num x) ≡ num
unfolding refusal
refusal-told zero x e = e
refusal-told (suc q) x e = refl

refusal-turned : (q : ℕ) (a : Sale) (done : Turn) → refusal done.answer ≡ 0 → refusal (turned q a done).answer ≡ q
unfolding turned refusal
refusal-turned zero a done e = e
refusal-turned (suc q) a done e = refl

-- a turn by the number of a refusal, and by what 14 becomes
turns-by : (a : Sale) (done : Turn) {S : Two} {K : Stock} (x : Answer) (room : Bool) (num q : ℕ) → num ≡ q → Turns main_limits (turned q a done) S K (told num x) → Turns main_limits (turned (by_room room q) a done) S K (told (by_room room num) x)
unfolding turned
turns-by a done {S} {K} x room num zero e t = record { stands = rw (by-none room) t.stands; says = ap (λ (n : ℕ). told (by_room room n) x) e ∙ ap (λ (n : ℕ). told n x) (by-none room) ∙ sym (ap (λ (n : ℕ). told n x) e) ∙ t.says ∙ sym (ap (λ (n : ℕ). (turned n a done).answer) (by-none room)) }
turns-by a done {S} {K} x room num (suc q) e t = go (by_room room (suc q)) refl (some-by room (suc q) (omega arith))
  where
    go : (n : ℕ) → by_room room (suc q) ≡ n → 1 ≤ n → Turns main_limits (turned (by_room room (suc q)) a done) S K (told (by_room room num) x)
    go zero z l = absurd (omega arith)
    go (suc n) z l = rw (e, z) (record { stands = t.stands; says = refl })

-- what `call_add` is told of the sale
lesser-low : (a b : ℕ) → cond (leb a b) a b ≤ a
lesser-low a b = go (leb a b) refl
  where
    go : (t : Bool) → leb a b ≡ t → cond t a b ≤ a
    go true e = omega arith
    go false e = omega (arith, leb-false a b e)

pub asks-add : {o : Beside} {a : Sale} {old : MemoryTables} {N : Numbers} {p : Point} {buyers : List ℕ} → Stays o a old N p
    → AskN main_limits a p.stack (ceiling_beside o a.graph) p.stack.len N.ceilings buyers N.lots N.marks p.stock
unfolding ceiling_beside
asks-add {o} {a} y = record {
  stands = y.goes.stands;
  joins-are = refl;
  ceiling-is = y.fits.rooms-are.both;
  ceiling-low = λ b l m. lesser-low (capacity a.graph) (leaves o b);
  lots-low = omega (arith, y.fits.lots-are);
  marks-low = omega (arith, y.fits.marks-are);
}

-- an answer that is the turn's: its line has space
pub add-fits : {N : Numbers} {room at : ℕ} {c : Request} {p : Point} {x : Answer} (k : CanStep N room at c p) → x ≡ (turn_beside k.o k.a c).answer → at + length (answer_row x) ≤ room
add-fits {at = at} k e = omega (arith, k.fits, ap (λ (y : Answer). at + length (answer_row y)) e)

pub told-by : {num q : ℕ} {x : Answer} (y : Answer) → num ≡ q → x ≡ told num y → x ≡ told q y
told-by y e f = f ∙ ap (λ (n : ℕ). told n y) e

-- N beside others, by what `call_add` did: `under` is the turn under both limits
module _ {o : Beside} {a : Sale} {old : MemoryTables} {N : Numbers} {p : Point} (y : Stays o a old N p) (bales session : ℕ) (buyers : List ℕ) (num lot total : ℕ) where
  abbrev under : Turn
  under = turn_under (record { lots = N.lots; marks = N.marks }) (ceiling_beside o a.graph) a (call_n bales session buyers)

  abbrev q : ℕ
  q = refuses_n (space_beside o) a.graph (ceiling_beside o a.graph) a.state bales session buyers

  abbrev done : Turn
  done = does_n a bales session buyers

  module _ {K : Stock} (t : Turns main_limits under p.stack K (told num (says_n lot total))) (same : 1 ≤ num → K ≡ p.stock) where
    by-q : Turns main_limits (turned q a done) p.stack K (told num (says_n lot total))
    unfolding turn_under
    by-q = subst (λ (s : Space). Turns main_limits (turn_under s (ceiling_beside o a.graph) a (call_n bales session buyers)) p.stack K (told num (says_n lot total))) (λ i. record { lots = y.fits.lots-are i; marks = y.fits.marks-are i }) t

    number : num ≡ q
    unfolding does_n refusal
    number = sym (refusal-told num (says_n lot total) (no-N lot total)) ∙ ap refusal by-q.says ∙ refusal-turned q a done refl

    abbrev test : Bool
    test = room_for K.tables.loads N.cap p.stock.tables.k bales session

    -- the test reads the loads after the call, which a refused one leaves
    own_room : num ≡ 14 → is_block a.graph session ≡ true → test ≡ leb (block_weight a.graph a.state.stack a.state.block session + bales) (capacity a.graph)
    unfolding room_for
    own_room e b =
        let s = y.goes.stands.runs.sound in
        let l : 1 ≤ session = leb-true 1 session (and_left _ _ b) in
        let u : session ≤ a.graph.blocks = leb-true session a.graph.blocks (and_right (leb 1 session) _ b) in
        let z : session - 1 + 1 ≡ session = omega arith in
        let loads : K.tables.loads ≡ p.stock.tables.loads = ap (λ (k : Stock). k.tables.loads) (same (omega (arith, e))) in
        ap (λ (w : List ℕ). room_for w N.cap p.stock.tables.k bales session) loads
        ∙ room_at p.stock.tables.loads N.cap p.stock.tables.k bales session l (omega (arith, u, s.follows.says.all_blocks))
        ∙ ap₂ (λ (x c : ℕ). leb (x + bales) c) (s.bears (session - 1) (omega (arith, u, s.follows.says.all_blocks)) ∙ ap (block_weight a.graph a.state.stack a.state.block) z) y.fits.rooms-are.cap-is

    refused_as : refuses_beside_n o a.graph a.state bales session buyers ≡ by_room test q
    refused_as = go (ℕ_discrete num 14)
      where
        real : Bool
        real = leb (block_weight a.graph a.state.stack a.state.block session + bales) (capacity a.graph)

        go : Dec (num ≡ 14) → refuses_beside_n o a.graph a.state bales session buyers ≡ by_room test q
        go (yes e) = beside-N o a.graph a.state bales session buyers test (own_room e)
        go (no e) = beside-N o a.graph a.state bales session buyers real (λ _. refl) ∙ by-other real q (λ z. e (number ∙ z)) ∙ sym (by-other test q (λ z. e (number ∙ z)))

    beside-is : turned (by_room test q) a done ≡ turn_beside o a (call_n bales session buyers)
    unfolding turn_beside
    beside-is = ap (λ (n : ℕ). turned n a done) (sym refused_as)

    turns-beside : Turns main_limits (turned (by_room test q) a done) p.stack K (told (by_room test num) (says_n lot total))
    turns-beside = turns-by a done (says_n lot total) test num q number by-q

    -- the answer is the turn's, and its lot is small
    pub add-says : told (by_room test num) (says_n lot total) ≡ (turn_beside o a (call_n bales session buyers)).answer
    add-says = turns-beside.says ∙ ap (λ (z : Turn). z.answer) beside-is

    pub add_small : by_room test num ≡ 0 → lot ≤ 1025
    add_small = lot-told (by_room test num) lot total bales session buyers (by_room test q) y.goes.stands.valid y.goes.stands.short turns-beside.says

    pub add-stands : Stands main_limits (turn_beside o a (call_n bales session buyers)).sale p.stack K
    add-stands = subst (λ (z : Turn). Stands main_limits z.sale p.stack K) beside-is turns-beside.stands

    pub went-add : {fixedmarks : List ℕ} {x : Answer} {out out' : List ℕ} {at at' : ℕ}
        → (num ≡ 0 → Spared K.marks p.stock.tables K.tables p.stock.fixed K.fixed p.stock.index K.index p.stock.pins K.pins) → K.tables.m ≡ p.stock.tables.m → K.tables.k ≡ p.stock.tables.k
        → (AllRight p.stock.tables.gains p.stock.tables.blocks p.stock.tables.n p.stock.tables.k p.stock.index → AllRight K.tables.gains K.tables.blocks K.tables.n K.tables.k K.index)
        → FixedMarked K.fixed K.tables.n fixedmarks → x ≡ told (by_room test num) (says_n lot total) → Wrote out out' at (answer_row x) at'
        → Went o a old (call_n bales session buyers) (record { stock = K; stack = p.stack; fixedmarks = fixedmarks }) out out' at at'
    unfolding does_n refusal
    went-add {fixedmarks} {x} {out} {out'} {at} {at'} spared m k right marks e w = record {
      goes = subst (λ (z : Turn). GoesOn main_limits z.sale old (record { stock = K; stack = p.stack; fixedmarks = fixedmarks })) beside-is (goes-changed y.goes (by_room test q) done refl refl (record {
        turns = turns-beside;
        no-refusal = no-N lot total;
        same-stack = refl;
        unchanged = λ l. same (by-some test num l);
        spared = λ z. spared (by_zero test num z);
        more = omega (arith, all-lots y.goes.stands, all-lots turns-beside.stands, lots-turned main_limits a bales session buyers (by_room test q));
        m-same = m;
        k-same = k;
        right = right;
        marks = marks;
      }));
      wrote = subst (λ (z : Answer). Wrote out out' at (answer_row z) at') (e ∙ add-says) w;
    }

    -- a refused one leaves what stands for the sale
    pub refused-add : {x : Answer} {out out' : List ℕ} {at at' : ℕ} → 1 ≤ num → x ≡ told (by_room test num) (says_n lot total) → Wrote out out' at (answer_row x) at'
        → Went o a old (call_n bales session buyers) (record { stock = K; stack = p.stack; fixedmarks = p.fixedmarks }) out out' at at'
    unfolding does_n refusal
    refused-add {x} {out} {out'} {at} {at'} l e w = record {
      goes = subst (λ (z : Turn). GoesOn main_limits z.sale old (record { stock = K; stack = p.stack; fixedmarks = p.fixedmarks })) beside-is
          (subst (λ (b : Sale). GoesOn main_limits b old (record { stock = K; stack = p.stack; fixedmarks = p.fixedmarks })) (sym (turned-refused (by_room test q) a done (some-by test q (omega (arith, l, number)))))
          (subst (λ (k : Stock). GoesOn main_limits a old (record { stock = k; stack = p.stack; fixedmarks = p.fixedmarks })) (sym (same l)) y.goes));
      wrote = subst (λ (z : Answer). Wrote out out' at (answer_row z) at') (e ∙ add-says) w;
    }
