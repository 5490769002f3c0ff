-- What the function of a call beside others needs and promises, and that any_call's `perform` with two tests keeps the promise. Rests on Under and on
-- edit_calls' Called. Assumes nothing.
use Rattle.std.specs.Prelude.{ℕ, ◌+◌, ◌-◌, ◌≤◌, ◌<◌, ◌≡◌, Bool, ◌&&◌, ◌||◌, List, [], ◌∷◌, eqb, length}
use Rattle.std.proofs.Math.Decide.{ℕ_discrete}
use native.Mathlib.Omega.{arith}
use Rattle.std.proofs.Math.Path.{refl, sym, ap, ap₂}
use Rattle.std.proofs.Common.{◌∙◌, subst, true≢false}
use Rattle.std.proofs.Math.Bool.{true, false, not, cond}
use borrow.Author.Tests.{eq-eqb, ne_eqb, eqb-true, leb-true, not-true, not-false}
use Rattle.std.proofs.Math.Dec.{leb}
use Rattle.std.proofs.Math.ListN.{get_or}
use Rattle.laws.specs.Choice.{and_left, and_right, cond_yes, cond_no}
use Rattle.refusal.specs.Number.{number_of, number-some, only-14}
use Rattle.refusal.specs.declared.Refusal.{Refusal}
use Rattle.refusal.specs.declared.Refusal.TheVariants.{AboveCap}
use Rattle.model.specs.Catalogue.{Hypergraph, vertices, is_vertex, is_block, capacity, capacities}
use Rattle.model.specs.Measure.{Contraction, above, on_board, weight, block_weight, has_room}
use Rattle.model.specs.Machine.{Call, call_j, call_s, call_m, call_b, call_w, call_p, call_a, Answer, says_no, State, Step}
use Rattle.model.specs.Search.{call_under}
use Rattle.model.specs.Report.{refusal}
use Rattle.model.specs.Grammar.{letter_j, letter_s, letter_m, letter_b, letter_w, letter_p}
use Rattle.model.specs.Lent.{Two, journal_of}
use Rattle.guarantees.specs.Board.{board-top}
use Rattle.guarantees.specs.Caps.{CeilingIs}
use Rattle.operations.specs.Pairs.{pairs-none, pairs-some}
use Rattle.operations.specs.Tables.{Tables, Sound, Keeps}
use Rattle.operations.specs.Move.{own-weight, on-board}
use Rattle.operations.specs.Keeping.{keeps-none}
use Rattle.edit_calls.specs.Steps.{Runs, Ready}
use Rattle.edit_calls.specs.Called.{Called, Roomy, roomy}
use Rattle.edit_calls.specs.Moving.{last_move, back-open}
use Rattle.edit_calls.specs.Refusal.{known, room_in}
use Rattle.any_call.specs.Kinds.{any_call}
use Rattle.model.specs.Hall.{Beside, leaves, ceiling_beside, call_beside}
use Rattle.beside.specs.Under.{by_limit, relayed, beside-M, beside-B-none, beside-B-room, beside-B-over}

-- ---- the contract
-- what the rows of ceilings and of space under the limit, and the cap, are
pub record RoomsAre (ceilings rooms : List ℕ) (cap : ℕ) (o : Beside) (h : Hypergraph) : Type 0 where
  pub both : CeilingIs ceilings h (ceiling_beside o h)
  pub limit : CeilingIs rooms h (leaves o)
  pub cap-is : cap ≡ capacity h

-- what a call beside others does: as `Called`, by the machine's call beside them
pub record BesideStepped (o : Beside) (h : Hypergraph) (s : State) (c : Call) (T' : Tables) (S' J J' : Two) (a : Answer) : Type 0 where
  pub runs : Runs h (call_beside o h s c).state T' S' J'
  pub says : a ≡ (call_beside o h s c).answer
  pub longer : J'.len ≤ J.len + 1

pub record BesideCalled (o : Beside) (h : Hypergraph) (T T' : Tables) (S S' J J' : Two) (c : Call) (a : Answer) : Type 0 where
  pub steps : (s : State) → Runs h s T S J → BesideStepped o h s c T' S' J J' a
  pub keeps : (s : State) → Runs h s T S J → Keeps T T'
  pub unchanged : 1 ≤ refusal a → (T' ≡ T) × (S' ≡ S) × (J' ≡ J)

-- ---- the tests, on tables
-- the latest move's way back passes what the limit leaves
unfoldable pub back_over : (loads weights rooms : List ℕ) → Two → Bool
back_over loads weights rooms J = not (eqb J.len 0) && not (room_in loads rooms weights (last_move J).vertex (last_move J).from)

-- a B that does
abbrev pub over_b : ℕ → (loads weights rooms : List ℕ) → Two → Bool
over_b letter loads weights rooms J = eqb letter letter_b && back_over loads weights rooms J

-- there is space under the cap
unfoldable pub under_cap : (loads weights : List ℕ) (cap n k u t : ℕ) → Bool
under_cap loads weights cap n k u t = known n u && known k t && leb (get_or loads (t - 1) 0 + get_or weights (u - 1) 0) cap

-- the answer: 14 of an M becomes 25 where there is
abbrev pub relayed_m : ℕ → Bool → Answer → Answer
relayed_m letter room a = cond (eqb letter letter_m) (by_limit room a) a

-- what the test of a B reads
pub record BackReads (loads weights rooms : List ℕ) (J : Two) : Type 0 where
  pub loads-len : length loads ≡ 16
  pub xs-len : length J.xs ≡ 512
  pub ys-len : length J.ys ≡ 512
  pub short : J.len ≤ 512
  pub vertex-in : 1 ≤ J.len → (1 ≤ (last_move J).vertex) × ((last_move J).vertex ≤ length weights)
  pub block_in : 1 ≤ J.len → (1 ≤ (last_move J).from) × ((last_move J).from ≤ 16)

pub back-reads : {T : Tables} {S J : Two} (rooms : List ℕ) → Ready T S J → BackReads T.loads T.weights rooms J
back-reads {T} {S} {J} rooms g =
    let r : Roomy T S J = roomy g in
    record {
      loads-len = r.loads-fit;
      xs-len = r.journal-whole.xs-whole;
      ys-len = r.journal-whole.ys-whole;
      short = r.journal-whole.short;
      vertex-in = λ l. let b = back-open g.runs l in (b.0, omega (arith, b.0, b.1.u-in, r.weights-fit));
      block_in = λ l. let b = back-open g.runs l in (b.1.t-in.0, omega (arith, b.1.t-in.1, r.few-blocks));
    }

-- ---- the tests are the machine's
module _ {h : Hypergraph} {cs : List Contraction} {block : ℕ → ℕ} {T : Tables} (s : Sound h cs block T) (ceiling : ℕ → ℕ) (u t : ℕ) where
  room_as : (most : ℕ) → most ≡ ceiling t → 1 ≤ u → u - 1 < T.n → above cs (u - 1 + 1) ≡ 0 → 1 ≤ t → t ≤ T.k → leb (get_or T.loads (t - 1) 0 + get_or T.weights (u - 1) 0) most ≡ has_room h ceiling cs block u t
  unfolding has_room
  room_as most c ul ui on tl ti =
      let pu : u - 1 + 1 ≡ u = omega arith in
      let pt : t - 1 + 1 ≡ t = omega arith in
      ap (leb (get_or T.loads (t - 1) 0 + get_or T.weights (u - 1) 0)) c
      ∙ ap₂ (λ (x y : ℕ). leb (x + y) (ceiling t)) (s.bears (t - 1) (omega arith) ∙ ap (block_weight h cs block) pt) (own-weight s (u - 1) ui on ∙ ap (weight h cs) pu)

module _ {o : Beside} {h : Hypergraph} {T : Tables} {S J : Two} {ceilings rooms : List ℕ} {cap : ℕ} (m : RoomsAre ceilings rooms cap o h) (s : State) (r : Runs h s T S J) where
  journal-top : 1 ≤ J.len → s.journal ≡ last_move J ∷ journal_of J.xs J.ys (J.len - 1)
  journal-top l = sym r.journal-is ∙ pairs-some (λ v x. record { vertex = v; from = x }) J.xs J.ys J.len l

  back-room : 1 ≤ J.len → room_in T.loads rooms T.weights (last_move J).vertex (last_move J).from ≡ has_room h (leaves o) s.stack s.block (last_move J).vertex (last_move J).from
  back-room l =
      let b = back-open r l in
      room_as r.sound (leaves o) (last_move J).vertex (last_move J).from (get_or rooms ((last_move J).from - 1) 0) (m.limit (last_move J).from b.1.t-in.0 (omega (arith, b.1.t-in.1, r.sound.follows.says.all_blocks)))
      b.0 b.1.u-in (on-board r.sound ((last_move J).vertex - 1) b.1.u-in b.1.on) b.1.t-in.0 b.1.t-in.1

  -- the test of B
  over-B : back_over T.loads T.weights rooms J ≡ true → call_beside o h s call_b ≡ record { state = s; answer = says_no 25 }
  unfolding back_over
  over-B q = go (ℕ_discrete J.len 0)
    where
      go : Dec (J.len ≡ 0) → call_beside o h s call_b ≡ record { state = s; answer = says_no 25 }
      go (yes z) = absurd (true≢false (sym (and_left _ _ q) ∙ ap not (eq-eqb J.len 0 z)))
      go (no z) = beside-B-over o h s (last_move J) (journal_of J.xs J.ys (J.len - 1)) (journal-top (omega (arith, z))) (sym (back-room (omega (arith, z))) ∙ not-true _ (and_right (not (eqb J.len 0)) _ q))

  room-B : back_over T.loads T.weights rooms J ≡ false → call_beside o h s call_b ≡ call_under h (ceiling_beside o h) s call_b
  unfolding back_over
  room-B q = go (ℕ_discrete J.len 0)
    where
      go : Dec (J.len ≡ 0) → call_beside o h s call_b ≡ call_under h (ceiling_beside o h) s call_b
      go (yes z) = beside-B-none o h s (sym r.journal-is ∙ ap (journal_of J.xs J.ys) z ∙ pairs-none (λ v x. record { vertex = v; from = x }) J.xs J.ys)
      go (no z) =
          let e : not (room_in T.loads rooms T.weights (last_move J).vertex (last_move J).from) ≡ false = sym (ap (λ (b : Bool). not b && not (room_in T.loads rooms T.weights (last_move J).vertex (last_move J).from)) (ne_eqb J.len 0 z)) ∙ q in
          beside-B-room o h s (last_move J) (journal_of J.xs J.ys (J.len - 1)) (journal-top (omega (arith, z))) (sym (back-room (omega (arith, z))) ∙ not-false _ e)

  -- the test of an M
  cap-M : (u t : ℕ) → not (is_vertex h u && is_block h t) ≡ false → not (on_board h s.stack u) ≡ false → under_cap T.loads T.weights cap T.n T.k u t ≡ has_room h (capacities h) s.stack s.block u t
  unfolding under_cap
  cap-M u t p q =
      let y = not-false _ p in
      let yv = and_left _ _ y in
      let yb = and_right (is_vertex h u) _ y in
      let ul : 1 ≤ u = leb-true 1 u (and_left _ _ yv) in
      let uh : u ≤ vertices h = leb-true u (vertices h) (and_right (leb 1 u) _ yv) in
      let tl : 1 ≤ t = leb-true 1 t (and_left _ _ yb) in
      let th : t ≤ h.blocks = leb-true t h.blocks (and_right (leb 1 t) _ yb) in
      let pu : u - 1 + 1 ≡ u = omega arith in
      let kn : known T.n u ≡ true = ap (λ (n : ℕ). leb 1 u && leb u n) r.sound.follows.says.all-vertices ∙ yv in
      let kb : known T.k t ≡ true = ap (λ (n : ℕ). leb 1 t && leb t n) r.sound.follows.says.all_blocks ∙ yb in
      ap₂ (λ (a b : Bool). a && b && leb (get_or T.loads (t - 1) 0 + get_or T.weights (u - 1) 0) cap) kn kb
      ∙ room_as r.sound (capacities h) u t cap m.cap-is ul (omega (arith, r.sound.follows.says.all-vertices)) (ap (above s.stack) pu ∙ board-top h s.stack u (not-false _ q)) tl (omega (arith, r.sound.follows.says.all_blocks))

-- ---- the other calls are those under both limits
other-calls : (o : Beside) (h : Hypergraph) (s : State) (letter x y : ℕ) → (letter ≡ letter_m → ⊥) → (letter ≡ letter_b → ⊥) → call_beside o h s (any_call letter x y) ≡ call_under h (ceiling_beside o h) s (any_call letter x y)
unfolding call_beside
other-calls o h s letter x y nm nb = go (eqb letter letter_j) (eqb letter letter_s) (eqb letter letter_m) (ne_eqb letter letter_m nm) (eqb letter letter_b) (ne_eqb letter letter_b nb) (eqb letter letter_w) (eqb letter letter_p)
  where
    same : Call → Type 0
    same c = call_beside o h s c ≡ call_under h (ceiling_beside o h) s c

    go : (j t m : Bool) → m ≡ false → (b : Bool) → b ≡ false → (w p : Bool) → same (cond (j || t) (cond j (call_j x y) call_s) (cond (m || (b || (w || p))) (cond m (call_m x y) (cond b call_b (cond w (call_w x y) call_p))) call_a))
    go true t m em b eb w p = refl
    go false true m em b eb w p = refl
    go false false true em b eb w p = absurd (true≢false em)
    go false false false em true eb w p = absurd (true≢false eb)
    go false false false em false eb true p = refl
    go false false false em false eb false true = refl
    go false false false em false eb false false = refl

call-M : (letter x y : ℕ) → letter ≡ letter_m → any_call letter x y ≡ call_m x y
call-M letter x y e = ap (λ (l : ℕ). any_call l x y) e

call-B : (letter x y : ℕ) → letter ≡ letter_b → any_call letter x y ≡ call_b
call-B letter x y e = ap (λ (l : ℕ). any_call l x y) e

-- ---- what the function does
-- a B that passes the limit
pub refused-25 : {o : Beside} {h : Hypergraph} (T : Tables) {S J : Two} {ceilings rooms : List ℕ} {cap : ℕ} (letter x y : ℕ) → over_b letter T.loads T.weights rooms J ≡ true → RoomsAre ceilings rooms cap o h
    → BesideCalled o h T T S S J J (any_call letter x y) (says_no 25)
refused-25 {o} {h} T {S} {J} letter x y q m = record {
  steps = λ s r.
      let e : call_beside o h s (any_call letter x y) ≡ record { state = s; answer = says_no 25 } = ap (call_beside o h s) (call-B letter x y (eqb-true letter letter_b (and_left _ _ q))) ∙ over-B m s r (and_right (eqb letter letter_b) _ q) in
      record { runs = subst (λ (z : Step). Runs h z.state T S J) (sym e) r; says = sym (ap (λ (z : Step). z.answer) e); longer = omega arith };
  keeps = λ s r. keeps-none T;
  unchanged = λ _. (refl, refl, refl);
}

-- every other call: under both limits, and an M's 14 by the cap
refusal-by : (room : Bool) (a : Answer) → 1 ≤ refusal (by_limit room a) → 1 ≤ refusal a
unfolding by_limit refusal
refusal-by room a l = go (eqb (refusal a) 14) refl room l
  where
    go : (t : Bool) → eqb (refusal a) 14 ≡ t → (room : Bool) → 1 ≤ refusal (cond (t && room) (says_no 25) a) → 1 ≤ refusal a
    go true e room l = omega (arith, eqb-true (refusal a) 14 e)
    go false e room l = l

by-not : (room : Bool) (a : Answer) → (refusal a ≡ 14 → ⊥) → by_limit room a ≡ a
unfolding by_limit
by-not room a n = ap (λ (t : Bool). cond (t && room) (says_no 25) a) (ne_eqb (refusal a) 14 n)

module _ {o : Beside} {h : Hypergraph} {T T' : Tables} {S S' J J' : Two} {ceilings rooms : List ℕ} {cap : ℕ} (letter x y : ℕ) {a : Answer} (nk : (T'.n ≡ T.n) × (T'.k ≡ T.k)) (m : RoomsAre ceilings rooms cap o h) (d : Called h (ceiling_beside o h) T T' S S' J J' (any_call letter x y) a) where
  abbrev test : Bool
  test = under_cap T'.loads T'.weights cap T.n T.k x y

  -- under both limits, where the machine's step is that
  plain : ((s : State) → Runs h s T S J → call_beside o h s (any_call letter x y) ≡ call_under h (ceiling_beside o h) s (any_call letter x y)) → BesideCalled o h T T' S S' J J' (any_call letter x y) a
  plain f = record {
    steps = λ s r. let e = d.steps s r in record { runs = subst (λ (z : Step). Runs h z.state T' S' J') (sym (f s r)) e.runs; says = e.says ∙ sym (ap (λ (z : Step). z.answer) (f s r)); longer = e.longer };
    keeps = d.keeps;
    unchanged = d.unchanged;
  }

  step-M : letter ≡ letter_m → (s : State) → Runs h s T S J → call_beside o h s (any_call letter x y) ≡ relayed test (call_under h (ceiling_beside o h) s (any_call letter x y))
  step-M e s r = go (ℕ_discrete (refusal a) 14)
    where
      under : Step
      under = call_under h (ceiling_beside o h) s (any_call letter x y)

      real : Bool
      real = under_cap T.loads T.weights cap T.n T.k x y

      by-real : call_beside o h s (any_call letter x y) ≡ relayed real under
      by-real =
          subst (λ (c : Call). call_beside o h s c ≡ relayed real (call_under h (ceiling_beside o h) s c)) (sym (call-M letter x y e)) (beside-M o h s x y real (cap-M m s r x y))

      go : Dec (refusal a ≡ 14) → call_beside o h s (any_call letter x y) ≡ relayed test under
      go (yes q) =
          let same : T' ≡ T = (d.unchanged (omega (arith, q))).0 in
          by-real ∙ ap (λ (t : Tables). relayed (under_cap t.loads t.weights cap T.n T.k x y) under) (sym same)
      go (no n) =
          let n' : refusal under.answer ≡ 14 → ⊥ = λ q. n (ap refusal (d.steps s r).says ∙ q) in
          by-real ∙ ap (λ (b : Answer). record { state = under.state; answer = b }) (by-not real under.answer n' ∙ sym (by-not test under.answer n'))

  pub called-beside : over_b letter T.loads T.weights rooms J ≡ false → BesideCalled o h T T' S S' J J' (any_call letter x y) (relayed_m letter test a)
  called-beside q = go (ℕ_discrete letter letter_m)
    where
      other : (letter ≡ letter_m → ⊥) → Dec (letter ≡ letter_b) → BesideCalled o h T T' S S' J J' (any_call letter x y) a
      other nm (yes e) =
          let no : back_over T.loads T.weights rooms J ≡ false = sym (ap (λ (t : Bool). t && back_over T.loads T.weights rooms J) (eq-eqb letter letter_b e)) ∙ q in
          plain (λ s r. subst (λ (c : Call). call_beside o h s c ≡ call_under h (ceiling_beside o h) s c) (sym (call-B letter x y e)) (room-B m s r no))
      other nm (no nb) = plain (λ s r. other-calls o h s letter x y nm nb)

      go : Dec (letter ≡ letter_m) → BesideCalled o h T T' S S' J J' (any_call letter x y) (relayed_m letter test a)
      go (yes e) = subst (BesideCalled o h T T' S S' J J' (any_call letter x y)) (sym (cond_yes letter letter_m (by_limit test a) a e)) (record {
        steps = λ s r.
            let u = d.steps s r in
            let z = step-M e s r in
            record {
              runs = subst (λ (w : Step). Runs h w.state T' S' J') (sym z) u.runs;
              says = ap (by_limit test) u.says ∙ sym (ap (λ (w : Step). w.answer) z);
              longer = u.longer;
            };
        keeps = d.keeps;
        unchanged = λ l. d.unchanged (refusal-by test a l);
      })
      go (no n) = subst (BesideCalled o h T T' S S' J J' (any_call letter x y)) (sym (cond_no letter letter_m (by_limit test a) a n)) (other n (ℕ_discrete letter letter_b))

-- ---- the arms of the code's tests
pub relay-other : (letter : ℕ) (room : Bool) (a : Answer) → (letter ≡ letter_m → ⊥) → a ≡ relayed_m letter room a
relay-other letter room a n = sym (cond_no letter letter_m (by_limit room a) a n)

module _ (letter : ℕ) (a : Answer) {q : ℕ} (m : letter ≡ letter_m) (e : q ≡ refusal a) where
  pub relay-else : (room : Bool) → (q ≡ 14 → ⊥) → a ≡ relayed_m letter room a
  relay-else room n = sym (cond_yes letter letter_m (by_limit room a) a m ∙ by-not room a (λ z. n (e ∙ z)))

  pub relay-14 : (room : Bool) {r : Bool} → r ≡ room → not r ≡ true → a ≡ relayed_m letter room a
  unfolding by_limit
  relay-14 room {r} p z = sym (cond_yes letter letter_m (by_limit room a) a m ∙ go (eqb (refusal a) 14) room (sym p ∙ not-true r z))
    where
      go : (t u : Bool) → u ≡ false → cond (t && u) (says_no 25) a ≡ a
      go true u y = rw y
      go false u y = refl

  pub relay-25 : (room : Bool) {r : Bool} → r ≡ room → not r ≡ false → q ≡ 14 → says_no 25 ≡ relayed_m letter room a
  unfolding by_limit
  relay-25 room {r} p z y = sym (cond_yes letter letter_m (by_limit room a) a m ∙ ap₂ (λ (t u : Bool). cond (t && u) (says_no 25) a) (eq-eqb (refusal a) 14 (sym e ∙ y)) (sym p ∙ not-false r z))

-- what is not refused for want of room stays
pub relay-done : (letter : ℕ) (room : Bool) (a : Answer) → (refusal a ≡ 14 → ⊥) → a ≡ relayed_m letter room a
relay-done letter room a n = go (ℕ_discrete letter letter_m)
  where
    go : Dec (letter ≡ letter_m) → a ≡ relayed_m letter room a
    go (yes m) = relay-else letter a m refl room n
    go (no m) = relay-other letter room a m

-- the arms of the test of an M's refusal
pub relay-over : (letter : ℕ) (room : Bool) (e : Refusal) → e ≡ AboveCap → letter ≡ letter_m → room ≡ true → says_no 25 ≡ relayed_m letter room (says_no (number_of e))
unfolding by_limit refusal
relay-over letter room e q m r = sym (cond_yes letter letter_m (by_limit room (says_no (number_of e))) (says_no (number_of e)) m ∙ rw (q, r) refl)

pub relay-full : (letter : ℕ) (room : Bool) (e : Refusal) → room ≡ false → says_no (number_of e) ≡ relayed_m letter room (says_no (number_of e))
relay-full letter room e r = go (ℕ_discrete letter letter_m)
  where
    go : Dec (letter ≡ letter_m) → says_no (number_of e) ≡ relayed_m letter room (says_no (number_of e))
    go (yes m) = relay-14 letter (says_no (number_of e)) m refl room {r = false} (sym r) refl
    go (no m) = relay-other letter room (says_no (number_of e)) m

pub relay-more : (letter : ℕ) (room : Bool) (e : Refusal) → (e ≡ AboveCap → ⊥) → says_no (number_of e) ≡ relayed_m letter room (says_no (number_of e))
unfolding refusal
relay-more letter room e n = relay-done letter room (says_no (number_of e)) (λ q. n (only-14 e q))

-- by the number of B's refusal it passes the limit
pub over-yes : (b : Bool) (e : Refusal) → number_of e ≡ cond b 25 0 → (b ≡ true) × (number_of e ≡ 25)
over-yes true e q = (refl, q)
over-yes false e q = absurd (number-some e q)

pub over-no : (b : Bool) → ◌≡◌ {A = ℕ} 0 (cond b 25 0) → b ≡ false
over-no true q = absurd (omega (arith, q))
over-no false q = refl

module _ (loads weights : List ℕ) (cap n k u t : ℕ) {r : Bool} (e : r ≡ known n u) where
  pub under-no : not r ≡ true → false ≡ under_cap loads weights cap n k u t
  unfolding under_cap
  under-no q = sym (ap (λ (b : Bool). b && known k t && leb (get_or loads (t - 1) 0 + get_or weights (u - 1) 0) cap) (sym e ∙ not-true r q))

  module _ (q : not r ≡ false) {r' : Bool} (e' : r' ≡ known k t) where
    pub under-not : not r' ≡ true → false ≡ under_cap loads weights cap n k u t
    unfolding under_cap
    under-not q' = sym (ap₂ (λ (b c : Bool). b && c && leb (get_or loads (t - 1) 0 + get_or weights (u - 1) 0) cap) (sym e ∙ not-false r q) (sym e' ∙ not-true r' q'))

    pub under-yes : not r' ≡ false → {r'' : Bool} → r'' ≡ leb (get_or loads (t - 1) 0 + get_or weights (u - 1) 0) cap → r'' ≡ under_cap loads weights cap n k u t
    unfolding under_cap
    under-yes q' e'' = e'' ∙ sym (ap₂ (λ (b c : Bool). b && c && leb (get_or loads (t - 1) 0 + get_or weights (u - 1) 0) cap) (sym e ∙ not-false r q) (sym e' ∙ not-false r' q'))

    pub under-range : not r' ≡ false → ((1 ≤ u) × (u ≤ n)) × ((1 ≤ t) × (t ≤ k))
    under-range q' =
        let x = sym e ∙ not-false r q in
        let z = sym e' ∙ not-false r' q' in
        ((leb-true 1 u (and_left (leb 1 u) (leb u n) x), leb-true u n (and_right (leb 1 u) (leb u n) x)), (leb-true 1 t (and_left (leb 1 t) (leb t k) z), leb-true t k (and_right (leb 1 t) (leb t k) z)))

module _ (loads weights rooms : List ℕ) (J : Two) where
  pub back_none : J.len ≡ 0 → false ≡ back_over loads weights rooms J
  unfolding back_over
  back_none e = sym (ap (λ (b : Bool). not b && not (room_in loads rooms weights (last_move J).vertex (last_move J).from)) (eq-eqb J.len 0 e))

  pub back_some : (J.len ≡ 0 → ⊥) → (v b : ℕ) → v ≡ (last_move J).vertex → b ≡ (last_move J).from → {r : Bool} → r ≡ leb (get_or loads (b - 1) 0 + get_or weights (v - 1) 0) (get_or rooms (b - 1) 0) → not r ≡ back_over loads weights rooms J
  unfolding back_over
  back_some n v b qv qb {r} e =
      ap not (e ∙ ap₂ (λ (x y : ℕ). leb (get_or loads (y - 1) 0 + get_or weights (x - 1) 0) (get_or rooms (y - 1) 0)) qv qb)
      ∙ sym (ap (λ (t : Bool). not t && not (room_in loads rooms weights (last_move J).vertex (last_move J).from)) (ne_eqb J.len 0 n))

  pub over-other : (letter : ℕ) → (letter ≡ letter_b → ⊥) → false ≡ over_b letter loads weights rooms J
  over-other letter n = sym (ap (λ (t : Bool). t && back_over loads weights rooms J) (ne_eqb letter letter_b n))

  pub over-back : (letter : ℕ) → letter ≡ letter_b → {r : Bool} → r ≡ back_over loads weights rooms J → r ≡ over_b letter loads weights rooms J
  over-back letter m e = e ∙ sym (ap (λ (t : Bool). t && back_over loads weights rooms J) (eq-eqb letter letter_b m))

-- ---- after the call
-- what the test of an M reads
pub relay-reads : {T T' : Tables} {S S' J J' : Two} {c : Call} {a : Answer} (g : Ready T S J) {ceiling : ℕ → ℕ} → Called g.h ceiling T T' S S' J J' c a → T'.n ≡ T.n → (T.n ≤ length T'.weights) × (T.k ≤ 16) × (length T'.loads ≡ 16)
relay-reads g d e =
    let after = (d.steps g.s g.runs).runs.sound in
    (omega (arith, after.weights-fit, e), (roomy g).few-blocks, after.loads-fit)

pub told-as : {o : Beside} {h : Hypergraph} {T T' : Tables} {S S' J J' : Two} {c : Call} {a b : Answer} → b ≡ a → BesideCalled o h T T' S S' J J' c a → BesideCalled o h T T' S S' J J' c b
told-as {o} {h} {T} {T'} {S} {S'} {J} {J'} {c} e d = subst (BesideCalled o h T T' S S' J J' c) (sym e) d
