-- A call beside others is the call under both limits, but for what M and B answer by the hall's limit. Rests on model's Hall. Assumes nothing.
use Rattle.std.specs.Prelude.{ℕ, ◌+◌, ◌≤◌, ◌<◌, ◌≡◌, refl, Bool, not, ◌&&◌, ◌||◌, List, [], ◌∷◌, eqb, leb}
use Rattle.std.proofs.Common.{arith, ◌∙◌, leb-true, leb-false}
use Rattle.std.proofs.Math.Path.{sym, ap}
use Rattle.std.proofs.Math.Bool.{true, false, cond}
use Rattle.model.specs.Catalogue.{Hypergraph, is_vertex, is_block, capacity, capacities}
use Rattle.model.specs.Measure.{on_board, is_fixed, block_weight, weight, has_room}
use Rattle.model.specs.Machine.{call_m, call_b, Answer, says_no, Move, State, Step, settle, refuses_m, does_m, does_b}
use Rattle.model.specs.Search.{call_under}
use Rattle.model.specs.Report.{refusal}
use Rattle.model.specs.Hall.{Beside, leaves, ceiling_beside, first_of, over_limit, refuses_beside_m, refuses_beside_b, call_beside}

-- the answer of an M under both limits, by whether there is room under the cap: 14 becomes 25
unfoldable pub by_limit : Bool → Answer → Answer
by_limit room a = cond (eqb (refusal a) 14 && room) (says_no 25) a

abbrev pub relayed : Bool → Step → Step
relayed room x = record { state = x.state; answer = by_limit room x.answer }

-- under the lesser of two ceilings there is room if there is under both
pub least : (x a b : ℕ) → leb x (cond (leb a b) a b) ≡ (leb x a && leb x b)
least x a b = go (leb a b) refl (leb x a) refl (leb x b) refl
  where
    go : (t : Bool) → leb a b ≡ t → (u : Bool) → leb x a ≡ u → (v : Bool) → leb x b ≡ v → leb x (cond t a b) ≡ (u && v)
    go true p true q true r = q
    go true p true q false r = absurd (omega (arith, leb-true a b p, leb-true x a q, leb-false x b r))
    go true p false q v r = q
    go false p true q v r = r
    go false p false q true r = absurd (omega (arith, leb-false a b p, leb-false x a q, leb-true x b r))
    go false p false q false r = r

pub room-both : (o : Beside) (h : Hypergraph) (s : State) (v t : ℕ) → has_room h (ceiling_beside o h) s.stack s.block v t ≡ (has_room h (capacities h) s.stack s.block v t && has_room h (leaves o) s.stack s.block v t)
unfolding has_room ceiling_beside
room-both o h s v t = least (block_weight h s.stack s.block t + weight h s.stack v) (capacity h) (leaves o t)

-- ---- M
by_tests : (s : State) (done : Step) → refusal done.answer ≡ 0 → (p9 p10 p12 p20 a b r : Bool) → (p9 ≡ false → p10 ≡ false → r ≡ a)
    → settle (first_of (cond p9 9 (cond p10 10 (cond p12 12 (cond p20 20 (cond (not a) 14 0))))) (cond b 0 25)) s done
    ≡ relayed r (settle (cond p9 9 (cond p10 10 (cond p12 12 (cond p20 20 (cond (not (a && b)) 14 0))))) s done)
unfolding settle by_limit refusal
by_tests s done z true p10 p12 p20 a b r e = refl
by_tests s done z false true p12 p20 a b r e = refl
by_tests s done z false false true p20 a b r e = refl
by_tests s done z false false false true a b r e = refl
by_tests s done z false false false false false b r e = rw (e refl refl)
by_tests s done z false false false false true true r e = rw z
by_tests s done z false false false false true false r e = rw (e refl refl)

-- 25's test is whether there is room under the limit
over-room : (o : Beside) (h : Hypergraph) (s : State) (v t : ℕ) → over_limit o h s (weight h s.stack v) t ≡ cond (has_room h (leaves o) s.stack s.block v t) 0 25
unfolding over_limit has_room
over-room o h s v t = refl

-- r is whether there is room under the cap, where that is asked
pub beside-M : (o : Beside) (h : Hypergraph) (s : State) (v t : ℕ) (r : Bool) → (not (is_vertex h v && is_block h t) ≡ false → not (on_board h s.stack v) ≡ false → r ≡ has_room h (capacities h) s.stack s.block v t)
    → call_beside o h s (call_m v t) ≡ relayed r (call_under h (ceiling_beside o h) s (call_m v t))
unfolding call_beside call_under refuses_beside_m refuses_m does_m refusal
beside-M o h s v t r e =
    rw (room-both o h s v t, over-room o h s v t)
    (by_tests s (does_m h s v t) refl (not (is_vertex h v && is_block h t)) (not (on_board h s.stack v)) (eqb (s.block v) t) (is_fixed h s.stack v) (has_room h (capacities h) s.stack s.block v t) (has_room h (leaves o) s.stack s.block v t) r e)

-- ---- B
abbrev back_by : Beside → Hypergraph → State → List Move → Step
back_by o h s l = settle (refuses_beside_b o h s l) s (does_b h s l)

module _ (o : Beside) (h : Hypergraph) (s : State) where
  pub beside-B-none : s.journal ≡ [] → call_beside o h s call_b ≡ call_under h (ceiling_beside o h) s call_b
  unfolding call_beside call_under refuses_beside_b does_b settle
  beside-B-none e = ap (back_by o h s) e ∙ sym (ap (does_b h s) e)

  module _ (m : Move) (ms : List Move) (e : s.journal ≡ m ∷ ms) where
    back-by : (b : Bool) → has_room h (leaves o) s.stack s.block m.vertex m.from ≡ b → call_beside o h s call_b ≡ settle (cond b 0 25) s (does_b h s (m ∷ ms))
    unfolding call_beside refuses_beside_b
    back-by b q = ap (back_by o h s) e ∙ ap (λ (n : ℕ). settle n s (does_b h s (m ∷ ms))) (over-room o h s m.vertex m.from ∙ ap (λ (t : Bool). cond t 0 25) q)

    pub beside-B-room : has_room h (leaves o) s.stack s.block m.vertex m.from ≡ true → call_beside o h s call_b ≡ call_under h (ceiling_beside o h) s call_b
    unfolding call_under settle
    beside-B-room q = back-by true q ∙ sym (ap (does_b h s) e)

    pub beside-B-over : has_room h (leaves o) s.stack s.block m.vertex m.from ≡ false → call_beside o h s call_b ≡ record { state = s; answer = says_no 25 }
    unfolding settle
    beside-B-over q = back-by false q
