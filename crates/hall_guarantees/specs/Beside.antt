-- A call line of one sale beside others keeps the sale valid and within what the hall's limit leaves (settled-turn). Rests on
-- guarantees' Caps and Reached. Assumes nothing.
use Prim.Native.Nat.{ℕ, zero, suc, ◌+◌, ◌-◌, ◌≤◌, ◌<◌}
use Rattle.std.proofs.Common.{arith, sym, ◌∙◌, true≢false}
use Rattle.std.specs.Prelude.{◌≡◌, Bool, not, ◌&&◌, eqb}
use Rattle.std.proofs.Math.Path.{refl, ap, subst}
use Rattle.std.proofs.Math.Bool.{true, false, cond}
use mathlib.Core.List.{List, [], ◌∷◌}
use borrow.Author.Tests.{leb-true, leb-false, eq-eqb, ne_eqb}
use Rattle.std.proofs.Math.Decide.{ℕ_discrete}
use Rattle.std.proofs.Math.ListN.{length}
use Rattle.std.proofs.Math.Dec.{leb}
use Rattle.model.specs.Catalogue.{main_limits, Hypergraph, is_vertex, is_block, capacity, capacities}
use Rattle.model.specs.Measure.{Contraction, on_board, is_fixed, weight, block_weight, has_room}
use Rattle.model.specs.Machine.{Call, call_j, call_s, call_m, call_b, call_w, call_p, call_a, Move, State, Step, settle, refuses_j, contract, does_j, refuses_m, does_m, does_s, does_b}
use Rattle.model.specs.Search.{refuses_w, does_w, does_p, refuses_a, does_a, call_under}
use Rattle.model.specs.Sale.{Request, runs, call_x, call_n, Sale, Turn, lots_in, marks_in, changed_at, withdrawn, added, number_for, refuses_x, refuses_n, turned, does_x, does_n, ran}
use Rattle.guarantees.specs.Calls.{Legal, Recorded, legal-call}
use Rattle.guarantees.specs.StateBounds.{Listed, listed-call}
use Rattle.guarantees.specs.Caps.{Capped, capped-move, Back, Held, held-call}
use Rattle.guarantees.specs.Board.{board-top}
use Rattle.guarantees.specs.Changes.{without-length, with-length}
use Rattle.guarantees.specs.Reached.{Valid, Grows, turned-keeps, accepts-X, accepts-in, X-counts, N-counts, N-space}
use Rattle.model.specs.Hall.{Beside, leaves, space_beside, ceiling_beside, first_of, over_limit, refuses_beside_m, refuses_beside_b, refuses_beside_n, call_beside, turn_beside}

-- ---- a state with an empty journal
abbrev free : State → State
free s = record { stack = s.stack; block = s.block; journal = [] }

-- two states of one stack and one partition
pub record Alike (x y : State) : Type 0 where
  pub stacks : x.stack ≡ y.stack
  pub parts : x.block ≡ y.block

is_b : Call → Bool
is_b call_b = true
is_b (call_j u v) = false
is_b call_s = false
is_b (call_m v t) = false
is_b (call_w u v) = false
is_b call_p = false
is_b call_a = false

module _ (h : Hypergraph) (x : ℕ → ℕ) (s : State) where
  settle-alike : (q : ℕ) (d d' : Step) → Alike d'.state d.state → Alike (settle q (free s) d').state (settle q s d).state
  unfolding settle
  settle-alike zero d d' e = e
  settle-alike (suc q) d d' e = record { stacks = refl; parts = refl }

  split-alike : (l : List Contraction) → Alike (does_s (free s) l).state (does_s s l).state
  unfolding does_s
  split-alike [] = record { stacks = refl; parts = refl }
  split-alike (c ∷ l) = record { stacks = refl; parts = refl }

  refused-A : (l : List Contraction) → refuses_a h (free s) l ≡ refuses_a h s l
  unfolding refuses_a
  refused-A [] = refl
  refused-A (c ∷ l) = refl

  -- no call but B reads the journal
  call-alike : (c : Call) → is_b c ≡ false → Alike (call_under h x (free s) c).state (call_under h x s c).state
  unfolding call_under refuses_j does_j contract refuses_m does_m refuses_w does_w does_p does_a is_b
  call-alike (call_j u v) e = settle-alike (refuses_j h s u v) (does_j h s u v) (does_j h (free s) u v) (record { stacks = refl; parts = refl })
  call-alike call_s e = split-alike s.stack
  call-alike (call_m v t) e = settle-alike (refuses_m h x s v t) (does_m h s v t) (does_m h (free s) v t) (record { stacks = refl; parts = refl })
  call-alike call_b e = absurd (true≢false e)
  call-alike (call_w u v) e = settle-alike (refuses_w h s u v) (does_w h x s u v) (does_w h x (free s) u v) (record { stacks = refl; parts = refl })
  call-alike call_p e = record { stacks = refl; parts = refl }
  call-alike call_a e =
      subst (λ (q : ℕ). Alike (settle q (free s) (does_a h x (free s))).state (settle (refuses_a h s s.stack) s (does_a h x s)).state) (sym (refused-A s.stack))
      (settle-alike (refuses_a h s s.stack) (does_a h x s) (does_a h x (free s)) (record { stacks = refl; parts = refl }))

  -- so it keeps any ceiling that the state is within, whatever the journal's way back
  capped-call : (c : Call) → is_b c ≡ false → Legal h s → Capped h x s.stack s.block → Capped h x (call_under h x s c).state.stack (call_under h x s c).state.block
  capped-call c e ok w =
      let r : Held h x (free s) = record { legal = record { sound = ok.sound; inside = ok.inside; placed = ok.placed; recorded = tt }; capped = w; back = tt } in
      let a = call-alike c e in
      subst (λ (p : ℕ → ℕ). Capped h x (call_under h x s c).state.stack p) a.parts (subst (λ (cs : List Contraction). Capped h x cs (call_under h x (free s) c).state.block) a.stacks (held-call h x (free s) c r).capped)

-- ---- both limits
module _ (o : Beside) (h : Hypergraph) where
  both : (cs : List Contraction) (p : ℕ → ℕ) → Capped h (capacities h) cs p → Capped h (leaves o) cs p → Capped h (ceiling_beside o h) cs p
  unfolding ceiling_beside
  both cs p a b t l u = go (leb (capacity h) (leaves o t))
    where
      go : (x : Bool) → block_weight h cs p t ≤ cond x (capacity h) (leaves o t)
      go true = a t l u
      go false = b t l u

  each : (cs : List Contraction) (p : ℕ → ℕ) → Capped h (ceiling_beside o h) cs p → Capped h (capacities h) cs p × Capped h (leaves o) cs p
  unfolding ceiling_beside
  each cs p a = (λ t l u. (go t (leb (capacity h) (leaves o t)) refl (a t l u)).0, λ t l u. (go t (leb (capacity h) (leaves o t)) refl (a t l u)).1)
    where
      go : (t : ℕ) (x : Bool) → leb (capacity h) (leaves o t) ≡ x → block_weight h cs p t ≤ cond x (capacity h) (leaves o t) → (block_weight h cs p t ≤ capacity h) × (block_weight h cs p t ≤ leaves o t)
      go t true e l = (l, omega (arith, leb-true (capacity h) (leaves o t) e))
      go t false e l = (omega (arith, leb-false (capacity h) (leaves o t) e), l)

  -- what a catalogue keeps in a hall
  pub record Fine (s : State) : Type 0 where
    pub held : Held h (capacities h) s
    pub listed : Listed h s.journal
    pub under : Capped h (leaves o) s.stack s.block

  module _ (s : State) (f : Fine s) where
    -- a search: W, P and A leave an empty journal where they are accepted
    search : (c : Call) → is_b c ≡ false → Back h (capacities h) (call_under h (ceiling_beside o h) s c).state.stack (call_under h (ceiling_beside o h) s c).state.block (call_under h (ceiling_beside o h) s c).state.journal
        → Fine (call_under h (ceiling_beside o h) s c).state
    search c e b =
        let w = each _ _ (capped-call h (ceiling_beside o h) s c e f.held.legal (both s.stack s.block f.held.capped f.under)) in
        record { held = record { legal = legal-call h (ceiling_beside o h) s c f.held.legal; capped = w.0; back = b }; listed = listed-call h (ceiling_beside o h) s c f.listed; under = w.1 }

    back-settled : (q : ℕ) (d : Step) → d.state.journal ≡ [] → Back h (capacities h) (settle q s d).state.stack (settle q s d).state.block (settle q s d).state.journal
    unfolding settle
    back-settled zero d e = subst (Back h (capacities h) d.state.stack d.state.block) (sym e) tt
    back-settled (suc q) d e = f.held.back

    -- M: accepted under the cap and under the limit
    abbrev tests : Bool → Bool → Bool → Bool → Bool → ℕ
    tests p9 p10 p12 p20 a = cond p9 9 (cond p10 10 (cond p12 12 (cond p20 20 (cond (not a) 14 0))))

    limit-too : (p9 p10 p12 p20 a b : Bool) → tests p9 p10 p12 p20 a ≡ 0 → b ≡ true → tests p9 p10 p12 p20 b ≡ 0
    limit-too true p10 p12 p20 a b q e = absurd (omega (arith, q))
    limit-too false true p12 p20 a b q e = absurd (omega (arith, q))
    limit-too false false true p20 a b q e = absurd (omega (arith, q))
    limit-too false false false true a b q e = absurd (omega (arith, q))
    limit-too false false false false a b q e = ap (tests false false false false) e

    abbrev test : Bool → ℕ
    test b = cond b 0 25

    room_of : (b : Bool) → test b ≡ 0 → b ≡ true
    room_of true q = refl
    room_of false q = absurd (omega (arith, q))

    low : (v t : ℕ) → refuses_m h (capacities h) s v t ≡ 0 → over_limit o h s (weight h s.stack v) t ≡ 0 → refuses_m h (leaves o) s v t ≡ 0
    unfolding refuses_m over_limit has_room
    low v t q g = limit-too (not (is_vertex h v && is_block h t)) (not (on_board h s.stack v)) (eqb (s.block v) t) (is_fixed h s.stack v) (has_room h (capacities h) s.stack s.block v t) (has_room h (leaves o) s.stack s.block v t) q (room_of _ g)

    held-M : (v t : ℕ) → Held h (capacities h) (settle (refuses_m h (capacities h) s v t) s (does_m h s v t)).state
    unfolding call_under
    held-M v t = held-call h (capacities h) s (call_m v t) f.held

    listed-M : (v t : ℕ) → Listed h (settle (refuses_m h (capacities h) s v t) s (does_m h s v t)).state.journal
    unfolding call_under
    listed-M v t = listed-call h (capacities h) s (call_m v t) f.listed

    capped-M : (v t : ℕ) → Capped h (leaves o) (settle (refuses_m h (leaves o) s v t) s (does_m h s v t)).state.stack (settle (refuses_m h (leaves o) s v t) s (does_m h s v t)).state.block
    unfolding call_under is_b
    capped-M v t = capped-call h (leaves o) s (call_m v t) refl f.held.legal f.under

    move : (v t p q : ℕ) → refuses_m h (capacities h) s v t ≡ p → over_limit o h s (weight h s.stack v) t ≡ q → Fine (settle (first_of p q) s (does_m h s v t)).state
    unfolding settle
    move v t (suc p) q e g = f
    move v t zero (suc q) e g = f
    move v t zero zero e g = record {
      held = subst (λ (n : ℕ). Held h (capacities h) (settle n s (does_m h s v t)).state) e (held-M v t);
      listed = subst (λ (n : ℕ). Listed h (settle n s (does_m h s v t)).state.journal) e (listed-M v t);
      under = subst (λ (n : ℕ). Capped h (leaves o) (settle n s (does_m h s v t)).state.stack (settle n s (does_m h s v t)).state.block) (low v t e g) (capped-M v t);
    }

    held-B : (l : List Move) → s.journal ≡ l → Held h (capacities h) (does_b h s l).state × Listed h (does_b h s l).state.journal
    unfolding call_under
    held-B l e = (subst (λ (l : List Move). Held h (capacities h) (does_b h s l).state) e (held-call h (capacities h) s call_b f.held), subst (λ (l : List Move). Listed h (does_b h s l).state.journal) e (listed-call h (capacities h) s call_b f.listed))

    back : (l : List Move) → s.journal ≡ l → Fine (settle (refuses_beside_b o h s l) s (does_b h s l)).state
    unfolding refuses_beside_b over_limit settle does_b has_room
    back [] e = f
    back (m ∷ ms) e = go (held-B (m ∷ ms) e) (has_room h (leaves o) s.stack s.block m.vertex m.from) refl
      where
        go : Held h (capacities h) (does_b h s (m ∷ ms)).state × Listed h (does_b h s (m ∷ ms)).state.journal → (b : Bool) → has_room h (leaves o) s.stack s.block m.vertex m.from ≡ b → Fine (settle (cond b 0 25) s (does_b h s (m ∷ ms))).state
        go k false q = f
        go k true q =
            let i = (subst (Listed h) e f.listed).0 in
            let rec = (subst (Recorded h s.stack) e f.held.legal.recorded).0 in
            record { held = k.0; listed = k.1; under = capped-move h (leaves o) s.stack s.block m.vertex m.from f.under (i.0, i.1, rec.1, rec.2) (board-top h s.stack m.vertex rec.0) q }

    -- every call beside others keeps both limits
    pub fine-call : (c : Call) → Fine (call_beside o h s c).state
    unfolding call_beside call_under refuses_beside_m does_w does_p does_a is_b
    fine-call (call_j u v) = record { held = held-call h (capacities h) s (call_j u v) f.held; listed = listed-call h (capacities h) s (call_j u v) f.listed; under = capped-call h (leaves o) s (call_j u v) refl f.held.legal f.under }
    fine-call call_s = record { held = held-call h (capacities h) s call_s f.held; listed = listed-call h (capacities h) s call_s f.listed; under = capped-call h (leaves o) s call_s refl f.held.legal f.under }
    fine-call (call_m v t) = move v t _ _ refl refl
    fine-call call_b = back s.journal refl
    fine-call (call_w u v) = search (call_w u v) refl (back-settled (refuses_w h s u v) (does_w h (ceiling_beside o h) s u v) refl)
    fine-call call_p = search call_p refl tt
    fine-call call_a = search call_a refl (back-settled (refuses_a h s s.stack) (does_a h (ceiling_beside o h) s) refl)

-- ---- a sale beside others
pub record Settled (o : Beside) (a : Sale) : Type 0 where
  pub valid : Valid main_limits a
  pub under : Capped a.graph (leaves o) a.state.stack a.state.block
  -- over the hall
  pub lots-le : lots_in a.graph + o.lots ≤ 1024
  pub marks-le : marks_in a.graph + o.marks ≤ 8192

-- 25's test
abbrev over_test : Bool → ℕ
over_test b = cond b 0 25

test-passed : (b : Bool) → over_test b ≡ 0 → b ≡ true
test-passed true e = refl
test-passed false e = absurd (omega (arith, e))

module _ (o : Beside) (a : Sale) (f : Settled o a) where
  abbrev g : Hypergraph
  g = a.graph

  own : Fine o g a.state
  own = record { held = f.valid.held; listed = f.valid.listed; under = f.under }

  first-none : (p q : ℕ) → first_of p q ≡ 0 → (p ≡ 0) × (q ≡ 0)
  first-none zero q e = (refl, e)
  first-none (suc p) q e = absurd (omega (arith, e))

  -- X leaves no session heavier
  settled-X : (v : ℕ) → refuses_x g a.state v ≡ 0 → Settled o (does_x a v).sale
  unfolding does_x withdrawn changed_at
  settled-X v q =
      let c = X-counts main_limits a f.valid v q in
      record {
        valid = accepts-X main_limits a f.valid v q;
        under = λ t l u. omega (arith, c.bales-le t, f.under t l u);
        lots-le = omega (arith, c.lots-le, f.lots-le);
        marks-le = omega (arith, c.marks-le, f.marks-le);
      }

  -- N goes where both limits have space
  settled-N : (bales session : ℕ) (buyers : List ℕ) → refuses_beside_n o g a.state bales session buyers ≡ 0 → Settled o (does_n a bales session buyers).sale
  unfolding refuses_beside_n over_limit does_n added changed_at
  settled-N bales session buyers q =
      let n = first-none _ _ q in
      let c = N-counts main_limits a f.valid (space_beside o) bales session buyers n.0 in
      let s = N-space main_limits a f.valid (space_beside o) bales session buyers n.0 in
      let r = leb-true (block_weight g a.state.stack a.state.block session + bales) (leaves o session) (test-passed _ n.1) in
      record {
        valid = accepts-in main_limits a f.valid (space_beside o) (omega arith) (omega arith) bales session buyers n.0;
        under = λ t l u. under_at c r t l u (ℕ_discrete session t);
        lots-le = omega (arith, c.lots-le, s.0);
        marks-le = omega (arith, c.marks-le, s.1, f.marks-le);
      }
    where
      under_at : Grows main_limits a f.valid (does_n a bales session buyers).sale (λ b. cond (eqb session b) bales 0) 1 (length buyers) → block_weight g a.state.stack a.state.block session + bales ≤ leaves o session
          → (t : ℕ) → 1 ≤ t → t ≤ g.blocks → Dec (session ≡ t) → block_weight (does_n a bales session buyers).sale.graph (does_n a bales session buyers).sale.state.stack (does_n a bales session buyers).sale.state.block t ≤ leaves o t
      under_at c r t l u (yes s) = omega (arith, c.bales-le t, r, ap (block_weight g a.state.stack a.state.block) s, ap (leaves o) s, ap (λ (b : Bool). cond b bales 0) (eq-eqb session t s))
      under_at c r t l u (no n) = omega (arith, c.bales-le t, f.under t l u, ap (λ (b : Bool). cond b bales 0) (ne_eqb session t n))

  -- the buyers stay
  pub nets-turn : (c : Request) → length (turn_beside o a c).sale.graph.nets ≡ length a.graph.nets
  unfolding turn_beside ran does_x does_n withdrawn added changed_at
  nets-turn (runs c) = refl
  nets-turn (call_x v) = turned-keeps main_limits (λ b. length b.graph.nets ≡ length a.graph.nets) (refuses_x g a.state v) a (does_x a v) refl (λ _. without-length v a.graph.nets)
  nets-turn (call_n bales session buyers) = turned-keeps main_limits (λ b. length b.graph.nets ≡ length a.graph.nets) (refuses_beside_n o g a.state bales session buyers) a (does_n a bales session buyers) refl (λ _. with-length (number_for g a.free) buyers 1 a.graph.nets)

  pub settled-turn : (c : Request) → Settled o (turn_beside o a c).sale
  unfolding turn_beside ran
  settled-turn (runs c) =
      let w = fine-call o g a.state own c in
      let k = f.valid in
      record { valid = record { ranges = k.ranges; held = w.held; listed = w.listed; free_in = k.free_in; free-once = k.free-once; counted = k.counted }; under = w.under; lots-le = f.lots-le; marks-le = f.marks-le }
  settled-turn (call_x v) = turned-keeps main_limits (Settled o) (refuses_x g a.state v) a (does_x a v) f (settled-X v)
  settled-turn (call_n bales session buyers) = turned-keeps main_limits (Settled o) (refuses_beside_n o g a.state bales session buyers) a (does_n a bales session buyers) f (settled-N bales session buyers)
