-- J and S: what their operations need, and that their functions' results are the machine's. Rests on Called and Refusal. Assumes nothing.
use Rattle.std.specs.Prelude.{ℕ, zero, suc, ◌+◌, ◌-◌, ◌≤◌, ◌<◌, ◌≡◌, not, ◌&&◌, List, [], ◌∷◌, eqb, length, get_or}
use Rattle.std.proofs.Common.{arith, sym, ap, ap₂, ◌∙◌, subst, eqb-true, length-set}
use Rattle.std.proofs.Math.Path.{refl}
use Rattle.std.proofs.lemmas.Bool.{eqb-false, not-true, not-false}
use Rattle.laws.specs.Choice.{cond-zero, and_right}
use Rattle.laws.specs.Place.{place}
use Rattle.model.specs.Catalogue.{Hypergraph}
use Rattle.model.specs.Measure.{Contraction, above, weight}
use Rattle.model.specs.Machine.{call_j, call_s, says_j, says_s, says_no, State, settle, refuses_j, contract, does_j, uncontract, does_s}
use Rattle.model.specs.Report.{refusal}
use Rattle.model.specs.Search.{call_under}
use Rattle.model.specs.Lent.{stack_of, journal_of, Two}
use Rattle.guarantees.specs.Splits.{AllInside, into-on}
use Rattle.pins.specs.Board.{join}
use Rattle.operations.specs.Pairs.{pairs-none, pairs-some, Pushed, pairs-push}
use Rattle.operations.specs.Tables.{Tables, Sound}
use Rattle.operations.specs.Move.{own-weight}
use Rattle.operations.specs.Join.{Pair, Joined, Splits, Split}
use Rattle.operations.specs.Keeping.{keeps-none}
use Rattle.edit_calls.specs.Refusal.{known, here, refusal_j, refusal_j-is, known-range}
use Rattle.edit_calls.specs.Steps.{Whole, Runs, Ready, told}
use Rattle.edit_calls.specs.Called.{Called, Popped, Cleared, stepped, refused, settle-no, settle-yes}

pub above-none : (x : ℕ) → (x ≡ 0 → ⊥) → 1 ≤ x
above-none zero n = absurd (n refl)
above-none (suc x) n = omega arith

pub emptied : {J J' : Two} → Cleared J J' → journal_of J'.xs J'.ys J'.len ≡ []
emptied {J' = J'} c = ap (journal_of J'.xs J'.ys) c.len_is ∙ pairs-none (λ v b. record { vertex = v; from = b }) J'.xs J'.ys

pub cleared-whole : {J J' : Two} → Cleared J J' → Whole J → Whole J'
cleared-whole c w = record { xs-whole = ap length c.xs-same ∙ w.xs-whole; ys-whole = ap length c.ys-same ∙ w.ys-whole; short = omega (arith, c.len_is) }

pub popped-whole : {S S' : Two} → Popped S S' → Whole S → Whole S'
popped-whole c w = record { xs-whole = ap length c.xs-same ∙ w.xs-whole; ys-whole = ap length c.ys-same ∙ w.ys-whole; short = omega (arith, c.len_is, w.short) }

pub pushed_whole : {S S' : Two} {x y : ℕ} → S.len < 512 → Pushed S.xs S.ys S.len x y S'.xs S'.ys S'.len → Whole S → Whole S'
pushed_whole {S} {x = x} {y = y} room p w = record {
  xs-whole = ap length p.xs-are ∙ length-set S.xs S.len x ∙ w.xs-whole;
  ys-whole = ap length p.ys-are ∙ length-set S.ys S.len y ∙ w.ys-whole;
  short = omega (arith, room, p.len_is);
}

-- ---- J
-- an accepted J names two vertices on the board, of one block
pub pair_of : (blocks : List ℕ) (n u v : ℕ) → refusal_j blocks n u v ≡ 0 → ((1 ≤ u) × (1 ≤ v)) × Pair blocks n (u - 1) (v - 1)
unfolding refusal_j
pair_of blocks n u v q =
    let a = cond-zero (not (known n u && known n v)) 9 _ (omega arith) q in
    let b = cond-zero (eqb u v) 11 _ (omega arith) a.1 in
    let d = cond-zero (not (here blocks u && here blocks v)) 10 _ (omega arith) b.1 in
    let f = cond-zero (not (eqb (get_or blocks (u - 1) 0) (get_or blocks (v - 1) 0))) 13 0 (omega arith) d.1 in
    let r = known-range n u n v {r = known n u && known n v} refl a.0 in
    let on = and_right (here blocks u) (here blocks v) (not-false (here blocks u && here blocks v) d.0) in (
      (r.0.0, r.1.0),
      record {
        u-in = omega arith;
        v-in = omega arith;
        two = λ z. eqb-false u v b.0 (omega arith);
        on = above-none _ (eqb-false (get_or blocks (v - 1) 0) 0 (not-true (eqb (get_or blocks (v - 1) 0) 0) on));
        together = eqb-true (get_or blocks (u - 1) 0) (get_or blocks (v - 1) 0) (not-false (eqb (get_or blocks (u - 1) 0) (get_or blocks (v - 1) 0)) f.0);
      },
    )

pub refused-J : {h : Hypergraph} {ceiling : ℕ → ℕ} (T : Tables) {S J : Two} (u v q w : ℕ) → q ≡ refusal_j T.blocks T.n u v → (q ≡ 0 → ⊥) → Called h ceiling T T S S J J (call_j u v) (told q (says_j w))
unfolding call_under
refused-J {h} T u v q w e n = record {
  steps = λ s r. refused (call_j u v) (ap (λ (z : ℕ). settle z s (does_j h s u v)) (sym (e ∙ refusal_j-is r.sound s refl refl u v)) ∙ settle-no q s (does_j h s u v) (says_j w) n) r;
  keeps = λ s r. keeps-none T;
  unchanged = λ _. (refl, refl, refl);
}

module _ (h : Hypergraph) (T T' : Tables) (S S' J J' : Two) (u v : ℕ) (e : refusal_j T.blocks T.n u v ≡ 0) (same-n : T'.n ≡ T.n) (j : Joined T T' (u - 1) (v - 1))
    (room : S.len < 512) (p : Pushed S.xs S.ys S.len u v S'.xs S'.ys S'.len) (c : Cleared J J') where
  ok : ((1 ≤ u) × (1 ≤ v)) × Pair T.blocks T.n (u - 1) (v - 1)
  ok = pair_of T.blocks T.n u v e

  u-is : u - 1 + 1 ≡ u
  u-is = omega (arith, ok.0.0)

  v-is : v - 1 + 1 ≡ v
  v-is = omega (arith, ok.0.1)

  module _ (s : State) (r : Runs h s T S J) where
    sound-J : Sound h (record { into = u; gone = v } ∷ s.stack) (place s.block v 0) T'
    sound-J = subst (λ (x : ℕ). Sound h (record { into = x; gone = v } ∷ s.stack) (place s.block v 0) T') u-is
        (subst (λ (y : ℕ). Sound h (record { into = u - 1 + 1; gone = y } ∷ s.stack) (place s.block y 0) T') v-is (j.sound h s.stack s.block r.sound))

    weight-J : get_or T'.weights (u - 1) 0 ≡ weight h (record { into = u; gone = v } ∷ s.stack) u
    weight-J =
        let top : Contraction = record { into = u; gone = v } in
        own-weight sound-J (u - 1) (omega (arith, ok.1.u-in, same-n)) (ap (above (top ∷ s.stack)) u-is ∙ into-on h s.stack top sound-J.follows.says.sound.0)
        ∙ ap (weight h (top ∷ s.stack)) u-is

    stack-J : stack_of S'.xs S'.ys S'.len ≡ record { into = u; gone = v } ∷ s.stack
    stack-J =
        pairs-push (λ x y. record { into = x; gone = y }) (omega (arith, room, r.stack-whole.xs-whole)) (omega (arith, room, r.stack-whole.ys-whole)) p
        ∙ ap (λ (l : List Contraction). record { into = u; gone = v } ∷ l) r.stack_is

  pub accepted-J : {ceiling : ℕ → ℕ} (w : ℕ) → w ≡ get_or T'.weights (u - 1) 0 → Called h ceiling T T' S S' J J' (call_j u v) (says_j w)
  unfolding call_under does_j contract refusal
  accepted-J w q = record {
    steps = λ s r. stepped (call_j u v) (does_j h s u v) (settle-yes (refuses_j h s u v) s (does_j h s u v) (sym (refusal_j-is r.sound s refl refl u v) ∙ e)) r (record {
      sound = sound-J s r;
      stack_is = stack-J s r;
      journal-is = emptied c;
      stack-whole = pushed_whole room p r.stack-whole;
      journal-whole = cleared-whole c r.journal-whole;
    }) (ap says_j (q ∙ weight-J s r)) (omega (arith, c.len_is));
    keeps = λ s r. j.keeps h s.stack s.block r.sound;
    unchanged = λ l. absurd (omega arith);
  }

-- ---- S
-- the latest join
abbrev pub top_join : Two → Contraction
top_join S = record { into = get_or S.xs (S.len - 1) 0; gone = get_or S.ys (S.len - 1) 0 }

abbrev lower : Two → List Contraction
lower S = stack_of S.xs S.ys (S.len - 1)

pub refused-S : {h : Hypergraph} {ceiling : ℕ → ℕ} (T : Tables) {S J : Two} → S.len ≡ 0 → Called h ceiling T T S S J J call_s (says_no 15)
unfolding call_under does_s
refused-S {h} T {S} q = record {
  steps = λ s r. refused call_s (ap (does_s s) (sym r.stack_is ∙ ap (stack_of S.xs S.ys) q ∙ pairs-none (λ x y. record { into = x; gone = y }) S.xs S.ys)) r;
  keeps = λ s r. keeps-none T;
  unchanged = λ _. (refl, refl, refl);
}

module _ {h : Hypergraph} {s : State} {T : Tables} {S J : Two} (r : Runs h s T S J) (l : 1 ≤ S.len) where
  stack_top : s.stack ≡ top_join S ∷ lower S
  stack_top = sym r.stack_is ∙ pairs-some (λ x y. record { into = x; gone = y }) S.xs S.ys S.len l

  pub top_in : ((1 ≤ (top_join S).into) × ((top_join S).into ≤ 1024)) × ((1 ≤ (top_join S).gone) × ((top_join S).gone ≤ 1024))
  top_in =
      let i = (subst (AllInside h) stack_top r.legal.inside).0 in
      omega (arith, i.0, i.1, i.2, i.3, r.sound.follows.room.few-vertices, r.sound.follows.says.all-vertices)

  -- the latest join, counted from 0, is on top of the stack that the tables are sound for
  top_sound : (u v : ℕ) → u ≡ (top_join S).into → v ≡ (top_join S).gone → Sound h (join (u - 1) (v - 1) ∷ lower S) s.block T
  top_sound u v qu qv =
      let a : (top_join S).into ≡ u - 1 + 1 = omega (arith, top_in) in
      let b : (top_join S).gone ≡ v - 1 + 1 = omega (arith, top_in) in
      subst (λ (x : ℕ). Sound h (record { into = x; gone = v - 1 + 1 } ∷ lower S) s.block T) a
      (subst (λ (y : ℕ). Sound h (record { into = (top_join S).into; gone = y } ∷ lower S) s.block T) b
      (subst (λ (z : List Contraction). Sound h z s.block T) stack_top r.sound))

pub splits-ok : {T : Tables} {S J : Two} (g : Ready T S J) → 1 ≤ S.len → (u v : ℕ) → u ≡ (top_join S).into → v ≡ (top_join S).gone → Splits T (u - 1) (v - 1)
splits-ok {S = S} g l u v qu qv = record { h = g.h; cs = lower S; block = g.s.block; sound = top_sound g.runs l u v qu qv }

module _ (h : Hypergraph) (T T' : Tables) (S S' J J' : Two) (l : 1 ≤ S.len) (u v : ℕ) (qu : u ≡ (top_join S).into) (qv : v ≡ (top_join S).gone) (j : Split T T' (u - 1) (v - 1)) (p : Popped S S') (c : Cleared J J') where
  sound-S : (s : State) → Runs h s T S J → Sound h (lower S) (uncontract s.block (top_join S)) T'
  sound-S s r =
      let a : u - 1 + 1 ≡ (top_join S).into = omega (arith, top_in r l) in
      let b : v - 1 + 1 ≡ (top_join S).gone = omega (arith, top_in r l) in
      subst (λ (x : ℕ). Sound h (lower S) (uncontract s.block (record { into = x; gone = (top_join S).gone })) T') a
      (subst (λ (y : ℕ). Sound h (lower S) (uncontract s.block (record { into = u - 1 + 1; gone = y })) T') b
      (j.sound h (lower S) s.block (top_sound r l u v qu qv)))

  stack-S : stack_of S'.xs S'.ys S'.len ≡ lower S
  stack-S = rw (p.xs-same, p.ys-same, p.len_is)

  pub accepted-S : {ceiling : ℕ → ℕ} (x y : ℕ) → x ≡ (top_join S).into → y ≡ (top_join S).gone → Called h ceiling T T' S S' J J' call_s (says_s x y)
  unfolding call_under does_s refusal
  accepted-S x y qx qy = record {
    steps = λ s r. stepped call_s (does_s s (top_join S ∷ lower S)) (ap (does_s s) (stack_top r l)) r (record {
      sound = sound-S s r;
      stack_is = stack-S;
      journal-is = emptied c;
      stack-whole = popped-whole p r.stack-whole;
      journal-whole = cleared-whole c r.journal-whole;
    }) (ap₂ says_s qx qy) (omega (arith, c.len_is));
    keeps = λ s r. j.keeps;
    unchanged = λ l. absurd (omega arith);
  }
