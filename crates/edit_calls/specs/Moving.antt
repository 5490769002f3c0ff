-- M and B: what their operation needs, and that their functions' results are the machine's. Rests on Called and Refusal. Assumes nothing.
use Rattle.std.specs.Prelude.{ℕ, ◌+◌, ◌-◌, ◌<◌, ◌≤◌, ◌≡◌, not, ◌&&◌, List, ◌∷◌, eqb, get_or}
use Rattle.std.proofs.Common.{arith, sym, ap₂, ◌∙◌, subst}
use Rattle.std.proofs.Math.Path.{refl, ap}
use Rattle.std.proofs.lemmas.Bool.{eqb-false, not-true, not-false}
use Rattle.laws.specs.Choice.{cond-zero}
use Rattle.laws.specs.Place.{place}
use Rattle.model.specs.Catalogue.{Hypergraph}
use Rattle.model.specs.Measure.{Contraction, on_board, metric, freed, drawn}
use Rattle.model.specs.Machine.{call_m, call_b, says_m, says_b, says_no, Move, State, settle, refuses_m, does_m, does_b}
use Rattle.model.specs.Report.{refusal}
use Rattle.model.specs.Search.{call_under}
use Rattle.model.specs.Lent.{journal_of, stack_of, Two}
use Rattle.guarantees.specs.Calls.{Recorded}
use Rattle.guarantees.specs.Caps.{CeilingIs}
use Rattle.guarantees.specs.StateBounds.{Listed}
use Rattle.guarantees.specs.Reversals.{Apart}
use Rattle.fixed.specs.Starting.{FixedIs}
use Rattle.levels.specs.Halves.{HalvesOf, HalvesNeeds, HalvesFound}
use Rattle.operations.specs.Pairs.{pairs-none, pairs-some, Pushed, pairs-push}
use Rattle.operations.specs.Tables.{Tables, Sound, running_of}
use Rattle.operations.specs.Move.{Open, Goes, Went, own_block, here-board, on-board, in-range}
use Rattle.operations.specs.Keeping.{keeps-none}
use Rattle.edit_calls.specs.Refusal.{known, here, refusal_m, refusal_m-is, known-range}
use Rattle.edit_calls.specs.Steps.{Runs, Ready, told}
use Rattle.edit_calls.specs.Called.{Called, Popped, stepped, refused, settle-no, settle-yes}
use Rattle.edit_calls.specs.Contracting.{above-none, popped-whole, pushed_whole}

-- ---- M
-- an accepted M names a vertex on the board and another block than its own
pub open_of : (blocks loads ceilings fixedmarks weights : List ℕ) (n k u t : ℕ) → refusal_m blocks loads ceilings fixedmarks weights n k u t ≡ 0 → (1 ≤ u) × Open blocks n k (u - 1) t
unfolding refusal_m
open_of blocks loads ceilings fixedmarks weights n k u t q =
    let a = cond-zero (not (known n u && known k t)) 9 _ (omega arith) q in
    let b = cond-zero (not (here blocks u)) 10 _ (omega arith) a.1 in
    let d = cond-zero (eqb (get_or blocks (u - 1) 0) t) 12 _ (omega arith) b.1 in
    let r = known-range n u k t {r = known n u && known k t} refl a.0 in (
      r.0.0,
      record {
        u-in = omega arith;
        on = above-none _ (eqb-false (get_or blocks (u - 1) 0) 0 (not-true (eqb (get_or blocks (u - 1) 0) 0) (not-false (here blocks u) b.0)));
        t-in = r.1;
        away = eqb-false (get_or blocks (u - 1) 0) t d.0;
      },
    )

-- the halves of an open pair can be worked out
halves_of : {h : Hypergraph} {cs : List Contraction} {block : ℕ → ℕ} {T : Tables} {u t : ℕ} → Sound h cs block T → Open T.blocks T.n T.k u t → HalvesOf h cs block (running_of T) T.n T.m T.k u t
halves_of {T = T} {u = u} s o =
    let on = on-board s u o.u-in o.on in
    record { loaded = T.loaded; follows = s.follows; on-board = on; u-in = o.u-in; own_in = in-range s u o.u-in (here-board s u o.u-in o.on); t-in = o.t-in }

pub halves-needs : {T : Tables} {S J : Two} {u t : ℕ} → Ready T S J → Open T.blocks T.n T.k u t → HalvesNeeds T.counts T.bits T.blocks T.net_weights T.m u t
halves-needs {T} g o = record { h = g.h; cs = g.s.stack; block = g.s.block; visited = T.visited; gains = T.gains; pins = T.pins; sizes = T.sizes; firsts = T.firsts; n = T.n; k = T.k; of = halves_of g.runs.sound o }

pub refused-M : {h : Hypergraph} {ceiling : ℕ → ℕ} (T : Tables) {S J : Two} (ceilings fixedmarks : List ℕ) (u t q f d total : ℕ) → CeilingIs ceilings h ceiling → FixedIs fixedmarks h (stack_of S.xs S.ys S.len) → q ≡ refusal_m T.blocks T.loads ceilings fixedmarks T.weights T.n T.k u t → (q ≡ 0 → ⊥)
    → Called h ceiling T T S S J J (call_m u t) (told q (says_m f d total))
unfolding call_under
refused-M {h} {ceiling} T ceilings fixedmarks u t q f d total qc qx e n = record {
  steps = λ s r. refused (call_m u t)
      (ap (λ (z : ℕ). settle z s (does_m h s u t)) (sym (e ∙ refusal_m-is r.sound ceiling ceilings fixedmarks qc (subst (FixedIs fixedmarks h) r.stack_is qx) s refl refl u t))
      ∙ settle-no q s (does_m h s u t) (says_m f d total) n) r;
  keeps = λ s r. keeps-none T;
  unchanged = λ _. (refl, refl, refl);
}

module _ (h : Hypergraph) (T T' : Tables) (S J J' : Two) (ceilings fixedmarks : List ℕ) (u t b f : ℕ) (e : refusal_m T.blocks T.loads ceilings fixedmarks T.weights T.n T.k u t ≡ 0) (qb : b ≡ t) (w : Went T T' (u - 1) b)
    (room : J.len < 512) (qf : f ≡ get_or T.blocks (u - 1) 0) (p : Pushed J.xs J.ys J.len u f J'.xs J'.ys J'.len) where
  ok : (1 ≤ u) × Open T.blocks T.n T.k (u - 1) t
  ok = open_of T.blocks T.loads ceilings fixedmarks T.weights T.n T.k u t e

  u-is : u - 1 + 1 ≡ u
  u-is = omega (arith, ok.0)

  module _ (s : State) (r : Runs h s T S J) where
    sound-M : Sound h s.stack (place s.block u t) T'
    sound-M = subst (λ (x : ℕ). Sound h s.stack (place s.block x t) T') u-is (subst (λ (x : ℕ). Sound h s.stack (place s.block (u - 1 + 1) x) T') qb (w.sound h s.stack s.block r.sound))

    from-M : f ≡ s.block u
    from-M = qf ∙ own_block r.sound (u - 1) ok.1.u-in ∙ ap s.block u-is

    journal-M : journal_of J'.xs J'.ys J'.len ≡ record { vertex = u; from = s.block u } ∷ s.journal
    journal-M =
        pairs-push (λ v x. record { vertex = v; from = x }) (omega (arith, room, r.journal-whole.xs-whole)) (omega (arith, room, r.journal-whole.ys-whole)) p
        ∙ ap₂ (λ (x : ℕ) (l : List Move). record { vertex = u; from = x } ∷ l) from-M r.journal-is

    -- the answer's numbers are the machine's
    says-M : {fr dr : ℕ} → HalvesFound T.counts T.bits T.blocks T.net_weights T.m (u - 1) t fr dr →
        says_m fr dr T'.total ≡ says_m (freed h s.stack s.block u) (drawn h s.stack s.block u t) (metric h s.stack (place s.block u t))
    says-M q =
        let are = q.are h s.stack s.block T.visited T.gains T.pins T.sizes T.firsts T.n T.k (halves_of r.sound ok.1) in
        let fr-is = are.0 ∙ ap (freed h s.stack s.block) u-is in
        let dr-is = are.1 ∙ ap (λ (x : ℕ). drawn h s.stack s.block x t) u-is in
        cc (fr-is, dr-is, sound-M.total-is)

  pub accepted-M : {ceiling : ℕ → ℕ} → CeilingIs ceilings h ceiling → FixedIs fixedmarks h (stack_of S.xs S.ys S.len) → {fr dr : ℕ} → HalvesFound T.counts T.bits T.blocks T.net_weights T.m (u - 1) t fr dr → Called h ceiling T T' S S J J' (call_m u t) (says_m fr dr T'.total)
  unfolding call_under does_m refusal
  accepted-M {ceiling} qc qx {fr} {dr} q = record {
    steps = λ s r. stepped (call_m u t) (does_m h s u t)
        (settle-yes (refuses_m h ceiling s u t) s (does_m h s u t) (sym (refusal_m-is r.sound ceiling ceilings fixedmarks qc (subst (FixedIs fixedmarks h) r.stack_is qx) s refl refl u t) ∙ e))
        r (record {
          sound = sound-M s r;
          stack_is = r.stack_is;
          journal-is = journal-M s r;
          stack-whole = r.stack-whole;
          journal-whole = pushed_whole room p r.journal-whole;
        }) (says-M s r q) (omega (arith, p.len_is));
    keeps = λ s r. w.keeps;
    unchanged = λ l. absurd (omega arith);
  }

pub goes-as : {T : Tables} {S J : Two} {u t b : ℕ} (g : Ready T S J) → Open T.blocks T.n T.k u t → b ≡ t → Goes T u b
goes-as {T} {u = u} g o q = record {
  h = g.h;
  cs = g.s.stack;
  block = g.s.block;
  sound = g.runs.sound;
  open-pair = subst (λ (x : ℕ). Open T.blocks T.n T.k u x) (sym q) o;
}

-- ---- B
-- the latest move
abbrev pub last_move : Two → Move
last_move J = record { vertex = get_or J.xs (J.len - 1) 0; from = get_or J.ys (J.len - 1) 0 }

abbrev earlier : Two → List Move
earlier J = journal_of J.xs J.ys (J.len - 1)

pub refused-B : {h : Hypergraph} {ceiling : ℕ → ℕ} (T : Tables) {S J : Two} → J.len ≡ 0 → Called h ceiling T T S S J J call_b (says_no 15)
unfolding call_under does_b
refused-B {h} T {J = J} q = record {
  steps = λ s r. refused call_b (ap (does_b h s) (sym r.journal-is ∙ ap (journal_of J.xs J.ys) q ∙ pairs-none (λ v x. record { vertex = v; from = x }) J.xs J.ys)) r;
  keeps = λ s r. keeps-none T;
  unchanged = λ _. (refl, refl, refl);
}

module _ {h : Hypergraph} {s : State} {T : Tables} {S J : Two} (r : Runs h s T S J) (l : 1 ≤ J.len) where
  journal-top : s.journal ≡ last_move J ∷ earlier J
  journal-top = sym r.journal-is ∙ pairs-some (λ v x. record { vertex = v; from = x }) J.xs J.ys J.len l

  -- it can be reversed
  pub back-open : (1 ≤ (last_move J).vertex) × Open T.blocks T.n T.k ((last_move J).vertex - 1) (last_move J).from
  back-open =
      let m = last_move J in
      let i = (subst (Listed h) journal-top r.listed).0 in
      let rec = (subst (Recorded h s.stack) journal-top r.legal.recorded).0 in
      let away = (subst (Apart s.block) journal-top r.apart).0 in
      let v-is : m.vertex - 1 + 1 ≡ m.vertex = omega (arith, i.0) in
      let v-in : m.vertex - 1 < T.n = omega (arith, i.0, i.1, r.sound.follows.says.all-vertices) in
      let own : get_or T.blocks (m.vertex - 1) 0 ≡ s.block m.vertex = own_block r.sound (m.vertex - 1) v-in ∙ ap s.block v-is in (
        i.0,
        record {
          u-in = v-in;
          on = omega (arith, own_block r.sound (m.vertex - 1) v-in, (in-range r.sound (m.vertex - 1) v-in (ap (on_board h s.stack) v-is ∙ rec.0)).0);
          t-in = omega (arith, rec.1, rec.2, r.sound.follows.says.all_blocks);
          away = λ z. away (sym own ∙ z);
        },
      )

pub goes-ok : {T : Tables} {S J : Two} (g : Ready T S J) → 1 ≤ J.len → (u : ℕ) → u ≡ (last_move J).vertex → Goes T (u - 1) (last_move J).from
goes-ok {T} {J = J} g l u q = record {
  h = g.h;
  cs = g.s.stack;
  block = g.s.block;
  sound = g.runs.sound;
  open-pair = subst (λ (x : ℕ). Open T.blocks T.n T.k (x - 1) (last_move J).from) (sym q) (back-open g.runs l).1;
}

module _ (h : Hypergraph) (T T' : Tables) (S J J' : Two) (l : 1 ≤ J.len) (u : ℕ) (qu : u ≡ (last_move J).vertex) (w : Went T T' (u - 1) (last_move J).from) (p : Popped J J') where
  sound-B : (s : State) → Runs h s T S J → Sound h s.stack (place s.block (last_move J).vertex (last_move J).from) T'
  sound-B s r =
      let a : u - 1 + 1 ≡ (last_move J).vertex = omega (arith, (back-open r l).0) in
      subst (λ (x : ℕ). Sound h s.stack (place s.block x (last_move J).from) T') a (w.sound h s.stack s.block r.sound)

  journal-B : journal_of J'.xs J'.ys J'.len ≡ earlier J
  journal-B = rw (p.xs-same, p.ys-same, p.len_is)

  pub accepted-B : {ceiling : ℕ → ℕ} (x y : ℕ) → x ≡ (last_move J).vertex → y ≡ (last_move J).from → Called h ceiling T T' S S J J' call_b (says_b x y T'.total)
  unfolding call_under does_b refusal
  accepted-B x y qx qy = record {
    steps = λ s r. stepped call_b (does_b h s (last_move J ∷ earlier J)) (ap (does_b h s) (journal-top r l)) r (record {
      sound = sound-B s r;
      stack_is = r.stack_is;
      journal-is = journal-B;
      stack-whole = r.stack-whole;
      journal-whole = popped-whole p r.journal-whole;
    }) (ap₂ (λ (a b : ℕ). says_b a b T'.total) qx qy ∙ ap (says_b (last_move J).vertex (last_move J).from) (sound-B s r).total-is) (omega (arith, p.len_is));
    keeps = λ s r. w.keeps;
    unchanged = λ l. absurd (omega arith);
  }
