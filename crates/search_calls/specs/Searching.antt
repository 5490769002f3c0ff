-- W and P: what their functions need, and that their results are the machine's. Rests on edit_calls's Called and Refusal and on search's contracts.
-- Assumes nothing.
use Rattle.std.specs.Prelude.{ℕ, ◌+◌, ◌-◌, ◌*◌, ◌<◌, ◌≤◌, ◌≡◌, true, not, ◌&&◌, List, eqb, length, get_or}
use Rattle.std.proofs.Common.{arith, sym, ap₂, ◌∙◌, subst}
use Rattle.std.proofs.Math.Path.{refl, ap}
use Rattle.std.proofs.lemmas.Bool.{eqb-false, not-true, not-false}
use Rattle.laws.specs.Choice.{cond-zero, and_left, and_right}
use Rattle.model.specs.Catalogue.{Hypergraph}
use Rattle.model.specs.Machine.{call_w, call_p, says_w, says_p, State, settle}
use Rattle.model.specs.Report.{refusal}
use Rattle.model.specs.Search.{walk, refuses_w, does_w, does_p, call_under}
use Rattle.model.specs.Measure.{Contraction}
use Rattle.model.specs.Lent.{Two, stack_of}
use Rattle.guarantees.specs.Caps.{CeilingIs}
use Rattle.guarantees.specs.SearchBounds.{tried-le, walk-counts}
use Rattle.index.specs.Indexed.{TablesOk}
use Rattle.operations.specs.Tables.{Tables}
use Rattle.search_moves.specs.Tabled.{rows_ok}
use Rattle.operations.specs.Keeping.{keeps-none}
use Rattle.fixed.specs.Starting.{FixedIs}
use Rattle.walk.specs.Steps.{WalkOk, Ended, Walks}
use Rattle.polish.specs.Polished.{PolishOk, Polishes}
use Rattle.edit_calls.specs.Refusal.{known, here, refusal_w, refusal_w-is, known-range}
use Rattle.edit_calls.specs.Steps.{Runs, told}
use Rattle.edit_calls.specs.Called.{ReadyM, Called, Cleared, stepped, refused, settle-no, settle-yes}
use Rattle.edit_calls.specs.Contracting.{above-none, emptied, cleared-whole}

-- what W and P need beyond M's needs: marks that say who is fixed
pub record ReadyW (T : List ℕ → List ℕ → Tables) (J : Two) (fixedmarks : List ℕ) : Type 0 where
  pub moving : ReadyM T J
  pub fixed : FixedIs fixedmarks moving.ready.h (stack_of moving.stack.xs moving.stack.ys moving.stack.len)

-- the stack is the machine's
fixed-now : {h : Hypergraph} {s : State} {T : Tables} {S J : Two} {fixedmarks : List ℕ} → Runs h s T S J → FixedIs fixedmarks h (stack_of S.xs S.ys S.len) → FixedIs fixedmarks h s.stack
fixed-now {h} {fixedmarks = fixedmarks} r f = subst (λ (cs : List Contraction). FixedIs fixedmarks h cs) r.stack_is f

-- ---- W
-- two vertices on the board
pub record Both (blocks : List ℕ) (n u v : ℕ) : Type 0 where
  pub u-from : 1 ≤ u
  pub u-to : u ≤ n
  pub u-on : 1 ≤ get_or blocks (u - 1) 0
  pub v-from : 1 ≤ v
  pub v-to : v ≤ n
  pub v-on : 1 ≤ get_or blocks (v - 1) 0

here_on : (blocks : List ℕ) (u : ℕ) → here blocks u ≡ true → 1 ≤ get_or blocks (u - 1) 0
here_on blocks u q = above-none _ (eqb-false (get_or blocks (u - 1) 0) 0 (not-true (eqb (get_or blocks (u - 1) 0) 0) q))

-- an accepted W names such
pub both_of : (blocks : List ℕ) (n u v : ℕ) → refusal_w blocks n u v ≡ 0 → Both blocks n u v
unfolding refusal_w
both_of blocks n u v q =
    let a = cond-zero (not (known n u && known n v)) 9 _ (omega arith) q in
    let b = cond-zero (not (here blocks u && here blocks v)) 10 0 (omega arith) a.1 in
    let r = known-range n u n v {r = known n u && known n v} refl a.0 in
    let on = not-false (here blocks u && here blocks v) b.0 in
    record {
      u-from = r.0.0;
      u-to = r.0.1;
      u-on = here_on blocks u (and_left (here blocks u) (here blocks v) on);
      v-from = r.1.0;
      v-to = r.1.1;
      v-on = here_on blocks v (and_right (here blocks u) (here blocks v) on);
    }

pub walk-asks : {T : List ℕ → List ℕ → Tables} {J : Two} {fixedmarks : List ℕ} (u v : ℕ) (w : ReadyW T J fixedmarks) → refusal_w (T w.moving.aboves w.moving.loaded).blocks (T w.moving.aboves w.moving.loaded).n u v ≡ 0 → WalkOk T fixedmarks (u - 1) (v - 1)
walk-asks {T} u v w e =
    let g = w.moving in
    let b = both_of (T g.aboves g.loaded).blocks (T g.aboves g.loaded).n u v e in
    record {
      aboves = g.aboves;
      loaded = g.loaded;
      h = g.ready.h;
      cs = g.ready.s.stack;
      block = g.ready.s.block;
      sound = g.ready.runs.sound;
      fixed = fixed-now g.ready.runs w.fixed;
      u-in = omega (arith, b.u-from, b.u-to);
      u-on = b.u-on;
      v-in = omega (arith, b.v-from, b.v-to);
      v-on = b.v-on;
    }

-- after a walk or a polish the rows of the index can be made right
pub walk_rows : {T T' : List ℕ → List ℕ → Tables} {J : Two} {ceilings fixedmarks : List ℕ} {u v tried kept places : ℕ} (w : ReadyW T J fixedmarks) → ((aboves loaded : List ℕ) → Walks (T aboves loaded) ceilings fixedmarks u v (T' aboves loaded) tried kept)
    → 16 * (T' w.moving.aboves w.moving.loaded).n ≤ places → let T'' : Tables = T' w.moving.aboves w.moving.loaded in TablesOk places (length T''.gains) T''.blocks T''.n T''.k
walk_rows {ceilings = ceilings} w f l =
    let g = w.moving in
    rows_ok ((f g.aboves g.loaded).is g.ready.h (λ b. get_or ceilings (b - 1) 0) g.ready.s.stack g.ready.s.block (λ b _ _. refl) (fixed-now g.ready.runs w.fixed) g.ready.runs.sound).sound l

pub polish-rows : {T T' : List ℕ → List ℕ → Tables} {J : Two} {ceilings fixedmarks : List ℕ} {moves places : ℕ} (w : ReadyW T J fixedmarks) → ((aboves loaded : List ℕ) → Polishes (T aboves loaded) ceilings fixedmarks (T' aboves loaded) moves)
    → 16 * (T' w.moving.aboves w.moving.loaded).n ≤ places → let T'' : Tables = T' w.moving.aboves w.moving.loaded in TablesOk places (length T''.gains) T''.blocks T''.n T''.k
polish-rows {ceilings = ceilings} w f l =
    let g = w.moving in
    rows_ok ((f g.aboves g.loaded).is g.ready.h (λ b. get_or ceilings (b - 1) 0) g.ready.s.stack g.ready.s.block (λ b _ _. refl) (fixed-now g.ready.runs w.fixed) g.ready.runs.sound).sound l

-- a walk's numbers are small
pub walk-few : {T T' : List ℕ → List ℕ → Tables} {J : Two} {ceilings fixedmarks : List ℕ} {u v tried kept : ℕ} (w : ReadyW T J fixedmarks) → ((aboves loaded : List ℕ) → Walks (T aboves loaded) ceilings fixedmarks u v (T' aboves loaded) tried kept) → (tried < 65536) × (kept < 65536)
walk-few {ceilings = ceilings} {u = u} {v} w f =
    let g = w.moving in
    let ceiling : ℕ → ℕ = λ b. get_or ceilings (b - 1) 0 in
    let s = g.ready.runs.sound in
    let cs = g.ready.s.stack in
    let block = g.ready.s.block in
    let e = (f g.aboves g.loaded).is g.ready.h ceiling cs block (λ b _ _. refl) (fixed-now g.ready.runs w.fixed) s in
    let l = tried-le g.ready.h ceiling cs block (u + 1) (v + 1) in (
      omega (arith, e.tried-is, l, s.follows.says.all-vertices, s.follows.room.few-vertices),
      omega (arith, e.kept-is, (walk-counts g.ready.h ceiling cs block (u + 1) (v + 1)).kept-le, l, s.follows.says.all-vertices, s.follows.room.few-vertices),
    )

pub refused-W : {h : Hypergraph} {ceiling : ℕ → ℕ} (T : Tables) {S J : Two} (u v q tried kept total : ℕ) → q ≡ refusal_w T.blocks T.n u v → (q ≡ 0 → ⊥) → Called h ceiling T T S S J J (call_w u v) (told q (says_w tried kept total))
unfolding call_under
refused-W {h} {ceiling} T u v q tried kept total e n = record {
  steps = λ s r. refused (call_w u v) (ap (λ (z : ℕ). settle z s (does_w h ceiling s u v)) (sym (e ∙ refusal_w-is r.sound s refl u v)) ∙ settle-no q s (does_w h ceiling s u v) (says_w tried kept total) n) r;
  keeps = λ s r. keeps-none T;
  unchanged = λ _. (refl, refl, refl);
}

module _ (h : Hypergraph) (ceiling : ℕ → ℕ) (T T' : Tables) (S J J' : Two) (ceilings fixedmarks : List ℕ) (u v : ℕ) {tried kept : ℕ} (lim : CeilingIs ceilings h ceiling) (fix : FixedIs fixedmarks h (stack_of S.xs S.ys S.len)) (e : refusal_w T.blocks T.n u v ≡ 0) (w : Walks T ceilings fixedmarks (u - 1) (v - 1) T' tried kept) (c : Cleared J J') where
  ended : (s : State) → Runs h s T S J → Ended h s.stack (walk h ceiling s.stack s.block u v) T' tried kept
  ended s r =
      let b = both_of T.blocks T.n u v e in
      let u-is : u - 1 + 1 ≡ u = omega (arith, b.u-from) in
      let v-is : v - 1 + 1 ≡ v = omega (arith, b.v-from) in
      subst (λ (x : ℕ). Ended h s.stack (walk h ceiling s.stack s.block x v) T' tried kept) u-is
      (subst (λ (y : ℕ). Ended h s.stack (walk h ceiling s.stack s.block (u - 1 + 1) y) T' tried kept) v-is (w.is h ceiling s.stack s.block lim (fixed-now r fix) r.sound))

  pub accepted-W : (x y : ℕ) → x ≡ tried → y ≡ kept → Called h ceiling T T' S S J J' (call_w u v) (says_w x y T'.total)
  unfolding call_under does_w refusal
  accepted-W x y qx qy = record {
    steps = λ s r.
        let d = ended s r in
        stepped (call_w u v) (does_w h ceiling s u v) (settle-yes (refuses_w h s u v) s (does_w h ceiling s u v) (sym (refusal_w-is r.sound s refl u v) ∙ e)) r (record {
          sound = d.sound;
          stack_is = r.stack_is;
          journal-is = emptied c;
          stack-whole = r.stack-whole;
          journal-whole = cleared-whole c r.journal-whole;
        }) (ap₂ (λ (a b : ℕ). says_w a b T'.total) (qx ∙ d.tried-is) (qy ∙ d.kept-is) ∙ ap (says_w (walk h ceiling s.stack s.block u v).tried (walk h ceiling s.stack s.block u v).kept) d.sound.total-is) (omega (arith, c.len_is));
    keeps = λ s r. w.keeps;
    unchanged = λ l. absurd (omega arith);
  }

-- ---- P
pub polish-asks : {T : List ℕ → List ℕ → Tables} {J : Two} {fixedmarks : List ℕ} → ReadyW T J fixedmarks → PolishOk T fixedmarks
polish-asks w = let g = w.moving in record {
  aboves = g.aboves;
  loaded = g.loaded;
  h = g.ready.h;
  cs = g.ready.s.stack;
  block = g.ready.s.block;
  sound = g.ready.runs.sound;
  fixed = fixed-now g.ready.runs w.fixed;
}

pub accepted-P : (h : Hypergraph) (ceiling : ℕ → ℕ) (T T' : Tables) (S J J' : Two) (ceilings fixedmarks : List ℕ) {moves : ℕ} → CeilingIs ceilings h ceiling → FixedIs fixedmarks h (stack_of S.xs S.ys S.len) → Polishes T ceilings fixedmarks T' moves → Cleared J J' → Called h ceiling T T' S S J J' call_p (says_p moves T'.total)
unfolding call_under does_p refusal
accepted-P h ceiling T T' S J J' ceilings fixedmarks lim fix p c = record {
  steps = λ s r.
      let d = p.is h ceiling s.stack s.block lim (fixed-now r fix) r.sound in
      stepped call_p (does_p h ceiling s) refl r (record {
        sound = d.sound;
        stack_is = r.stack_is;
        journal-is = emptied c;
        stack-whole = r.stack-whole;
        journal-whole = cleared-whole c r.journal-whole;
      }) (ap₂ says_p d.moves-is d.sound.total-is) (omega (arith, c.len_is));
  keeps = λ s r. p.keeps;
  unchanged = λ l. absurd (omega arith);
}
