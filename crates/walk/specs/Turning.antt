-- One turn of a walk, and the walk as a whole: the next move is model's, a turn leaves the rest of the walk the same, and the last turn ends
-- it. Rests on Steps. Assumes nothing.
use Prim.Native.Nat.{ℕ, zero, suc, ◌+◌, ◌-◌, ◌<◌, ◌≤◌}
use Rattle.std.proofs.Common.{arith, sym, ap₂, ◌∙◌, le-leb}
use Rattle.std.specs.Prelude.{Option, None, ◌≡◌, Bool, not, ◌&&◌, List, leb, ℤ}
use Rattle.std.proofs.Math.Path.{refl, ap}
use Rattle.std.proofs.Math.Bool.{true, false, cond}
use Rattle.std.proofs.lemmas.Bool.{lt-leb}
use Rattle.laws.specs.Choice.{and_left, and_right}
use Rattle.laws.specs.Place.{place}
use Rattle.model.specs.Catalogue.{Hypergraph}
use Rattle.model.specs.Measure.{Contraction, on_board, is_fixed, may_move}
use Rattle.model.specs.Search.{Best, none, best, Walk, worth_of, best_pair, walk_best, walk_move, walk_turn, walk_on, walk, patience}
use Rattle.guarantees.specs.Caps.{CeilingIs}
use Rattle.guarantees.specs.Walks.{moved}
use Rattle.operations.specs.Tables.{Tables}
use Rattle.best_move.specs.declared.open.Move.{Move}
use Rattle.best_move.specs.Open.{step, best_of, gain_in, open_in, Chosen}
use Rattle.best_move.specs.OpenLaw.{pick-open}
use Rattle.best_move.specs.OpenLink.{walk_is}
use Rattle.search_moves.specs.Marks.{candidate_bit}
use Rattle.search_moves.specs.Tabled.{holds, pair-open}
use Rattle.operations.specs.Keeping.{keeps-none}
use Rattle.walk.specs.Steps.{Locals, At, next_of, TakeOk, Took, TurnOk, Turned}

-- ---- the next move, as the code finds it
module _ (gains : List ℤ) (blocks weights loads ceilings marks : List ℕ) (n k tried kept : ℕ) where
  pub next-stop : kept + patience ≤ tried → Chosen (gain_in gains) n k None (next_of gains blocks weights loads ceilings marks n k tried kept)
  next-stop l = record { same = sym (ap (λ (t : Bool). cond t none (best_pair n k (open_in marks blocks weights loads ceilings) (gain_in gains))) (le-leb (kept + patience) tried l)); within = tt }

  pub next-best : (r : Option Move) → tried < kept + patience → Chosen (gain_in gains) n k r (best_pair n k (open_in marks blocks weights loads ceilings) (gain_in gains))
      → Chosen (gain_in gains) n k r (next_of gains blocks weights loads ceilings marks n k tried kept)
  next-best r l c = record { same = c.same ∙ sym (ap (λ (t : Bool). cond t none (best_pair n k (open_in marks blocks weights loads ceilings) (gain_in gains))) (lt-leb (kept + patience) tried l)); within = c.within }

  -- a pair that was found is open
  pub next-open : {r : Option Move} (v b : ℕ) → Chosen (gain_in gains) n k r (next_of gains blocks weights loads ceilings marks n k tried kept) → r ≡ step v b → open_in marks blocks weights loads ceilings v b ≡ true
  next-open {r} v b c e = go (leb (kept + patience) tried) c.same
    where
      go : (t : Bool) → best_of (gain_in gains) r ≡ cond t none (best_pair n k (open_in marks blocks weights loads ceilings) (gain_in gains)) → open_in marks blocks weights loads ceilings v b ≡ true
      go true q = let d : best v b (gain_in gains v b) ≡ none = sym (ap (best_of (gain_in gains)) e) ∙ q in let z : ◌≡◌ {A = ℕ} 0 1 = cc in absurd (omega arith)
      go false q = pick-open (open_in marks blocks weights loads ceilings) (gain_in gains) n k v b r e (record { same = q; within = c.within })

-- ---- the next move, as model's walk takes it
abbrev next : (h : Hypergraph) (ceiling : ℕ → ℕ) (cs : List Contraction) → Walk → Best
next h ceiling cs w = cond (leb (w.kept + patience) w.tried) none (walk_best h ceiling cs w)

abbrev next_in : Tables → Locals → List ℕ → Best
next_in T L ceilings = next_of T.gains T.blocks T.weights T.loads ceilings L.marks T.n T.k L.tried L.kept

module _ {h : Hypergraph} {cs : List Contraction} {w : Walk} {T : Tables} {L : Locals} (A : At h cs w T L) where
  next-is : (ceiling : ℕ → ℕ) (ceilings : List ℕ) → CeilingIs ceilings h ceiling → next_in T L ceilings ≡ next h ceiling cs w
  next-is ceiling ceilings q =
      ap₂ (λ (i j : ℕ). cond (leb (i + patience) j) none (best_pair T.n T.k (open_in L.marks T.blocks T.weights T.loads ceilings) (gain_in T.gains))) A.kept-is A.tried-is
      ∙ ap (cond (leb (w.kept + patience) w.tried) none) (walk_is h ceiling cs w T.gains T.blocks T.weights T.loads ceilings L.marks T.n T.k (holds A.sound ceiling ceilings q) (λ v l u.
      let e : v - 1 + 1 ≡ v = omega arith in
      A.chosen (v - 1) (omega arith) ∙ ap (λ (z : ℕ). w.candidate z && not (moved h cs w z) && may_move h cs z) e))

  -- a candidate is on the board
  pub chosen_on : (x : ℕ) → x < T.n → candidate_bit L.marks x ≡ true → on_board h cs (x + 1) ≡ true
  chosen_on x l q = and_left (on_board h cs (x + 1)) (not (is_fixed h cs (x + 1))) (and_right (w.candidate (x + 1) && not (moved h cs w (x + 1))) (may_move h cs (x + 1)) (sym (A.chosen x l) ∙ q))

module _ (h : Hypergraph) (ceiling : ℕ → ℕ) (cs : List Contraction) where
  on-next : (f : ℕ) (w : Walk) → walk_on h ceiling cs (suc f) w ≡ walk_turn h cs w (walk_on h ceiling cs f) (next h ceiling cs w)
  unfolding walk_on walk_turn
  on-next f w = go (leb (w.kept + patience) w.tried)
    where
      go : (t : Bool) → cond t w (walk_turn h cs w (walk_on h ceiling cs f) (walk_best h ceiling cs w)) ≡ walk_turn h cs w (walk_on h ceiling cs f) (cond t none (walk_best h ceiling cs w))
      go true = refl
      go false = refl

  pub on_none : (w : Walk) → walk_on h ceiling cs 0 w ≡ w
  unfolding walk_on
  on_none w = refl

  on-stop : (f : ℕ) (w : Walk) → next h ceiling cs w ≡ none → walk_on h ceiling cs f w ≡ w
  unfolding walk_on walk_turn
  on-stop zero w q = refl
  on-stop (suc f) w q = on-next f w ∙ ap (walk_turn h cs w (walk_on h ceiling cs f)) q

  on-move : (f : ℕ) (w : Walk) (v b : ℕ) (g : ℤ) → next h ceiling cs w ≡ best v b g → walk_on h ceiling cs (suc f) w ≡ walk_on h ceiling cs f (walk_move h cs w v b (worth_of h cs (place w.block v b)))
  unfolding walk_turn
  on-move f w v b g q = on-next f w ∙ ap (walk_turn h cs w (walk_on h ceiling cs f)) q

-- ---- a turn
module _ {T : List ℕ → List ℕ → Tables} {L : Locals} {turn : ℕ} (ceilings : List ℕ) (ok : TurnOk T L turn) where
  pub take-asks : {r : Option Move} (v b : ℕ) → Chosen (gain_in (T ok.aboves ok.loaded).gains) (T ok.aboves ok.loaded).n (T ok.aboves ok.loaded).k r (next_in (T ok.aboves ok.loaded) L ceilings) → r ≡ step v b → TakeOk T L turn v b
  take-asks v b c e =
      let S = T ok.aboves ok.loaded in
      let i : (1 ≤ v) × (v ≤ S.n) × (1 ≤ b) × (b ≤ S.k) = rw e at c.within in
      record {
        aboves = ok.aboves;
        loaded = ok.loaded;
        h = ok.h;
        cs = ok.cs;
        walk = ok.walk;
        at = ok.at;
        turn-to = ok.turn-to;
        tried-to = ok.tried-to;
        v-from = i.0;
        open-pair = pair-open ok.at.sound L.marks ceilings v b (chosen_on ok.at) i (next-open S.gains S.blocks S.weights S.loads ceilings L.marks S.n S.k L.tried L.kept v b c e);
      }

-- no move
pub turn-none : (T : Tables) (L : Locals) (ceilings : List ℕ) (turn : ℕ) {r : Option Move} → turn < T.n → L.tried ≤ turn → Chosen (gain_in T.gains) T.n T.k r (next_in T L ceilings) → r ≡ None → Turned T L ceilings turn T L T.n
turn-none T L ceilings turn on to c e = record {
  is = λ h ceiling cs w q A.
      let d : T.n - T.n ≡ 0 = omega arith in
      record {
        walk = w;
        at = A;
        same = on-stop h ceiling cs (T.n - turn) w (sym (ap (best_of (gain_in T.gains)) (sym e) ∙ c.same ∙ next-is A ceiling ceilings q)) ∙ sym (ap (λ (i : ℕ). walk_on h ceiling cs i w) d ∙ on_none h ceiling cs w);
      };
  on = on;
  to = omega arith;
  tried-to = omega arith;
  keeps = keeps-none T;
}

-- a move
pub turn-move : {T T' : Tables} {L L' : Locals} (ceilings : List ℕ) (turn turn' v b : ℕ) {r : Option Move} → turn < T.n → L.tried ≤ turn → Chosen (gain_in T.gains) T.n T.k r (next_in T L ceilings) → r ≡ step v b → Took T L turn v b T' L' turn'
    → Turned T L ceilings turn T' L' turn'
turn-move {T} {T'} {L} {L'} ceilings turn turn' v b on to c e k = record {
  is = λ h ceiling cs w q A.
      let d : T.n - turn ≡ suc (T.n - turn') = omega (arith, k.turn_is) in
      record {
        walk = walk_move h cs w v b (worth_of h cs (place w.block v b));
        at = k.is h cs w A;
        same = ap (λ (i : ℕ). walk_on h ceiling cs i w) d ∙ on-move h ceiling cs (T.n - turn') w v b (gain_in T.gains v b) (sym (ap (best_of (gain_in T.gains)) (sym e) ∙ c.same ∙ next-is A ceiling ceilings q));
      };
  on = omega (arith, k.turn_is);
  to = omega (arith, k.turn_is);
  tried-to = omega (arith, k.turn_is, k.tried-is);
  keeps = k.keeps;
}
