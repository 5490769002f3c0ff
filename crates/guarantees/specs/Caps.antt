-- Every call under a ceiling keeps a state in which no block is above its ceiling, nor would be after any reversals of the journal's moves
-- (held-call): moves are made where there is room, and each state that the journal
-- leads back to was within the ceiling. Rests on Calls. Assumes nothing.
use Prim.Native.Nat.{ℕ, zero, suc, ◌+◌, ◌-◌, ◌≤◌, ◌<◌}
use Rattle.std.proofs.Math.Decide.{ℕ_discrete}
use native.Mathlib.Omega.{arith}
use Rattle.std.specs.Prelude.{◌≡◌, Bool, ◌&&◌, eqb, leb, pos, get_or}
use Rattle.std.proofs.Math.Path.{refl, ap, subst}
use Rattle.std.proofs.Common.{sym, ◌∙◌}
use Rattle.std.proofs.Math.Bool.{true, false, not, cond}
use mathlib.Core.List.{List, [], ◌∷◌}
use borrow.Author.Tests.{eq-eqb, eqb-true, ne_eqb, leb-true, leb-false, le-leb, lt-leb, not-false}
use Rattle.std.specs.Int.Signed.{lt_z}
use Rattle.laws.specs.Place.{place, place-back}
use Rattle.laws.specs.Choice.{and_left, and_right, cond-zero}
use Rattle.model.specs.Catalogue.{Hypergraph, vertices, is_vertex, is_block}
use Rattle.model.specs.Measure.{Contraction, above, on_board, may_move, is_fixed, weight, block_weight, gain, metric, has_room}
use Rattle.model.specs.Search.{Best, none, best, Walk, Polish, worth_of, can_go, is_open, walk_best, walk_move, walk_turn, walk_on, walk, walked, polish_best, polish_turn, polish_on, polish, Fine, refine, refuses_w, does_w, does_p, refuses_a, does_a, call_under, patience}
use Rattle.model.specs.Machine.{Call, call_j, call_s, call_m, call_b, call_w, call_p, call_a, Move, State, Step, settle, refuses_j, contract, does_j, refuses_m, does_m, uncontract, does_s, does_b}
use Rattle.guarantees.specs.Tops.{Top, best-top}
use Rattle.guarantees.specs.Ends.{Placed, Pair, can-on}
use Rattle.guarantees.specs.Walks.{moved, prefix, prefix-now, after, after-old, after-new, reversed-nil, walk_ends, walked-metric}
use Rattle.guarantees.specs.Weights.{block_weight-move}
use Rattle.guarantees.specs.Board.{board-top}
use Rattle.guarantees.specs.Climbs.{Sound}
use Rattle.guarantees.specs.Splits.{Inside, AllInside, placed-split, block_weight-split}
use Rattle.guarantees.specs.Contractions.{J-leaves, S-leaves}
use Rattle.guarantees.specs.Calls.{Legal, coarsened, legal-J, legal-S, legal-M, legal-B, legal-W, legal-P, legal-A, vertex-range, block-range}

-- the ceiling as code has it: a row of numbers, one for each block
abbrev pub CeilingIs : List ℕ → Hypergraph → (ℕ → ℕ) → Type 0
CeilingIs row h ceiling = (b : ℕ) → 1 ≤ b → b ≤ h.blocks → get_or row (b - 1) 0 ≡ ceiling b

-- is there room for a weight in a block of weight `load`: a test without the sum, which may pass a word
pub room-some : (load weight ceiling : ℕ) → weight ≤ ceiling → leb load (ceiling - weight) ≡ leb (load + weight) ceiling
room-some load weight ceiling h = by (leb (load + weight) ceiling) refl
  where
    by : (t : Bool) → leb (load + weight) ceiling ≡ t → leb load (ceiling - weight) ≡ leb (load + weight) ceiling
    by true e = let l : load + weight ≤ ceiling = leb-true _ _ e in le-leb load (ceiling - weight) (omega arith) ∙ sym e
    by false e = let l : ceiling < load + weight = leb-false _ _ e in lt-leb load (ceiling - weight) (omega arith) ∙ sym e

pub room-none : (load weight ceiling : ℕ) → ceiling < weight → false ≡ leb (load + weight) ceiling
room-none load weight ceiling h = sym (lt-leb (load + weight) ceiling (omega arith))

module _ (h : Hypergraph) (ceiling : ℕ → ℕ) (cs : List Contraction) where
  abbrev pub Capped : (ℕ → ℕ) → Type 0
  Capped p = (b : ℕ) → 1 ≤ b → b ≤ h.blocks → block_weight h cs p b ≤ ceiling b

  -- a vertex on the board goes where there is room
  pub capped-move : (p : ℕ → ℕ) (v t : ℕ) → Capped p → Pair h cs v t → above cs v ≡ 0 → has_room h ceiling cs p v t ≡ true → Capped (place p v t)
  unfolding has_room
  capped-move p v t ok r on room b bl bu = go (ℕ_discrete t b)
    where
      go : Dec (t ≡ b) → block_weight h cs (place p v t) b ≤ ceiling b
      go (yes e) = omega (
        arith,
        block_weight-move h cs p v t r.0 r.1 on b,
        ap (λ (x : Bool). cond x (weight h cs v) 0) (eq-eqb t b e),
        leb-true (block_weight h cs p t + weight h cs v) (ceiling t) room,
        ap (block_weight h cs p) e,
        ap ceiling e,
      )
      go (no n) = omega (
        arith,
        block_weight-move h cs p v t r.0 r.1 on b,
        ap (λ (x : Bool). cond x (weight h cs v) 0) (ne_eqb t b n),
        ok b bl bu,
      )

  pub capped-go : (p : ℕ → ℕ) (v t : ℕ) → Capped p → Pair h cs v t → can_go h ceiling cs p v t ≡ true → Capped (place p v t)
  unfolding can_go
  capped-go p v t ok r q = capped-move p v t ok r (can-on h ceiling cs p v t q) (and_right (may_move h cs v && not (eqb (p v) t)) _ q)

  -- ---- what open moves keep, P and W keep
  module _ (Q : (ℕ → ℕ) → Type 0) (keeps : (p : ℕ → ℕ) (v t : ℕ) → Q p → Pair h cs v t → can_go h ceiling cs p v t ≡ true → Q (place p v t)) where
    turn-keeps : (n : ℕ) (q : Polish) → Q q.block → ((r : Polish) → Q r.block → Q (polish_on h ceiling cs n r).block)
        → (b : Best) → Top (can_go h ceiling cs q.block) (gain h cs q.block) (Pair h cs) b → Q (polish_turn h cs q (polish_on h ceiling cs n) b).block
    unfolding polish_turn
    turn-keeps n q ok ih none top = ok
    turn-keeps n q ok ih (best v t g) top = go (lt_z (pos 0) g)
      where
        next : Polish
        next = record { block = place q.block v t; made = suc q.made }

        go : (b : Bool) → Q (cond b (polish_on h ceiling cs n next) q).block
        go true = ih next (keeps q.block v t ok top.there top.open-pair)
        go false = ok

    polish-keeps : (n : ℕ) (q : Polish) → Q q.block → Q (polish_on h ceiling cs n q).block
    unfolding polish_on polish_best
    polish-keeps zero q ok = ok
    polish-keeps (suc n) q ok = turn-keeps n q ok (polish-keeps n) (polish_best h ceiling cs q.block) (best-top (can_go h ceiling cs q.block) (gain h cs q.block) h.blocks (vertices h))

    pub polished-keeps : (p : ℕ → ℕ) → Q p → Q (polish h ceiling cs p).block
    unfolding polish
    polished-keeps p ok = polish-keeps (metric h cs p) (record { block = p; made = 0 }) ok

    -- of a walk, at every prefix
    abbrev Each : Walk → Type 0
    Each w = (i : ℕ) → i ≤ w.tried → Q (prefix h cs w i)

    move-keeps : (w : Walk) (v t : ℕ) → Each w → Pair h cs v t → can_go h ceiling cs w.block v t ≡ true → Each (walk_move h cs w v t (worth_of h cs (place w.block v t)))
    unfolding walk_move
    move-keeps w v t ok r q i l = go (ℕ_discrete i (suc w.tried))
      where
        go : Dec (i ≡ suc w.tried) → Q (after h cs w v t i)
        go (yes e) = subst Q (sym (after-new h cs w v t i e)) (keeps w.block v t (subst Q (prefix-now h cs w) (ok w.tried (omega arith))) r q)
        go (no n) = subst Q (sym (after-old h cs w v t i (omega arith))) (ok i (omega arith))

    open-can : (w : Walk) (v t : ℕ) → is_open h ceiling cs w v t ≡ true → can_go h ceiling cs w.block v t ≡ true
    unfolding is_open
    open-can w v t q = and_right (w.candidate v && not (moved h cs w v)) _ q

    step_keeps : (n : ℕ) (w : Walk) → Each w → ((x : Walk) → Each x → Each (walk_on h ceiling cs n x))
        → (b : Best) → Top (is_open h ceiling cs w) (gain h cs w.block) (Pair h cs) b → Each (walk_turn h cs w (walk_on h ceiling cs n) b)
    unfolding walk_turn
    step_keeps n w ok ih none top = ok
    step_keeps n w ok ih (best v t g) top = ih (walk_move h cs w v t (worth_of h cs (place w.block v t))) (move-keeps w v t ok top.there (open-can w v t top.open-pair))

    walk-keeps : (n : ℕ) (w : Walk) → Each w → Each (walk_on h ceiling cs n w)
    unfolding walk_on walk_best
    walk-keeps zero w ok = ok
    walk-keeps (suc n) w ok = go (walk-keeps n) (leb (w.kept + patience) w.tried)
      where
        go : ((x : Walk) → Each x → Each (walk_on h ceiling cs n x)) → (b : Bool) → Each (cond b w (walk_turn h cs w (walk_on h ceiling cs n) (walk_best h ceiling cs w)))
        go ih true = ok
        go ih false = step_keeps n w ok ih (walk_best h ceiling cs w) (best-top (is_open h ceiling cs w) (gain h cs w.block) h.blocks (vertices h))

    pub walked_keeps : (p : ℕ → ℕ) (u v : ℕ) → Placed h cs p → Q p → Q (walked h cs (walk h ceiling cs p u v))
    unfolding walked walk
    walked_keeps p u v placed ok = walk-keeps (vertices h) _ (λ i l. subst Q (sym (reversed-nil (0 - i) p)) ok) (walk h ceiling cs p u v).kept (walk_ends h ceiling cs p u v placed).going.kept-le

module _ (h : Hypergraph) (ceiling : ℕ → ℕ) where
  -- ---- an uncontraction
  capped-split : (cs : List Contraction) (c : Contraction) (p : ℕ → ℕ) → Sound (c ∷ cs) → Inside h c → Placed h (c ∷ cs) p → Capped h ceiling (c ∷ cs) p → Capped h ceiling cs (uncontract p c)
  capped-split cs c p s r placed ok b l u = omega (arith, block_weight-split h cs c s r p placed b, ok b l u)

  -- ---- A
  capped-refine : (cs : List Contraction) (f : Fine) → Sound cs → AllInside h cs → Placed h cs f.block → Capped h ceiling cs f.block → Capped h ceiling [] (refine h ceiling cs f).block
  unfolding refine
  capped-refine [] f s r placed ok = ok
  capped-refine (c ∷ cs) f s r placed ok =
      let placed' = placed-split h cs c f.block s.0 r.0 placed in
      capped-refine cs _ s.1 r.1 (walked-metric h ceiling cs (uncontract f.block c) c.into c.gone placed').0
      (walked_keeps h ceiling cs (Capped h ceiling cs) (capped-go h ceiling cs) (uncontract f.block c) c.into c.gone placed' (capped-split cs c f.block s r.0 placed ok))

  capped-A : (s : State) → Placed h [] s.block → Capped h ceiling [] s.block → Capped h ceiling [] (does_a h ceiling s).state.block
  unfolding does_a
  capped-A s placed ok =
      let k = coarsened h (vertices h) s.block (record { stack = []; block = s.block }) (record { sound = tt; inside = tt; placed = placed; same = refl; same-weights = λ b. refl; free = tt }) in
      polished-keeps h ceiling [] (Capped h ceiling []) (capped-go h ceiling []) _ (capped-refine _ _ k.sound k.inside k.placed (λ b l u. omega (arith, k.same-weights b, ok b l u)))

  -- ---- the states that calls reach: no block above its ceiling, and none after any reversals either
  abbrev pub Back : List Contraction → (ℕ → ℕ) → List Move → Type 0
  Back cs p [] = Unit {0}
  Back cs p (m ∷ ms) = Capped h ceiling cs (place p m.vertex m.from) × Back cs (place p m.vertex m.from) ms

  pub record Held (s : State) : Type 0 where
    pub legal : Legal h s
    pub capped : Capped h ceiling s.stack s.block
    pub back : Back s.stack s.block s.journal

  held-settled : (q : ℕ) (s : State) (done : Step) → Held s → (q ≡ 0 → Held done.state) → Held (settle q s done).state
  unfolding settle
  held-settled zero s done ok f = f refl
  held-settled (suc q) s done ok f = ok

  held-J : (s : State) (u v : ℕ) → Held s → refuses_j h s u v ≡ 0 → Held (does_j h s u v).state
  unfolding does_j contract
  held-J s u v ok q = record {
    legal = legal-J h s u v ok.legal q;
    capped = λ b l m. omega (arith, (J-leaves h s u v ok.legal q).same-weights b, ok.capped b l m);
    back = tt;
  }

  held-S : (s : State) (cs : List Contraction) → s.stack ≡ cs → Held s → Held (does_s s cs).state
  unfolding does_s
  held-S s [] q ok = ok
  held-S s (c ∷ cs) q ok = record {
    legal = legal-S h s (c ∷ cs) q ok.legal;
    capped = λ b l u. omega (arith, (S-leaves h s (c ∷ cs) q ok.legal).same-weights b, ok.capped b l u);
    back = tt;
  }

  held-M : (s : State) (v t : ℕ) → Held s → refuses_m h ceiling s v t ≡ 0 → Held (does_m h s v t).state
  unfolding refuses_m does_m
  held-M s v t ok q =
      let a = cond-zero (not (is_vertex h v && is_block h t)) 9 _ (omega arith) q in
      let b = cond-zero (not (on_board h s.stack v)) 10 _ (omega arith) a.1 in
      let c = cond-zero (eqb (s.block v) t) 12 _ (omega arith) b.1 in
      let x = cond-zero (is_fixed h s.stack v) 20 _ (omega arith) c.1 in
      let d = cond-zero (not (has_room h ceiling s.stack s.block v t)) 14 0 (omega arith) x.1 in
      let r = not-false _ a.0 in
      let rv = vertex-range h v (and_left _ _ r) in
      let rt = block-range h t (and_right (is_vertex h v) _ r) in
      record {
        legal = legal-M h ceiling s v t ok.legal q;
        capped = capped-move h ceiling s.stack s.block v t ok.capped (rv.0, rv.1, rt.0, rt.1) (board-top h s.stack v (not-false _ b.0)) (not-false _ d.0);
        back = (
          subst (Capped h ceiling s.stack) (sym (place-back s.block v t)) ok.capped,
          subst (λ (p : ℕ → ℕ). Back s.stack p s.journal) (sym (place-back s.block v t)) ok.back,
        );
      }

  held-B : (s : State) (ms : List Move) → s.journal ≡ ms → Held s → Held (does_b h s ms).state
  unfolding does_b
  held-B s [] q ok = ok
  held-B s (m ∷ ms) q ok =
      let b : Back s.stack s.block (m ∷ ms) = subst (Back s.stack s.block) q ok.back in
      record { legal = legal-B h s (m ∷ ms) q ok.legal; capped = b.0; back = b.1 }

  held-W : (s : State) (u v : ℕ) → Held s → Held (does_w h ceiling s u v).state
  unfolding does_w
  held-W s u v ok = record {
    legal = legal-W h ceiling s u v ok.legal;
    capped = walked_keeps h ceiling s.stack (Capped h ceiling s.stack) (capped-go h ceiling s.stack) s.block u v ok.legal.placed ok.capped;
    back = tt;
  }

  held-P : (s : State) → Held s → Held (does_p h ceiling s).state
  unfolding does_p
  held-P s ok = record {
    legal = legal-P h ceiling s ok.legal;
    capped = polished-keeps h ceiling s.stack (Capped h ceiling s.stack) (capped-go h ceiling s.stack) s.block ok.capped;
    back = tt;
  }

  held-A : (s : State) (cs : List Contraction) → s.stack ≡ cs → Held s → refuses_a h s cs ≡ 0 → Held (does_a h ceiling s).state
  unfolding refuses_a does_a
  held-A s [] q ok e = record {
    legal = legal-A h ceiling s [] q ok.legal e;
    capped = capped-A s (subst (λ (l : List Contraction). Placed h l s.block) q ok.legal.placed) (subst (λ (l : List Contraction). Capped h ceiling l s.block) q ok.capped);
    back = tt;
  }
  held-A s (c ∷ cs) q ok e = absurd (omega arith)

  pub held-call : (s : State) (c : Call) → Held s → Held (call_under h ceiling s c).state
  unfolding call_under
  held-call s (call_j u v) ok = held-settled (refuses_j h s u v) s (does_j h s u v) ok (held-J s u v ok)
  held-call s call_s ok = held-S s s.stack refl ok
  held-call s (call_m v t) ok = held-settled (refuses_m h ceiling s v t) s (does_m h s v t) ok (held-M s v t ok)
  held-call s call_b ok = held-B s s.journal refl ok
  held-call s (call_w u v) ok = held-settled (refuses_w h s u v) s (does_w h ceiling s u v) ok (λ q. held-W s u v ok)
  held-call s call_p ok = held-P s ok
  held-call s call_a ok = held-settled (refuses_a h s s.stack) s (does_a h ceiling s) ok (held-A s s.stack refl ok)
