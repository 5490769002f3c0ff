-- Every call, under any ceiling, leaves a legal state legal: the stack is one that J makes, every vertex on the board has a block, the journal's moves are of such
-- vertices (legal-call, legal-after). An accepted A ends with no contraction, on no higher metric, where no move with room lowers it (solves); its
-- contractions end by their own rule (coarsen-ends). Rests on Splits, Ends and Walks. Assumes nothing.
use Prim.Native.Nat.{ℕ, zero, suc, ◌+◌, ◌*◌, ◌≤◌}
use native.Mathlib.Omega.{arith}
use Rattle.std.specs.Prelude.{◌≡◌, ◌⊎◌, Bool, not, ◌&&◌, cond, eqb}
use Rattle.std.proofs.Math.Path.{refl, ap, subst}
use Rattle.std.proofs.Common.{sym, ◌∙◌}
use Rattle.std.proofs.Math.Logic.{inl, inr}
use Rattle.std.proofs.Math.Bool.{true, false}
use mathlib.Core.List.{List, [], ◌∷◌}
use borrow.Author.Tests.{eq-eqb, ne_eqb, eqb-true, eqb-false, ltb-true, le-ltb, not-true, not-false}
use Rattle.std.proofs.Math.Dec.{ltb}
use Rattle.std.proofs.Math.IntN.{pos}
use Rattle.laws.specs.Choice.{one, and_left, and_right, cond-zero}
use Rattle.laws.specs.Sum.{sum_to-change, count_to-le}
use Rattle.model.specs.Catalogue.{Hypergraph, vertices, drafted, in_sale, is_vertex, is_block}
use Rattle.model.specs.Measure.{Contraction, above, on_board, may_move, is_fixed, block_weight, metric}
use Rattle.model.specs.Machine.{Call, call_j, call_s, call_m, call_b, call_w, call_p, call_a, Move, State, Step, fresh, settle, refuses_j, contract, does_j, refuses_m, does_m, uncontract, does_s, does_b}
use Rattle.model.specs.Search.{Best, none, best, Coarse, Fine, rating, can_join, join_best, join_turn, board_size, coarsen, refine, refuses_w, does_w, does_p, refuses_a, does_a, call_under}
use Rattle.guarantees.specs.Climbs.{Joins, Sound, above-gone, above_other}
use Rattle.guarantees.specs.Board.{board-top, board-sale, board-is, board-under, board-other}
use Rattle.guarantees.specs.Fixed.{Free}
use Rattle.guarantees.specs.Joins.{metric-join}
use Rattle.guarantees.specs.Weights.{block_weight-join}
pub use Rattle.guarantees.specs.Reading.{vertex-range, block-range}
pub use Rattle.guarantees.specs.Splits.{Inside, AllInside, placed-join, into-on, placed-split, metric-split}
use Rattle.guarantees.specs.Tops.{Top, best-top}
use Rattle.guarantees.specs.Ends.{Placed, may-on, placed-move, Polished, polish-ends}
use Rattle.guarantees.specs.Walks.{walked-metric}

module _ (h : Hypergraph) where
  -- the journal's moves are of vertices on the board, from blocks
  abbrev pub Recorded : List Contraction → List Move → Type 0
  Recorded cs [] = Unit {0}
  Recorded cs (m ∷ ms) = ((on_board h cs m.vertex ≡ true) × (1 ≤ m.from) × (m.from ≤ h.blocks)) × Recorded cs ms

  pub record Legal (s : State) : Type 0 where
    pub sound : Sound s.stack
    pub inside : AllInside h s.stack
    pub placed : Placed h s.stack s.block
    pub recorded : Recorded s.stack s.journal

  -- ---- A's contractions
  pub record Coarsened (p : ℕ → ℕ) (c : Coarse) : Type 0 where
    pub sound : Sound c.stack
    pub inside : AllInside h c.stack
    pub placed : Placed h c.stack c.block
    pub same : metric h c.stack c.block ≡ metric h [] p
    pub same-weights : (b : ℕ) → block_weight h c.stack c.block b ≡ block_weight h [] p b
    pub free : Free h c.stack

  -- what a pair that A may contract is
  pub can-join : (cs : List Contraction) (p : ℕ → ℕ) (u v : ℕ) → 1 ≤ u → can_join h cs p u v ≡ true → Joins cs (record { into = u; gone = v }) × (p u ≡ p v)
  unfolding can_join
  can-join cs p u v l q =
      let q4 = and_left _ _ (and_left _ _ q) in
      let q3 = and_left _ _ q4 in
      let q2 = and_left _ _ q3 in (
        record {
          real = l;
          into-on = may-on h cs u (and_right (ltb u v) _ q2);
          gone-on = may-on h cs v (and_right (ltb u v && may_move h cs u) _ q3);
          two = λ r. omega (arith, ltb-true u v (and_left _ _ q2));
        },
        eqb-true (p u) (p v) (and_right (ltb u v && may_move h cs u && may_move h cs v) _ q4),
      )

  -- neither of the two is fixed
  pub can-free : (cs : List Contraction) (p : ℕ → ℕ) (u v : ℕ) → can_join h cs p u v ≡ true → (is_fixed h cs u ≡ false) × (is_fixed h cs v ≡ false)
  unfolding can_join
  can-free cs p u v q =
      let q3 = and_left _ _ (and_left _ _ (and_left _ _ q)) in
      let q2 = and_left _ _ q3 in (
        not-true _ (and_right (on_board h cs u) _ (and_right (ltb u v) _ q2)),
        not-true _ (and_right (on_board h cs v) _ (and_right (ltb u v && may_move h cs u) _ q3)),
      )

  -- both are in the sale
  pub can-sale : (cs : List Contraction) (p : ℕ → ℕ) (u v : ℕ) → can_join h cs p u v ≡ true → (in_sale h u ≡ true) × (in_sale h v ≡ true)
  unfolding can_join
  can-sale cs p u v q =
      let q3 = and_left _ _ (and_left _ _ (and_left _ _ q)) in
      let q2 = and_left _ _ q3 in (
        board-sale h cs u (and_left _ _ (and_right (ltb u v) _ q2)),
        board-sale h cs v (and_left _ _ (and_right (ltb u v && may_move h cs u) _ q3)),
      )

  join-turn : (p : ℕ → ℕ) (c : Coarse) (on : Coarse → Coarse) → Coarsened p c → ((c' : Coarse) → Coarsened p c' → Coarsened p (on c'))
      → (b : Best) → Top (can_join h c.stack c.block) (λ u v. pos (rating h c.stack u v)) (λ u v. (1 ≤ u) × (u ≤ vertices h) × (1 ≤ v) × (v ≤ vertices h)) b → Coarsened p (join_turn h c on b)
  unfolding join_turn
  join-turn p c on k ih none top = k
  join-turn p c on k ih (best u v g) top =
      let r = top.there in
      let j = can-join c.stack c.block u v r.0 top.open-pair in
      let z = can-sale c.stack c.block u v top.open-pair in
      ih _ (record {
        sound = (j.0, k.sound);
        inside = ((r.0, r.1, r.2, r.3, z.0, z.1), k.inside);
        placed = placed-join h c.stack (record { into = u; gone = v }) c.block j.0 k.placed;
        same = metric-join h c.stack (record { into = u; gone = v }) (j.0, k.sound) c.block r.0 r.1 r.2 r.3 j.1 ∙ k.same;
        same-weights = λ b. block_weight-join h c.stack (record { into = u; gone = v }) (j.0, k.sound) c.block r.0 r.1 r.2 r.3 j.1 b ∙ k.same-weights b;
        free = ((can-free c.stack c.block u v top.open-pair).1, k.free);
      })

  pub coarsened : (n : ℕ) (p : ℕ → ℕ) (c : Coarse) → Coarsened p c → Coarsened p (coarsen h n c)
  unfolding coarsen join_best
  coarsened zero p c k = k
  coarsened (suc n) p c k = go (coarsened n p) (ltb (2 * h.blocks) (board_size h c.stack))
    where
      go : ((c' : Coarse) → Coarsened p c' → Coarsened p (coarsen h n c')) → (b : Bool) → Coarsened p (cond b (join_turn h c (coarsen h n) (join_best h c.stack c.block)) c)
      go ih true = join-turn p c (coarsen h n) k ih _ (best-top (can_join h c.stack c.block) (λ u v. pos (rating h c.stack u v)) (vertices h) (vertices h))
      go ih false = k

  -- ---- every call leaves a state legal
  -- a refusal leaves the state; so it is enough to show it where the number is 0
  settled : (q : ℕ) (s : State) (done : Step) → Legal s → (q ≡ 0 → Legal done.state) → Legal (settle q s done).state
  unfolding settle
  settled zero s done ok f = f refl
  settled (suc q) s done ok f = ok

  pub legal-J : (s : State) (u v : ℕ) → Legal s → refuses_j h s u v ≡ 0 → Legal (does_j h s u v).state
  unfolding refuses_j does_j contract
  legal-J s u v ok q =
      let a = cond-zero (not (is_vertex h u && is_vertex h v)) 9 _ (omega arith) q in
      let b = cond-zero (eqb u v) 11 _ (omega arith) a.1 in
      let c = cond-zero (not (on_board h s.stack u && on_board h s.stack v)) 10 _ (omega arith) b.1 in
      let r = not-false _ a.0 in
      let ru = vertex-range h u (and_left _ _ r) in
      let rv = vertex-range h v (and_right (is_vertex h u) _ r) in
      let o = not-false _ c.0 in
      let ou = and_left _ _ o in
      let ov = and_right (on_board h s.stack u) _ o in
      let j : Joins s.stack (record { into = u; gone = v }) = record {
        real = ru.0;
        into-on = board-top h s.stack u ou;
        gone-on = board-top h s.stack v ov;
        two = eqb-false u v b.0;
      } in
      record {
        sound = (j, ok.sound);
        inside = ((ru.0, ru.1, rv.0, rv.1, board-sale h s.stack u ou, board-sale h s.stack v ov), ok.inside);
        placed = placed-join h s.stack (record { into = u; gone = v }) s.block j ok.placed;
        recorded = tt;
      }

  pub legal-S : (s : State) (cs : List Contraction) → s.stack ≡ cs → Legal s → Legal (does_s s cs).state
  unfolding does_s
  legal-S s [] q ok = ok
  legal-S s (c ∷ cs) q ok =
      let so : Sound (c ∷ cs) = subst Sound q ok.sound in
      let ins : AllInside h (c ∷ cs) = subst (AllInside h) q ok.inside in
      record {
        sound = so.1;
        inside = ins.1;
        placed = placed-split h cs c s.block so.0 ins.0 (subst (λ (l : List Contraction). Placed h l s.block) q ok.placed);
        recorded = tt;
      }

  pub legal-B : (s : State) (ms : List Move) → s.journal ≡ ms → Legal s → Legal (does_b h s ms).state
  unfolding does_b
  legal-B s [] q ok = ok
  legal-B s (m ∷ ms) q ok =
      let r : Recorded s.stack (m ∷ ms) = subst (Recorded s.stack) q ok.recorded in
      record {
        sound = ok.sound;
        inside = ok.inside;
        placed = placed-move h s.stack s.block m.vertex m.from ok.placed r.0.0 r.0.1 r.0.2;
        recorded = r.1;
      }

  module _ (ceiling : ℕ → ℕ) where
    -- ---- A's uncontractions and walks
    pub refined : (cs : List Contraction) (f : Fine) → Sound cs → AllInside h cs → Placed h cs f.block → Placed h [] (refine h ceiling cs f).block × (metric h [] (refine h ceiling cs f).block ≤ metric h cs f.block)
    unfolding refine
    refined [] f s r ok = (ok, omega arith)
    refined (c ∷ cs) f s r ok =
        let ok' = placed-split h cs c f.block s.0 r.0 ok in
        let w = walked-metric h ceiling cs (uncontract f.block c) c.into c.gone ok' in
        let end = refined cs _ s.1 r.1 w.0 in
        (end.0, omega (arith, end.1, w.2, metric-split h cs c s r.0 f.block ok))

    -- ---- A: no contraction stands, the metric is no higher, and no single move that has room lowers it
    pub solves : (s : State) → Placed h [] s.block → Polished h ceiling [] s.block (does_a h ceiling s).state.block
    unfolding does_a
    solves s ok =
        let k = coarsened (vertices h) s.block (record { stack = []; block = s.block }) (record { sound = tt; inside = tt; placed = ok; same = refl; same-weights = λ b. refl; free = tt }) in
        let f = refined _ _ k.sound k.inside k.placed in
        let e = polish-ends h ceiling [] _ f.0 in
        record { placed = e.placed; lower = omega (arith, e.lower, f.1, k.same); stuck = e.stuck }

    pub legal-M : (s : State) (v t : ℕ) → Legal s → refuses_m h ceiling s v t ≡ 0 → Legal (does_m h s v t).state
    unfolding refuses_m does_m
    legal-M s v t ok q =
        let a = cond-zero (not (is_vertex h v && is_block h t)) 9 _ (omega arith) q in
        let b = cond-zero (not (on_board h s.stack v)) 10 _ (omega arith) a.1 in
        let r = not-false _ a.0 in
        let rv = vertex-range h v (and_left _ _ r) in
        let rt = block-range h t (and_right (is_vertex h v) _ r) in
        let on = not-false _ b.0 in
        let here = (ok.placed v rv.0 rv.1).board on in
        record {
          sound = ok.sound;
          inside = ok.inside;
          placed = placed-move h s.stack s.block v t ok.placed on rt.0 rt.1;
          recorded = ((on, here.0, here.1), ok.recorded);
        }

    pub legal-W : (s : State) (u v : ℕ) → Legal s → Legal (does_w h ceiling s u v).state
    unfolding does_w
    legal-W s u v ok = record { sound = ok.sound; inside = ok.inside; placed = (walked-metric h ceiling s.stack s.block u v ok.placed).0; recorded = tt }

    pub legal-P : (s : State) → Legal s → Legal (does_p h ceiling s).state
    unfolding does_p
    legal-P s ok = record { sound = ok.sound; inside = ok.inside; placed = (polish-ends h ceiling s.stack s.block ok.placed).placed; recorded = tt }

    pub legal-A : (s : State) (cs : List Contraction) → s.stack ≡ cs → Legal s → refuses_a h s cs ≡ 0 → Legal (does_a h ceiling s).state
    unfolding refuses_a does_a
    legal-A s [] q ok e = record { sound = tt; inside = tt; placed = (solves s (subst (λ (l : List Contraction). Placed h l s.block) q ok.placed)).placed; recorded = tt }
    legal-A s (c ∷ cs) q ok e = absurd (omega arith)

    pub legal-call : (s : State) (c : Call) → Legal s → Legal (call_under h ceiling s c).state
    unfolding call_under
    legal-call s (call_j u v) ok = settled (refuses_j h s u v) s (does_j h s u v) ok (legal-J s u v ok)
    legal-call s call_s ok = legal-S s s.stack refl ok
    legal-call s (call_m v t) ok = settled (refuses_m h ceiling s v t) s (does_m h s v t) ok (legal-M s v t ok)
    legal-call s call_b ok = legal-B s s.journal refl ok
    legal-call s (call_w u v) ok = settled (refuses_w h s u v) s (does_w h ceiling s u v) ok (λ q. legal-W s u v ok)
    legal-call s call_p ok = legal-P s ok
    legal-call s call_a ok = settled (refuses_a h s s.stack) s (does_a h ceiling s) ok (legal-A s s.stack refl ok)

  -- a fresh machine is legal where the draft has each vertex that is in the sale in a block, and every other in none
  pub legal-fresh : Placed h [] (drafted h) → Legal (fresh h)
  unfolding fresh
  legal-fresh d = record { sound = tt; inside = tt; placed = d; recorded = tt }

  -- ---- A's contractions end by their own rule: at most 2 × k vertices are on the board, or no pair may be contracted
  pub board-join : (cs : List Contraction) (c : Contraction) → Joins cs c → in_sale h c.gone ≡ true → 1 ≤ c.gone → c.gone ≤ vertices h → board_size h (c ∷ cs) + 1 ≡ board_size h cs
  unfolding board_size
  board-join cs c j in-sale l u = omega (
    arith,
    sum_to-change (vertices h) c.gone (λ x. one (on_board h (c ∷ cs) x)) (λ x. one (on_board h cs x)) l u (λ x _ _ n. ap one (board-other h cs c x (λ r. n (sym r)))),
    ap one (board-is h cs c.gone j.gone-on in-sale),
    ap one (board-under h (c ∷ cs) c.gone (λ r. omega (arith, j.real, above-gone cs c c.gone refl))),
  )

  abbrev pub Coarsest : Coarse → Type 0
  Coarsest c = (ltb (2 * h.blocks) (board_size h c.stack) ≡ false) ⊎ (join_best h c.stack c.block ≡ none)

  join-over : (n : ℕ) (c : Coarse) → board_size h c.stack ≤ suc n → ((c' : Coarse) → board_size h c'.stack ≤ n → Coarsest (coarsen h n c'))
      → (b : Best) → join_best h c.stack c.block ≡ b → Top (can_join h c.stack c.block) (λ u v. pos (rating h c.stack u v)) (λ u v. (1 ≤ u) × (u ≤ vertices h) × (1 ≤ v) × (v ≤ vertices h)) b → Coarsest (join_turn h c (coarsen h n) b)
  unfolding join_turn
  join-over n c l ih none q top = inr q
  join-over n c l ih (best u v g) q top =
      let r = top.there in
      ih _ (omega (arith, board-join c.stack (record { into = u; gone = v }) (can-join c.stack c.block u v r.0 top.open-pair).0 (can-sale c.stack c.block u v top.open-pair).1 r.2 r.3))

  pub coarsen-ends : (n : ℕ) (c : Coarse) → board_size h c.stack ≤ n → Coarsest (coarsen h n c)
  unfolding coarsen join_best
  coarsen-ends zero c l = inl (le-ltb (2 * h.blocks) (board_size h c.stack) (omega arith))
  coarsen-ends (suc n) c l = go (coarsen-ends n) (ltb (2 * h.blocks) (board_size h c.stack)) refl
    where
      go : ((c' : Coarse) → board_size h c'.stack ≤ n → Coarsest (coarsen h n c')) → (b : Bool) → ltb (2 * h.blocks) (board_size h c.stack) ≡ b → Coarsest (cond b (join_turn h c (coarsen h n) (join_best h c.stack c.block)) c)
      go ih true e = join-over n c l ih _ refl (best-top (can_join h c.stack c.block) (λ u v. pos (rating h c.stack u v)) (vertices h) (vertices h))
      go ih false e = inl e

  -- so they do in A
  pub A-joins-end : (s : State) → Coarsest (coarsen h (vertices h) (record { stack = []; block = s.block }))
  unfolding board_size
  A-joins-end s = coarsen-ends (vertices h) (record { stack = []; block = s.block }) (count_to-le (vertices h) (λ v. on_board h [] v))
