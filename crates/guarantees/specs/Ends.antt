-- P ends on a metric that is no higher, where no vertex that may go to another block with room has a gain above 0, and the metric is fuel enough
-- for that (polish-ends). Rests on Moves for each move and on Tops for the pair that it takes. Assumes nothing.
use Prim.Native.Nat.{ℕ, zero, suc, ◌≤◌, ◌<◌}
use Rattle.std.proofs.Math.Decide.{ℕ_discrete}
use Rattle.std.proofs.Common.{arith, sym, ap, ◌∙◌, subst, true≢false}
use Rattle.std.specs.Prelude.{◌≡◌, Bool, true, false, not, cond, List, T, pos, ◌-ℤ◌, ◌≤ℤ◌}
use Rattle.std.proofs.Math.Path.{refl}
use borrow.Author.Tests.{eqb-false, not-true}
use Rattle.std.specs.Int.Signed.{lt_z, lt_z_yes, lt_z_no}
use Rattle.laws.specs.Choice.{and_left, and_right}
use Rattle.laws.specs.Integer.{up, dn, le-by, pos-is, sub_is, lt-parts, ≤ℤ-trans}
use Rattle.laws.specs.Place.{place, place_at, place-off}
use Rattle.model.specs.Catalogue.{Hypergraph, vertices}
use Rattle.model.specs.Measure.{Contraction, above, on_board, may_move, metric, gain}
use Rattle.model.specs.Search.{Best, none, best, Polish, can_go, polish_best, polish_turn, polish_on, polish}
use Rattle.guarantees.specs.Board.{board-top}
use Rattle.guarantees.specs.Moves.{metric-gain}
use Rattle.guarantees.specs.Tops.{Top, best-top}

module _ (h : Hypergraph) (cs : List Contraction) where
  -- every vertex on the board has a block, and every other vertex has 0
  pub record At (p : ℕ → ℕ) (x : ℕ) : Type 0 where
    pub board : on_board h cs x ≡ true → (1 ≤ p x) × (p x ≤ h.blocks)
    pub off : on_board h cs x ≡ false → p x ≡ 0

  abbrev pub Placed : (ℕ → ℕ) → Type 0
  Placed p = (x : ℕ) → 1 ≤ x → x ≤ vertices h → At p x

  -- a vertex that may move is on the board
  pub may-on : (v : ℕ) → may_move h cs v ≡ true → above cs v ≡ 0
  may-on v q = board-top h cs v (and_left _ _ q)

  -- whether on the board or off it, a vertex is in no block past the last
  pub placed-high : (p : ℕ → ℕ) → Placed p → (x : ℕ) → 1 ≤ x → x ≤ vertices h → p x ≤ h.blocks
  placed-high p ok x l u = go (on_board h cs x) refl
    where
      go : (b : Bool) → on_board h cs x ≡ b → p x ≤ h.blocks
      go true q = ((ok x l u).board q).1
      go false q = omega (arith, (ok x l u).off q)

  -- a vertex in a block is on the board
  pub placed_on : (p : ℕ → ℕ) → Placed p → (x : ℕ) → 1 ≤ x → x ≤ vertices h → 1 ≤ p x → on_board h cs x ≡ true
  placed_on p ok x l u m = go (on_board h cs x) refl
    where
      go : (b : Bool) → on_board h cs x ≡ b → on_board h cs x ≡ true
      go true q = q
      go false q = absurd (omega (arith, (ok x l u).off q))

  abbrev pub Pair : ℕ → ℕ → Type 0
  Pair v t = (1 ≤ v) × (v ≤ vertices h) × (1 ≤ t) × (t ≤ h.blocks)

  pub placed-move : (p : ℕ → ℕ) (v t : ℕ) → Placed p → on_board h cs v ≡ true → 1 ≤ t → t ≤ h.blocks → Placed (place p v t)
  placed-move p v t ok on l u x xl xu = go (ℕ_discrete x v)
    where
      go : Dec (x ≡ v) → At (place p v t) x
      go (yes q) = record {
        board = λ o. omega (arith, ap (place p v t) q, place_at p v t);
        off = λ o. absurd (true≢false (sym on ∙ ap (on_board h cs) (sym q) ∙ o));
      }
      go (no n) = record {
        board = λ o. omega (arith, place-off p v t x n, (ok x xl xu).board o);
        off = λ o. place-off p v t x n ∙ (ok x xl xu).off o;
      }

-- the same under a ceiling of each block
module _ (h : Hypergraph) (ceiling : ℕ → ℕ) (cs : List Contraction) where
  -- what an open pair is
  pub can-on : (p : ℕ → ℕ) (v t : ℕ) → can_go h ceiling cs p v t ≡ true → above cs v ≡ 0
  unfolding can_go
  can-on p v t q = may-on h cs v (and_left _ _ (and_left _ _ q))

  pub can-board : (p : ℕ → ℕ) (v t : ℕ) → can_go h ceiling cs p v t ≡ true → on_board h cs v ≡ true
  unfolding can_go
  can-board p v t q = and_left _ _ (and_left _ _ (and_left _ _ q))

  pub can-away : (p : ℕ → ℕ) (v t : ℕ) → can_go h ceiling cs p v t ≡ true → p v ≡ t → ⊥
  unfolding can_go
  can-away p v t q = eqb-false (p v) t (not-true _ (and_right (may_move h cs v) _ (and_left _ _ q)))

  -- the metric after an open pair's move
  pub metric-open : (p : ℕ → ℕ) (v t : ℕ) → Placed h cs p → Pair h cs v t → can_go h ceiling cs p v t ≡ true → pos (metric h cs (place p v t)) ≡ pos (metric h cs p) -ℤ gain h cs p v t
  metric-open p v t ok r q =
      let s = (ok v r.0 r.1).board (can-board p v t q) in
      metric-gain h cs p v t r.0 r.1 s.0 s.1 r.2 r.3 (can-away p v t q)

  -- no gain is above the metric
  gain-le : (p : ℕ → ℕ) (v t : ℕ) → Placed h cs p → Pair h cs v t → can_go h ceiling cs p v t ≡ true → gain h cs p v t ≤ℤ pos (metric h cs p)
  gain-le p v t ok r q = le-by _ _ (omega (
    arith,
    ap up (metric-open p v t ok r q),
    ap dn (metric-open p v t ok r q),
    sub_is (pos (metric h cs p)) (gain h cs p v t),
    pos-is (metric h cs p),
    pos-is (metric h cs (place p v t)),
  ))

  -- p' is where polishing from p may end
  pub record Polished (p p' : ℕ → ℕ) : Type 0 where
    pub placed : Placed h cs p'
    pub lower : metric h cs p' ≤ metric h cs p
    pub stuck : (v t : ℕ) → Pair h cs v t → can_go h ceiling cs p' v t ≡ true → gain h cs p' v t ≤ℤ pos 0

  turn_end : (n : ℕ) (q : Polish) → Placed h cs q.block → metric h cs q.block ≤ suc n
      → ((r : Polish) → Placed h cs r.block → metric h cs r.block ≤ n → Polished r.block (polish_on h ceiling cs n r).block)
      → (b : Best) → Top (can_go h ceiling cs q.block) (gain h cs q.block) (Pair h cs) b → Polished q.block (polish_turn h cs q (polish_on h ceiling cs n) b).block
  unfolding polish_turn
  turn_end n q ok l ih none top = record {
    placed = ok;
    lower = omega arith;
    stuck = λ v t r o. absurd (true≢false (sym o ∙ top v t r));
  }
  turn_end n q ok l ih (best v t g) top = go (lt_z (pos 0) g) refl
    where
      next : Polish
      next = record { block = place q.block v t; made = suc q.made }

      less : T (lt_z (pos 0) g) → metric h cs (place q.block v t) < metric h cs q.block
      less y = omega (
        arith,
        ap up (metric-open q.block v t ok top.there top.open-pair),
        ap dn (metric-open q.block v t ok top.there top.open-pair),
        sub_is (pos (metric h cs q.block)) (gain h cs q.block v t),
        pos-is (metric h cs q.block),
        pos-is (metric h cs (place q.block v t)),
        ap up top.value,
        ap dn top.value,
        lt-parts (pos 0) g (lt_z_yes y),
        pos-is 0,
      )

      go : (b : Bool) → lt_z (pos 0) g ≡ b → Polished q.block (cond b (polish_on h ceiling cs n next) q).block
      go true e =
          let down : metric h cs (place q.block v t) < metric h cs q.block = less (subst T (sym e) tt) in
          let end : Polished (place q.block v t) (polish_on h ceiling cs n next).block = ih next (placed-move h cs q.block v t ok (can-board q.block v t top.open-pair) top.there.2 top.there.3) (omega arith) in
          record { placed = end.placed; lower = omega (arith, end.lower); stuck = end.stuck }
      go false e = record {
        placed = ok;
        lower = omega arith;
        stuck = λ x y r o. ≤ℤ-trans (top.highest x y r o) (lt_z_no (subst (λ (z : Bool). T (not z)) (sym e) tt));
      }

  -- with the metric for fuel, polishing ends by itself
  polish-end : (n : ℕ) (q : Polish) → Placed h cs q.block → metric h cs q.block ≤ n → Polished q.block (polish_on h ceiling cs n q).block
  unfolding polish_on polish_best
  polish-end zero q ok l = record {
    placed = ok;
    lower = omega arith;
    stuck = λ v t r o. ≤ℤ-trans (gain-le q.block v t ok r o) (le-by _ _ (omega (arith, pos-is (metric h cs q.block), pos-is 0)));
  }
  polish-end (suc n) q ok l = turn_end n q ok l (polish-end n) (polish_best h ceiling cs q.block) (best-top (can_go h ceiling cs q.block) (gain h cs q.block) h.blocks (vertices h))

  pub polish-ends : (p : ℕ → ℕ) → Placed h cs p → Polished p (polish h ceiling cs p).block
  unfolding polish
  polish-ends p ok = polish-end (metric h cs p) (record { block = p; made = 0 }) ok (omega arith)
