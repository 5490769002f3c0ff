-- How long searches get: a walk tries at most one move a vertex, and keeps no more than it tries (walk-counts); A's walks together try at most
-- that many for each contraction (refine-counts); P makes at most as many moves as its metric at the start (polish-count). Rests on
-- Walks. Assumes nothing.
use Prim.Native.Nat.{ℕ, zero, suc, ◌+◌, ◌*◌, ◌≤◌}
use Rattle.std.proofs.Common.{suc-mul}
use native.Mathlib.Omega.{arith}
use Rattle.std.specs.Prelude.{◌≡◌, refl, Bool, cond, List, [], ◌∷◌, leb, pos, length}
use Rattle.std.proofs.Math.Path.{sym}
use Rattle.std.proofs.Math.Bool.{true, false}
use Rattle.std.specs.Int.Signed.{lt_z}
use Rattle.laws.specs.Fold.{any}
use Rattle.laws.specs.Place.{place}
use Rattle.laws.specs.Sum.{count_to, count_to-le, sum_to-nil}
use Rattle.model.specs.Catalogue.{Hypergraph, vertices}
use Rattle.model.specs.Measure.{Contraction, metric, gain}
use Rattle.model.specs.Machine.{uncontract}
use Rattle.model.specs.Search.{Best, none, best, Worth, Walk, Polish, Fine, is_kept, worth_of, is_open, walk_best, walk_move, walk_turn, walk_on, walk, walked, polish_best, polish_turn, polish_on, polish, refine, patience}
use Rattle.guarantees.specs.Tops.{Top, best-top}
use Rattle.guarantees.specs.Ends.{Pair}
use Rattle.guarantees.specs.Walks.{moved, still, moved_more}

module _ (h : Hypergraph) (cs : List Contraction) where
  -- the moves of a walk are of as many vertices, and stand in its journal
  pub record Counts (w : Walk) : Type 0 where
    pub each-once : w.tried ≡ count_to (vertices h) (moved h cs w)
    pub journaled : length w.journal ≡ w.tried
    pub kept-le : w.kept ≤ w.tried

-- the same under a ceiling of each block
module _ (h : Hypergraph) (ceiling : ℕ → ℕ) (cs : List Contraction) where
  kept_next : (b : Bool) (t k : ℕ) → k ≤ t → cond b (suc t) k ≤ suc t
  kept_next true t k l = omega arith
  kept_next false t k l = omega arith

  counts_move : (w : Walk) (v t : ℕ) (n : Worth) → Counts h cs w → Pair h cs v t → is_open h ceiling cs w v t ≡ true → Counts h cs (walk_move h cs w v t n)
  unfolding walk_move
  counts_move w v t n k r o = record {
    each-once = omega (arith, k.each-once, moved_more h cs w v t n r.0 r.1 (still h ceiling cs w v t o));
    journaled = omega (arith, k.journaled);
    kept-le = kept_next (is_kept n w.worth) w.tried w.kept k.kept-le;
  }

  counts-turn : (n : ℕ) (w : Walk) → Counts h cs w → ((x : Walk) → Counts h cs x → Counts h cs (walk_on h ceiling cs n x))
      → (b : Best) → Top (is_open h ceiling cs w) (gain h cs w.block) (Pair h cs) b → Counts h cs (walk_turn h cs w (walk_on h ceiling cs n) b)
  unfolding walk_turn
  counts-turn n w k ih none top = k
  counts-turn n w k ih (best v t g) top = ih _ (counts_move w v t (worth_of h cs (place w.block v t)) k top.there top.open-pair)

  counts-on : (n : ℕ) (w : Walk) → Counts h cs w → Counts h cs (walk_on h ceiling cs n w)
  unfolding walk_on walk_best
  counts-on zero w k = k
  counts-on (suc n) w k = go (counts-on n) (leb (w.kept + patience) w.tried)
    where
      go : ((x : Walk) → Counts h cs x → Counts h cs (walk_on h ceiling cs n x)) → (b : Bool) → Counts h cs (cond b w (walk_turn h cs w (walk_on h ceiling cs n) (walk_best h ceiling cs w)))
      go ih true = k
      go ih false = counts-turn n w k ih (walk_best h ceiling cs w) (best-top (is_open h ceiling cs w) (gain h cs w.block) h.blocks (vertices h))

  pub walk-counts : (p : ℕ → ℕ) (u v : ℕ) → Counts h cs (walk h ceiling cs p u v)
  unfolding walk any
  walk-counts p u v = counts-on (vertices h) _ (record {
    each-once = sym (sum_to-nil (vertices h) (λ x. 0) (λ i _ _. refl));
    journaled = refl;
    kept-le = omega arith;
  })

  pub tried-le : (p : ℕ → ℕ) (u v : ℕ) → (walk h ceiling cs p u v).tried ≤ vertices h
  tried-le p u v = omega (arith, (walk-counts p u v).each-once, count_to-le (vertices h) (moved h cs (walk h ceiling cs p u v)))

  -- ---- P
  count_turn : (n : ℕ) (q : Polish) → ((r : Polish) → (polish_on h ceiling cs n r).made ≤ r.made + n) → (b : Best) → (polish_turn h cs q (polish_on h ceiling cs n) b).made ≤ q.made + suc n
  unfolding polish_turn
  count_turn n q ih none = omega arith
  count_turn n q ih (best v t g) = go (lt_z (pos 0) g)
    where
      next : Polish
      next = record { block = place q.block v t; made = suc q.made }

      go : (b : Bool) → (cond b (polish_on h ceiling cs n next) q).made ≤ q.made + suc n
      go true = omega (arith, ih next)
      go false = omega arith

  count-on : (n : ℕ) (q : Polish) → (polish_on h ceiling cs n q).made ≤ q.made + n
  unfolding polish_on
  count-on zero q = omega arith
  count-on (suc n) q = count_turn n q (count-on n) (polish_best h ceiling cs q.block)

  pub polish-count : (p : ℕ → ℕ) → (polish h ceiling cs p).made ≤ metric h cs p
  unfolding polish
  polish-count p = omega (arith, count-on (metric h cs p) (record { block = p; made = 0 }))

-- ---- A's walks, one for each contraction
pub record Tallied (n : ℕ) (f g : Fine) (m : ℕ) : Type 0 where
  pub tried-le : g.tried ≤ f.tried + m * n
  pub kept-le : g.kept + f.tried ≤ g.tried + f.kept

pub refine-counts : (h : Hypergraph) (ceiling : ℕ → ℕ) (cs : List Contraction) (f : Fine) → Tallied (vertices h) f (refine h ceiling cs f) (length cs)
unfolding refine
refine-counts h ceiling [] f = record { tried-le = omega arith; kept-le = omega arith }
refine-counts h ceiling (c ∷ cs) f =
    let w : Walk = walk h ceiling cs (uncontract f.block c) c.into c.gone in
    let rest = refine-counts h ceiling cs (record { block = walked h cs w; tried = f.tried + w.tried; kept = f.kept + w.kept }) in
    record {
      tried-le = omega (arith, rest.tried-le, suc-mul (length cs) (vertices h), tried-le h ceiling cs (uncontract f.block c) c.into c.gone);
      kept-le = omega (arith, rest.kept-le, (walk-counts h ceiling cs (uncontract f.block c) c.into c.gone).kept-le);
    }
