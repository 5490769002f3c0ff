-- A walk ends by its own rule: so many moves were made since the kept prefix, or no pair is open (walk_ends). What it keeps is the prefix of
-- lowest metric, then of lightest heaviest block, then the first, the empty one included (first-lowest). So W ends on no higher metric
-- (walked-metric), and on the same one with no heavier heaviest block (walked-level). Rests on Tops, Ends and Kept. Assumes nothing.
use Prim.Native.Nat.{ℕ, zero, suc, ◌+◌, ◌-◌, ◌≤◌, ◌<◌}
use Rattle.std.proofs.Math.Decide.{ℕ_discrete}
use native.Mathlib.Omega.{arith}
use Rattle.std.specs.Prelude.{◌≡◌, ◌⊎◌, Bool, ◌||◌, ◌&&◌, cond, List, [], ◌∷◌, eqb}
use Rattle.std.proofs.Math.Path.{refl, sym, ap, subst}
use Rattle.std.proofs.Common.{◌∙◌, true≢false}
use Rattle.std.proofs.Math.Logic.{inl, inr, ⊎_elim}
use Rattle.std.proofs.Math.Bool.{true, false, not}
use borrow.Author.Tests.{eq-eqb, ne_eqb, not-true, leb-true, leb-false}
use Rattle.std.proofs.Math.Dec.{leb}
use Rattle.laws.specs.Choice.{one, and_left, and_right}
use Rattle.laws.specs.Sum.{count_to, sum_to-change, count_to-full}
use Rattle.laws.specs.Fold.{any}
use Rattle.laws.specs.Place.{place, place-back}
use Rattle.model.specs.Catalogue.{Hypergraph, vertices}
use Rattle.model.specs.Measure.{Contraction, on_board, heaviest, metric, gain}
use Rattle.model.specs.Machine.{Move}
use Rattle.model.specs.Search.{Best, none, best, Worth, Walk, is_kept, worth_of, is_open, walk_best, walk_move, walk_turn, walk_on, walk, walked, reversed, patience}
use Rattle.guarantees.specs.Tops.{Top, best-top}
use Rattle.guarantees.specs.Ends.{Placed, Pair, placed-move, can-board}
use Rattle.guarantees.specs.Kept.{kept-says, kept-not, kept_self, kept_above, kept-below}

pub reversed-none : (ms : List Move) (p : ℕ → ℕ) → reversed 0 ms p ≡ p
unfolding reversed
reversed-none ms p = refl

pub reversed-nil : (n : ℕ) (p : ℕ → ℕ) → reversed n [] p ≡ p
unfolding reversed
reversed-nil zero p = refl
reversed-nil (suc n) p = refl

reversed-more : (n v t : ℕ) (ms : List Move) (p : ℕ → ℕ) → reversed (suc n) (record { vertex = v; from = p v } ∷ ms) (place p v t) ≡ reversed n ms p
unfolding reversed
reversed-more n v t ms p = ap (reversed n ms) (place-back p v t)

module _ (h : Hypergraph) (cs : List Contraction) where
  -- the partition after the first i moves
  abbrev pub prefix : Walk → ℕ → ℕ → ℕ
  prefix w i = reversed (w.tried - i) w.journal w.block

  -- what holds of a walk from p on its way
  pub record Going (p : ℕ → ℕ) (w : Walk) : Type 0 where
    pub placed : (i : ℕ) → i ≤ w.tried → Placed h cs (prefix w i)
    pub starts : prefix w 0 ≡ p
    pub kept-le : w.kept ≤ w.tried
    pub worth-is : worth_of h cs (prefix w w.kept) ≡ w.worth
    pub unbeaten : (i : ℕ) → i ≤ w.tried → is_kept (worth_of h cs (prefix w i)) w.worth ≡ false
    pub first : (i : ℕ) → i < w.kept → is_kept w.worth (worth_of h cs (prefix w i)) ≡ true

  -- q is the prefix that a walk has kept: none is better by the order, and it is better than every shorter one. So none has a lower metric;
  -- of those with the same metric none has a lighter heaviest block; and of those none is shorter
  pub record Kept (w : Walk) (q : ℕ → ℕ) : Type 0 where
    pub unbeaten : (i : ℕ) → i ≤ w.tried → is_kept (worth_of h cs (prefix w i)) (worth_of h cs q) ≡ false
    pub first : (i : ℕ) → i < w.kept → is_kept (worth_of h cs q) (worth_of h cs (prefix w i)) ≡ true
    pub lowest : (i : ℕ) → i ≤ w.tried → metric h cs q ≤ metric h cs (prefix w i)
    pub lightest : (i : ℕ) → i ≤ w.tried → metric h cs (prefix w i) ≡ metric h cs q → heaviest h cs q ≤ heaviest h cs (prefix w i)
    pub shortest : (i : ℕ) → i ≤ w.tried → metric h cs (prefix w i) ≡ metric h cs q → heaviest h cs (prefix w i) ≡ heaviest h cs q → w.kept ≤ i

  pub prefix-now : (w : Walk) → prefix w w.tried ≡ w.block
  prefix-now w = ap (λ (n : ℕ). reversed n w.journal w.block) (less w.tried) ∙ reversed-none w.journal w.block
    where
      less : (n : ℕ) → n - n ≡ 0
      less n = omega arith

  module _ (w : Walk) (v t : ℕ) where
    -- the same for the walk with one move more
    abbrev pub after : ℕ → ℕ → ℕ
    after i = reversed (suc w.tried - i) (record { vertex = v; from = w.block v } ∷ w.journal) (place w.block v t)

    pub after-old : (i : ℕ) → i ≤ w.tried → after i ≡ prefix w i
    after-old i l = ap (λ (n : ℕ). reversed n (record { vertex = v; from = w.block v } ∷ w.journal) (place w.block v t)) (less i l) ∙ reversed-more (w.tried - i) v t w.journal w.block
      where
        less : (i : ℕ) → i ≤ w.tried → suc w.tried - i ≡ suc (w.tried - i)
        less i l = omega arith

    pub after-new : (i : ℕ) → i ≡ suc w.tried → after i ≡ place w.block v t
    after-new i q = ap (λ (n : ℕ). reversed n (record { vertex = v; from = w.block v } ∷ w.journal) (place w.block v t)) (less i q) ∙ reversed-none (record { vertex = v; from = w.block v } ∷ w.journal) (place w.block v t)
      where
        less : (i : ℕ) → i ≡ suc w.tried → suc w.tried - i ≡ 0
        less i q = omega arith

    abbrev now : Worth
    now = worth_of h cs (place w.block v t)

    -- the next walk, by whether its prefix is kept
    abbrev by : Bool → Walk
    by b = record {
      block = place w.block v t;
      journal = record { vertex = v; from = w.block v } ∷ w.journal;
      candidate = (walk_move h cs w v t now).candidate;
      tried = suc w.tried;
      kept = cond b (suc w.tried) w.kept;
      worth = cond b now w.worth;
    }

    module _ (p : ℕ → ℕ) (g : Going p w) (on : on_board h cs v ≡ true) (tl : 1 ≤ t) (tu : t ≤ h.blocks) where
      -- a fact of each prefix: of the new one, and of the old ones
      each : (P : (ℕ → ℕ) → Type 0) → P (place w.block v t) → ((i : ℕ) → i ≤ w.tried → P (prefix w i)) → (i : ℕ) → i ≤ suc w.tried → P (after i)
      each P new old i l = go (ℕ_discrete i (suc w.tried))
        where
          go : Dec (i ≡ suc w.tried) → P (after i)
          go (yes q) = subst P (sym (after-new i q)) new
          go (no n) = subst P (sym (after-old i (omega arith))) (old i (omega arith))

      placed-new : Placed h cs (place w.block v t)
      placed-new = placed-move h cs w.block v t (subst (Placed h cs) (prefix-now w) (g.placed w.tried (omega arith))) on tl tu

      going-by : (b : Bool) → is_kept now w.worth ≡ b → Going p (by b)
      going-by true e = record {
        placed = each (Placed h cs) placed-new g.placed;
        starts = after-old 0 (omega arith) ∙ g.starts;
        kept-le = omega arith;
        worth-is = ap (worth_of h cs) (after-new (suc w.tried) refl);
        unbeaten = each (λ q. is_kept (worth_of h cs q) now ≡ false) (kept_self now) (λ i k. kept-below now w.worth _ e (g.unbeaten i k));
        first = λ i k. subst (λ (q : ℕ → ℕ). is_kept now (worth_of h cs q) ≡ true) (sym (after-old i (omega arith))) (kept_above now w.worth _ e (g.unbeaten i (omega arith)));
      }
      going-by false e = record {
        placed = each (Placed h cs) placed-new g.placed;
        starts = after-old 0 (omega arith) ∙ g.starts;
        kept-le = omega (arith, g.kept-le);
        worth-is = ap (worth_of h cs) (after-old w.kept g.kept-le) ∙ g.worth-is;
        unbeaten = each (λ q. is_kept (worth_of h cs q) w.worth ≡ false) e g.unbeaten;
        first = λ i k. subst (λ (q : ℕ → ℕ). is_kept w.worth (worth_of h cs q) ≡ true) (sym (after-old i (omega (arith, g.kept-le)))) (g.first i k);
      }

      going-move : Going p (walk_move h cs w v t now)
      unfolding walk_move
      going-move = going-by (is_kept now w.worth) refl

  -- ---- the end
  abbrev pub moved : Walk → ℕ → Bool
  moved w x = any w.journal (λ m. eqb m.vertex x)

  -- a move of a vertex that has not moved yet
  pub moved_more : (w : Walk) (v t : ℕ) (n : Worth) → 1 ≤ v → v ≤ vertices h → moved w v ≡ false → count_to (vertices h) (moved (walk_move h cs w v t n)) ≡ count_to (vertices h) (moved w) + 1
  unfolding walk_move any
  moved_more w v t n l u q = omega (
    arith,
    sum_to-change (vertices h) v (λ x. one (moved w x)) (λ x. one (eqb v x || moved w x)) l u (λ j _ _ ne. sym (ap (λ (b : Bool). one (b || moved w j)) (ne_eqb v j (λ r. ne (sym r))))),
    ap one q,
    ap (λ (b : Bool). one (b || moved w v)) (eq-eqb v v refl),
  )

not-before : (k i : ℕ) → (i < k → ⊥) → k ≤ i
not-before k i n = go (leb k i) refl
  where
    go : (t : Bool) → leb k i ≡ t → k ≤ i
    go true e = leb-true k i e
    go false e = absurd (n (leb-false k i e))

-- the same under a ceiling of each block
module _ (h : Hypergraph) (ceiling : ℕ → ℕ) (cs : List Contraction) where
  abbrev pub Over : Walk → Type 0
  Over w = (leb (w.kept + patience) w.tried ≡ true) ⊎ (walk_best h ceiling cs w ≡ none)

  pub still : (w : Walk) (v t : ℕ) → is_open h ceiling cs w v t ≡ true → moved h cs w v ≡ false
  unfolding is_open
  still w v t o = not-true _ (and_right (w.candidate v) _ (and_left _ _ o))

  pub open-on : (w : Walk) (v t : ℕ) → is_open h ceiling cs w v t ≡ true → on_board h cs v ≡ true
  unfolding is_open
  open-on w v t o = can-board h ceiling cs w.block v t (and_right (w.candidate v && not (moved h cs w v)) _ o)

  -- every vertex has moved: no pair is open
  none_left : (w : Walk) → vertices h ≤ count_to (vertices h) (moved h cs w) → walk_best h ceiling cs w ≡ none
  unfolding walk_best
  none_left w l = go (walk_best h ceiling cs w) (best-top (is_open h ceiling cs w) (gain h cs w.block) h.blocks (vertices h))
    where
      go : (b : Best) → Top (is_open h ceiling cs w) (gain h cs w.block) (Pair h cs) b → b ≡ none
      go none top = refl
      go (best v t g) top = absurd (true≢false (sym (count_to-full (vertices h) (moved h cs w) l v top.there.0 top.there.1) ∙ still w v t top.open-pair))

  pub record Ended (p : ℕ → ℕ) (w : Walk) : Type 0 where
    pub going : Going h cs p w
    pub over : Over w

  turn_end : (n : ℕ) (p : ℕ → ℕ) (w : Walk) → Going h cs p w → vertices h ≤ count_to (vertices h) (moved h cs w) + suc n
      → ((w' : Walk) → Going h cs p w' → vertices h ≤ count_to (vertices h) (moved h cs w') + n → Ended p (walk_on h ceiling cs n w'))
      → (b : Best) → walk_best h ceiling cs w ≡ b → Top (is_open h ceiling cs w) (gain h cs w.block) (Pair h cs) b → Ended p (walk_turn h cs w (walk_on h ceiling cs n) b)
  unfolding walk_turn
  turn_end n p w g l ih none q top = record { going = g; over = inr q }
  turn_end n p w g l ih (best v t f) q top = ih (walk_move h cs w v t (worth_of h cs (place w.block v t)))
      (going-move h cs w v t p g (open-on w v t top.open-pair) top.there.2 top.there.3)
      (omega (arith, moved_more h cs w v t (worth_of h cs (place w.block v t)) top.there.0 top.there.1 (still w v t top.open-pair)))

  -- with as many turns as there are vertices left to move, a walk ends by its own rule
  walk_end : (n : ℕ) (p : ℕ → ℕ) (w : Walk) → Going h cs p w → vertices h ≤ count_to (vertices h) (moved h cs w) + n → Ended p (walk_on h ceiling cs n w)
  unfolding walk_on walk_best
  walk_end zero p w g l = record { going = g; over = inr (none_left w (omega arith)) }
  walk_end (suc n) p w g l = go (walk_end n p) (leb (w.kept + patience) w.tried) refl
    where
      go : ((w' : Walk) → Going h cs p w' → vertices h ≤ count_to (vertices h) (moved h cs w') + n → Ended p (walk_on h ceiling cs n w'))
          → (b : Bool) → leb (w.kept + patience) w.tried ≡ b → Ended p (cond b w (walk_turn h cs w (walk_on h ceiling cs n) (walk_best h ceiling cs w)))
      go ih true e = record { going = g; over = inl e }
      go ih false e = turn_end n p w g l ih (walk_best h ceiling cs w) refl (best-top (is_open h ceiling cs w) (gain h cs w.block) h.blocks (vertices h))

  -- W ends by its rule, having kept the prefix that comes first by the order
  pub walk_ends : (p : ℕ → ℕ) (u v : ℕ) → Placed h cs p → Ended p (walk h ceiling cs p u v)
  unfolding walk reversed
  walk_ends p u v ok = walk_end (vertices h) p _ (record {
    placed = λ i l. subst (Placed h cs) (sym (reversed-nil (0 - i) p)) ok;
    starts = refl;
    kept-le = omega arith;
    worth-is = refl;
    unbeaten = λ i l. subst (λ (q : ℕ → ℕ). is_kept (worth_of h cs q) (worth_of h cs p) ≡ false) (sym (reversed-nil (0 - i) p)) (kept_self (worth_of h cs p));
    first = λ i l. absurd (omega arith);
  }) (omega arith)

  module _ (p : ℕ → ℕ) (u v : ℕ) (ok : Placed h cs p) where
    -- no prefix of the walk comes before what W leaves: lower metric, then lighter heaviest block, then shorter
    pub first-lowest : Kept h cs (walk h ceiling cs p u v) (walked h cs (walk h ceiling cs p u v))
    unfolding walked
    first-lowest =
        let w = walk h ceiling cs p u v in
        let g = (walk_ends p u v ok).going in
        let q = walked h cs w in
        let unbeaten : (i : ℕ) → i ≤ w.tried → is_kept (worth_of h cs (prefix h cs w i)) (worth_of h cs q) ≡ false = λ i l. subst (λ (x : Worth). is_kept (worth_of h cs (prefix h cs w i)) x ≡ false) (sym g.worth-is) (g.unbeaten i l) in
        let first : (i : ℕ) → i < w.kept → is_kept (worth_of h cs q) (worth_of h cs (prefix h cs w i)) ≡ true = λ i l. subst (λ (x : Worth). is_kept x (worth_of h cs (prefix h cs w i)) ≡ true) (sym g.worth-is) (g.first i l) in
        record {
          unbeaten = unbeaten;
          first = first;
          lowest = λ i l. (kept-not _ _ (unbeaten i l)).0;
          lightest = λ i l e. (kept-not _ _ (unbeaten i l)).1 e;
          shortest = λ i l e f. not-before w.kept i (λ k. ⊎_elim (λ x. omega (arith, x, e)) (λ x. omega (arith, x.1, f)) (kept-says _ _ (first i k)));
        }

    -- what W leaves has every vertex on the board in a block, and the worth of the walk's kept prefix; its metric is at most the one before
    pub walked-metric : Placed h cs (walked h cs (walk h ceiling cs p u v)) × (worth_of h cs (walked h cs (walk h ceiling cs p u v)) ≡ (walk h ceiling cs p u v).worth) × (metric h cs (walked h cs (walk h ceiling cs p u v)) ≤ metric h cs p)
    unfolding walked
    walked-metric =
        let g = (walk_ends p u v ok).going in
        (g.placed _ g.kept-le, g.worth-is, omega (arith, first-lowest.lowest 0 (omega arith), ap (metric h cs) g.starts))

    -- at the same metric, what W leaves has no heavier heaviest block than what was there before
    pub walked-level : metric h cs (walked h cs (walk h ceiling cs p u v)) ≡ metric h cs p → heaviest h cs (walked h cs (walk h ceiling cs p u v)) ≤ heaviest h cs p
    walked-level e =
        let s = (walk_ends p u v ok).going.starts in
        omega (arith, first-lowest.lightest 0 (omega arith) (ap (metric h cs) s ∙ sym e), ap (heaviest h cs) s)
