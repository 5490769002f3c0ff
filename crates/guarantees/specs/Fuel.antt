-- No definition stops for want of fuel. Where a walk, a polish, A's contractions or a climb has ended, no number of further turns
-- changes anything (walk-rests, polish-rests, coarsen-rests, climb-rests); and a number's digits are the same with any fuel that is
-- not less than the number (digits-fuel). Rests on Walks, Ends, Calls and Climbs, where each ends by its own rule. Assumes nothing.
use Prim.Native.Nat.{ℕ, zero, suc, ◌+◌, ◌-◌, ◌*◌, ◌/◌, ◌%◌, ◌≤◌}
use native.Mathlib.Omega.{arith}
use Rattle.std.specs.Prelude.{◌≡◌, Bool, true, false, List, [], ◌∷◌, ◌++◌, T, leb, ltb, ℤ, ◌≤ℤ◌}
use Rattle.std.proofs.Math.Path.{refl, ap}
use Rattle.std.proofs.Common.{sym, ◌∙◌, subst, inl, inr, lt-ltb}
use Rattle.std.proofs.Math.Bool.{cond}
use Rattle.std.proofs.Math.IntN.{pos}
use Rattle.std.specs.Int.Signed.{lt_z, lt_z_yes}
use Rattle.laws.specs.Integer.{lt-parts, le_parts, pos-is}
use Rattle.laws.specs.Place.{place}
use Rattle.model.specs.Catalogue.{Hypergraph, vertices}
use Rattle.model.specs.Measure.{Contraction, climb, representative, gain}
use Rattle.model.specs.Machine.{State}
use Rattle.model.specs.Search.{Best, none, best, Walk, Polish, Coarse, can_go, walk_best, walk_turn, walk_on, walk, polish_best, polish_turn, polish_on, polish, join_best, join_turn, board_size, coarsen, patience}
use Rattle.model.specs.Report.{digits_of, digits}
use Rattle.guarantees.specs.Climbs.{Sound, climb-on, representative-on}
use Rattle.guarantees.specs.Tops.{Top, best-top}
use Rattle.guarantees.specs.Ends.{Placed, Pair, polish-ends}
use Rattle.guarantees.specs.Walks.{Over, walk_ends}
use Rattle.guarantees.specs.Calls.{Coarsest, coarsen-ends, A-joins-end}

cond_same : {A : Type 0} (b : Bool) (x : A) → cond b x x ≡ x
cond_same true x = refl
cond_same false x = refl

module _ (h : Hypergraph) (ceiling : ℕ → ℕ) (cs : List Contraction) where
  over-rests : (w : Walk) → Over h ceiling cs w → (n : ℕ) → walk_on h ceiling cs n w ≡ w
  unfolding walk_on walk_turn
  over-rests w o zero = refl
  over-rests w (inl e) (suc n) = ap (λ (b : Bool). cond b w (walk_turn h cs w (walk_on h ceiling cs n) (walk_best h ceiling cs w))) e
  over-rests w (inr e) (suc n) =
      ap (λ (b : Best). cond (leb (w.kept + patience) w.tried) w (walk_turn h cs w (walk_on h ceiling cs n) b)) e
      ∙ cond_same (leb (w.kept + patience) w.tried) w

  pub walk-rests : (p : ℕ → ℕ) (u v : ℕ) → Placed h cs p → (n : ℕ) → walk_on h ceiling cs n (walk h ceiling cs p u v) ≡ walk h ceiling cs p u v
  walk-rests p u v ok = over-rests (walk h ceiling cs p u v) (walk_ends h ceiling cs p u v ok).over

  not-above : (g : ℤ) → g ≤ℤ pos 0 → (b : Bool) → lt_z (pos 0) g ≡ b → b ≡ false
  not-above g l true e = absurd (omega (arith, lt-parts (pos 0) g (lt_z_yes (subst T (sym e) tt)), le_parts g (pos 0) l, pos-is 0))
  not-above g l false e = refl

  turn-rests : (q : Polish) (on : Polish → Polish) → ((v t : ℕ) → Pair h cs v t → can_go h ceiling cs q.block v t ≡ true → gain h cs q.block v t ≤ℤ pos 0)
      → (b : Best) → Top (can_go h ceiling cs q.block) (gain h cs q.block) (Pair h cs) b → polish_turn h cs q on b ≡ q
  unfolding polish_turn
  turn-rests q on stuck none top = refl
  turn-rests q on stuck (best v t g) top =
      ap (λ (b : Bool). cond b (on (record { block = place q.block v t; made = suc q.made })) q) (not-above g (subst (λ (z : ℤ). z ≤ℤ pos 0) (sym top.value) (stuck v t top.there top.open-pair)) (lt_z (pos 0) g) refl)

  stuck-rests : (q : Polish) → ((v t : ℕ) → Pair h cs v t → can_go h ceiling cs q.block v t ≡ true → gain h cs q.block v t ≤ℤ pos 0) → (n : ℕ) → polish_on h ceiling cs n q ≡ q
  unfolding polish_on polish_best
  stuck-rests q stuck zero = refl
  stuck-rests q stuck (suc n) = turn-rests q (polish_on h ceiling cs n) stuck (polish_best h ceiling cs q.block) (best-top (can_go h ceiling cs q.block) (gain h cs q.block) h.blocks (vertices h))

  pub polish-rests : (p : ℕ → ℕ) → Placed h cs p → (n : ℕ) → polish_on h ceiling cs n (polish h ceiling cs p) ≡ polish h ceiling cs p
  polish-rests p ok = stuck-rests (polish h ceiling cs p) (polish-ends h ceiling cs p ok).stuck

module _ (h : Hypergraph) where
  pub coarsest-rests : (c : Coarse) → Coarsest h c → (n : ℕ) → coarsen h n c ≡ c
  unfolding coarsen join_turn
  coarsest-rests c o zero = refl
  coarsest-rests c (inl e) (suc n) = ap (λ (b : Bool). cond b (join_turn h c (coarsen h n) (join_best h c.stack c.block)) c) e
  coarsest-rests c (inr e) (suc n) =
      ap (λ (b : Best). cond (ltb (2 * h.blocks) (board_size h c.stack)) (join_turn h c (coarsen h n) b) c) e
      ∙ cond_same (ltb (2 * h.blocks) (board_size h c.stack)) c

  -- A's contractions, which begin with every vertex on the board
  -- contractions with some fuel, and then with more
  coarsen-on : (n m : ℕ) (c : Coarse) → coarsen h m (coarsen h n c) ≡ coarsen h (n + m) c
  unfolding coarsen join_turn
  coarsen-on zero m c = ap (λ (k : ℕ). coarsen h k c) (let e : m ≡ 0 + m = omega arith in e)
  coarsen-on (suc n) m c = go (coarsen-on n m) (ltb (2 * h.blocks) (board_size h c.stack)) refl ∙ ap (λ (k : ℕ). coarsen h k c) (let e : suc (n + m) ≡ suc n + m = omega arith in e)
    where
      by : ((d : Coarse) → coarsen h m (coarsen h n d) ≡ coarsen h (n + m) d) → (b : Best) → join_best h c.stack c.block ≡ b → coarsen h m (join_turn h c (coarsen h n) b) ≡ join_turn h c (coarsen h (n + m)) b
      by ih none q = coarsest-rests c (inr q) m
      by ih (best u v g) q = ih _

      go : ((d : Coarse) → coarsen h m (coarsen h n d) ≡ coarsen h (n + m) d) → (b : Bool) → ltb (2 * h.blocks) (board_size h c.stack) ≡ b
          → coarsen h m (cond b (join_turn h c (coarsen h n) (join_best h c.stack c.block)) c) ≡ cond b (join_turn h c (coarsen h (n + m)) (join_best h c.stack c.block)) c
      go ih true e = by ih (join_best h c.stack c.block) refl
      go ih false e = coarsest-rests c (inl e) m

  -- as many as there are vertices on the board are enough
  pub coarsen-enough : (n : ℕ) (c : Coarse) → board_size h c.stack ≤ n → coarsen h n c ≡ coarsen h (board_size h c.stack) c
  coarsen-enough n c l =
      let b : ℕ = board_size h c.stack in
      ap (λ (k : ℕ). coarsen h k c) (let e : n ≡ b + (n - b) = omega arith in e)
      ∙ sym (coarsen-on b (n - b) c)
      ∙ coarsest-rests (coarsen h b c) (coarsen-ends h b c (omega arith)) (n - b)

  pub coarsen-rests : (s : State) (n : ℕ) → coarsen h n (coarsen h (vertices h) (record { stack = []; block = s.block })) ≡ coarsen h (vertices h) (record { stack = []; block = s.block })
  coarsen-rests s = coarsest-rests (coarsen h (vertices h) (record { stack = []; block = s.block })) (A-joins-end h s)

pub climb-rests : (cs : List Contraction) → Sound cs → (x n : ℕ) → climb n cs (representative cs x) ≡ representative cs x
climb-rests cs s x n = climb-on n cs (representative cs x) (representative-on cs s x)

digits-by : (f g n : ℕ) → n ≤ f → n ≤ g → digits_of f n ≡ digits_of g n
unfolding digits_of
digits-by zero zero n l m = refl
digits-by zero (suc g) n l m = sym (ap (λ (b : Bool). cond b ((48 + n) ∷ []) (digits_of g (n / 10) ++ ((48 + n % 10) ∷ []))) (lt-ltb n 10 (omega arith)))
digits-by (suc f) zero n l m = ap (λ (b : Bool). cond b ((48 + n) ∷ []) (digits_of f (n / 10) ++ ((48 + n % 10) ∷ []))) (lt-ltb n 10 (omega arith))
digits-by (suc f) (suc g) n l m = go (digits-by f g (n / 10)) (ltb n 10) refl
  where
    go : (n / 10 ≤ f → n / 10 ≤ g → digits_of f (n / 10) ≡ digits_of g (n / 10)) → (b : Bool) → ltb n 10 ≡ b
        → cond b ((48 + n) ∷ []) (digits_of f (n / 10) ++ ((48 + n % 10) ∷ [])) ≡ cond b ((48 + n) ∷ []) (digits_of g (n / 10) ++ ((48 + n % 10) ∷ []))
    go ih true e = refl
    go ih false e = ap (λ (l : List ℕ). l ++ ((48 + n % 10) ∷ [])) (ih (omega arith) (omega arith))

pub digits-fuel : (f n : ℕ) → n ≤ f → digits_of f n ≡ digits n
unfolding digits
digits-fuel f n l = digits-by f n n l (omega arith)
