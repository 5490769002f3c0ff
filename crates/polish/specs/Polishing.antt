-- P: the vertices on the board that are not fixed are candidates, the best open pair is moved while its gain is above 0. What the code's
-- variables are for model's polish on its way, and what one move, and the whole, ask and do. Rests on Tabled. Assumes nothing.
use Rattle.std.specs.Prelude.{Option, None, ℕ, ◌+◌, ◌*◌, ◌<◌, ◌≤◌, ◌^◌, ◌≡◌, refl, Bool, true, false, ◌&&◌, ◌||◌, cond, List, eqb, ltb, ℤ, pos, get_or}
use Rattle.std.proofs.Math.Decide.{ℕ_discrete}
use Rattle.std.proofs.Common.{arith, sym, ap, ap₂, ◌∙◌, eq-eqb, ne_eqb, lt-ltb, le-ltb, ltb-true, ltb-false, of_z, to_z}
use Rattle.std.proofs.Math.Bool.{and-true, and-false, or-false}
use Rattle.std.specs.Int.Signed.{lt_z, mag}
use Rattle.std.specs.Int.{w32}
use Rattle.laws.specs.Integer.{read32}
use Rattle.model.specs.Search.{Best, none, best, best_pair}
use Rattle.best_move.specs.declared.open.Move.{Move}
use Rattle.best_move.specs.Open.{step, best_of, PickIn, gain_in, open_in, Chosen}
use Rattle.best_move.specs.OpenLaw.{pick-open}
use Rattle.search_moves.specs.Marks.{Marked, marked-none, marked-ext, marked_more}

-- ---- the vertices on the board

-- the vertex is below n, and its block is not 0
unfoldable pub sits : List ℕ → ℕ → ℕ → Bool
sits blocks n y = ltb y n && ltb 0 (get_or blocks y 0)

pub sits-none : (l blocks : List ℕ) → Marked l l (sits blocks 0)
unfolding sits
sits-none l blocks = marked-none l (sits blocks 0) (λ x k. ap (λ (t : Bool). t && ltb 0 (get_or blocks x 0)) (le-ltb x 0 (omega arith)))

-- whether the vertex x, in block b, is marked
abbrev pub placed : ℕ → ℕ → ℕ → Bool
placed x b y = eqb y x && ltb 0 b

pub sits-more : {l l' l'' : List ℕ} (blocks : List ℕ) (x b : ℕ) → b ≡ get_or blocks x 0 → Marked l l' (sits blocks x) → Marked l' l'' (placed x b) → Marked l l'' (sits blocks (x + 1))
unfolding sits
sits-more blocks x b e p q = marked-ext (sits blocks (x + 1)) (marked_more p q) (λ y k. go y (ℕ_discrete y x))
  where
    go : (y : ℕ) → Dec (y ≡ x) → ((ltb y x && ltb 0 (get_or blocks y 0)) || (eqb y x && ltb 0 b)) ≡ (ltb y (x + 1) && ltb 0 (get_or blocks y 0))
    go y (yes r) =
        ap₂ (λ (c d : Bool). (c && ltb 0 (get_or blocks y 0)) || (d && ltb 0 b)) (le-ltb y x (omega arith)) (eq-eqb y x r)
        ∙ ap (ltb 0) (e ∙ ap (λ (z : ℕ). get_or blocks z 0) (sym r))
        ∙ sym (ap (λ (c : Bool). c && ltb 0 (get_or blocks y 0)) (lt-ltb y (x + 1) (omega arith)))
    go y (no r) =
        ap (λ (d : Bool). (ltb y x && ltb 0 (get_or blocks y 0)) || (d && ltb 0 b)) (ne_eqb y x r)
        ∙ or-false (ltb y x && ltb 0 (get_or blocks y 0))
        ∙ ap (λ (c : Bool). c && ltb 0 (get_or blocks y 0)) (below y r (ltb y x) refl)
      where
        below : (y : ℕ) → (y ≡ x → ⊥) → (t : Bool) → ltb y x ≡ t → ltb y x ≡ ltb y (x + 1)
        below y r true q = let l : y < x = ltb-true y x q in q ∙ sym (lt-ltb y (x + 1) (omega arith))
        below y r false q = q ∙ sym (le-ltb y (x + 1) (omega (arith, ltb-false y x q, r)))

pub placed-yes : {l l' : List ℕ} (x b : ℕ) → (b ≡ 0 → ⊥) → Marked l l' (λ y. eqb y x) → Marked l l' (placed x b)
placed-yes x b n m = marked-ext (placed x b) m (λ y k. sym (ap (λ (t : Bool). eqb y x && t) (lt-ltb 0 b (omega (arith, n))) ∙ and-true (eqb y x)))

pub placed-no : (l : List ℕ) (x b : ℕ) → b ≡ 0 → Marked l l (placed x b)
placed-no l x b q = marked-none l (placed x b) (λ y k. ap (λ (t : Bool). eqb y x && t) (le-ltb 0 b (omega arith)) ∙ and-false (eqb y x))

-- ---- the next move

-- a pair is taken where its gain is above 0
abbrev pub rise : Best → Best
rise none = none
rise (best v b g) = cond (lt_z (pos 0) g) (best v b g) none

-- what reading the gain of v to b asks
pub record RiseOk (gains v b : ℕ) : Type 0 where
  pub v-in : (1 ≤ v) × (v ≤ 1024)
  pub b-in : (1 ≤ b) × (b ≤ 16)
  pub fit : 16 * v ≤ gains

-- the gain is read back from its bits
pub rise-read : (g : List ℤ) (v b v' b' : ℕ) {r : Bool} → v' ≡ v → b' ≡ b → mag (gain_in g v' b') < 2 ^ 31 → r ≡ lt_z (pos 0) (to_z w32 (of_z w32 (gain_in g v' b'))) → r ≡ lt_z (pos 0) (gain_in g v b)
rise-read g v b v' b' ev eb f is = is ∙ ap (lt_z (pos 0)) (read32 (gain_in g v' b') f ∙ ap₂ (gain_in g) ev eb)

-- what the code finds
abbrev pub rise_of : (gains : List ℤ) (blocks weights loads ceilings marks : List ℕ) (n k : ℕ) → Best
rise_of gains blocks weights loads ceilings marks n k = rise (best_pair n k (open_in marks blocks weights loads ceilings) (gain_in gains))

pub rise-none : (worth : ℕ → ℕ → ℤ) (n k : ℕ) {r : Option Move} {b : Best} → Chosen worth n k r b → r ≡ None → Chosen worth n k None (rise b)
rise-none worth n k c e = record { same = ap rise (ap (best_of worth) (sym e) ∙ c.same); within = tt }

pub rise-yes : (worth : ℕ → ℕ → ℤ) (n k v b : ℕ) {r : Option Move} {c : Best} → Chosen worth n k r c → r ≡ step v b → lt_z (pos 0) (worth v b) ≡ true → Chosen worth n k (step v b) (rise c)
rise-yes worth n k v b c e t = record {
  same = sym (ap rise (sym c.same ∙ ap (best_of worth) e) ∙ ap (λ (x : Bool). cond x (best v b (worth v b)) none) t);
  within = rw e at c.within;
}

pub rise-no : (worth : ℕ → ℕ → ℤ) (n k v b : ℕ) {r : Option Move} {c : Best} → Chosen worth n k r c → r ≡ step v b → lt_z (pos 0) (worth v b) ≡ false → Chosen worth n k None (rise c)
rise-no worth n k v b c e t = record {
  same = sym (ap rise (sym c.same ∙ ap (best_of worth) e) ∙ ap (λ (x : Bool). cond x (best v b (worth v b)) none) t);
  within = tt;
}

pub rise-in : (n k v b gains : ℕ) {r : Option Move} → PickIn n k r → r ≡ step v b → n ≤ 1024 → k ≤ 16 → 16 * n ≤ gains → RiseOk gains v b
rise-in n k v b gains i e ln lk lg =
    let w : (1 ≤ v) × (v ≤ n) × (1 ≤ b) × (b ≤ k) = rw e at i in
    record { v-in = omega (arith, w.0, w.1); b-in = omega (arith, w.2, w.3); fit = omega (arith, w.1) }

-- a pair that was found is open
pub rise-open : {n k : ℕ} (may : ℕ → ℕ → Bool) (worth : ℕ → ℕ → ℤ) {r : Option Move} (v b : ℕ) → Chosen worth n k r (rise (best_pair n k may worth)) → r ≡ step v b → may v b ≡ true
rise-open {n} {k} may worth {r} v b c e = go (best_pair n k may worth) refl c.same
  where
    never : best v b (worth v b) ≡ none → ⊥
    never q = let z : ◌≡◌ {A = ℕ} 0 1 = cc in omega arith

    go : (x : Best) → best_pair n k may worth ≡ x → best_of worth r ≡ rise x → may v b ≡ true
    go none d q = absurd (never (sym (ap (best_of worth) e) ∙ q))
    go (best x y f) d q = by (lt_z (pos 0) f) q
      where
        by : (t : Bool) → best_of worth r ≡ cond t (best x y f) none → may v b ≡ true
        by true q = pick-open may worth n k v b r e (record { same = q ∙ sym d; within = c.within })
        by false q = absurd (never (sym (ap (best_of worth) e) ∙ q))
