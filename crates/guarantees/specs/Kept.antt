-- The order by which a walk keeps a prefix, is_kept: what it says of metrics and heaviest blocks (kept-says, kept-not), and that it is an order
-- (kept_self, kept_above, kept-below). The heaviest block's weight is the weight of a block, and no block's is above it (heaviest-some,
-- heaviest-above). Rests on model alone. Assumes nothing.
use Prim.Native.Nat.{ℕ, zero, suc, max, ◌≤◌, ◌<◌}
use Rattle.std.proofs.Math.Decide.{ℕ_discrete}
use Rattle.std.proofs.Math.Nat.{zero-max, le-max_left, le-max_right, max-eq_left, max-eq_right}
use Rattle.std.proofs.Common.{le_trans, le_of_lt, arith, sym, ◌∙◌, subst, ⊎_elim}
use Rattle.std.specs.Prelude.{◌≡◌, ◌⊎◌, Bool, ◌&&◌, ◌||◌, List, eqb}
use Rattle.std.proofs.Math.Path.{refl, ap, ap₂}
use Rattle.std.proofs.Math.Logic.{inl, inr}
use Rattle.std.proofs.Math.Bool.{true, false}
use borrow.Author.Tests.{eq-eqb, ne_eqb, eqb-true, lt-ltb, le-ltb, ltb-true, ltb-false}
use Rattle.std.proofs.Math.Dec.{ltb}
use Rattle.laws.specs.Choice.{and_left, and_right, or-none}
use Rattle.laws.specs.Sum.{fold_to}
use Rattle.model.specs.Catalogue.{Hypergraph}
use Rattle.model.specs.Measure.{Contraction, block_weight, heaviest}
use Rattle.model.specs.Search.{Worth, is_kept}

-- ---- what the order says
module _ (a b : Worth) where
  -- a is kept in place of b: its metric is lower, or the same with a lighter heaviest block
  pub kept-says : is_kept a b ≡ true → (a.total < b.total) ⊎ ((a.total ≡ b.total) × (a.heaviest < b.heaviest))
  unfolding is_kept
  kept-says q = go (ltb a.total b.total) refl q
    where
      go : (t : Bool) → ltb a.total b.total ≡ t → (t || (eqb a.total b.total && ltb a.heaviest b.heaviest)) ≡ true → (a.total < b.total) ⊎ ((a.total ≡ b.total) × (a.heaviest < b.heaviest))
      go true e r = inl (ltb-true _ _ e)
      go false e r = inr (eqb-true _ _ (and_left _ _ r), ltb-true _ _ (and_right (eqb a.total b.total) _ r))

  kept-lower : a.total < b.total → is_kept a b ≡ true
  unfolding is_kept
  kept-lower l = ap (λ (t : Bool). t || (eqb a.total b.total && ltb a.heaviest b.heaviest)) (lt-ltb _ _ l)

  kept-lighter : a.total ≡ b.total → a.heaviest < b.heaviest → is_kept a b ≡ true
  unfolding is_kept
  kept-lighter e l =
      ap (λ (t : Bool). t || (eqb a.total b.total && ltb a.heaviest b.heaviest)) (le-ltb a.total b.total (omega arith))
      ∙ ap₂ (λ (s t : Bool). s && t) (eq-eqb _ _ e) (lt-ltb _ _ l)

  -- a is not kept in place of b
  kept-isnt : b.total ≤ a.total → (a.total ≡ b.total → b.heaviest ≤ a.heaviest) → is_kept a b ≡ false
  unfolding is_kept
  kept-isnt l f = ap (λ (t : Bool). t || (eqb a.total b.total && ltb a.heaviest b.heaviest)) (le-ltb _ _ l) ∙ go (ℕ_discrete a.total b.total)
    where
      go : Dec (a.total ≡ b.total) → (eqb a.total b.total && ltb a.heaviest b.heaviest) ≡ false
      go (yes e) = ap₂ (λ (s t : Bool). s && t) (eq-eqb _ _ e) (le-ltb _ _ (f e))
      go (no n) = ap (λ (t : Bool). t && ltb a.heaviest b.heaviest) (ne_eqb _ _ n)

  pub kept-not : is_kept a b ≡ false → (b.total ≤ a.total) × (a.total ≡ b.total → b.heaviest ≤ a.heaviest)
  unfolding is_kept
  kept-not q =
      let r = or-none (ltb a.total b.total) _ q in
      (ltb-false _ _ r.0, λ e. ltb-false _ _ (sym (ap (λ (t : Bool). t && ltb a.heaviest b.heaviest) (eq-eqb _ _ e)) ∙ r.1))

-- ---- it is an order
pub kept_self : (a : Worth) → is_kept a a ≡ false
kept_self a = kept-isnt a a (omega arith) (λ _. omega arith)

-- where c does not beat b, whatever beats b beats c
pub kept_above : (a b c : Worth) → is_kept a b ≡ true → is_kept c b ≡ false → is_kept a c ≡ true
kept_above a b c p q = ⊎_elim (λ l. kept-lower a c (omega (arith, (kept-not c b q).0))) (λ r. go r (ℕ_discrete c.total b.total)) (kept-says a b p)
  where
    go : (a.total ≡ b.total) × (a.heaviest < b.heaviest) → Dec (c.total ≡ b.total) → is_kept a c ≡ true
    go r (yes e) = kept-lighter a c (omega (arith, r.0)) (omega (arith, r.1, (kept-not c b q).1 e))
    go r (no n) = kept-lower a c (omega (arith, r.0, (kept-not c b q).0))

-- and c does not beat it
pub kept-below : (a b c : Worth) → is_kept a b ≡ true → is_kept c b ≡ false → is_kept c a ≡ false
kept-below a b c p q = ⊎_elim (λ l. kept-isnt c a (omega arith) (λ e. absurd (omega arith))) (λ r. kept-isnt c a (omega (arith, r.0)) (λ e. omega (arith, r.1))) (kept-says a c (kept_above a b c p q))

-- ---- the heaviest block
fold-above : (n b : ℕ) (f : ℕ → ℕ) → 1 ≤ b → b ≤ n → f b ≤ fold_to n (λ most b. max most (f b)) 0
unfolding fold_to
fold-above zero b f l u = absurd (omega arith)
fold-above (suc n) b f l u = go (fold-above n b f l) (ℕ_discrete b (suc n))
  where
    go : (b ≤ n → f b ≤ fold_to n (λ most b. max most (f b)) 0) → Dec (b ≡ suc n) → f b ≤ max (fold_to n (λ most b. max most (f b)) 0) (f (suc n))
    go ih (yes e) = subst (λ (i : ℕ). f i ≤ max (fold_to n (λ most b. max most (f b)) 0) (f (suc n))) (sym e) (le-max_right _ _)
    go ih (no ne) = le_trans (ih (omega arith)) (le-max_left _ _)

-- f has the value m at a number of 1..n
pub record Among (n : ℕ) (f : ℕ → ℕ) (m : ℕ) : Type 0 where
  pub at : ℕ
  pub at_in : (1 ≤ at) × (at ≤ n)
  pub is : m ≡ f at

fold-some : (n : ℕ) (f : ℕ → ℕ) → Among (suc n) f (fold_to (suc n) (λ most b. max most (f b)) 0)
unfolding fold_to
fold-some zero f = record { at = 1; at_in = (omega arith, omega arith); is = zero-max (f 1) }
fold-some (suc n) f = go (fold-some n f) (ltb (fold_to (suc n) (λ most b. max most (f b)) 0) (f (suc (suc n)))) refl
  where
    go : Among (suc n) f (fold_to (suc n) (λ most b. max most (f b)) 0) → (t : Bool) → ltb (fold_to (suc n) (λ most b. max most (f b)) 0) (f (suc (suc n))) ≡ t
        → Among (suc (suc n)) f (max (fold_to (suc n) (λ most b. max most (f b)) 0) (f (suc (suc n))))
    go ih true e = let l : fold_to (suc n) (λ most b. max most (f b)) 0 < f (suc (suc n)) = ltb-true _ _ e in record { at = suc (suc n); at_in = (omega arith, omega arith); is = max-eq_right (le_of_lt l) }
    go ih false e = let l : f (suc (suc n)) ≤ fold_to (suc n) (λ most b. max most (f b)) 0 = ltb-false _ _ e in record { at = ih.at; at_in = (ih.at_in.0, omega (arith, ih.at_in)); is = max-eq_left l ∙ ih.is }

module _ (h : Hypergraph) (cs : List Contraction) (block : ℕ → ℕ) where
  pub heaviest-above : (b : ℕ) → 1 ≤ b → b ≤ h.blocks → block_weight h cs block b ≤ heaviest h cs block
  unfolding heaviest
  heaviest-above b l u = fold-above h.blocks b (block_weight h cs block) l u

  pub heaviest-some : 1 ≤ h.blocks → Among h.blocks (block_weight h cs block) (heaviest h cs block)
  unfolding heaviest
  heaviest-some l = go h.blocks l
    where
      go : (n : ℕ) → 1 ≤ n → Among n (block_weight h cs block) (fold_to n (λ most b. max most (block_weight h cs block b)) 0)
      go zero l = absurd (omega arith)
      go (suc n) l = fold-some n (block_weight h cs block)
