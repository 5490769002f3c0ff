-- The best pair by scores, row by row, is model's best pair of those whose score is not 0. Rests on JoinLaw and on guarantees' Tops.
-- Assumes nothing.
use Rattle.std.specs.Prelude.{◌≡◌, Option, Some, None, MatchOption, Bool, ℤ, pos}
use Rattle.std.proofs.Math.Path.{refl, sym, ap}
use Rattle.std.proofs.Common.{◌∙◌, subst, arith}
use Rattle.std.proofs.Math.Bool.{true, false, cond}
use Prim.Native.Nat.{ℕ, zero, suc, ◌≤◌, ◌<◌}
use borrow.Author.Tests.{lt-ltb, le-ltb, ltb-true, ltb-false}
use Rattle.std.proofs.Math.Dec.{ltb}
use Rattle.laws.specs.Sum.{fold_to}
use Rattle.model.specs.Search.{Best, none, best, better, consider, best_pair}
use Rattle.guarantees.specs.Tops.{Top, best-top}
use Rattle.best_contraction.specs.PartnerLaw.{nobody, top_to}
use Rattle.best_contraction.specs.JoinLaw.{joined, join_to}
use Rattle.best_contraction.specs.declared.join.Partner.{Partner}
use Rattle.best_contraction.specs.declared.join.Join.{Join}

abbrev pub rated : ℕ → ℕ → ℕ → Best
rated zero a b = none
rated (suc r) a b = best a b (pos (suc r))

-- the answer as model has it: rating 0 is no pair
abbrev pub join_of : Join → Best
join_of j = rated j.rating j.into j.gone

pub join_of-none : (r : Join) → r.rating ≡ 0 → join_of r ≡ none
join_of-none r e = ap (λ (s : ℕ). rated s r.into r.gone) e

pub join_of-some : (r : Join) → 1 ≤ r.rating → join_of r ≡ best r.into r.gone (pos r.rating)
join_of-some r l = go r.rating l
  where
    go : (s : ℕ) → 1 ≤ s → rated s r.into r.gone ≡ best r.into r.gone (pos s)
    go zero l = absurd (omega arith)
    go (suc s) l = refl

-- a pair whose score is not 0 may be contracted
abbrev pub joinable : (ℕ → ℕ → ℕ) → ℕ → ℕ → Bool
joinable score u v = ltb 0 (score u v)

abbrev pub scored : (ℕ → ℕ → ℕ) → ℕ → ℕ → ℤ
scored score u v = pos (score u v)

-- r is model's best pair by scores, and in range
pub record BestJoin (score : ℕ → ℕ → ℕ) (n : ℕ) (r : Join) : Type 0 where
  pub same : join_of r ≡ best_pair n n (joinable score) (scored score)
  pub within : 1 ≤ r.rating → (1 ≤ r.into) × (r.into ≤ n) × (1 ≤ r.gone) × (r.gone ≤ n)

-- a pair that was found, or none: rating 0
abbrev pub join_or : Option Join → Join
join_or None = record { rating = 0; into = 0; gone = 0 }
join_or (Some j) = j

-- a pair that was found has a rating
abbrev pub IsRated : Option Join → Type 0
IsRated r = MatchOption r Unit (λ j. 1 ≤ j.rating)

pub best_join-none : (score : ℕ → ℕ → ℕ) (n : ℕ) (r : Join) → BestJoin score n r → r.rating ≡ 0 → BestJoin score n (join_or None)
best_join-none score n r b e = record { same = sym (join_of-none r e) ∙ b.same; within = λ l. absurd (omega arith) }

-- one more pair
abbrev take : ℕ → Join → ℕ → ℕ → Join
take x b y s = cond (ltb b.rating s) (record { rating = s; into = x; gone = y }) b

-- a row merged with one more place
merge-more : (x y s : ℕ) (t : Partner) (b : Join) → take x (joined x t b) y s ≡ joined x (cond (ltb t.rating s) (record { rating = s; vertex = y }) t) b
unfolding joined
merge-more x y s t b = go (ltb t.rating s) refl (ltb b.rating t.rating) refl
  where
    go : (p : Bool) → ltb t.rating s ≡ p → (q : Bool) → ltb b.rating t.rating ≡ q
        → take x (cond q (record { rating = t.rating; into = x; gone = t.vertex }) b) y s ≡ joined x (cond p (record { rating = s; vertex = y }) t) b
    go true e true f =
        let lt : t.rating < s = ltb-true _ _ e in
        let l2 : b.rating < t.rating = ltb-true _ _ f in
        ap (λ (k : Bool). cond k (record { rating = s; into = x; gone = y }) (record { rating = t.rating; into = x; gone = t.vertex })) e
        ∙ sym (ap (λ (k : Bool). cond k (record { rating = s; into = x; gone = y }) b) (lt-ltb b.rating s (omega arith)))
    go true e false f = refl
    go false e true f =
        ap (λ (k : Bool). cond k (record { rating = s; into = x; gone = y }) (record { rating = t.rating; into = x; gone = t.vertex })) e
        ∙ sym (ap (λ (k : Bool). cond k (record { rating = t.rating; into = x; gone = t.vertex }) b) f)
    go false e false f =
        let lt : s ≤ t.rating = ltb-false _ _ e in
        let l2 : t.rating ≤ b.rating = ltb-false _ _ f in
        ap (λ (k : Bool). cond k (record { rating = s; into = x; gone = y }) b) (le-ltb b.rating s (omega arith))
        ∙ sym (ap (λ (k : Bool). cond k (record { rating = t.rating; into = x; gone = t.vertex }) b) f)

merge_none : (x : ℕ) (b : Join) → b ≡ joined x nobody b
unfolding joined
merge_none x b = sym (ap (λ (k : Bool). cond k (record { rating = 0; into = x; gone = 0 }) b) (le-ltb b.rating 0 (omega arith)))

merge-row : (x : ℕ) (score : ℕ → ℕ) (m : ℕ) (b : Join) → fold_to m (λ j y. take x j y (score y)) b ≡ joined x (top_to score m) b
unfolding fold_to top_to
merge-row x score zero b = merge_none x b
merge-row x score (suc m) b = ap (λ (j : Join). take x j (suc m) (score (suc m))) (merge-row x score m b) ∙ merge-more x (suc m) (score (suc m)) (top_to score m) b

-- one pair whose score is not 0
better-is : (x y s : ℕ) (b : Join) → 1 ≤ s → better (join_of b) x y (pos s) ≡ join_of (take x b y s)
unfolding better
better-is x y s b l = go b.rating refl s l
  where
    go : (r : ℕ) → b.rating ≡ r → (s : ℕ) → 1 ≤ s → better (rated r b.into b.gone) x y (pos s) ≡ join_of (cond (ltb r s) (record { rating = s; into = x; gone = y }) b)
    go r e zero l = absurd (omega arith)
    go zero e (suc s) l = ap (λ (q : Bool). join_of (cond q (record { rating = suc s; into = x; gone = y }) b)) (sym (lt-ltb 0 (suc s) (omega arith)))
    go (suc r) e (suc s) l = by (ltb (suc r) (suc s))
      where
        by : (q : Bool) → cond q (best x y (pos (suc s))) (best b.into b.gone (pos (suc r))) ≡ join_of (cond q (record { rating = suc s; into = x; gone = y }) b)
        by true = refl
        by false = sym (ap (λ (r : ℕ). rated r b.into b.gone) e)

module _ (score : ℕ → ℕ → ℕ) where
  consider-is : (x y : ℕ) (b : Join) → consider (joinable score) (scored score) x (join_of b) y ≡ join_of (take x b y (score x y))
  unfolding consider
  consider-is x y b = go (ltb 0 (score x y)) refl
    where
      go : (q : Bool) → ltb 0 (score x y) ≡ q → cond q (better (join_of b) x y (pos (score x y))) (join_of b) ≡ join_of (take x b y (score x y))
      go true e = better-is x y (score x y) b (ltb-true 0 (score x y) e)
      go false e =
          let z : score x y ≤ 0 = ltb-false 0 (score x y) e in
          sym (ap (λ (q : Bool). join_of (cond q (record { rating = score x y; into = x; gone = y }) b)) (le-ltb b.rating (score x y) (omega arith)))

  row_is : (x m : ℕ) (b : Join) → fold_to m (consider (joinable score) (scored score) x) (join_of b) ≡ join_of (fold_to m (λ j y. take x j y (score x y)) b)
  unfolding fold_to
  row_is x zero b = refl
  row_is x (suc m) b =
      ap (λ (z : Best). consider (joinable score) (scored score) x z (suc m)) (row_is x m b)
      ∙ consider-is x (suc m) (fold_to m (λ j y. take x j y (score x y)) b)

  rows_is : (n i : ℕ) → fold_to i (λ b x. fold_to n (consider (joinable score) (scored score) x) b) none ≡ join_of (join_to score n i)
  unfolding fold_to join_to
  rows_is n zero = refl
  rows_is n (suc i) =
      ap (λ (z : Best). fold_to n (consider (joinable score) (scored score) (suc i)) z) (rows_is n i)
      ∙ row_is (suc i) n (join_to score n i)
      ∙ ap join_of (merge-row (suc i) (score (suc i)) n (join_to score n i))

  pair_is : (n : ℕ) → join_of (join_to score n n) ≡ best_pair n n (joinable score) (scored score)
  unfolding best_pair
  pair_is n = sym (rows_is n n)

  pub best-join : (n : ℕ) (r : Join) → r ≡ join_to score n n → BestJoin score n r
  best-join n r e =
      let is : join_of r ≡ best_pair n n (joinable score) (scored score) = ap join_of e ∙ pair_is n in
      record { same = is; within = range r.rating refl (subst (Top (joinable score) (scored score) In) (sym is) (best-top (joinable score) (scored score) n n)) }
    where
      In : ℕ → ℕ → Type 0
      In a c = (1 ≤ a) × (a ≤ n) × (1 ≤ c) × (c ≤ n)

      range : (s : ℕ) → r.rating ≡ s → Top (joinable score) (scored score) In (rated s r.into r.gone) → 1 ≤ r.rating → In r.into r.gone
      range zero e t l = absurd (omega arith)
      range (suc s) e t l = t.there

  -- the pair that is answered may be contracted
  pub join-open : (n : ℕ) (r : Join) → BestJoin score n r → 1 ≤ r.rating → joinable score r.into r.gone ≡ true
  join-open n r b l = (subst (Top (joinable score) (scored score) (λ a c. (1 ≤ a) × (a ≤ n) × (1 ≤ c) × (c ≤ n))) (sym b.same ∙ join_of-some r l) (best-top (joinable score) (scored score) n n)).open-pair
