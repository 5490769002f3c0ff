-- Lists that a fold over numbers makes: what holds of each entry, sums over them, their order; and how many different sessions a list of lines has.
-- Rests on model's Sheets. Assumes nothing.
use Prim.Native.Nat.{ℕ, zero, suc, ◌+◌, ◌≤◌, ◌<◌}
use Rattle.std.proofs.Math.Decide.{ℕ_discrete, dec_lt}
use Rattle.std.proofs.Common.{arith, ◌∙◌, subst, true≢false, inl, inr, eq-eqb, ne_eqb, eqb-true}
use Rattle.std.specs.Prelude.{◌≡◌, Bool, ◌&&◌, ◌||◌, List, [], ◌∷◌, ◌++◌, ◌⊎◌, eqb, length, get_or}
use Rattle.std.proofs.Math.Path.{refl, sym, ap}
use Rattle.std.proofs.Math.Bool.{true, false, cond}
use Rattle.laws.specs.Choice.{one, one-le, or-none}
use Rattle.laws.specs.Fold.{sum_over, sum_over-more, any, any_at, All, all_more}
use Rattle.laws.specs.Sum.{sum_to, sum_to-suc, sum_to-nil, sum_to-ext, sum_to-change, count_to, fold_to}
use Rattle.model.specs.Sheets.{At, different, Before, InOrder}

-- ---- entries
pub all_append : {A : Type 0} (P : A → Type 0) (xs ys : List A) → All xs P → All ys P → All (xs ++ ys) P
all_append P [] ys a b = b
all_append P (x ∷ xs) ys a b = (a.0, all_append P xs ys a.1 b)

pub sum-append : {A : Type 0} (xs ys : List A) (f : A → ℕ) → sum_over (xs ++ ys) f ≡ sum_over xs f + sum_over ys f
unfolding sum_over
sum-append [] ys f = omega arith
sum-append (x ∷ xs) ys f = omega (arith, sum-append xs ys f)

pub sum_ones : {A : Type 0} (l : List A) → sum_over l (λ x. 1) ≡ length l
unfolding sum_over
sum_ones [] = refl
sum_ones (x ∷ l) = omega (arith, sum_ones l)

module _ {A : Type 0} (p : ℕ → Bool) (g : ℕ → A) where
  -- those of 1..n that pass
  abbrev pub kept : ℕ → List A
  kept n = fold_to n (λ out v. cond (p v) (out ++ (g v ∷ [])) out) []

  pub kept-all : (P : A → Type 0) (n : ℕ) → ((v : ℕ) → 1 ≤ v → v ≤ n → p v ≡ true → P (g v)) → All (kept n) P
  unfolding fold_to
  kept-all P zero f = tt
  kept-all P (suc n) f = go (p (suc n)) refl (kept-all P n (λ v l u q. f v l (omega arith) q))
    where
      go : (b : Bool) → p (suc n) ≡ b → All (kept n) P → All (cond b (kept n ++ (g (suc n) ∷ [])) (kept n)) P
      go true e a = all_more (kept n) P (g (suc n)) a (f (suc n) (omega arith) (omega arith) e)
      go false e a = a

  pub kept-sum : (f : A → ℕ) (n : ℕ) → sum_over (kept n) f ≡ sum_to n (λ v. cond (p v) (f (g v)) 0)
  unfolding fold_to sum_over
  kept-sum f zero = sym (sum_to-nil 0 (λ v. cond (p v) (f (g v)) 0) (λ i l u. absurd (omega arith)))
  kept-sum f (suc n) = go (p (suc n)) refl (kept-sum f n)
    where
      go : (b : Bool) → p (suc n) ≡ b → sum_over (kept n) f ≡ sum_to n (λ v. cond (p v) (f (g v)) 0) → sum_over (cond b (kept n ++ (g (suc n) ∷ [])) (kept n)) f ≡ sum_to (suc n) (λ v. cond (p v) (f (g v)) 0)
      go true e r = omega (arith, sum_over-more (kept n) (g (suc n)) f, r, sum_to-suc n (λ v. cond (p v) (f (g v)) 0), ap (λ (b : Bool). cond b (f (g (suc n))) 0) e)
      go false e r = omega (arith, r, sum_to-suc n (λ v. cond (p v) (f (g v)) 0), ap (λ (b : Bool). cond b (f (g (suc n))) 0) e)

module _ {A : Type 0} (l : ℕ → List A) where
  -- the lists of 1..n, one after another
  abbrev pub joined : ℕ → List A
  joined n = fold_to n (λ out t. out ++ l t) []

  pub joined-all : (P : A → Type 0) (n : ℕ) → ((t : ℕ) → 1 ≤ t → t ≤ n → All (l t) P) → All (joined n) P
  unfolding fold_to
  joined-all P zero f = tt
  joined-all P (suc n) f = all_append P (joined n) (l (suc n)) (joined-all P n (λ t a b. f t a (omega arith))) (f (suc n) (omega arith) (omega arith))

  pub joined-sum : (f : A → ℕ) (n : ℕ) → sum_over (joined n) f ≡ sum_to n (λ t. sum_over (l t) f)
  unfolding fold_to sum_over
  joined-sum f zero = sym (sum_to-nil 0 (λ t. sum_over (l t) f) (λ i l u. absurd (omega arith)))
  joined-sum f (suc n) = omega (arith, sum-append (joined n) (l (suc n)) f, joined-sum f n, sum_to-suc n (λ t. sum_over (l t) f))

-- ---- order
pub order-append : (xs ys : List At) → InOrder xs → InOrder ys → All xs (λ x. All ys (Before x)) → InOrder (xs ++ ys)
order-append [] ys a b c = b
order-append (x ∷ xs) ys a b c = (all_append (Before x) xs ys a.0 c.0, order-append xs ys a.1 b c.1)

-- ---- a sum with one entry
pub sum-at : (n r w : ℕ) → 1 ≤ r → r ≤ n → sum_to n (λ i. cond (eqb r i) w 0) ≡ w
sum-at n r w l u = omega (
  arith,
  sum_to-change n r (λ i. cond (eqb r i) w 0) (λ i. 0) l u (λ j _ _ n. ap (λ (b : Bool). cond b w 0) (ne_eqb r j (λ e. n (sym e)))),
  sum_to-nil n (λ i. 0) (λ i _ _. refl),
  ap (λ (b : Bool). cond b w 0) (eq-eqb r r refl),
)

-- ---- any
pub any-yes : {A : Type 0} (l : List A) (d : A) (p : A → Bool) (i : ℕ) → i < length l → p (get_or l i d) ≡ true → any l p ≡ true
unfolding any
any-yes [] d p i u q = absurd (omega arith)
any-yes (x ∷ l) d p zero u q = ap (λ (b : Bool). b || any l p) q
any-yes (x ∷ l) d p (suc i) u q = go (p x) (any-yes l d p i (omega arith) q)
  where
    go : (b : Bool) → any l p ≡ true → (b || any l p) ≡ true
    go true e = refl
    go false e = e

pub any_sum : {A : Type 0} (l : List A) (p : A → Bool) → any l p ≡ false → sum_over l (λ x. one (p x)) ≡ 0
unfolding any sum_over
any_sum [] p q = refl
any_sum (x ∷ l) p q = let r = or-none (p x) (any l p) q in omega (arith, ap one r.0, any_sum l p r.1)

-- ---- different sessions
-- those of 1..n that are among them
pub different-is : (n : ℕ) (l : List At) → All l (λ x. (1 ≤ x.session) × (x.session ≤ n)) → different l ≡ count_to n (λ t. any l (λ y. eqb y.session t))
unfolding different any
different-is n [] a = sym (sum_to-nil n _ (λ i _ _. refl))
different-is n (x ∷ xs) a = go (any xs (λ y. eqb y.session x.session)) refl (different-is n xs a.1)
  where
    f : ℕ → ℕ
    f t = one (eqb x.session t || any xs (λ y. eqb y.session t))

    g : ℕ → ℕ
    g t = one (any xs (λ y. eqb y.session t))

    same : sum_to n f + g x.session ≡ sum_to n g + f x.session
    same = sum_to-change n x.session f g a.0.0 a.0.1 (λ j _ _ m. ap (λ (b : Bool). one (b || any xs (λ y. eqb y.session j))) (ne_eqb x.session j (λ e. m (sym e))))

    own : f x.session ≡ 1
    own = ap (λ (b : Bool). one (b || any xs (λ y. eqb y.session x.session))) (eq-eqb x.session x.session refl)

    go : (b : Bool) → any xs (λ y. eqb y.session x.session) ≡ b → different xs ≡ sum_to n g → cond b (different xs) (suc (different xs)) ≡ sum_to n f
    go true e d = omega (arith, d, same, own, ap one e)
    go false e d = omega (arith, d, same, own, ap one e)
