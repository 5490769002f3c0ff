-- Sums and tests over a list, and what holds of every element. Assumes nothing.
-- sum_over: sum_over-ext, sum_over-all, sum_over-more, sum_over-both, sum_over-le · any: any-ext, any_at, any-not · All: all_map, all_more, all-get
-- A table of zeros: zeros-get
use Rattle.std.specs.Prelude.{ℕ, zero, suc, ◌+◌, ◌*◌, ◌≤◌, ◌<◌, ◌≡◌, refl, Bool, true, false, ◌||◌, ◌&&◌, List, [], ◌∷◌, ◌++◌, length, get_or, replicate}
use Rattle.std.proofs.Math.Decide.{dec_lt}
use Rattle.std.proofs.Common.{arith, sym, ap₂, true≢false}
use Rattle.std.proofs.lemmas.List.{length-replicate, get_or-replicate}
use Rattle.std.proofs.Math.ListN.{get_or-eq_default}

-- the sum of f over a list
unfoldable pub sum_over : {A : Type 0} → List A → (A → ℕ) → ℕ
sum_over [] f = 0
sum_over (x ∷ xs) f = f x + sum_over xs f

-- some element passes
unfoldable pub any : {A : Type 0} → List A → (A → Bool) → Bool
any [] p = false
any (x ∷ xs) p = p x || any xs p

-- every element passes
unfoldable pub all : {A : Type 0} → List A → (A → Bool) → Bool
all [] p = true
all (x ∷ xs) p = p x && all xs p

-- P holds of every element
abbrev pub All : {A : Type 0} → List A → (A → Type 0) → Type 0
All [] P = Unit {0}
All (x ∷ xs) P = P x × All xs P

pub all_map : {A : Type 0} (l : List A) (P Q : A → Type 0) → ((x : A) → P x → Q x) → All l P → All l Q
all_map [] P Q f a = tt
all_map (x ∷ l) P Q f a = (f x a.0, all_map l P Q f a.1)

pub all_more : {A : Type 0} (l : List A) (P : A → Type 0) (x : A) → All l P → P x → All (l ++ (x ∷ [])) P
all_more [] P x a p = (p, tt)
all_more (y ∷ l) P x a p = (a.0, all_more l P x a.1 p)

pub all-get : {A : Type 0} (l : List A) (P : A → Type 0) (d : A) → All l P → (i : ℕ) → i < length l → P (get_or l i d)
all-get [] P d a i h = absurd (omega arith)
all-get (x ∷ l) P d a zero h = a.0
all-get (x ∷ l) P d a (suc i) h = all-get l P d a.1 i (omega arith)

-- a table of zeros has 0 everywhere
pub zeros-get : (n i : ℕ) → get_or {A = ℕ} (replicate n 0) i 0 ≡ 0
zeros-get n i = go (dec_lt i n)
  where
    go : Dec (i < n) → get_or {A = ℕ} (replicate n 0) i 0 ≡ 0
    go (yes l) = get_or-replicate n i 0 0 l
    go (no l) = get_or-eq_default (replicate n 0) 0 (omega (arith, length-replicate {A = ℕ} n 0))

-- f and g agree wherever P holds, and P holds throughout
pub sum_over-all : {A : Type 0} (l : List A) (P : A → Type 0) (f g : A → ℕ) → All l P → ((x : A) → P x → f x ≡ g x) → sum_over l f ≡ sum_over l g
unfolding sum_over
sum_over-all [] P f g a e = refl
sum_over-all (x ∷ l) P f g a e = ap₂ (λ (m n : ℕ). m + n) (e x a.0) (sum_over-all l P f g a.1 e)

pub sum_over-ext : {A : Type 0} (l : List A) (f g : A → ℕ) → ((x : A) → f x ≡ g x) → sum_over l f ≡ sum_over l g
unfolding sum_over
sum_over-ext [] f g e = refl
sum_over-ext (x ∷ l) f g e = ap₂ (λ (a b : ℕ). a + b) (e x) (sum_over-ext l f g e)

-- one more element
pub sum_over-more : {A : Type 0} (l : List A) (x : A) (f : A → ℕ) → sum_over (l ++ (x ∷ [])) f ≡ sum_over l f + f x
unfolding sum_over
sum_over-more [] x f = omega arith
sum_over-more (y ∷ l) x f = omega (arith, sum_over-more l x f)

-- an equation of two sums for each element, summed
pub sum_over-both : {A : Type 0} (l : List A) (f g f' g' : A → ℕ) → ((x : A) → f x + g x ≡ f' x + g' x) → sum_over l f + sum_over l g ≡ sum_over l f' + sum_over l g'
unfolding sum_over
sum_over-both [] f g f' g' e = refl
sum_over-both (x ∷ l) f g f' g' e = omega (arith, sum_over-both l f g f' g' e, e x)

-- every term is at most m
pub sum_over-le : {A : Type 0} (l : List A) (P : A → Type 0) (f : A → ℕ) (m : ℕ) → All l P → ((x : A) → P x → f x ≤ m) → sum_over l f ≤ length l * m
unfolding sum_over
sum_over-le [] P f m a h = omega arith
sum_over-le (x ∷ l) P f m a h = omega (arith, h x a.0, sum_over-le l P f m a.1 h)

pub any-ext : {A : Type 0} (l : List A) (f g : A → Bool) → ((x : A) → f x ≡ g x) → any l f ≡ any l g
unfolding any
any-ext [] f g e = refl
any-ext (x ∷ l) f g e = ap₂ (λ (a b : Bool). a || b) (e x) (any-ext l f g e)

-- some element passes: its place
pub any_at : {A : Type 0} (l : List A) (d : A) (p : A → Bool) → any l p ≡ true → (i : ℕ) × (i < length l) × (p (get_or l i d) ≡ true)
unfolding any
any_at [] d p q = absurd (true≢false (sym q))
any_at (x ∷ l) d p q = go (p x) refl (any_at l d p) q
  where
    go : (b : Bool) → p x ≡ b → (any l p ≡ true → (i : ℕ) × (i < length l) × (p (get_or l i d) ≡ true)) → (b || any l p) ≡ true → (i : ℕ) × (i < length (x ∷ l)) × (p (get_or (x ∷ l) i d) ≡ true)
    go true e ih q = (0, omega arith, e)
    go false e ih q = let r = ih q in (suc r.0, omega (arith, r.1), r.2)

-- none passes
pub any-not : {A : Type 0} (l : List A) (d : A) (p : A → Bool) → any l p ≡ false → (i : ℕ) → i < length l → p (get_or l i d) ≡ false
unfolding any
any-not [] d p q i h = absurd (omega arith)
any-not (x ∷ l) d p q i h = go (p x) refl i h q (any-not l d p)
  where
    go : (b : Bool) → p x ≡ b → (i : ℕ) → i < length (x ∷ l) → (b || any l p) ≡ false → (any l p ≡ false → (i : ℕ) → i < length l → p (get_or l i d) ≡ false) → p (get_or (x ∷ l) i d) ≡ false
    go true r i h q ih = absurd (true≢false q)
    go false r zero h q ih = r
    go false r (suc i) h q ih = ih q i (omega arith)
