-- Sums of f over the numbers below n and over 1..n, and how many of them pass a test. Assumes nothing.
-- Below n: sum-zero, sum-suc, sum_step, sum-front, sum-ext, sum-change, sum-add, sum-split, sum_mono, sum-mul, sum-const, sum-nil, sum-skip, term-le, sum-swap;
--   count-le, count-change
-- Over 1..n: sum_to-ext, sum_to-change, sum_to-change2, sum_to-add, sum_to-nil, sum_to-term, sum_to-two, sum_to-mono, sum_to-const, sum_to-swap, sum_to-once,
--   sum_to-suc, sum_to-prefix, count_to-le, count_to-full; fold_to-zero, fold_to-step, fold_to-ext, fold_to-skip, fold_to-none, fold_to-more, fold_to-found
-- Both: sum-sum_to · over a list's places: sum-list, sum_to-list
use Rattle.std.specs.Prelude.{◌≡◌, refl, Bool, true, false, cond, ◌||◌, ℕ, zero, suc, ◌+◌, ◌-◌, ◌*◌, ◌≤◌, ◌<◌, List, [], ◌∷◌, eqb, length, get_or}
use Rattle.std.proofs.Common.{sym, ap, ap₂, ◌∙◌, add-zero, add-suc, suc-mul, mul-add, zero-mul, mul-zero, add-one, arith}
use Rattle.std.proofs.Math.Bool.{or-true}
use Rattle.std.proofs.Math.Decide.{ℕ_discrete}
use Rattle.laws.specs.Choice.{one, one-le, one-full, cond_yes, cond_no}
use Rattle.laws.specs.Fold.{sum_over}
use Rattle.laws.specs.Place.{place, place_at, place-off}

-- f 0 + .. + f (n - 1)
unfoldable pub sum : ℕ → (ℕ → ℕ) → ℕ
sum zero f = 0
sum (suc n) f = sum n f + f n

-- how many numbers below n pass
abbrev pub count_below : ℕ → (ℕ → Bool) → ℕ
count_below n p = sum n (λ i. one (p i))

-- f 1 + .. + f n
unfoldable pub sum_to : ℕ → (ℕ → ℕ) → ℕ
sum_to n f = sum n (λ i. f (suc i))

-- how many of 1..n pass
abbrev pub count_to : ℕ → (ℕ → Bool) → ℕ
count_to n p = sum_to n (λ i. one (p i))

-- f (.. f (f b 1) 2 ..) n
unfoldable pub fold_to : {B : Type 0} → ℕ → (B → ℕ → B) → B → B
fold_to zero f b = b
fold_to (suc n) f b = f (fold_to n f b) (suc n)

-- ---- below n
pub sum-zero : (f : ℕ → ℕ) → sum 0 f ≡ 0
unfolding sum
sum-zero f = refl

pub sum-suc : (n : ℕ) (f : ℕ → ℕ) → sum (suc n) f ≡ sum n f + f n
unfolding sum
sum-suc n f = refl

pub sum_step : (n : ℕ) (f : ℕ → ℕ) → sum (n + 1) f ≡ sum n f + f n
unfolding sum
sum_step n f = rw add-one

pub sum-ext : (n : ℕ) (f g : ℕ → ℕ) → ((i : ℕ) → i < n → f i ≡ g i) → sum n f ≡ sum n g
unfolding sum
sum-ext zero f g h = refl
sum-ext (suc n) f g h = ap₂ (λ (x y : ℕ). x + y) (sum-ext n f g (λ i l. h i (omega arith))) (h n (omega arith))

-- the two differ at i alone
pub sum-change : (n i : ℕ) (f g : ℕ → ℕ) → i < n → ((j : ℕ) → j < n → (j ≡ i → ⊥) → f j ≡ g j) → sum n f + g i ≡ sum n g + f i
unfolding sum
sum-change zero i f g l h = absurd (omega arith)
sum-change (suc n) i f g l h = go (λ k. sum-change n i f g k (λ j k. h j (omega arith))) (ℕ_discrete n i)
  where
    go : (i < n → sum n f + g i ≡ sum n g + f i) → Dec (n ≡ i) → sum n f + f n + g i ≡ sum n g + g n + f i
    go ih (yes e) =
        let same : sum n f ≡ sum n g = sum-ext n f g (λ j k. h j (omega arith) (λ q. omega arith)) in
        omega (arith, same, ap f e, ap g e)
    go ih (no ne) = omega (arith, ih (omega arith), h n (omega arith) ne)

pub sum-add : (n : ℕ) (f g : ℕ → ℕ) → sum n (λ i. f i + g i) ≡ sum n f + sum n g
unfolding sum
sum-add zero f g = refl
sum-add (suc n) f g = omega (arith, sum-add n f g)

pub sum-split : (n m : ℕ) (f : ℕ → ℕ) → sum (n + m) f ≡ sum n f + sum m (λ i. f (n + i))
unfolding sum
sum-split n zero f = rw add-zero (omega arith)
sum-split n (suc m) f = rw add-suc (omega (arith, sum-split n m f))

pub sum_mono : (n : ℕ) (f g : ℕ → ℕ) → ((i : ℕ) → i < n → f i ≤ g i) → sum n f ≤ sum n g
unfolding sum
sum_mono zero f g h = omega arith
sum_mono (suc n) f g h = omega (arith, sum_mono n f g (λ i l. h i (omega arith)), h n (omega arith))

pub sum-mul : (n k : ℕ) (f : ℕ → ℕ) → sum n (λ i. k * f i) ≡ k * sum n f
unfolding sum
sum-mul zero k f = sym (mul-zero k)
sum-mul (suc n) k f = rw mul-add (omega (arith, sum-mul n k f))

pub sum-const : (n k : ℕ) → sum n (λ i. k) ≡ n * k
unfolding sum
sum-const zero k = sym (zero-mul k)
sum-const (suc n) k = rw suc-mul (omega (arith, sum-const n k))

pub sum-nil : (n : ℕ) (f : ℕ → ℕ) → ((i : ℕ) → i < n → f i ≡ 0) → sum n f ≡ 0
unfolding sum
sum-nil zero f h = refl
sum-nil (suc n) f h = omega (arith, sum-nil n f (λ i l. h i (omega arith)), h n (omega arith))

-- nothing is added from a on
pub sum-skip : (a b : ℕ) (f : ℕ → ℕ) → a ≤ b → ((i : ℕ) → a ≤ i → i < b → f i ≡ 0) → sum b f ≡ sum a f
unfolding sum
sum-skip a zero f l h = let e : 0 ≡ a = omega arith in ap (λ (n : ℕ). sum n f) e
sum-skip a (suc b) f l h = go (sum-skip a b f) (ℕ_discrete a (suc b))
  where
    go : (a ≤ b → ((i : ℕ) → a ≤ i → i < b → f i ≡ 0) → sum b f ≡ sum a f) → Dec (a ≡ suc b) → sum (suc b) f ≡ sum a f
    go ih (yes e) = ap (λ (n : ℕ). sum n f) (sym e)
    go ih (no ne) = omega (arith, ih (omega arith) (λ i p q. h i p (omega arith)), h b (omega arith) (omega arith))

-- one term is at most the sum
pub term-le : (n i : ℕ) (f : ℕ → ℕ) → i < n → f i ≤ sum n f
unfolding sum
term-le zero i f l = absurd (omega arith)
term-le (suc n) i f l = go (term-le n i f) (ℕ_discrete n i)
  where
    go : (i < n → f i ≤ sum n f) → Dec (n ≡ i) → f i ≤ sum n f + f n
    go ih (yes e) = omega (arith, ap f e)
    go ih (no ne) = omega (arith, ih (omega arith))

pub sum-swap : (n m : ℕ) (f : ℕ → ℕ → ℕ) → sum n (λ i. sum m (λ j. f i j)) ≡ sum m (λ j. sum n (λ i. f i j))
unfolding sum
sum-swap zero m f = sym (sum-nil m (λ j. 0) (λ i l. refl))
sum-swap (suc n) m f =
    ap (λ (x : ℕ). x + sum m (λ j. f n j)) (sum-swap n m f) ∙ sym (sum-add m (λ j. sum n (λ i. f i j)) (λ j. f n j))

pub count-le : (n : ℕ) (p : ℕ → Bool) → count_below n p ≤ n
unfolding sum
count-le zero p = omega arith
count-le (suc n) p = omega (arith, count-le n p, one-le (p n))

-- a count that is changed at i alone
pub count-change : (n i : ℕ) (p q : ℕ → Bool) → i < n → ((j : ℕ) → j < n → (j ≡ i → ⊥) → p j ≡ q j)
    → count_below n p + one (q i) ≡ count_below n q + one (p i)
count-change n i p q l h = sum-change n i (λ j. one (p j)) (λ j. one (q j)) l (λ j k ne. ap one (h j k ne))

pub sum-front : (n : ℕ) (f : ℕ → ℕ) → sum (suc n) f ≡ f 0 + sum n (λ i. f (suc i))
unfolding sum
sum-front zero f = omega arith
sum-front (suc n) f = omega (arith, sum-front n f)

-- the places of a list
pub sum-list : {A : Type 0} (l : List A) (d : A) (f : A → ℕ) → sum (length l) (λ i. f (get_or l i d)) ≡ sum_over l f
unfolding sum sum_over
sum-list [] d f = refl
sum-list (x ∷ l) d f = sum-front (length l) (λ i. f (get_or (x ∷ l) i d)) ∙ ap (λ (z : ℕ). f x + z) (sum-list l d f)

-- ---- over 1..n
pub sum-sum_to : (n : ℕ) (g f : ℕ → ℕ) → ((i : ℕ) → i < n → g i ≡ f (suc i)) → sum n g ≡ sum_to n f
unfolding sum_to
sum-sum_to n g f h = sum-ext n g (λ i. f (suc i)) h

pub sum_to-ext : (n : ℕ) (f g : ℕ → ℕ) → ((i : ℕ) → 1 ≤ i → i ≤ n → f i ≡ g i) → sum_to n f ≡ sum_to n g
unfolding sum_to
sum_to-ext n f g e = sum-ext n (λ i. f (suc i)) (λ i. g (suc i)) (λ i l. e (suc i) (omega arith) (omega arith))

pub sum_to-nil : (n : ℕ) (f : ℕ → ℕ) → ((i : ℕ) → 1 ≤ i → i ≤ n → f i ≡ 0) → sum_to n f ≡ 0
unfolding sum_to
sum_to-nil n f e = sum-nil n (λ i. f (suc i)) (λ i l. e (suc i) (omega arith) (omega arith))

pub sum_to-add : (n : ℕ) (f g : ℕ → ℕ) → sum_to n (λ i. f i + g i) ≡ sum_to n f + sum_to n g
unfolding sum_to
sum_to-add n f g = sum-add n (λ i. f (suc i)) (λ i. g (suc i))

-- a number of 1..n is one more than a number below n
below : (P : ℕ → Type 0) (i : ℕ) → 1 ≤ i → ((j : ℕ) → i ≡ suc j → P (suc j)) → P i
below P zero l f = absurd (omega arith)
below P (suc i) l f = f i refl

-- one term is at most the sum
pub sum_to-term : (n i : ℕ) (f : ℕ → ℕ) → 1 ≤ i → i ≤ n → f i ≤ sum_to n f
unfolding sum_to
sum_to-term n i f l u = below (λ k. f k ≤ sum_to n f) i l (λ j q. term-le n j (λ k. f (suc k)) (omega arith))

-- the two differ at i alone
pub sum_to-change : (n i : ℕ) (f g : ℕ → ℕ) → 1 ≤ i → i ≤ n → ((j : ℕ) → 1 ≤ j → j ≤ n → (j ≡ i → ⊥) → f j ≡ g j) → sum_to n f + g i ≡ sum_to n g + f i
unfolding sum_to
sum_to-change n i f g l u e = below (λ k. sum_to n f + g k ≡ sum_to n g + f k) i l (λ j q.
    sum-change n j (λ k. f (suc k)) (λ k. g (suc k)) (omega arith) (λ k b ne. e (suc k) (omega arith) (omega arith) (λ r. ne (omega arith))))

-- the two differ at i and at k alone
pub sum_to-change2 : (n i k : ℕ) (f g : ℕ → ℕ) → 1 ≤ i → i ≤ n → 1 ≤ k → k ≤ n → (i ≡ k → ⊥) → ((j : ℕ) → (j ≡ i → ⊥) → (j ≡ k → ⊥) → f j ≡ g j) → sum_to n f + g i + g k ≡ sum_to n g + f i + f k
sum_to-change2 n i k f g li ui lk uk ik e =
    let m : ℕ → ℕ = place f i (g i) in
    omega (
      arith,
      sum_to-change n i f m li ui (λ j _ _ ne. sym (place-off f i (g i) j ne)),
      sum_to-change n k m g lk uk (λ j _ _ ne. off j ne (ℕ_discrete j i)),
      place_at f i (g i),
      place-off f i (g i) k (λ q. ik (sym q)),
    )
  where
    off : (j : ℕ) → (j ≡ k → ⊥) → Dec (j ≡ i) → place f i (g i) j ≡ g j
    off j ne (yes q) = ap (place f i (g i)) q ∙ place_at f i (g i) ∙ ap g (sym q)
    off j ne (no nq) = place-off f i (g i) j nq ∙ e j nq ne

-- two terms are at most the sum
pub sum_to-two : (n i k : ℕ) (f : ℕ → ℕ) → 1 ≤ i → i ≤ n → 1 ≤ k → k ≤ n → (i ≡ k → ⊥) → f i + f k ≤ sum_to n f
sum_to-two n i k f li ui lk uk ne =
    let m : ℕ → ℕ = place f i 0 in
    omega (
      arith,
      sum_to-change n i f m li ui (λ j _ _ nq. sym (place-off f i 0 j nq)),
      sum_to-term n k m lk uk,
      place_at f i 0,
      place-off f i 0 k (λ q. ne (sym q)),
    )

pub count_to-le : (n : ℕ) (p : ℕ → Bool) → count_to n p ≤ n
unfolding sum_to
count_to-le n p = count-le n (λ i. p (suc i))

pub count_to-full : (n : ℕ) (f : ℕ → Bool) → n ≤ count_to n f → (i : ℕ) → 1 ≤ i → i ≤ n → f i ≡ true
unfolding sum_to sum
count_to-full zero f l i a b = absurd (omega arith)
count_to-full (suc n) f l i a b = go (λ k. count_to-full n f (omega (arith, one-le (f (suc n)))) i a k) (ℕ_discrete i (suc n))
  where
    go : (i ≤ n → f i ≡ true) → Dec (i ≡ suc n) → f i ≡ true
    go ih (yes q) = ap f q ∙ one-full (f (suc n)) (omega (arith, count_to-le n f))
    go ih (no m) = ih (omega arith)

pub sum_to-mono : (n : ℕ) (f g : ℕ → ℕ) → ((i : ℕ) → 1 ≤ i → i ≤ n → f i ≤ g i) → sum_to n f ≤ sum_to n g
unfolding sum_to
sum_to-mono n f g h = sum_mono n (λ i. f (suc i)) (λ i. g (suc i)) (λ i l. h (suc i) (omega arith) (omega arith))

pub sum_to-const : (n k : ℕ) → sum_to n (λ i. k) ≡ n * k
unfolding sum_to
sum_to-const n k = sum-const n k

pub sum_to-swap : (n m : ℕ) (f : ℕ → ℕ → ℕ) → sum_to n (λ i. sum_to m (λ j. f i j)) ≡ sum_to m (λ j. sum_to n (λ i. f i j))
unfolding sum_to
sum_to-swap n m f = sum-swap n m (λ i j. f (suc i) (suc j))

-- a term that stands at one number at most
pub sum_to-once : (n r w : ℕ) → sum_to n (λ i. cond (eqb r i) w 0) ≤ w
unfolding sum_to sum
sum_to-once zero r w = omega arith
sum_to-once (suc n) r w = go (sum_to-once n r w) (ℕ_discrete r (suc n))
  where
    go : sum_to n (λ i. cond (eqb r i) w 0) ≤ w → Dec (r ≡ suc n) → sum_to n (λ i. cond (eqb r i) w 0) + cond (eqb r (suc n)) w 0 ≤ w
    go ih (yes q) = omega (arith, cond_yes r (suc n) w 0 q, sum_to-nil n (λ i. cond (eqb r i) w 0) (λ i l u. cond_no r i w 0 (λ e. omega arith)))
    go ih (no m) = omega (arith, cond_no r (suc n) w 0 m)

pub sum_to-suc : (n : ℕ) (f : ℕ → ℕ) → sum_to (suc n) f ≡ sum_to n f + f (suc n)
unfolding sum_to
sum_to-suc n f = sum-suc n (λ i. f (suc i))

-- the first of them sum up to no more
pub sum_to-prefix : (m k : ℕ) (f : ℕ → ℕ) → sum_to m f ≤ sum_to (m + k) f
unfolding sum_to
sum_to-prefix m k f = omega (arith, sum-split m k (λ i. f (suc i)))

-- over a list's numbers, from 1 on
pub sum_to-list : {A : Type 0} (l : List A) (d : A) (f : A → ℕ) → sum_to (length l) (λ i. f (get_or l (i - 1) d)) ≡ sum_over l f
sum_to-list l d f = sym (sum-sum_to (length l) (λ i. f (get_or l i d)) (λ i. f (get_or l (i - 1) d)) (λ i _. ap (λ (j : ℕ). f (get_or l j d)) (down i))) ∙ sum-list l d f
  where
    down : (i : ℕ) → i ≡ suc i - 1
    down i = omega arith

pub fold_to-zero : {B : Type 0} (f : B → ℕ → B) (b : B) → fold_to 0 f b ≡ b
unfolding fold_to
fold_to-zero f b = refl

pub fold_to-step : {B : Type 0} (n : ℕ) (f : B → ℕ → B) (b : B) → fold_to (n + 1) f b ≡ f (fold_to n f b) (n + 1)
unfolding fold_to
fold_to-step n f b = rw add-one

pub fold_to-ext : {B : Type 0} (n : ℕ) (f g : B → ℕ → B) (b : B) → ((c : B) (i : ℕ) → 1 ≤ i → i ≤ n → f c i ≡ g c i) → fold_to n f b ≡ fold_to n g b
unfolding fold_to
fold_to-ext zero f g b h = refl
fold_to-ext (suc n) f g b h = ap (λ c. f c (suc n)) (fold_to-ext n f g b (λ c i l u. h c i l (omega arith))) ∙ h (fold_to n g b) (suc n) (omega arith) (omega arith)

-- nothing is changed after m
pub fold_to-skip : {B : Type 0} (m n : ℕ) (f : B → ℕ → B) (b : B) → m ≤ n → ((c : B) (i : ℕ) → m < i → i ≤ n → f c i ≡ c) → fold_to n f b ≡ fold_to m f b
unfolding fold_to
fold_to-skip m zero f b l h = let e : 0 ≡ m = omega arith in ap (λ (k : ℕ). fold_to k f b) e
fold_to-skip m (suc n) f b l h = go (fold_to-skip m n f b) (ℕ_discrete m (suc n))
  where
    go : (m ≤ n → ((c : _) (i : ℕ) → m < i → i ≤ n → f c i ≡ c) → fold_to n f b ≡ fold_to m f b) → Dec (m ≡ suc n) → fold_to (suc n) f b ≡ fold_to m f b
    go ih (yes e) = ap (λ (k : ℕ). fold_to k f b) (sym e)
    go ih (no ne) = h (fold_to n f b) (suc n) (omega arith) (omega arith) ∙ ih (omega arith) (λ c i p q. h c i p (omega arith))

-- ---- a test of 1..n, one number after another
pub fold_to-none : (f : ℕ → Bool) → fold_to 0 (λ b s. b || f s) false ≡ false
unfolding fold_to
fold_to-none f = refl

pub fold_to-more : (n : ℕ) (f : ℕ → Bool) → fold_to n (λ b s. b || f s) false ≡ false → f (suc n) ≡ false → fold_to (suc n) (λ b s. b || f s) false ≡ false
unfolding fold_to
fold_to-more n f e o = ap (λ (b : Bool). b || f (suc n)) e ∙ o

pub fold_to-found : (n i : ℕ) (f : ℕ → Bool) → 1 ≤ i → i ≤ n → f i ≡ true → fold_to n (λ b s. b || f s) false ≡ true
unfolding fold_to
fold_to-found zero i f l u e = absurd (omega arith)
fold_to-found (suc n) i f l u e = go (fold_to n (λ b s. b || f s) false) (fold_to-found n i f l) (ℕ_discrete i (suc n))
  where
    go : (b : Bool) → (i ≤ n → f i ≡ true → b ≡ true) → Dec (i ≡ suc n) → (b || f (suc n)) ≡ true
    go b ih (yes q) = ap (λ (t : Bool). b || t) (ap f (sym q) ∙ e) ∙ or-true b
    go b ih (no m) = ap (λ (t : Bool). t || f (suc n)) (ih (omega arith) e)
