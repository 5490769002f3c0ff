-- How often x stands in the stretch of n places of l that begins at f. Assumes nothing.
use Rattle.std.specs.Prelude.{◌≡◌, refl, Bool, true, false, ◌||◌, List, [], ◌∷◌, ◌++◌, ℕ, zero, suc, ◌+◌, ◌-◌, ◌≤◌, ◌<◌, eqb, length, get_or, set}
use Rattle.std.proofs.Common.{sym, ◌∙◌, true≢false, zero-add, add-zero, add-suc, add_assoc, arith, eq-eqb, ne_eqb, length-append, get_or-set_other}
use Rattle.std.proofs.Math.Path.{ap}
use Rattle.std.proofs.Math.Decide.{ℕ_discrete, dec_lt}
use Rattle.std.proofs.Math.ListN.{get_or-append}
use Rattle.std.proofs.Math.Seq.{get_or-set_same}
use Rattle.laws.specs.Choice.{one, or-none}
use Rattle.laws.specs.Fold.{sum_over, any}
use Rattle.laws.specs.Sum.{sum, sum-zero, sum-suc, sum_step, sum-ext, sum-change, sum-nil, sum-split, term-le, sum-list, sum_to, sum_to-ext, sum_to-nil, sum_to-add, sum_to-change}

-- what stands at place i of the stretch that begins at f
abbrev pub at : List ℕ → ℕ → ℕ → ℕ
at l f i = get_or l (f + i) 0

-- 1 where a is b, and 0 elsewhere
unfoldable pub same : ℕ → ℕ → ℕ
same a b = one (eqb a b)

unfoldable pub occ : List ℕ → ℕ → ℕ → ℕ → ℕ
occ l f n x = sum n (λ i. same (at l f i) x)

-- x stands in the stretch
abbrev pub In : List ℕ → ℕ → ℕ → ℕ → Type 0
In l f n x = (i : ℕ) × (i < n) × (at l f i ≡ x)

-- no two places hold the same
abbrev pub Distinct : List ℕ → ℕ → ℕ → Type 0
Distinct l f n = (i j : ℕ) → i < n → j < n → at l f i ≡ at l f j → i ≡ j

pub same-yes : (a b : ℕ) → a ≡ b → same a b ≡ 1
unfolding same
same-yes a b e = rw (eq-eqb a b e)

pub same-no : (a b : ℕ) → (a ≡ b → ⊥) → same a b ≡ 0
unfolding same
same-no a b e = rw (ne_eqb a b e)

pub same-le : (a b : ℕ) → same a b ≤ 1
same-le a b = go (ℕ_discrete a b)
  where
    go : Dec (a ≡ b) → same a b ≤ 1
    go (yes e) = omega (arith, same-yes a b e)
    go (no e) = omega (arith, same-no a b e)

module _ (l : List ℕ) (f : ℕ) where
  pub occ-zero : (x : ℕ) → occ l f 0 x ≡ 0
  unfolding occ
  occ-zero x = sum-zero (λ i. same (at l f i) x)

  pub occ-suc : (n x : ℕ) → occ l f (suc n) x ≡ occ l f n x + same (at l f n) x
  unfolding occ
  occ-suc n x = sum-suc n (λ i. same (at l f i) x)

  pub occ-step : (n x : ℕ) → occ l f (n + 1) x ≡ occ l f n x + same (at l f n) x
  unfolding occ
  occ-step n x = sum_step n (λ i. same (at l f i) x)

  pub occ-none : (n x : ℕ) → ((i : ℕ) → i < n → at l f i ≡ x → ⊥) → occ l f n x ≡ 0
  unfolding occ
  occ-none n x h = sum-nil n (λ i. same (at l f i) x) (λ i k. same-no (at l f i) x (h i k))

  pub occ-at : (n i x : ℕ) → i < n → at l f i ≡ x → 1 ≤ occ l f n x
  unfolding occ
  occ-at n i x k e = omega (arith, term-le n i (λ i. same (at l f i) x) k, same-yes (at l f i) x e)

  pub occ-in : (n x : ℕ) → 1 ≤ occ l f n x → In l f n x
  occ-in zero x h = absurd (omega (arith, occ-zero x))
  occ-in (suc n) x h = go (occ-in n x) (ℕ_discrete (at l f n) x)
    where
      go : (1 ≤ occ l f n x → In l f n x) → Dec (at l f n ≡ x) → In l f (suc n) x
      go ih (yes e) = (n, omega arith, e)
      go ih (no e) =
          let r : In l f n x = ih (omega (arith, occ-suc n x, same-no (at l f n) x e)) in
          (r.0, omega (arith, r.1), r.2)

  -- a longer stretch has no fewer
  pub occ-more : (n m x : ℕ) → occ l f n x ≤ occ l f (n + m) x
  occ-more n zero x = rw add-zero (omega arith)
  occ-more n (suc m) x = rw add-suc (omega (arith, occ-more n m x, occ-suc (n + m) x))

  -- one place is set
  pub occ-set : (n i y x : ℕ) → i < n → f + i < length l → occ (set l (f + i) y) f n x + same (at l f i) x ≡ occ l f n x + same y x
  unfolding occ
  occ-set n i y x k b =
      let e : at (set l (f + i) y) f i ≡ y = get_or-set_same l (f + i) y 0 b in
      let c = sum-change n i (λ j. same (at (set l (f + i) y) f j) x) (λ j. same (at l f j) x) k
      (λ j q ne. ap (λ (z : ℕ). same z x) (get_or-set_other l (f + i) (f + j) y 0 (λ q. ne (omega arith)))) in
      omega (arith, c, ap (λ (z : ℕ). same z x) e)

  pub distinct-occ : (n : ℕ) → Distinct l f n → (x : ℕ) → occ l f n x ≤ 1
  distinct-occ zero d x = omega (arith, occ-zero x)
  distinct-occ (suc n) d x = go (distinct-occ n (λ i j a b. d i j (omega arith) (omega arith)) x) (ℕ_discrete (at l f n) x)
    where
      go : occ l f n x ≤ 1 → Dec (at l f n ≡ x) → occ l f (suc n) x ≤ 1
      go ih (yes e) =
          let none : occ l f n x ≡ 0 = occ-none n x (λ i k q. omega (arith, d i n (omega arith) (omega arith) (q ∙ sym e))) in
          omega (arith, occ-suc n x, same-le (at l f n) x)
      go ih (no e) = omega (arith, occ-suc n x, same-no (at l f n) x e)

  -- two places before n that hold the same are counted twice
  twice : (n i j : ℕ) → i < j → j < n → at l f i ≡ at l f j → 2 ≤ occ l f n (at l f j)
  twice n i j ij jn e =
      let m : n ≡ suc j + (n - suc j) = omega arith in
      omega (arith, occ-at j i (at l f j) ij e, occ-suc j (at l f j), same-yes (at l f j) (at l f j) refl, rw (← m) at (occ-more (suc j) (n - suc j) (at l f j)))

  pub occ-distinct : (n : ℕ) → ((x : ℕ) → occ l f n x ≤ 1) → Distinct l f n
  occ-distinct n h i j a b e = go (ℕ_discrete i j) (dec_lt i j)
    where
      go : Dec (i ≡ j) → Dec (i < j) → i ≡ j
      go (yes q) o = q
      go (no ne) (yes k) = absurd (omega (arith, twice n i j k b e, h (at l f j)))
      go (no ne) (no k) = absurd (omega (arith, twice n j i (omega arith) a (sym e), h (at l f i)))

  -- the first n places, and the m after them
  pub occ-split : (n m x : ℕ) → occ l f (n + m) x ≡ occ l f n x + occ l (f + n) m x
  unfolding occ
  occ-split n m x =
      sum-split n m (λ i. same (at l f i) x)
      ∙ ap (λ (z : ℕ). sum n (λ i. same (at l f i) x) + z)
      (sum-ext m (λ i. same (at l f (n + i)) x) (λ i. same (at l (f + n) i) x) (λ i k. ap (λ (z : ℕ). same (get_or l z 0) x) (sym (add_assoc f n i))))

pub occ-ext : (l l' : List ℕ) (f n x : ℕ) → ((i : ℕ) → i < n → at l' f i ≡ at l f i) → occ l' f n x ≡ occ l f n x
unfolding occ
occ-ext l l' f n x h = sum-ext n (λ i. same (at l' f i) x) (λ i. same (at l f i) x) (λ i k. ap (λ (z : ℕ). same z x) (h i k))

-- a number from 1 to k is one of them
sum_to-same : (k a : ℕ) → 1 ≤ a → a ≤ k → sum_to k (λ x. same a x) ≡ 1
sum_to-same k a l u = omega (
  arith,
  sum_to-change k a (λ x. same a x) (λ x. 0) l u (λ x _ _ ne. same-no a x (λ q. ne (sym q))),
  sum_to-nil k (λ x. 0) (λ i _ _. refl),
  same-yes a a refl,
)

-- a stretch of numbers from 1 to k is as long as they stand in it, all together
pub occ-total : (l : List ℕ) (f n k : ℕ) → ((i : ℕ) → i < n → (1 ≤ at l f i) × (at l f i ≤ k)) → sum_to k (occ l f n) ≡ n
occ-total l f zero k r = sum_to-nil k (occ l f 0) (λ x _ _. occ-zero l f x)
occ-total l f (suc n) k r = omega (
  arith,
  sum_to-ext k (occ l f (suc n)) (λ x. occ l f n x + same (at l f n) x) (λ x _ _. occ-suc l f n x),
  sum_to-add k (occ l f n) (λ x. same (at l f n) x),
  occ-total l f n k (λ i k. r i (omega arith)),
  sum_to-same k (at l f n) (r n (omega arith)).0 (r n (omega arith)).1,
)

-- ---- a whole list: one more element that does not stand in it
pub any-get_or : (l : List ℕ) (x : ℕ) → any l (λ y. eqb y x) ≡ false → (i : ℕ) → i < length l → get_or l i 0 ≡ x → ⊥
unfolding any
any-get_or [] x q i h e = omega arith
any-get_or (y ∷ l) x q zero h e = true≢false (sym (ap (λ (b : Bool). b || any l (λ y. eqb y x)) (eq-eqb y x e)) ∙ q)
any-get_or (y ∷ l) x q (suc i) h e = any-get_or l x (or-none (eqb y x) (any l (λ y. eqb y x)) q).1 i (omega arith) e

get_or-last : (l : List ℕ) (x : ℕ) → get_or (l ++ (x ∷ [])) (length l) 0 ≡ x
get_or-last [] x = refl
get_or-last (y ∷ l) x = get_or-last l x

pub distinct_more : (l : List ℕ) (x : ℕ) → Distinct l 0 (length l) → any l (λ y. eqb y x) ≡ false → Distinct (l ++ (x ∷ [])) 0 (length (l ++ (x ∷ [])))
distinct_more l x d q i j hi hj e = go (ℕ_discrete i (length l)) (ℕ_discrete j (length l))
  where
    longer : length (l ++ (x ∷ [])) ≡ length l + 1
    longer = length-append l (x ∷ [])

    old : (k : ℕ) → k < length l → at (l ++ (x ∷ [])) 0 k ≡ get_or l k 0
    old k h = ap (λ (m : ℕ). get_or (l ++ (x ∷ [])) m 0) (zero-add k) ∙ get_or-append l (x ∷ []) 0 k h

    new : (k : ℕ) → k ≡ length l → at (l ++ (x ∷ [])) 0 k ≡ x
    new k r = ap (λ (m : ℕ). get_or (l ++ (x ∷ [])) m 0) (zero-add k ∙ r) ∙ get_or-last l x

    here : (k : ℕ) → k < length l → at l 0 k ≡ get_or l k 0
    here k h = ap (λ (m : ℕ). get_or l m 0) (zero-add k)

    go : Dec (i ≡ length l) → Dec (j ≡ length l) → i ≡ j
    go (yes a) (yes b) = a ∙ sym b
    go (yes a) (no b) = absurd (any-get_or l x q j (omega (arith, longer)) (sym (old j (omega (arith, longer))) ∙ sym e ∙ new i a))
    go (no a) (yes b) = absurd (any-get_or l x q i (omega (arith, longer)) (sym (old i (omega (arith, longer))) ∙ e ∙ new j b))
    go (no a) (no b) =
        let li : i < length l = omega (arith, longer) in
        let lj : j < length l = omega (arith, longer) in
        d i j li lj (here i li ∙ sym (old i li) ∙ e ∙ old j lj ∙ sym (here j lj))

-- ---- a whole list whose numbers are distinct: each stands in it once or not at all
pub occ-list : (l : List ℕ) (v : ℕ) → occ l 0 (length l) v ≡ sum_over l (λ x. one (eqb x v))
unfolding occ same
occ-list l v = sum-ext (length l) _ (λ i. one (eqb (get_or l i 0) v)) (λ i _. ap (λ (j : ℕ). one (eqb (get_or l j 0) v)) (zero-add i)) ∙ sum-list l 0 (λ x. one (eqb x v))

at_most_one : (l : List ℕ) (v : ℕ) → sum_over l (λ x. one (eqb x v)) ≤ 1 → sum_over l (λ x. one (eqb x v)) ≡ one (any l (λ x. eqb x v))
unfolding sum_over any
at_most_one [] v k = refl
at_most_one (x ∷ l) v k = go (eqb x v) (at_most_one l v) k
  where
    go : (t : Bool) → (sum_over l (λ x. one (eqb x v)) ≤ 1 → sum_over l (λ x. one (eqb x v)) ≡ one (any l (λ x. eqb x v))) → one t + sum_over l (λ x. one (eqb x v)) ≤ 1
        → one t + sum_over l (λ x. one (eqb x v)) ≡ one (t || any l (λ x. eqb x v))
    go true ih k = omega arith
    go false ih k = omega (arith, ih (omega arith))

pub distinct-any : (l : List ℕ) (v : ℕ) → Distinct l 0 (length l) → occ l 0 (length l) v ≡ one (any l (λ x. eqb x v))
distinct-any l v d = occ-list l v ∙ at_most_one l v (omega (arith, occ-list l v, distinct-occ l 0 (length l) d v))
