-- The contraction stack and the move journal as two arrays and a length: one pair more or less, and zeros from the length on. Rests on
-- model's Lent. Assumes nothing.
use Rattle.std.specs.Prelude.{ℕ, zero, suc, ◌+◌, ◌-◌, ◌<◌, ◌≤◌, ◌≡◌, refl, List, [], ◌∷◌, ◌++◌, length, get_or, set, replicate}
use Rattle.std.proofs.Math.Decide.{ℕ_discrete}
use Rattle.std.proofs.Common.{add-one, arith, sym, ap, ap₂, ◌∙◌, length-set, get_or-set_same, get_or-set_other}
use Rattle.std.proofs.lemmas.List.{length-replicate, length-append, length-drop, length-take-le, get_or-take, get_or-drop, get_or-append_right}
use Rattle.std.proofs.Math.ListN.{take, drop, get_or-append}
use Rattle.laws.specs.Fold.{zeros-get}
use Rattle.model.specs.Lent.{Two, pairs, ZeroPast}

pub pairs-none : {A : Type 0} (make : ℕ → ℕ → A) (xs ys : List ℕ) → pairs make xs ys 0 ≡ []
unfolding pairs
pairs-none make xs ys = refl

pub pairs-some : {A : Type 0} (make : ℕ → ℕ → A) (xs ys : List ℕ) (i : ℕ) → 1 ≤ i → pairs make xs ys i ≡ make (get_or xs (i - 1) 0) (get_or ys (i - 1) 0) ∷ pairs make xs ys (i - 1)
unfolding pairs
pairs-some make xs ys zero l = absurd (omega arith)
pairs-some make xs ys (suc i) l = ap (λ (j : ℕ). make (get_or xs j 0) (get_or ys j 0) ∷ pairs make xs ys j) (let q : i ≡ suc i - 1 = omega arith in q)

-- what stands from i on does not count
pub pairs-ext : {A : Type 0} (make : ℕ → ℕ → A) (xs xs' ys ys' : List ℕ) (i : ℕ) → ((j : ℕ) → j < i → (get_or xs' j 0 ≡ get_or xs j 0) × (get_or ys' j 0 ≡ get_or ys j 0)) → pairs make xs' ys' i ≡ pairs make xs ys i
unfolding pairs
pairs-ext make xs xs' ys ys' zero h = refl
pairs-ext {A} make xs xs' ys ys' (suc i) h =
    ap₂ (λ (a : A) (l : List A). a ∷ l) (ap₂ make (h i (omega arith)).0 (h i (omega arith)).1) (pairs-ext make xs xs' ys ys' i (λ j l. h j (omega arith)))

-- one pair more
pub record Pushed (xs ys : List ℕ) (len x y : ℕ) (xs' ys' : List ℕ) (len' : ℕ) : Type 0 where
  pub xs-are : xs' ≡ set xs len x
  pub ys-are : ys' ≡ set ys len y
  pub len_is : len' ≡ len + 1

pub pairs-push : {A : Type 0} (make : ℕ → ℕ → A) {xs ys xs' ys' : List ℕ} {len x y len' : ℕ} → len < length xs → len < length ys → Pushed xs ys len x y xs' ys' len' → pairs make xs' ys' len' ≡ make x y ∷ pairs make xs ys len
unfolding pairs
pairs-push {A} make {xs} {ys} {len = len} {x = x} {y = y} lx ly p =
    rw (p.len_is, p.xs-are, p.ys-are, add-one)
    (ap₂ (λ (a : A) (l : List A). a ∷ l) (ap₂ make (get_or-set_same xs len x 0 lx) (get_or-set_same ys len y 0 ly))
    (pairs-ext make xs (set xs len x) ys (set ys len y) len (λ j l. (get_or-set_other xs len j x 0 (λ q. omega arith), get_or-set_other ys len j y 0 (λ q. omega arith)))))

-- the length of the list
pub pairs-length : {A : Type 0} (make : ℕ → ℕ → A) (xs ys : List ℕ) (i : ℕ) → length (pairs make xs ys i) ≡ i
unfolding pairs
pairs-length make xs ys zero = refl
pairs-length make xs ys (suc i) = ap suc (pairs-length make xs ys i)

-- ---- as the list's entry returns them
-- the first n entries of a short array, and zeros past them
pub record Lengthened (n : ℕ) (l l' : List ℕ) : Type 0 where
  pub len : length l' ≡ 1024
  pub kept : (i : ℕ) → i < n → get_or l' i 0 ≡ get_or l i 0
  pub zeros : (i : ℕ) → n ≤ i → get_or l' i 0 ≡ 0

pub lengthened-none : (l : List ℕ) → Lengthened 0 l (replicate 1024 0)
lengthened-none l = record { len = length-replicate {A = ℕ} 1024 0; kept = λ i q. absurd (omega arith); zeros = λ i q. zeros-get 1024 i }

pub lengthened-more : {n : ℕ} {l l' : List ℕ} (x : ℕ) → n < 1024 → x ≡ get_or l n 0 → Lengthened n l l' → Lengthened (n + 1) l (set l' n x)
lengthened-more {n} {l} {l'} x q e z = record {
  len = length-set l' n x ∙ z.len;
  kept = λ i r. go i r (ℕ_discrete i n);
  zeros = λ i r. get_or-set_other l' n i x 0 (λ d. omega arith) ∙ z.zeros i (omega arith);
}
  where
    go : (i : ℕ) → i < n + 1 → Dec (i ≡ n) → get_or (set l' n x) i 0 ≡ get_or l i 0
    go i r (yes d) = ap (λ (k : ℕ). get_or (set l' n x) k 0) d ∙ get_or-set_same l' n x 0 (omega (arith, z.len)) ∙ e ∙ ap (λ (k : ℕ). get_or l k 0) (sym d)
    go i r (no d) = get_or-set_other l' n i x 0 d ∙ z.kept i (omega arith)

-- the first n entries before the zeros that stood from n on
pub lengthened-by : {n : ℕ} {l h : List ℕ} → n ≤ length l → n ≤ 1024 → h ≡ take n l → Lengthened n l (h ++ drop n (replicate 1024 0))
lengthened-by {n} {l} {h} f q e = record {
  len = omega (arith, length-append h (drop n (replicate 1024 0)), long, length-drop n (replicate {A = ℕ} 1024 0), length-replicate {A = ℕ} 1024 0);
  kept = λ i r. get_or-append h (drop n (replicate 1024 0)) 0 i (omega (arith, long)) ∙ ap (λ (x : List ℕ). get_or x i 0) e ∙ get_or-take n l i 0 r;
  zeros = λ i r. get_or-append_right h (drop n (replicate 1024 0)) n i 0 long r ∙ get_or-drop n (replicate 1024 0) (i - n) 0 ∙ zeros-get 1024 (n + (i - n));
}
  where
    long : length h ≡ n
    long = ap length e ∙ length-take-le n l f

-- a struct so returned stands for the same pairs
pub long-pairs : {A : Type 0} (make : ℕ → ℕ → A) {S S' : Two} → Lengthened S.len S.xs S'.xs → Lengthened S.len S.ys S'.ys → S'.len ≡ S.len
    → pairs make S'.xs S'.ys S'.len ≡ pairs make S.xs S.ys S.len
long-pairs make {S} {S'} x y e = ap (pairs make S'.xs S'.ys) e ∙ pairs-ext make S.xs S'.xs S.ys S'.ys S.len (λ j l. (x.kept j l, y.kept j l))

pub zero-past : {S S' : Two} → Lengthened S.len S.xs S'.xs → Lengthened S.len S.ys S'.ys → S'.len ≡ S.len → ZeroPast S'
zero-past x y e = record { xs-long = x.len; ys-long = y.len; xs-zero = λ i q. x.zeros i (omega (arith, e)); ys-zero = λ i q. y.zeros i (omega (arith, e)) }

-- as it is made
pub zero-new : {S : Two} → S.xs ≡ replicate 1024 0 → S.ys ≡ replicate 1024 0 → ZeroPast S
zero-new {S} x y = record {
  xs-long = ap length x ∙ length-replicate {A = ℕ} 1024 0;
  ys-long = ap length y ∙ length-replicate {A = ℕ} 1024 0;
  xs-zero = λ i q. ap (λ (l : List ℕ). get_or l i 0) x ∙ zeros-get 1024 i;
  ys-zero = λ i q. ap (λ (l : List ℕ). get_or l i 0) y ∙ zeros-get 1024 i;
}
