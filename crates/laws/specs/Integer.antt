-- ℤ for `omega`: each z is `up z` - `dn z`, two naturals of which one is 0. A sum, a negation, an order and an equation of
-- integers is a linear fact of those naturals, so a goal of ℤ goes to `omega` by `eq-by`, `le-by`, `lt_by`, with one fact
-- (`add_is`, `sub_is`, `neg_is`) listed for each operation in it. Assumes nothing.
use Rattle.std.specs.Prelude.{◌≡◌, refl, ◌⊎◌, Bool, true, false, not, cond, ℕ, zero, suc, ◌+◌, ◌-◌, ◌^◌, ◌≤◌, ◌<◌, T, leb, ltb, ℤ, pos, negsuc, neg_ℤ, nat_abs, ◌+ℤ◌, ◌-ℤ◌, ◌≤ℤ◌, ◌<ℤ◌}
use Rattle.std.proofs.Common.{sym, ap, ◌∙◌, subst, ⊎_elim, inl, inr, true≢false, arith, leb→le, le→leb, ltb→lt, lt→ltb, ltb-true, ltb-false, leb-false, SFits, of_z, to_z, to_z-of_z}
use Rattle.std.proofs.Math.IntN.{sub_ℕ, +ℤ_comm, +ℤ_assoc}
use Rattle.std.specs.Int.Signed.{mag, lt_z, le_z, lt_z_no}
use Rattle.std.specs.Int.{w32}

-- ---- the two parts
unfoldable pub up : ℤ → ℕ
up (pos n) = n
up (negsuc n) = 0

unfoldable pub dn : ℤ → ℕ
dn (pos n) = 0
dn (negsuc n) = n + 1

by_cond : (c : Bool) (x y : ℤ) (P : ℤ → Type 0) → (c ≡ true → P x) → (c ≡ false → P y) → P (cond c x y)
by_cond true x y P f g = f refl
by_cond false x y P f g = g refl

-- what a sum's parts are: `omega` reads the three fields
pub record Sum (s a b : ℤ) : Type 0 where
  pub level : up s + (dn a + dn b) ≡ dn s + (up a + up b)
  pub up_le : up s ≤ up a + up b
  pub dn-le : dn s ≤ dn a + dn b

subℕ-is : (a b : ℕ) → (up (sub_ℕ a b) + b ≡ dn (sub_ℕ a b) + a) × (up (sub_ℕ a b) ≤ a) × (dn (sub_ℕ a b) ≤ b)
unfolding up dn
subℕ-is a b = by_cond (ltb a b) (negsuc (b - suc a)) (pos (a - b)) (λ z. (up z + b ≡ dn z + a) × (up z ≤ a) × (dn z ≤ b))
    (λ t. let l : a < b = ltb-true a b t in omega arith) (λ t. let l : b ≤ a = ltb-false a b t in omega arith)

pub add_is : (a b : ℤ) → Sum (a +ℤ b) a b
unfolding up dn
add_is (pos a) (pos b) = record { level = omega arith; up_le = omega arith; dn-le = omega arith }
add_is (pos a) (negsuc b) = let h = subℕ-is a (suc b) in record { level = omega arith; up_le = omega arith; dn-le = omega arith }
add_is (negsuc a) (pos b) = let h = subℕ-is b (suc a) in record { level = omega arith; up_le = omega arith; dn-le = omega arith }
add_is (negsuc a) (negsuc b) = record { level = omega arith; up_le = omega arith; dn-le = omega arith }

pub neg_is : (a : ℤ) → (up (neg_ℤ a) ≡ dn a) × (dn (neg_ℤ a) ≡ up a)
unfolding up dn
neg_is (pos zero) = omega arith
neg_is (pos (suc n)) = omega arith
neg_is (negsuc n) = omega arith

pub sub_is : (a b : ℤ) → (up (a -ℤ b) + (dn a + up b) ≡ dn (a -ℤ b) + (up a + dn b)) × (up (a -ℤ b) ≤ up a + dn b) × (dn (a -ℤ b) ≤ dn a + up b)
sub_is a b = omega (arith, add_is a (neg_ℤ b), neg_is b)

pub pos-is : (n : ℕ) → (up (pos n) ≡ n) × (dn (pos n) ≡ 0)
unfolding up dn
pos-is n = omega arith

pub abs_is : (a : ℤ) → (nat_abs a ≡ up a + dn a) × (mag a ≤ nat_abs a)
unfolding up dn
abs_is (pos n) = omega arith
abs_is (negsuc n) = omega arith

-- ---- an equation and an order, from their parts
pub eq-by : (a b : ℤ) → up a + dn b ≡ up b + dn a → a ≡ b
unfolding up dn
eq-by (pos a) (pos b) h = ap pos (omega arith)
eq-by (pos a) (negsuc b) h = absurd (omega arith)
eq-by (negsuc a) (pos b) h = absurd (omega arith)
eq-by (negsuc a) (negsuc b) h = ap negsuc (omega arith)

pub le-by : (a b : ℤ) → up a + dn b ≤ up b + dn a → a ≤ℤ b
unfolding up dn
le-by (pos a) (pos b) h = record { le = le→leb a b (omega arith) }
le-by (pos a) (negsuc b) h = absurd (omega arith)
le-by (negsuc a) (pos b) h = record { le = tt }
le-by (negsuc a) (negsuc b) h = record { le = le→leb b a (omega arith) }

pub lt_by : (a b : ℤ) → up a + dn b < up b + dn a → a <ℤ b
unfolding up dn
lt_by (pos a) (pos b) h = record { lt = lt→ltb a b (omega arith) }
lt_by (pos a) (negsuc b) h = absurd (omega arith)
lt_by (negsuc a) (pos b) h = record { lt = tt }
lt_by (negsuc a) (negsuc b) h = record { lt = lt→ltb b a (omega arith) }

-- and the parts of an order: as rules of `omega`, `omega (arith, le_parts, lt-parts)`
pub le_parts : (a b : ℤ) → a ≤ℤ b → up a + dn b ≤ up b + dn a
unfolding up dn
le_parts (pos a) (pos b) h = let l : a ≤ b = leb→le a b h.le in omega arith
le_parts (pos a) (negsuc b) h = absurd h.le
le_parts (negsuc a) (pos b) h = omega arith
le_parts (negsuc a) (negsuc b) h = let l : b ≤ a = leb→le b a h.le in omega arith

pub lt-parts : (a b : ℤ) → a <ℤ b → up a + dn b < up b + dn a
unfolding up dn
lt-parts (pos a) (pos b) h = let l : a < b = ltb→lt a b h.lt in omega arith
lt-parts (pos a) (negsuc b) h = absurd h.lt
lt-parts (negsuc a) (pos b) h = omega arith
lt-parts (negsuc a) (negsuc b) h = let l : b < a = ltb→lt b a h.lt in omega arith

-- and of a test, passed or failed
pub lt_test : (a b : ℤ) → lt_z a b ≡ true → up a + dn b < up b + dn a
unfolding up dn
lt_test (pos a) (pos b) h = omega (arith, ltb-true a b h)
lt_test (pos a) (negsuc b) h = absurd (true≢false (sym h))
lt_test (negsuc a) (pos b) h = omega arith
lt_test (negsuc a) (negsuc b) h = omega (arith, ltb-true b a h)

pub lt-test-no : (a b : ℤ) → lt_z a b ≡ false → up b + dn a ≤ up a + dn b
unfolding up dn
lt-test-no (pos a) (pos b) h = omega (arith, ltb-false a b h)
lt-test-no (pos a) (negsuc b) h = omega arith
lt-test-no (negsuc a) (pos b) h = absurd (true≢false h)
lt-test-no (negsuc a) (negsuc b) h = omega (arith, ltb-false b a h)

pub le-test-no : (a b : ℤ) → le_z a b ≡ false → up b + dn a < up a + dn b
unfolding up dn
le-test-no (pos a) (pos b) h = omega (arith, leb-false a b h)
le-test-no (pos a) (negsuc b) h = omega arith
le-test-no (negsuc a) (pos b) h = absurd (true≢false h)
le-test-no (negsuc a) (negsuc b) h = omega (arith, leb-false b a h)

-- ---- the order's laws
pub le-or-lt : (m n : ℕ) → (m ≤ n) ⊎ (n < m)
le-or-lt m n = by (ltb n m) refl
  where
    by : (t : Bool) → ltb n m ≡ t → (m ≤ n) ⊎ (n < m)
    by true e = inr (ltb-true n m e)
    by false e = inl (ltb-false n m e)

pub ≤ℤ-trans : {a b c : ℤ} → a ≤ℤ b → b ≤ℤ c → a ≤ℤ c
≤ℤ-trans {a} {b} {c} h k = le-by a c (omega (arith, le_parts))

pub <ℤ-trans : {a b c : ℤ} → a <ℤ b → b <ℤ c → a <ℤ c
<ℤ-trans {a} {b} {c} h k = lt_by a c (omega (arith, lt-parts))

pub ≤ℤ-<ℤ-trans : {a b c : ℤ} → a ≤ℤ b → b <ℤ c → a <ℤ c
≤ℤ-<ℤ-trans {a} {b} {c} h k = lt_by a c (omega (arith, le_parts, lt-parts))

pub <ℤ-≤ : {a b : ℤ} → a <ℤ b → a ≤ℤ b
<ℤ-≤ {a} {b} h = le-by a b (omega (arith, lt-parts))

pub ≤ℤ-antisym : {a b : ℤ} → a ≤ℤ b → b ≤ℤ a → a ≡ b
≤ℤ-antisym {a} {b} h k = eq-by a b (omega (arith, le_parts))

pub ≤ℤ-total : (a b : ℤ) → (a ≤ℤ b) ⊎ (b <ℤ a)
≤ℤ-total a b = ⊎_elim (λ l. inl (le-by a b l)) (λ l. inr (lt_by b a (omega arith))) (le-or-lt (up a + dn b) (up b + dn a))

-- ---- a test of two signed numbers, as a branch leaves it: each number is read back from its bits
pub read32 : (z : ℤ) → mag z < 2 ^ 31 → to_z w32 (of_z w32 z) ≡ z
read32 z f = to_z-of_z {w = w32} (record { sfits = f })

ap2 : {x x' y y' : ℤ} → x ≡ x' → y ≡ y' → lt_z x y ≡ lt_z x' y'
ap2 p q = cc

-- a sum of numbers that are small enough fits
pub fits32 : (z : ℤ) → nat_abs z < 2 ^ 31 → SFits w32 z
fits32 z h = record { sfits = omega (arith, abs_is z) }

pub nat_abs-add : (a b : ℤ) → nat_abs (a +ℤ b) ≤ nat_abs a + nat_abs b
nat_abs-add a b = omega (arith, add_is a b, abs_is a, abs_is b, abs_is (a +ℤ b))

pub nat_abs-sub : (a b : ℤ) → nat_abs (a -ℤ b) ≤ nat_abs a + nat_abs b
nat_abs-sub a b = omega (arith, sub_is a b, abs_is a, abs_is b, abs_is (a -ℤ b))

pub lt-taken : (a b : ℤ) → mag a < 2 ^ 31 → mag b < 2 ^ 31 → lt_z (to_z w32 (of_z w32 a)) (to_z w32 (of_z w32 b)) ≡ true → a <ℤ b
lt-taken a b fa fb t = record { lt = subst T (sym (sym (ap2 (read32 a fa) (read32 b fb)) ∙ t)) tt }

pub lt-left : (a b : ℤ) → mag a < 2 ^ 31 → mag b < 2 ^ 31 → lt_z (to_z w32 (of_z w32 a)) (to_z w32 (of_z w32 b)) ≡ false → b ≤ℤ a
lt-left a b fa fb t = lt_z_no (subst (λ (x : Bool). T (not x)) (sym (sym (ap2 (read32 a fa) (read32 b fb)) ∙ t)) tt)

-- ---- pure rearrangement
pub +ℤ-left-comm : (a b c : ℤ) → a +ℤ (b +ℤ c) ≡ b +ℤ (a +ℤ c)
+ℤ-left-comm a b c = eq-by _ _ (omega (arith, add_is b c, add_is a c, add_is a (b +ℤ c), add_is b (a +ℤ c)))

pub ruleset ℤ·sums = (+ℤ_assoc, +ℤ_comm, +ℤ-left-comm)

pub +ℤ-cancel-l : (a b : ℤ) → a +ℤ (neg_ℤ a +ℤ b) ≡ b
+ℤ-cancel-l a b = eq-by _ _ (omega (arith, neg_is a, add_is (neg_ℤ a) b, add_is a (neg_ℤ a +ℤ b)))

pub +ℤ-cancel-l' : (a b : ℤ) → neg_ℤ a +ℤ (a +ℤ b) ≡ b
+ℤ-cancel-l' a b = eq-by _ _ (omega (arith, neg_is a, add_is a b, add_is (neg_ℤ a) (a +ℤ b)))

-- ---- a sum or a difference of two given numbers: the arguments and the result are read back from their bits. `g` and `s` are what is
-- passed, `a` and `b` what is known of them, `v` the result

pub plus-fits : (g s a b : ℤ) → mag g < 2 ^ 31 → mag s < 2 ^ 31 → g ≡ a → s ≡ b → nat_abs a + nat_abs b < 2 ^ 31 → SFits w32 (to_z w32 (of_z w32 g) +ℤ to_z w32 (of_z w32 s))
plus-fits g s a b fg fs eg es l =
    subst2 (read32 g fg ∙ eg) (read32 s fs ∙ es) (fits32 (a +ℤ b) (omega (arith, nat_abs-add a b)))
  where
    subst2 : {x y : ℤ} → x ≡ a → y ≡ b → SFits w32 (a +ℤ b) → SFits w32 (x +ℤ y)
    subst2 p q h = rw (p, q) h

pub less-fits : (g s a b : ℤ) → mag g < 2 ^ 31 → mag s < 2 ^ 31 → g ≡ a → s ≡ b → nat_abs a + nat_abs b < 2 ^ 31 → SFits w32 (to_z w32 (of_z w32 g) -ℤ to_z w32 (of_z w32 s))
less-fits g s a b fg fs eg es l =
    subst2 (read32 g fg ∙ eg) (read32 s fs ∙ es) (fits32 (a -ℤ b) (omega (arith, nat_abs-sub a b)))
  where
    subst2 : {x y : ℤ} → x ≡ a → y ≡ b → SFits w32 (a -ℤ b) → SFits w32 (x -ℤ y)
    subst2 p q h = rw (p, q) h

pub plus-gives : (g s v a b : ℤ) → mag g < 2 ^ 31 → mag s < 2 ^ 31 → mag v < 2 ^ 31 → g ≡ a → s ≡ b → v ≡ to_z w32 (of_z w32 g) +ℤ to_z w32 (of_z w32 s) → to_z w32 (of_z w32 v) ≡ a +ℤ b
plus-gives g s v a b fg fs fv eg es e = read32 v fv ∙ e ∙ both (read32 g fg ∙ eg) (read32 s fs ∙ es)
  where
    both : {x y : ℤ} → x ≡ a → y ≡ b → x +ℤ y ≡ a +ℤ b
    both p q = cc

pub less-gives : (g s v a b : ℤ) → mag g < 2 ^ 31 → mag s < 2 ^ 31 → mag v < 2 ^ 31 → g ≡ a → s ≡ b → v ≡ to_z w32 (of_z w32 g) -ℤ to_z w32 (of_z w32 s) → to_z w32 (of_z w32 v) ≡ a -ℤ b
less-gives g s v a b fg fs fv eg es e = read32 v fv ∙ e ∙ both (read32 g fg ∙ eg) (read32 s fs ∙ es)
  where
    both : {x y : ℤ} → x ≡ a → y ≡ b → x -ℤ y ≡ a -ℤ b
    both p q = cc

-- ---- one of the parts is 0: what bounds a difference by the larger of the two
pub one-zero : (z : ℤ) → (up z ≡ 0) ⊎ (dn z ≡ 0)
unfolding up dn
one-zero (pos n) = inr refl
one-zero (negsuc n) = inl refl

pub nat_abs-diff : (a b B : ℕ) → a ≤ B → b ≤ B → nat_abs (pos a -ℤ pos b) ≤ B
nat_abs-diff a b B ha hb = ⊎_elim
    (λ e. omega (arith, e, sub_is (pos a) (pos b), pos-is a, pos-is b, abs_is (pos a -ℤ pos b)))
    (λ e. omega (arith, e, sub_is (pos a) (pos b), pos-is a, pos-is b, abs_is (pos a -ℤ pos b)))
    (one-zero (pos a -ℤ pos b))

-- two steps of growth are one
pub grow : (a b c s t : ℤ) → b ≡ a +ℤ s → c ≡ b +ℤ t → c ≡ a +ℤ (s +ℤ t)
grow a b c s t e d = d ∙ ap (λ (z : ℤ). z +ℤ t) e ∙ +ℤ_assoc a s t

-- ---- a sum or a difference at a place of a table: only the number that is passed is read back
pub add-at-fits : (z s a b : ℤ) → mag s < 2 ^ 31 → z ≡ a → s ≡ b → nat_abs a + nat_abs b < 2 ^ 31 → SFits w32 (z +ℤ to_z w32 (of_z w32 s))
add-at-fits z s a b fs ez es l = rw (read32 s fs, ez, es) (fits32 (a +ℤ b) (omega (arith, nat_abs-add a b)))

pub sub-at-fits : (z s a b : ℤ) → mag s < 2 ^ 31 → z ≡ a → s ≡ b → nat_abs a + nat_abs b < 2 ^ 31 → SFits w32 (z -ℤ to_z w32 (of_z w32 s))
sub-at-fits z s a b fs ez es l = rw (read32 s fs, ez, es) (fits32 (a -ℤ b) (omega (arith, nat_abs-sub a b)))

-- ---- a number negated: each number is read back from its bits
module _ (z : ℤ) (f : SFits w32 z) (l : nat_abs z < 2 ^ 31) where
  difference : pos 0 -ℤ to_z w32 (of_z w32 z) ≡ neg_ℤ z
  difference = ap (λ (y : ℤ). pos 0 -ℤ y) (read32 z f.sfits) ∙ eq-by _ _ (omega (arith, sub_is (pos 0) z, neg_is z, pos-is 0))

  less-small : nat_abs (neg_ℤ z) < 2 ^ 31
  less-small = omega (arith, abs_is (neg_ℤ z), abs_is z, neg_is z, l)

  pub negated_fits : SFits w32 (pos 0 -ℤ to_z w32 (of_z w32 z))
  negated_fits = rw difference (fits32 (neg_ℤ z) less-small)

  pub negated-is : to_z w32 (of_z w32 (pos 0 -ℤ to_z w32 (of_z w32 z))) ≡ neg_ℤ z
  negated-is = ap (λ (y : ℤ). to_z w32 (of_z w32 y)) difference ∙ read32 (neg_ℤ z) (omega (arith, abs_is (neg_ℤ z), less-small))
