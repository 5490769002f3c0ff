-- Sums of integers over the numbers below a bound. Assumes nothing.
use Rattle.std.specs.Prelude.{◌≡◌, refl, ℕ, zero, suc, ◌+◌, ◌*◌, ◌<◌, ◌≤◌, ℤ, pos, nat_abs, ◌+ℤ◌, ◌-ℤ◌}
use Rattle.std.proofs.Common.{ap, ◌∙◌, ⊎_elim, eq-or-lt_of_le, le_of_suc-le-suc, add-one, arith}
use Rattle.laws.specs.Sum.{sum}
use Rattle.laws.specs.Integer.{eq-by, add_is, sub_is, pos-is, nat_abs-add, ℤ·sums}

unfoldable pub sum_z : (ℕ → ℤ) → ℕ → ℤ
sum_z f zero = pos 0
sum_z f (suc n) = sum_z f n +ℤ f n

pub sum_z-none : (f : ℕ → ℤ) → sum_z f 0 ≡ pos 0
unfolding sum_z
sum_z-none f = refl

pub sum_z-more : (f : ℕ → ℤ) (n : ℕ) → sum_z f (n + 1) ≡ sum_z f n +ℤ f n
unfolding sum_z
sum_z-more f n = rw add-one

pub sum_z-ext : (f g : ℕ → ℤ) (n : ℕ) → ((i : ℕ) → i < n → f i ≡ g i) → sum_z f n ≡ sum_z g n
unfolding sum_z
sum_z-ext f g zero e = refl
sum_z-ext f g (suc n) e = cc (sum_z-ext f g n (λ i h. e i (omega arith)), e n (omega arith))

pub sum_z-abs : (f : ℕ → ℤ) (n B : ℕ) → ((i : ℕ) → i < n → nat_abs (f i) ≤ B) → nat_abs (sum_z f n) ≤ n * B
unfolding sum_z
sum_z-abs f zero B h = omega arith
sum_z-abs f (suc n) B h = omega (arith, nat_abs-add (sum_z f n) (f n), sum_z-abs f n B (λ i l. h i (omega arith)), h n (omega arith))

-- two sums of naturals, and one difference
pub sum_z-split : (f d : ℕ → ℕ) (n : ℕ) → sum_z (λ i. pos (f i) -ℤ pos (d i)) n ≡ pos (sum n f) -ℤ pos (sum n d)
unfolding sum_z sum
sum_z-split f d zero = refl
sum_z-split f d (suc n) =
    ap (λ (z : ℤ). z +ℤ (pos (f n) -ℤ pos (d n))) (sum_z-split f d n)
    ∙ eq-by _ _ (omega (
      arith,
      add_is (pos (sum n f) -ℤ pos (sum n d)) (pos (f n) -ℤ pos (d n)),
      sub_is (pos (sum n f)) (pos (sum n d)),
      sub_is (pos (f n)) (pos (d n)),
      sub_is (pos (sum n f + f n)) (pos (sum n d + d n)),
      pos-is (sum n f),
      pos-is (sum n d),
      pos-is (f n),
      pos-is (d n),
      pos-is (sum n f + f n),
      pos-is (sum n d + d n),
    ))

pub sum_z-add : (f g : ℕ → ℤ) (n : ℕ) → sum_z (λ i. f i +ℤ g i) n ≡ sum_z f n +ℤ sum_z g n
unfolding sum_z
sum_z-add f g zero = refl
sum_z-add f g (suc n) = rw (sum_z-add f g n) (simp ℤ·sums)

-- one summand is taken out and another put in
pub swap-term : (s a b : ℤ) → ((s +ℤ a) -ℤ a) +ℤ b ≡ s +ℤ b
swap-term s a b = eq-by _ _ (omega (arith, add_is s a, sub_is (s +ℤ a) a, add_is ((s +ℤ a) -ℤ a) b, add_is s b))

swap-past : (s c a b : ℤ) → ((s +ℤ c) -ℤ a) +ℤ b ≡ ((s -ℤ a) +ℤ b) +ℤ c
swap-past s c a b = eq-by _ _ (omega (arith, add_is s c, sub_is (s +ℤ c) a, add_is ((s +ℤ c) -ℤ a) b, sub_is s a, add_is (s -ℤ a) b, add_is ((s -ℤ a) +ℤ b) c))

pub sum_z-change : (f f' : ℕ → ℤ) (n b : ℕ) → b < n → ((i : ℕ) → i < n → (i ≡ b → ⊥) → f i ≡ f' i) → (sum_z f n -ℤ f b) +ℤ f' b ≡ sum_z f' n
unfolding sum_z
sum_z-change f f' zero b h e = absurd (omega arith)
sum_z-change f f' (suc n) b h e = ⊎_elim
    (λ q. rw (q, sum_z-ext f f' n (λ i l. e i (omega arith) (λ r. omega arith))) (swap-term (sum_z f' n) (f n) (f' n)))
    (λ l. swap-past (sum_z f n) (f n) (f b) (f' b) ∙ cc (sum_z-change f f' n b l (λ i k. e i (omega arith)), e n (omega arith) (λ r. omega arith)))
    (eq-or-lt_of_le (le_of_suc-le-suc h))
