-- A mask as a number: where its bits from k on are 0, it is the sum of the powers of 2 that its bits below k choose. Rests on laws' Bit and
-- incidence's Word. Assumes nothing.
use Rattle.std.specs.Prelude.{ℕ, zero, suc, ◌+◌, ◌-◌, ◌*◌, ◌/◌, ◌%◌, ◌^◌, ◌≤◌, ◌<◌, ◌≡◌, Bool, true, false, cond}
use Rattle.std.proofs.Math.Nat.{mod-one}
use Rattle.std.proofs.Common.{one-mul, zero-mul, one-add, add-one, arith, sym, ap, ◌∙◌}
use Rattle.std.proofs.Math.Decide.{ℕ_discrete}
use Rattle.std.specs.Int.Count.{count_trailing_zeros}
use Rattle.std.proofs.Math.Pow.{split, pow-lt}
use Rattle.std.proofs.lemmas.Nat.{mod-pow-add}
use Rattle.laws.specs.Choice.{one}
use Rattle.laws.specs.Bit.{bit}
use Rattle.laws.specs.Sum.{sum, sum_to, sum-sum_to}
use Rattle.incidence.specs.Word.{bit-shr, tz-set}

below-pow : (q : ℕ) → q < 2 ^ q
below-pow zero = omega arith
below-pow (suc q) = omega (arith, below-pow q, pow-lt {i = q} {j = suc q} (omega arith))

-- a number without a set bit is 0
no_bits : (q : ℕ) → ((j : ℕ) → bit q j ≡ 0) → q ≡ 0
no_bits q none = go (ℕ_discrete q 0)
  where
    go : Dec (q ≡ 0) → q ≡ 0
    go (yes e) = e
    go (no n) = absurd (omega (arith, tz-set q q (omega arith) (below-pow q), none (count_trailing_zeros q q)))

-- the last k bits
low_bits : (k m : ℕ) → m % 2 ^ k ≡ sum k (λ j. bit m j * 2 ^ j)
unfolding sum
low_bits zero m = rw mod-one
low_bits (suc k) m =
    let e : m % 2 ^ suc k ≡ bit m k * 2 ^ k + m % 2 ^ k = ap (λ (x : ℕ). m % 2 ^ x) (sym (one-add k)) ∙ mod-pow-add m 1 k in
    omega (arith, e, low_bits k m)

all-bits : (k m : ℕ) → ((j : ℕ) → k ≤ j → bit m j ≡ 0) → m ≡ sum k (λ j. bit m j * 2 ^ j)
all-bits k m none =
    let z : m / 2 ^ k ≡ 0 = no_bits (m / 2 ^ k) (λ j. bit-shr m k j ∙ none (k + j) (omega arith)) in
    omega (arith, split m k, ap (λ (x : ℕ). x * 2 ^ k) z, zero-mul (2 ^ k), low_bits k m)

one-times : (b : Bool) (x : ℕ) → one b * x ≡ cond b x 0
one-times true x = one-mul x
one-times false x = zero-mul x

-- bit j shows whether the number j + 1 passes
pub mask_is : (k m : ℕ) (p : ℕ → Bool) → ((j : ℕ) → j < k → bit m j ≡ one (p (j + 1))) → ((j : ℕ) → k ≤ j → bit m j ≡ 0) → m ≡ sum_to k (λ b. cond (p b) (2 ^ (b - 1)) 0)
mask_is k m p shown none = all-bits k m none ∙ sum-sum_to k _ (λ b. cond (p b) (2 ^ (b - 1)) 0) (λ j l.
    let down : suc j - 1 ≡ j = omega arith in
    rw (down, ← add-one j) (ap (λ (x : ℕ). x * 2 ^ j) (shown j l) ∙ one-times (p (j + 1)) (2 ^ j)))
