-- Bit j of a mask, and what it says of masks made by `|`, `&`, `^` and shifts. Assumes nothing.
use Rattle.std.specs.Prelude.{◌≡◌, refl, ℕ, zero, suc, ◌+◌, ◌-◌, ◌*◌, ◌/◌, ◌%◌, ◌^◌, ◌<◌, List, ltb, length, get_or, set}
use Rattle.std.proofs.Common.{sym, ap, ◌∙◌, lt_of_lt_of_le, mod-eq_of_lt, mod-lt, one-mul, one-add, add-one, arith, get_or-set_same, get_or-set_other, pow_mono, pow_pos, pow-add, shl_exact}
use Rattle.std.proofs.Math.Nat.{mod-one, div_self, div-eq_of_lt, mul-mod_left}
use Rattle.std.proofs.Math.Decide.{dec_lt, ℕ_discrete}
use Rattle.std.specs.Int.Count.{ones}
use Rattle.std.proofs.lemmas.Nat.{ones_cat, mod-pow-add, shl-shr, or_shr, or_mod, and_shr, and_mod, xor_shr, xor_mod, or_lt, xor_lt, and_mask}
use Rattle.std.proofs.Math.Arith.{digits_mod}
use Rattle.laws.specs.Choice.{one}
use Rattle.laws.specs.Sum.{sum, count_below, sum-ext}
use Rattle.std.proofs.Math.Pow.{le_ones, ones_split, ones_lt, high, pow-lt}
use Rattle.std.specs.Int.Bits.{bit_or, bit_and, bit_xor, or_zero_r, and_zero_r, xor_zero_r, and_lt, xor_add_and}

abbrev pub bit : ℕ → ℕ → ℕ
bit m j = m / 2 ^ j % 2

-- r is the 16-bit mask m with bit s made v
pub record Masked (m s v r : ℕ) : Type 0 where
  pub small : r < 2 ^ 16
  pub here : bit r s ≡ v
  pub elsewhere : (j : ℕ) → (j ≡ s → ⊥) → bit r j ≡ bit m j

pub bit-lt : (m j : ℕ) → bit m j < 2
bit-lt m j = mod-lt (m / 2 ^ j) (pow_pos 1)

pub bit-or : (a b j : ℕ) → bit (bit_or a b) j ≡ bit_or (bit a j) (bit b j)
bit-or a b j = rw or_shr (or_mod (a / 2 ^ j) (b / 2 ^ j) 1)

pub bit-and : (a b j : ℕ) → bit (bit_and a b) j ≡ bit_and (bit a j) (bit b j)
bit-and a b j = rw and_shr (and_mod (a / 2 ^ j) (b / 2 ^ j) 1)

pub bit-xor : (a b j : ℕ) → bit (bit_xor a b) j ≡ bit_xor (bit a j) (bit b j)
bit-xor a b j = rw xor_shr (xor_mod (a / 2 ^ j) (b / 2 ^ j) 1)

pub bit-pow-same : (s : ℕ) → bit (2 ^ s) s ≡ 1
bit-pow-same s = rw (div_self (pow_pos s))

pub bit-pow-other : (s j : ℕ) → (j ≡ s → ⊥) → bit (2 ^ s) j ≡ 0
bit-pow-other s j h = go (dec_lt j s)
  where
    above : j < s → bit (2 ^ s) j ≡ 0
    above l =
        let e : s ≡ (s - suc j) + 1 + j = omega arith in
        rw (ap (λ (x : ℕ). 2 ^ x) e, pow-add 2 (s - suc j + 1) j, shl-shr, pow-add 2 (s - suc j) 1) (mul-mod_left (2 ^ (s - suc j)) 2)

    below : s < j → bit (2 ^ s) j ≡ 0
    below l = rw (div-eq_of_lt (pow-lt l))

    go : Dec (j < s) → bit (2 ^ s) j ≡ 0
    go (yes l) = above l
    go (no l) = below (omega arith)

-- on one digit
or-one : (b : ℕ) → b < 2 → bit_or b 1 ≡ 1
or-one zero h = refl
or-one (suc zero) h = refl
or-one (suc (suc b)) h = absurd (omega arith)

cleared : (b : ℕ) → b < 2 → bit_xor b (bit_and b 1) ≡ 0
cleared zero h = refl
cleared (suc zero) h = refl
cleared (suc (suc b)) h = absurd (omega arith)

pub one_shl : (w s : ℕ) → s < w → (1 * 2 ^ s) % 2 ^ w ≡ 2 ^ s
one_shl w s h = shl_exact 1 s w (omega arith) (omega arith) ∙ one-mul (2 ^ s)

-- r is m with bit s made v, in a word of any width
pub record Made (m s v r : ℕ) : Type 0 where
  pub here : bit r s ≡ v
  pub elsewhere : (j : ℕ) → (j ≡ s → ⊥) → bit r j ≡ bit m j

pub made-set : (m s : ℕ) → Made m s 1 (bit_or m (2 ^ s))
made-set m s = record {
  here = bit-or m (2 ^ s) s ∙ rw bit-pow-same (or-one (bit m s) (bit-lt m s));
  elsewhere = λ j n. bit-or m (2 ^ s) j ∙ rw (bit-pow-other s j n) (or_zero_r (bit m j));
}

pub made-clear : (m s : ℕ) → Made m s 0 (bit_xor m (bit_and m (2 ^ s)))
made-clear m s = record {
  here = bit-xor m (bit_and m (2 ^ s)) s ∙ rw (bit-and, bit-pow-same) (cleared (bit m s) (bit-lt m s));
  elsewhere = λ j n. bit-xor m (bit_and m (2 ^ s)) j ∙ rw (bit-and, bit-pow-other s j n, and_zero_r) (xor_zero_r (bit m j));
}

pub set-law : (m s : ℕ) → m < 2 ^ 16 → s < 16 → Masked m s 1 (bit_or m (2 ^ s))
set-law m s hm hs = record {
  small = or_lt 16 m (2 ^ s) hm (pow-lt hs);
  here = (made-set m s).here;
  elsewhere = (made-set m s).elsewhere;
}

pub clear-law : (m s : ℕ) → m < 2 ^ 16 → s < 16 → Masked m s 0 (bit_xor m (bit_and m (2 ^ s)))
clear-law m s hm hs = record {
  small = xor_lt 16 m (bit_and m (2 ^ s)) hm (and_lt 16 m (2 ^ s) hm (pow-lt hs));
  here = (made-clear m s).here;
  elsewhere = (made-clear m s).elsewhere;
}

-- the set bits below k
ones-digit : (b : ℕ) → b < 2 → ones b ≡ b
unfolding ones
ones-digit zero h = refl
ones-digit (suc zero) h = refl
ones-digit (suc (suc b)) h = absurd (omega arith)

pub ones-sum : (k m : ℕ) → ones (m % 2 ^ k) ≡ sum k (bit m)
unfolding ones sum
ones-sum zero m = rw mod-one
ones-sum (suc k) m =
    let e : m % 2 ^ suc k ≡ bit m k * 2 ^ k + m % 2 ^ k = ap (λ (x : ℕ). m % 2 ^ x) (sym (one-add k)) ∙ mod-pow-add m 1 k in
    omega (arith, ap ones e, ones_cat k (bit m k) (m % 2 ^ k) (mod-lt m (pow_pos k)), ones-digit (bit m k) (bit-lt m k), ones-sum k m)

pub ones-bits : (m : ℕ) → m < 2 ^ 16 → ones m ≡ sum 16 (bit m)
ones-bits m h = ap ones (sym (mod-eq_of_lt h)) ∙ ones-sum 16 m

-- ---- a mask that shows which of 16 counts are above 0

abbrev pub Shows : ℕ → (ℕ → ℕ) → Type 0
Shows m g = (j : ℕ) → j < 16 → bit m j ≡ one (ltb 0 (g j))

-- the count at s changed, and the mask's bit s was made to fit
pub shows-change : (m r s v : ℕ) (g h : ℕ → ℕ) → Shows m g → Masked m s v r → v ≡ one (ltb 0 (h s)) → ((j : ℕ) → (j ≡ s → ⊥) → h j ≡ g j) → Shows r h
shows-change m r s v g h sh k e same j l = go (ℕ_discrete j s)
  where
    go : Dec (j ≡ s) → bit r j ≡ one (ltb 0 (h j))
    go (yes q) = rw q (k.here ∙ e)
    go (no q) = k.elsewhere j q ∙ sh j l ∙ ap (λ (z : ℕ). one (ltb 0 z)) (sym (same j q))

pub shows-count : (m : ℕ) (g : ℕ → ℕ) → Shows m g → sum 16 (bit m) ≡ count_below 16 (λ j. ltb 0 (g j))
shows-count m g sh = sum-ext 16 (bit m) (λ j. one (ltb 0 (g j))) sh

-- the mask b of a table is made so, and no other
pub record MaskedAt (l l' : List ℕ) (b s v : ℕ) : Type 0 where
  pub changed : Masked (get_or l b 0) s v (get_or l' b 0)
  pub others : (k : ℕ) → (k ≡ b → ⊥) → get_or l' k 0 ≡ get_or l k 0

pub masked-at : (l : List ℕ) (b s v r : ℕ) → b < length l → Masked (get_or l b 0) s v r → MaskedAt l (set l b r) b s v
masked-at l b s v r h k = record {
  changed = rw (get_or-set_same l b r 0 h) k;
  others = λ j ne. get_or-set_other l b j r 0 ne;
}

-- ---- `m & !(1 << s)`

not-xor : (k x : ℕ) → x < 2 ^ k → (2 ^ k - 1) - x ≡ bit_xor x (2 ^ k - 1)
not-xor k x h = omega (arith, xor_add_and x (2 ^ k - 1), and_mask x k, mod-eq_of_lt h, le_ones k h)

bit-ones : (j k : ℕ) → bit (2 ^ (suc j + k) - 1) k ≡ 1
bit-ones j k = rw (ones_split (suc j) k, high (2 ^ suc j - 1) k (ones_lt k), ← add-one j, ones_split j 1) (digits_mod (2 ^ j - 1) (omega arith))

ones16 : (j : ℕ) → j < 16 → bit (2 ^ 16 - 1) j ≡ 1
ones16 j h =
    let e : suc (15 - j) + j ≡ 16 = omega arith in
    ap (λ (z : ℕ). bit (2 ^ z - 1) j) (sym e) ∙ bit-ones (15 - j) j

not-bit : (s j : ℕ) → s < 16 → j < 16 → bit (2 ^ 16 - 1 - 2 ^ s) j ≡ bit_xor (bit (2 ^ s) j) 1
not-bit s j hs hj = ap (λ (z : ℕ). bit z j) (not-xor 16 (2 ^ s) (pow-lt hs)) ∙ bit-xor (2 ^ s) (2 ^ 16 - 1) j ∙ ap (bit_xor (bit (2 ^ s) j)) (ones16 j hj)

and_one : (b : ℕ) → b < 2 → bit_and b 1 ≡ b
and_one zero h = refl
and_one (suc zero) h = refl
and_one (suc (suc b)) h = absurd (omega arith)

pub clear-not-law : (m s : ℕ) → m < 2 ^ 16 → s < 16 → Masked m s 0 (bit_and m (2 ^ 16 - 1 - 2 ^ s))
clear-not-law m s hm hs = record {
  small = and_lt 16 m (2 ^ 16 - 1 - 2 ^ s) hm (omega arith);
  here = bit-and m (2 ^ 16 - 1 - 2 ^ s) s ∙ ap (bit_and (bit m s)) (not-bit s s hs hs ∙ ap (λ (z : ℕ). bit_xor z 1) (bit-pow-same s)) ∙ and_zero_r (bit m s);
  elsewhere = λ j n. bit-and m (2 ^ 16 - 1 - 2 ^ s) j ∙ go j n (dec_lt j 16);
}
  where
    go : (j : ℕ) → (j ≡ s → ⊥) → Dec (j < 16) → bit_and (bit m j) (bit (2 ^ 16 - 1 - 2 ^ s) j) ≡ bit m j
    go j n (yes l) = ap (bit_and (bit m j)) (not-bit s j hs l ∙ ap (λ (z : ℕ). bit_xor z 1) (bit-pow-other s j n)) ∙ and_one (bit m j) (bit-lt m j)
    go j n (no l) =
        let z : bit m j ≡ 0 = rw (div-eq_of_lt (lt_of_lt_of_le hm (pow_mono {i = 16} {j = j} (omega arith)))) in
        rw z
