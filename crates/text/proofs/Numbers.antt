-- Laws of a field that is a number: what makes it a number, its digits and its value, digit by digit. Rests on Walk and Lines.
use Prim.Native.Nat.{ℕ, suc, ◌+◌, ◌-◌, ◌*◌, ◌^◌, ◌≤◌, ◌<◌}
use mathlib.Core.Path.{◌≡◌, refl, ap, sym, subst, ◌∙◌}
use mathlib.Core.List.{List, [], ◌∷◌, ◌++◌}
use mathlib.Core.Bool.{Bool, true, false, not, ◌&&◌, and-false, true≢false}
use native.Mathlib.Decide.{ℕ_discrete}
use native.Mathlib.Omega.{arith}
use native.Mathlib.Nat.{pow-suc, one-le-pow, pow-le-pow_right, lt_of_lt_of_le, le-pred_of_lt}
use lib.ListN.{length, get_or}
use lib.Seq.{slice, slice_empty, length-slice}
use lib.Dec.{eqb, leb, ltb}
use borrow.Author.Tests.{eq-eqb, ne_eqb, le-leb, lt-leb, lt-ltb, leb-true, ltb-true, ltb-false}
use Rattle.laws.specs.Fold.{all}
use Rattle.laws.specs.Choice.{and_left, and_right}
use Rattle.model.specs.Grammar.{fields, is_digit, is_number, onward, value, leading_zero}
use Rattle.text.specs.Field.{first, FirstAt, NineDigits, DigitsRead, NumberEnd, NumberRead, NumberSeen, FieldRead, Numbered}
use Rattle.text.specs.declared.Number.{Number}
use Rattle.std.specs.Prelude.{Option, Some, None, IsSome}
use Rattle.text.proofs.Walk.{slice_at, slice-head, slice-split, slice-more, first_on}
use Rattle.text.proofs.Lines.{field_end, field_found, parts_first}

-- ---- digits
pub digit-range : (b : ℕ) → is_digit b ≡ true → (48 ≤ b) × (b ≤ 57)
digit-range b e = (leb-true 48 b (and_left (leb 48 b) (leb b 57) e), leb-true b 57 (and_right (leb 48 b) (leb b 57) e))

digit-yes : (b : ℕ) → 48 ≤ b → b ≤ 57 → is_digit b ≡ true
digit-yes b h k = rw (le-leb 48 b h, le-leb b 57 k)

pub digit_low : (b : ℕ) → b < 48 → is_digit b ≡ false
digit_low b h = rw (lt-leb 48 b h)

pub digit-high : (b : ℕ) → 57 < b → is_digit b ≡ false
digit-high b h = rw (lt-leb b 57 h) (and-false (leb 48 b))

no-comma : (b : ℕ) → is_digit b ≡ true → eqb b 44 ≡ false
no-comma b e = ne_eqb b 44 (λ z. omega (arith, digit-range b e))

pub all_digits : (b : ℕ) (bs : List ℕ) (t : Bool) → is_digit b ≡ t → all (b ∷ bs) is_digit ≡ (t && all bs is_digit)
unfolding all
all_digits b bs t e = ap (λ (x : Bool). x && all bs is_digit) e

pub all_none : all [] is_digit ≡ true
unfolding all
all_none = refl

-- ---- digits, and what stands behind them
-- one digit more
all_more : (l : List ℕ) (b : ℕ) → all l is_digit ≡ true → is_digit b ≡ true → all (l ++ (b ∷ [])) is_digit ≡ true
unfolding all
all_more [] b h e = rw e
all_more (x ∷ l) b h e = rw (and_left (is_digit x) (all l is_digit) h) (all_more l b (and_right (is_digit x) (all l is_digit) h) e)

-- a byte that is none
all-other : (l : List ℕ) (b : ℕ) (bs : List ℕ) → is_digit b ≡ false → all (l ++ b ∷ bs) is_digit ≡ false
unfolding all
all-other [] b bs e = rw e
all-other (x ∷ l) b bs e = rw (all-other l b bs e) (and-false (is_digit x))

-- the first comma stands behind them
first-past-digits : (l r : List ℕ) → all l is_digit ≡ true → first 44 (l ++ r) ≡ length l + first 44 r
unfolding all
first-past-digits [] r h = omega arith
first-past-digits (x ∷ l) r h = rw (no-comma x (and_left (is_digit x) (all l is_digit) h)) (omega (arith, first-past-digits l r (and_right (is_digit x) (all l is_digit) h)))

-- ---- what makes a field a number
tests : (l : List ℕ) (a b z d : Bool) → leb 1 (length l) ≡ a → leb (length l) 9 ≡ b → leading_zero l ≡ z → all l is_digit ≡ d → is_number l ≡ (a && b && not z && d)
unfolding is_number
tests l a b z d p q r s = rw (← p, ← q, ← r, ← s)

-- one test that fails is enough
no_length : (a z d : Bool) → (a && false && not z && d) ≡ false
no_length true z d = refl
no_length false z d = refl

no-head : (a b d : Bool) → (a && b && not true && d) ≡ false
no-head true true d = refl
no-head true false d = refl
no-head false b d = refl

no-digits : (a b z : Bool) → (a && b && not z && false) ≡ false
no-digits true true true = refl
no-digits true true false = refl
no-digits true false z = refl
no-digits false b z = refl

pub empty-bad : (l : List ℕ) → length l ≡ 0 → is_number l ≡ false
empty-bad l e = tests l false _ _ _ (lt-leb 1 (length l) (omega arith)) refl refl refl

pub long-bad : (l : List ℕ) → 9 < length l → is_number l ≡ false
long-bad l h = tests l _ false _ _ refl (lt-leb (length l) 9 h) refl refl ∙ no_length (leb 1 (length l)) (leading_zero l) (all l is_digit)

pub zero-bad : (l : List ℕ) → 1 < length l → get_or l 0 0 ≡ 48 → is_number l ≡ false
zero-bad l h e = tests l _ _ true _ refl refl (rw (lt-ltb 1 (length l) h, eq-eqb (get_or l 0 0) 48 e)) refl ∙ no-head (leb 1 (length l)) (leb (length l) 9) (all l is_digit)

pub other-bad : (l : List ℕ) → all l is_digit ≡ false → is_number l ≡ false
other-bad l e = tests l _ _ _ false refl refl refl e ∙ no-digits (leb 1 (length l)) (leb (length l) 9) (leading_zero l)

no_zero : (l : List ℕ) → 0 < length l → (1 < length l → get_or l 0 0 ≡ 48 → ⊥) → leading_zero l ≡ false
no_zero [] h n = absurd (omega arith)
no_zero (b ∷ []) h n = refl
no_zero (b ∷ (d ∷ f)) h n = rw (lt-ltb 1 (suc (suc (length f))) (omega arith), ne_eqb b 48 (n (omega arith)))

pub well : (l : List ℕ) → 0 < length l → length l ≤ 9 → (1 < length l → get_or l 0 0 ≡ 48 → ⊥) → all l is_digit ≡ true → is_number l ≡ true
well l h k n d = tests l true true false true (le-leb 1 (length l) h) (le-leb (length l) 9 k) (no_zero l h n) d

-- ---- the value of a field, digit by digit
pub value-from : (l : List ℕ) → value l ≡ onward 0 l
unfolding value
value-from l = refl

pub onward-cons : (v b : ℕ) (bs : List ℕ) → onward v (b ∷ bs) ≡ onward (v * 10 + (b - 48)) bs
unfolding onward
onward-cons v b bs = refl

pub onward-none : (v : ℕ) → onward v [] ≡ v
unfolding onward
onward-none v = refl

onward-more : (v : ℕ) (l : List ℕ) (b : ℕ) → onward v (l ++ (b ∷ [])) ≡ onward v l * 10 + (b - 48)
unfolding onward
onward-more v [] b = refl
onward-more v (x ∷ l) b = onward-more (v * 10 + (x - 48)) l b

-- a number of fewer than nine digits has room for one more
pub ten-room : (v k : ℕ) → v < 10 ^ k → k < 9 → v < 100000000
ten-room v k h l = lt_of_lt_of_le h (pow-le-pow_right {n = 10} (omega arith) (le-pred_of_lt l))

pub ten-more : (v at i d : ℕ) → at ≤ i → v < 10 ^ (i - at) → d < 10 → v * 10 + d < 10 ^ (i + 1 - at)
ten-more v at i d le h l =
    let e : i + 1 - at ≡ suc (i - at) = omega arith in
    rw (e, pow-suc) (omega arith)

-- the bytes from `at` to i are digits and have the value v
pub record OnDigits (s : List ℕ) (at v i : ℕ) : Type 0 where
  pub low : at ≤ i
  pub digits : all (slice at i s) is_digit ≡ true
  pub small : v < 10 ^ (i - at)
  pub is : v ≡ value (slice at i s)

pub digits-start : (s : List ℕ) (at : ℕ) → OnDigits s at 0 at
digits-start s at = record {
  low = omega arith;
  digits = ap (λ (l : List ℕ). all l is_digit) (slice_empty at s) ∙ all_none;
  small = one-le-pow (at - at) 10 (omega arith);
  is = sym (ap value (slice_empty at s) ∙ value-from [] ∙ onward-none 0);
}

pub digits-on : (s : List ℕ) (at v i : ℕ) → OnDigits s at v i → i < length s → 48 ≤ get_or s i 0 → get_or s i 0 ≤ 57 → OnDigits s at (v * 10 + (get_or s i 0 - 48)) (i + 1)
digits-on s at v i on lt h k = record {
  low = omega (arith, on.low);
  digits = ap (λ (l : List ℕ). all l is_digit) (slice-more s at i on.low lt) ∙ all_more (slice at i s) (get_or s i 0) on.digits (digit-yes (get_or s i 0) h k);
  small = ten-more v at i (get_or s i 0 - 48) on.low on.small (omega arith);
  is = ap (λ (n : ℕ). n * 10 + (get_or s i 0 - 48)) (on.is ∙ value-from (slice at i s)) ∙ sym (onward-more 0 (slice at i s) (get_or s i 0)) ∙ sym (value-from (slice at i s ++ (get_or s i 0 ∷ []))) ∙ ap value (sym (slice-more s at i on.low lt));
}

pub digits-stop : (s : List ℕ) (at end v i : ℕ) → OnDigits s at v i → i ≤ end → (i < end → is_digit (get_or s i 0) ≡ false) → DigitsRead s at end v i
digits-stop s at end v i on high stops = record { low = on.low; high = high; digits = on.digits; stops = stops; is = on.is }

-- ---- where `read_digits` answered v and e, with the digits up to `stop`
module _ (s : List ℕ) (at end stop v e : ℕ) (within : end ≤ length s) (nine : NineDigits at end stop) (read : DigitsRead s at stop v e) where
  high : e ≤ end
  high = omega (arith, nine.high, read.high)

  -- the field is at least as long as its digits
  past : first 44 (slice at end s) ≡ e - at + first 44 (slice e end s)
  past =
      ap (first 44) (slice-split s at e end read.low high within)
      ∙ first-past-digits (slice at e s) (slice e end s) read.digits
      ∙ ap (λ (n : ℕ). n + first 44 (slice e end s)) (length-slice at e s (omega (arith, high)))

  module _ (f : ℕ) (found : FirstAt s at end 44 f) where
    field-length : length (slice at f s) ≡ f - at
    field-length = length-slice at f s (omega (arith, found.high))

    field-from : f ≡ e + first 44 (slice e end s)
    field-from = omega (arith, past, found.is, read.low)

  pub number-zero : 1 < e - at → get_or s at 0 ≡ 48 → NumberSeen s at end None
  number-zero h z f found =
      zero-bad (slice at f s) (omega (arith, field-length f found, field-from f found))
      (slice-head s at f (omega (arith, field-from f found)) (omega (arith, found.high)) ∙ z)

  some-stop : at < end → at < stop
  some-stop h = go (ℕ_discrete stop at)
    where
      go : Dec (stop ≡ at) → at < stop
      go (yes z) = absurd (omega (arith, nine.full (omega arith)))
      go (no n) = omega (arith, nine.low)

  pub number-empty : e ≡ at → NumberSeen s at end None
  number-empty z f found = bad (ℕ_discrete f at)
    where
      bad : Dec (f ≡ at) → is_number (slice at f s) ≡ false
      bad (yes y) = empty-bad (slice at f s) (omega (arith, field-length f found))
      bad (no n) =
          let some : at < f = omega (arith, found.low) in
          other-bad (slice at f s)
          (ap (λ (l : List ℕ). all l is_digit) (slice_at s at f some (omega (arith, found.high)))
          ∙ all_digits (get_or s at 0) (slice (at + 1) f s) false (ap (λ (k : ℕ). is_digit (get_or s k 0)) (sym z) ∙ read.stops (omega (arith, some-stop (omega (arith, found.high))))))

  pub number-other : e < end → (get_or s e 0 ≡ 44 → ⊥) → NumberSeen s at end None
  number-other h n f found = bad f found (ltb e stop) refl
    where
      bad : (f : ℕ) → FirstAt s at end 44 f → (t : Bool) → ltb e stop ≡ t → is_number (slice at f s) ≡ false
      bad f found true q =
          let more : e < f = omega (arith, field-from f found, first_on s e end h within 44 n) in
          other-bad (slice at f s)
          (ap (λ (l : List ℕ). all l is_digit) (slice-split s at e f read.low (omega arith) (omega (arith, found.high)) ∙ ap (λ (l : List ℕ). slice at e s ++ l) (slice_at s e f more (omega (arith, found.high))))
          ∙ all-other (slice at e s) (get_or s e 0) (slice (e + 1) f s) (read.stops (ltb-true e stop q)))
      bad f found false q =
          let full = nine.full (omega (arith, ltb-false e stop q, read.high)) in
          long-bad (slice at f s) (omega (arith, field-length f found, field-from f found, first_on s e end h within 44 n, ltb-false e stop q))

  pub number-here : (1 < e - at → get_or s at 0 ≡ 48 → ⊥) → first 44 (slice e end s) ≡ 0 → NumberRead s at end v e
  number-here head comma =
      let found : FirstAt s at end 44 e = record { is = omega (arith, past, read.low); low = read.low; high = high } in
      let n = field-length e found in
      record {
        ends = record {
          low = read.low;
          high = high;
          ends = λ h. found;
          is = λ h. well (slice at e s) (omega arith) (omega (arith, nine.short, read.high)) (λ more z. head (omega arith) (sym (slice-head s at e h (omega (arith, high))) ∙ z)) read.digits;
          none = λ z f other. empty-bad (slice at f s) (omega (arith, field-length f other, other.is, found.is));
        };
        is = λ h. read.is;
      }

-- a field that is a number is read
pub number_there : (s : List ℕ) (at end : ℕ) (r : Option Number) → at ≤ end → end ≤ length s → Numbered (fields (slice at end s)) 0 → NumberSeen s at end r → IsSome r
unfolding fields
number_there s at end (Some n) le within num seen = cc
number_there s at end None le within num none =
    let f = field_end s at end in
    let found = field_found s at end le within in
    let is : is_number (slice at f s) ≡ true = rw (parts_first s at end 44 f le within found).1 at num.is in
    absurd (true≢false (sym is ∙ none f found))

pub number_read : (s : List ℕ) (at end : ℕ) (r : Option Number) (n : Number) → NumberSeen s at end r → r ≡ Some n → FieldRead s at end n.value n.end
number_read s at end r n seen is =
    let read = subst (NumberSeen s at end) is seen in
    record { ends = read.1.ends.ends read.0; is = read.1.is read.0 }

-- where no number stands
pub number_none : (s : List ℕ) (at end : ℕ) → at ≤ end → NumberSeen s at end None → NumberEnd s at end at
number_none s at end le none = record {
  low = omega arith;
  high = le;
  ends = λ h. absurd (omega arith);
  is = λ h. absurd (omega arith);
  none = λ z. none;
}
