-- A word read digit by digit: what the bytes before a place have told of it. Rests on Words and on text's laws of a number.
use Prim.Native.Nat.{ℕ, ◌+◌, ◌-◌, ◌*◌, ◌^◌, ◌≤◌, ◌<◌}
use native.Mathlib.Omega.{arith}
use native.Mathlib.Nat.{one-le-pow}
use mathlib.Core.Path.{◌≡◌, refl, ap, sym, ◌∙◌}
use mathlib.Core.Bool.{Bool, true, false, ◌&&◌}
use mathlib.Core.List.{List, [], ◌∷◌}
use borrow.Author.Tests.{le-leb, lt-leb}
use lib.Dec.{leb}
use lib.ListN.{length, get_or}
use lib.Seq.{slice, slice_empty, length-slice}
use Rattle.laws.specs.Fold.{all}
use Rattle.model.specs.Grammar.{is_digit, is_number, onward, value}
use Rattle.text.specs.Field.{first}
use Rattle.text.proofs.Walk.{slice_at, slice-head, first-here, first_on, first-none}
use Rattle.text.proofs.Numbers.{all_digits, all_none, empty-bad, long-bad, zero-bad, other-bad, well, value-from, onward-cons, onward-none, ten-room, ten-more}
use Rattle.spaced.specs.Row.{DigitsRead, NoWord, WordRead}
use Rattle.spaced.proofs.Words.{word_end, word-found}

-- ---- a word that is no number
module _ (s : List ℕ) (at end : ℕ) where
  refused : is_number (slice at (word_end s at end) s) ≡ false → NoWord s at end
  refused n = record { none = λ d found. let same : word_end s at end ≡ d = omega (arith, found.is) in ap (λ (k : ℕ). is_number (slice at k s)) (sym same) ∙ n }

  -- digits that end where the word does
  module _ (e v : ℕ) (within : e ≤ length s) (read : DigitsRead s at end e v) where
    whole : word_end s at end ≡ e
    whole = sym read.ends.is

    size : length (slice at e s) ≡ e - at
    size = length-slice at e s within

    unlike : is_number (slice at e s) ≡ false → is_number (slice at (word_end s at end) s) ≡ false
    unlike n = ap (λ (k : ℕ). is_number (slice at k s)) whole ∙ n

    pub digits-none : at ≡ e → NoWord s at end
    digits-none z = refused (unlike (empty-bad (slice at e s) (omega (arith, size))))

    pub digits-zero : 1 < e - at → get_or s at 0 ≡ 48 → NoWord s at end
    digits-zero more z = refused (unlike (zero-bad (slice at e s) (omega (arith, size)) (slice-head s at e (omega arith) within ∙ z)))

    pub digits-here : (at ≡ e → ⊥) → (1 < e - at → get_or s at 0 ≡ 48 → ⊥) → WordRead s at end v e
    digits-here some head = record {
      low = read.ends.low;
      high = read.ends.high;
      ends = read.ends;
      is = well (slice at e s) (omega (arith, size, read.ends.low)) (omega (arith, size, read.short))
          (λ more z. head (omega (arith, size)) (sym (slice-head s at e (omega (arith, size)) (omega (arith, read.ends.high))) ∙ z)) read.digits;
      value-is = read.is;
    }

-- ---- digit by digit
pub record OnWord (s : List ℕ) (at end v i : ℕ) : Type 0 where
  pub low : at ≤ i
  pub high : i ≤ end
  pub short : i ≤ at + 9
  pub here : word_end s at end ≡ word_end s i end
  pub digits : all (slice at (word_end s at end) s) is_digit ≡ all (slice i (word_end s at end) s) is_digit
  pub small : v < 10 ^ (i - at)
  pub says : value (slice at (word_end s at end) s) ≡ onward v (slice i (word_end s at end) s)

pub word-start : (s : List ℕ) (at end : ℕ) → at ≤ end → OnWord s at end 0 at
word-start s at end le = record { low = omega arith; high = le; short = omega arith; here = refl; digits = refl; small = one-le-pow (at - at) 10 (omega arith); says = value-from (slice at (word_end s at end) s) }

module _ (s : List ℕ) (at end v i : ℕ) (le : at ≤ end) (within : end ≤ length s) (on : OnWord s at end v i) where
  abbrev e : ℕ
  e = word_end s at end

  ended : first 32 (slice i end s) ≡ 0 → DigitsRead s at end i v
  ended z =
      let q : e ≡ i = omega (arith, on.here) in
      let none : slice i e s ≡ [] = ap (λ (k : ℕ). slice i k s) q ∙ slice_empty i s in
      record {
        ends = record { is = sym q; low = on.low; high = on.high };
        short = on.short;
        digits = ap (λ (k : ℕ). all (slice at k s) is_digit) (sym q) ∙ on.digits ∙ ap (λ (l : List ℕ). all l is_digit) none ∙ all_none;
        is = sym (ap (λ (k : ℕ). value (slice at k s)) (sym q) ∙ on.says ∙ ap (onward v) none ∙ onward-none v);
      }

  pub word-space : i < end → get_or s i 0 ≡ 32 → DigitsRead s at end i v
  word-space lt z = ended (first-here s i end lt within 32 z)

  pub word-last : i ≡ end → DigitsRead s at end i v
  word-last q = ended (first-none s i end 32 q)

  module _ (lt : i < end) (other : get_or s i 0 ≡ 32 → ⊥) where
    further : word_end s i end ≡ word_end s (i + 1) end
    further = omega (arith, first_on s i end lt within 32 other)

    inside : i < e
    inside = omega (arith, on.here, first_on s i end lt within 32 other)

    ends : e ≤ length s
    ends = omega (arith, (word-found s at end le within).high)

    split : slice i e s ≡ get_or s i 0 ∷ slice (i + 1) e s
    split = slice_at s i e inside ends

    digit-next : (t : Bool) → is_digit (get_or s i 0) ≡ t → all (slice at e s) is_digit ≡ (t && all (slice (i + 1) e s) is_digit)
    digit-next t q = on.digits ∙ ap (λ (l : List ℕ). all l is_digit) split ∙ all_digits (get_or s i 0) (slice (i + 1) e s) t q

    pub word-other : is_digit (get_or s i 0) ≡ false → NoWord s at end
    word-other n = refused s at end (other-bad (slice at e s) (digit-next false n))

    pub word_low : get_or s i 0 < 48 → NoWord s at end
    word_low h = word-other (ap (λ (b : Bool). b && leb (get_or s i 0) 57) (lt-leb 48 (get_or s i 0) h))

    module _ (h : 48 ≤ get_or s i 0) where
      pub word-high : 57 < get_or s i 0 → NoWord s at end
      word-high k = word-other (ap (λ (b : Bool). b && leb (get_or s i 0) 57) (le-leb 48 (get_or s i 0) h) ∙ lt-leb (get_or s i 0) 57 k)

      pub word-long : 9 ≤ i - at → NoWord s at end
      word-long k = refused s at end (long-bad (slice at e s) (omega (arith, length-slice at e s ends, inside, on.low)))

      module _ (k : get_or s i 0 ≤ 57) (few : i - at < 9) where
        pub word_room : v < 100000000
        word_room = ten-room v (i - at) on.small few

        pub word_on : OnWord s at end (v * 10 + (get_or s i 0 - 48)) (i + 1)
        word_on = record {
          low = omega (arith, on.low);
          high = omega arith;
          short = omega (arith, on.low);
          here = on.here ∙ further;
          digits = digit-next true (ap (λ (b : Bool). b && leb (get_or s i 0) 57) (le-leb 48 (get_or s i 0) h) ∙ le-leb (get_or s i 0) 57 k);
          small = ten-more v at i (get_or s i 0 - 48) on.low on.small (omega arith);
          says = on.says ∙ ap (onward v) split ∙ onward-cons v (get_or s i 0) (slice (i + 1) e s);
        }
