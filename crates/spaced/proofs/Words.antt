-- Laws of the words of a line from a cursor on. Rests on text's laws of parts.
use Prim.Native.Nat.{ℕ, suc, ◌+◌, ◌≤◌, ◌<◌}
use native.Mathlib.Nat.{zero-add}
use native.Mathlib.Omega.{arith}
use mathlib.Core.Path.{◌≡◌, refl, ap, sym, ◌∙◌}
use mathlib.Core.Bool.{true, false, cond, true≢false}
use mathlib.Core.List.{List, [], ◌∷◌}
use lib.ListN.{length, get_or}
use lib.Seq.{slice, slice_empty}
use Rattle.laws.specs.Fold.{all}
use Rattle.laws.specs.Choice.{cond_no, and_left, and_right}
use Rattle.model.specs.Grammar.{Fields, onto, parts, is_number}
use Rattle.text.specs.Field.{first, FirstAt, counted}
use Rattle.text.proofs.Walk.{slice_at, first-here, first-within, parts-some}
use Rattle.text.proofs.Lines.{parts-on, parts_last, parts_first, counted-on, counted-end, counted-no}
use Rattle.model.specs.Hmetis.{later, spread, words, numbers_in}
use Rattle.spaced.specs.Row.{Skipped, NoWord}

-- ---- spaces passed over
later-empty : (ps : Fields) → (ps ≡ [] → ⊥) → later ([] ∷ ps) ≡ later ps
unfolding later
later-empty [] n = absurd (n refl)
later-empty (p ∷ ps) n = refl

later-full : (b : ℕ) (p : List ℕ) (ps : Fields) → later ((b ∷ p) ∷ ps) ≡ (b ∷ p) ∷ later ps
unfolding later
later-full b p [] = refl
later-full b p (q ∷ ps) = cond_no (suc (length p)) 0 _ _ (λ e. omega arith)

module _ (s : List ℕ) (i end : ℕ) (le : i ≤ end) (within : end ≤ length s) where
  pub later-space : i < end → get_or s i 0 ≡ 32 → later (parts 32 (slice i end s)) ≡ later (parts 32 (slice (i + 1) end s))
  later-space lt e =
      let found : FirstAt s i end 32 i = record { is = omega (arith, first-here s i end lt within 32 e); low = omega arith; high = le } in
      ap later (parts-on s i end 32 i le within found lt ∙ ap (λ (f : List ℕ). f ∷ parts 32 (slice (i + 1) end s)) (slice_empty i s))
      ∙ later-empty (parts 32 (slice (i + 1) end s)) (parts-some 32 (slice (i + 1) end s))

later-nil : later (parts 32 []) ≡ words []
unfolding later words parts
later-nil = refl

later-cons : (b : ℕ) (bs : List ℕ) → (b ≡ 32 → ⊥) → later (parts 32 (b ∷ bs)) ≡ words (b ∷ bs)
unfolding words parts
later-cons b bs n = ap later (cond_no b 32 _ _ n) ∙ go (parts 32 bs) ∙ ap spread (sym (cond_no b 32 ([] ∷ parts 32 bs) (onto b (parts 32 bs)) n))
  where
    go : (ps : Fields) → later (onto b ps) ≡ spread (onto b ps)
    go [] = later-full b [] []
    go (p ∷ ps) = later-full b p ps

module _ (s : List ℕ) (i end : ℕ) (le : i ≤ end) (within : end ≤ length s) where
  pub later-word : i < end → (get_or s i 0 ≡ 32 → ⊥) → later (parts 32 (slice i end s)) ≡ words (slice i end s)
  later-word lt n =
      let e = slice_at s i end lt within in
      ap (λ (l : List ℕ). later (parts 32 l)) e ∙ later-cons (get_or s i 0) (slice (i + 1) end s) n ∙ ap words (sym e)

  pub later-end : i ≡ end → later (parts 32 (slice i end s)) ≡ words (slice i end s)
  later-end q =
      let e : slice i end s ≡ [] = ap (λ (k : ℕ). slice i k s) (sym q) ∙ slice_empty i s in
      ap (λ (l : List ℕ). later (parts 32 l)) e ∙ later-nil ∙ ap words (sym e)

-- ---- the words from a cursor on, where `find` answered e
module _ (s : List ℕ) (i end e : ℕ) (le : i ≤ end) (within : end ≤ length s) (found : FirstAt s i end 32 e) where
  pub words_last : e ≡ end → words (slice i end s) ≡ slice i e s ∷ []
  unfolding words later
  words_last q = ap spread (parts_last s i end 32 e le within found q)

  pub words-on : (j : ℕ) → e < end → Skipped s (e + 1) end j → words (slice i end s) ≡ slice i e s ∷ words (slice j end s)
  unfolding words
  words-on j lt skipped = ap spread (parts-on s i end 32 e le within found lt) ∙ ap (λ (ws : Fields). slice i e s ∷ ws) skipped.is

  pub words-first : (ws : Fields) × (words (slice i end s) ≡ slice i e s ∷ ws)
  unfolding words
  words-first = let p = parts_first s i end 32 e le within found in (later p.0, ap spread p.1)

-- ---- numbers counted
pub numbers-counted : (l : List ℕ) → numbers_in l ≡ counted 0 (words l)
unfolding numbers_in counted
numbers-counted l = ap (λ (n : ℕ). cond (all (words l) is_number) n 0) (sym (zero-add (length (words l))))

module _ (s : List ℕ) (i end e k : ℕ) (le : i ≤ end) (within : end ≤ length s) (found : FirstAt s i end 32 e) where
  pub count-bad : is_number (slice i e s) ≡ false → counted k (words (slice i end s)) ≡ 0
  count-bad n = let w = words-first s i end e le within found in ap (counted k) w.1 ∙ counted-no k (slice i e s) w.0 n

  module _ (is : is_number (slice i e s) ≡ true) where
    pub count-last : e ≡ end → counted k (words (slice i end s)) ≡ k + 1
    count-last q = ap (counted k) (words_last s i end e le within found q) ∙ counted-on k (slice i e s) [] is ∙ counted-end (k + 1)

    pub count-on : (j : ℕ) → e < end → Skipped s (e + 1) end j → counted k (words (slice i end s)) ≡ counted (k + 1) (words (slice j end s))
    count-on j lt skipped = ap (counted k) (words-on s i end e le within found j lt skipped) ∙ counted-on k (slice i e s) (words (slice j end s)) is

-- ---- all words are numbers
all_first : (f : List ℕ) (fs : Fields) → all (f ∷ fs) is_number ≡ true → is_number f ≡ true
unfolding all
all_first f fs a = and_left (is_number f) (all fs is_number) a

all_rest : (f : List ℕ) (fs : Fields) → all (f ∷ fs) is_number ≡ true → all fs is_number ≡ true
unfolding all
all_rest f fs a = and_right (is_number f) (all fs is_number) a

module _ (s : List ℕ) (i end e : ℕ) (le : i ≤ end) (within : end ≤ length s) (found : FirstAt s i end 32 e) (are : all (words (slice i end s)) is_number ≡ true) where
  pub word_number : is_number (slice i e s) ≡ true
  word_number = let w = words-first s i end e le within found in all_first (slice i e s) w.0 (ap (λ (ws : Fields). all ws is_number) (sym w.1) ∙ are)

  pub words-rest : (j : ℕ) → e < end → Skipped s (e + 1) end j → all (words (slice j end s)) is_number ≡ true
  words-rest j lt skipped = all_rest (slice i e s) (words (slice j end s)) (ap (λ (ws : Fields). all ws is_number) (sym (words-on s i end e le within found j lt skipped)) ∙ are)

-- ---- where a word ends
abbrev pub word_end : List ℕ → ℕ → ℕ → ℕ
word_end s i end = i + first 32 (slice i end s)

pub word-found : (s : List ℕ) (i end : ℕ) → i ≤ end → end ≤ length s → FirstAt s i end 32 (word_end s i end)
word-found s i end le within = record { is = refl; low = omega arith; high = first-within s i end 32 le within }

module _ (s : List ℕ) (i end : ℕ) (le : i ≤ end) (within : end ≤ length s) (word : NoWord s i end) where
  -- the word is no number
  pub word-bad : is_number (slice i (word_end s i end) s) ≡ false
  word-bad = word.none (word_end s i end) (word-found s i end le within)

  pub word_count : (k : ℕ) → counted k (words (slice i end s)) ≡ 0
  word_count k = count-bad s i end (word_end s i end) k le within (word-found s i end le within) word-bad

  -- one of a line of numbers is one
  pub word-well : all (words (slice i end s)) is_number ≡ true → ⊥
  word-well are = true≢false (sym (word_number s i end (word_end s i end) le within (word-found s i end le within) are) ∙ word-bad)
