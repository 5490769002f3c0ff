-- What is written in base ten is read back as it was (value-digits): every byte is a digit (digits_are), the first one is no 0 but for 0 itself
-- (digits-first), and a number below ten to the k has at most k digits (digits_le). Rests on model's Grammar and Report. Assumes nothing.
use Rattle.std.specs.Prelude.{ℕ, zero, suc, ◌+◌, ◌-◌, ◌*◌, ◌/◌, ◌%◌, ◌^◌, ◌≤◌, ◌<◌, ◌≡◌, refl, Bool, true, false, cond, List, [], ◌∷◌, ◌++◌, ltb, length, get_or}
use Rattle.std.proofs.Common.{pow-suc, arith, ◌∙◌, ltb-true, ltb-false, length-append}
use Rattle.std.proofs.Math.ListN.{get_or-append}
use Rattle.laws.specs.Fold.{All, all_more}
use Rattle.model.specs.Grammar.{onward, value}
use Rattle.model.specs.Report.{digits_of, digits}

onward-more : (l : List ℕ) (v d : ℕ) → onward v (l ++ (d ∷ [])) ≡ onward v l * 10 + (d - 48)
unfolding onward
onward-more [] v d = refl
onward-more (x ∷ l) v d = onward-more l (v * 10 + (x - 48)) d

onward-one : (v d : ℕ) → onward v (d ∷ []) ≡ v * 10 + (d - 48)
unfolding onward
onward-one v d = refl

value_of : (f n : ℕ) → n ≤ f → onward 0 (digits_of f n) ≡ n
unfolding digits_of
value_of zero n l = onward-one 0 (48 + n) ∙ omega arith
value_of (suc f) n l = go (value_of f (n / 10)) (ltb n 10) refl
  where
    go : (n / 10 ≤ f → onward 0 (digits_of f (n / 10)) ≡ n / 10) → (b : Bool) → ltb n 10 ≡ b → onward 0 (cond b ((48 + n) ∷ []) (digits_of f (n / 10) ++ ((48 + n % 10) ∷ []))) ≡ n
    go ih true e = onward-one 0 (48 + n) ∙ omega arith
    go ih false e =
        let big : 10 ≤ n = ltb-false n 10 e in
        onward-more (digits_of f (n / 10)) 0 (48 + n % 10) ∙ omega (arith, ih (omega arith))

pub value-digits : (n : ℕ) → value (digits n) ≡ n
unfolding value digits
value-digits n = value_of n n (omega arith)

-- ---- bytes
digits_of_lem : (f n : ℕ) → n ≤ f → All (digits_of f n) (λ b. (48 ≤ b) × (b ≤ 57))
unfolding digits_of
digits_of_lem zero n l = (omega arith, tt)
digits_of_lem (suc f) n l = go (digits_of_lem f (n / 10)) (ltb n 10) refl
  where
    go : (n / 10 ≤ f → All (digits_of f (n / 10)) (λ b. (48 ≤ b) × (b ≤ 57))) → (b : Bool) → ltb n 10 ≡ b → All (cond b ((48 + n) ∷ []) (digits_of f (n / 10) ++ ((48 + n % 10) ∷ []))) (λ b. (48 ≤ b) × (b ≤ 57))
    go ih true e =
        let small : n < 10 = ltb-true n 10 e in
        (omega arith, tt)
    go ih false e =
        let big : 10 ≤ n = ltb-false n 10 e in
        all_more (digits_of f (n / 10)) _ (48 + n % 10) (ih (omega arith)) (omega arith)

pub digits_are : (n : ℕ) → All (digits n) (λ b. (48 ≤ b) × (b ≤ 57))
unfolding digits
digits_are n = digits_of_lem n n (omega arith)

length-of : (f k n : ℕ) → n < 10 ^ suc k → length (digits_of f n) ≤ suc k
unfolding digits_of
length-of zero k n l = omega arith
length-of (suc f) zero n l = go (ltb n 10) refl
  where
    go : (b : Bool) → ltb n 10 ≡ b → length (cond b ((48 + n) ∷ []) (digits_of f (n / 10) ++ ((48 + n % 10) ∷ []))) ≤ 1
    go true e = omega arith
    go false e = absurd (omega (arith, ltb-false n 10 e))
length-of (suc f) (suc k) n l = go (length-of f k (n / 10)) (ltb n 10)
  where
    go : (n / 10 < 10 ^ suc k → length (digits_of f (n / 10)) ≤ suc k) → (b : Bool) → length (cond b ((48 + n) ∷ []) (digits_of f (n / 10) ++ ((48 + n % 10) ∷ []))) ≤ suc (suc k)
    go ih true = omega arith
    go ih false = omega (arith, length-append (digits_of f (n / 10)) ((48 + n % 10) ∷ []), ih (omega (arith, pow-suc 10 (suc k))))

pub digits_le : (k n : ℕ) → n < 10 ^ suc k → length (digits n) ≤ suc k
unfolding digits
digits_le k n l = length-of n k n l

-- ---- the first digit
some_of : (f n : ℕ) → 1 ≤ length (digits_of f n)
unfolding digits_of
some_of zero n = omega arith
some_of (suc f) n = go (ltb n 10)
  where
    go : (b : Bool) → 1 ≤ length (cond b ((48 + n) ∷ []) (digits_of f (n / 10) ++ ((48 + n % 10) ∷ [])))
    go true = omega arith
    go false = omega (arith, length-append (digits_of f (n / 10)) ((48 + n % 10) ∷ []))

first-of : (f n : ℕ) → n ≤ f → 1 ≤ n → 49 ≤ get_or (digits_of f n) 0 0
unfolding digits_of
first-of zero n l m = omega arith
first-of (suc f) n l m = go (first-of f (n / 10)) (ltb n 10) refl
  where
    go : (n / 10 ≤ f → 1 ≤ n / 10 → 49 ≤ get_or (digits_of f (n / 10)) 0 0) → (b : Bool) → ltb n 10 ≡ b → 49 ≤ get_or (cond b ((48 + n) ∷ []) (digits_of f (n / 10) ++ ((48 + n % 10) ∷ []))) 0 0
    go ih true e = omega arith
    go ih false e =
        let big : 10 ≤ n = ltb-false n 10 e in
        omega (arith, get_or-append (digits_of f (n / 10)) ((48 + n % 10) ∷ []) 0 0 (some_of f (n / 10)), ih (omega arith) (omega arith))

pub digits-first : (n : ℕ) → 1 ≤ n → 49 ≤ get_or (digits n) 0 0
unfolding digits
digits-first n l = first-of n n (omega arith) l
