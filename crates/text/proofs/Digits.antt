-- Laws of the digits of a number, and of a list that is written into. Rests on model's `digits`.
use Prim.Native.Nat.{ℕ, zero, suc, ◌+◌, ◌/◌, ◌%◌, ◌≤◌, ◌<◌}
use mathlib.Core.Path.{◌≡◌, refl, ap, sym, ◌∙◌}
use mathlib.Core.List.{List, [], ◌∷◌, ◌++◌, append_assoc}
use native.Mathlib.Omega.{arith}
use lib.ListN.{length, take, drop, set, length-append, length-drop}
use lib.Seq.{set_split, append_snoc, take_at, drop-drop, drop-append-add, length-take-le}
use borrow.Author.Tests.{lt-ltb, le-ltb}
use Rattle.model.specs.Report.{digits, digits_of}
use Rattle.guarantees.specs.Fuel.{digits-fuel}
use Rattle.text.specs.Output.{written, last_three}

pub digits-small : (x : ℕ) → x < 10 → digits x ≡ (48 + x) ∷ []
unfolding digits digits_of
digits-small zero h = refl
digits-small (suc k) h = rw (lt-ltb (suc k) 10 h)

digits_more : (x : ℕ) → 10 ≤ x → digits x ≡ digits (x / 10) ++ ((48 + x % 10) ∷ [])
unfolding digits digits_of
digits_more zero h = absurd (omega arith)
digits_more (suc k) h = rw (le-ltb (suc k) 10 h, digits-fuel k (suc k / 10) (omega arith))

pub digits-two : (x : ℕ) → 10 ≤ x → x < 100 → digits x ≡ (48 + x / 10) ∷ (48 + x % 10) ∷ []
digits-two x h k = digits_more x h ∙ ap (λ (ds : List ℕ). ds ++ ((48 + x % 10) ∷ [])) (digits-small (x / 10) (omega arith))

-- two digits more, and three
digits-hundred : (x : ℕ) → 100 ≤ x → digits x ≡ digits (x / 100) ++ (48 + x / 10 % 10) ∷ (48 + x % 10) ∷ []
digits-hundred x h =
    let e : x / 10 / 10 ≡ x / 100 = omega arith in
    digits_more x (omega arith)
    ∙ ap (λ (ds : List ℕ). ds ++ ((48 + x % 10) ∷ [])) (digits_more (x / 10) (omega arith))
    ∙ append_assoc (digits (x / 10 / 10)) ((48 + x / 10 % 10) ∷ []) ((48 + x % 10) ∷ [])
    ∙ ap (λ (y : ℕ). digits y ++ (48 + x / 10 % 10) ∷ (48 + x % 10) ∷ []) e

pub digits-three : (x : ℕ) → 100 ≤ x → x < 1000 → digits x ≡ last_three x
unfolding last_three
digits-three x h k =
    let e : x / 100 ≡ x / 100 % 10 = omega arith in
    digits-hundred x h
    ∙ ap (λ (ds : List ℕ). ds ++ (48 + x / 10 % 10) ∷ (48 + x % 10) ∷ []) (digits-small (x / 100) (omega arith))
    ∙ ap (λ (d : ℕ). (48 + d) ∷ (48 + x / 10 % 10) ∷ (48 + x % 10) ∷ []) e

pub digits-thousand : (x : ℕ) → 1000 ≤ x → digits x ≡ digits (x / 1000) ++ last_three x
unfolding last_three
digits-thousand x h =
    let e : x / 100 / 10 ≡ x / 1000 = omega arith in
    digits-hundred x (omega arith)
    ∙ ap (λ (ds : List ℕ). ds ++ (48 + x / 10 % 10) ∷ (48 + x % 10) ∷ []) (digits_more (x / 100) (omega arith))
    ∙ append_assoc (digits (x / 100 / 10)) ((48 + x / 100 % 10) ∷ []) ((48 + x / 10 % 10) ∷ (48 + x % 10) ∷ [])
    ∙ ap (λ (y : ℕ). digits y ++ (48 + x / 100 % 10) ∷ (48 + x / 10 % 10) ∷ (48 + x % 10) ∷ []) e

pub length-small : (x : ℕ) → x < 10 → length (digits x) ≡ 1
length-small x h = ap length (digits-small x h)

pub length_more : (x : ℕ) → 10 ≤ x → length (digits x) ≡ length (digits (x / 10)) + 1
length_more x h = ap length (digits_more x h) ∙ length-append (digits (x / 10)) ((48 + x % 10) ∷ [])

pub length_two : (x : ℕ) → 10 ≤ x → x < 100 → length (digits x) ≡ 2
length_two x h k = ap length (digits-two x h k)

pub length_three : (x : ℕ) → 100 ≤ x → x < 1000 → length (digits x) ≡ 3
unfolding last_three
length_three x h k = ap length (digits-three x h k)

pub length-thousand : (x : ℕ) → 1000 ≤ x → length (digits x) ≡ length (digits (x / 1000)) + 3
unfolding last_three
length-thousand x h = ap length (digits-thousand x h) ∙ length-append (digits (x / 1000)) (last_three x)

-- ---- a list that is written into
pub written_one : (l : List ℕ) (at d : ℕ) → at < length l → set l at d ≡ written l at (d ∷ [])
unfolding written
written_one l at d h =
    let e : at + 1 ≡ suc at = omega arith in
    set_split l at d h ∙ rw (e, append_snoc)

pub length-written : (l ds : List ℕ) (at : ℕ) → at + length ds ≤ length l → length (written l at ds) ≡ length l
unfolding written
length-written l ds at h =
    omega (arith, length-append (take at l ++ ds) (drop (at + length ds) l), length-append (take at l) ds, length-take-le at l (omega arith), length-drop (at + length ds) l)

-- one text after another
pub written-append : (l : List ℕ) (at : ℕ) (d e : List ℕ) → at + length d ≤ length l → written (written l at d) (at + length d) e ≡ written l at (d ++ e)
unfolding written
written-append l at d e h =
    let n : length (take at l ++ d) ≡ at + length d = length-append (take at l) d ∙ ap (λ (k : ℕ). k + length d) (length-take-le at l (omega arith)) in
    let ends : at + length d + length e ≡ at + length (d ++ e) = omega (arith, length-append d e) in
    let back : drop (at + length d + length e) (take at l ++ d ++ drop (at + length d) l) ≡ drop (at + length (d ++ e)) l =
    ap (λ (k : ℕ). drop (k + length e) (take at l ++ d ++ drop (at + length d) l)) (sym n)
    ∙ drop-append-add (take at l ++ d) (drop (at + length d) l) (length e)
    ∙ drop-drop (length e) (at + length d) l
    ∙ ap (λ (k : ℕ). drop k l) ends in
    ap (λ (t : List ℕ). t ++ e ++ drop (at + length d + length e) (take at l ++ d ++ drop (at + length d) l)) (take_at (take at l ++ d) (drop (at + length d) l) (at + length d) n)
    ∙ ap (λ (t : List ℕ). take at l ++ d ++ e ++ t) back
    ∙ ap (λ (t : List ℕ). t ++ drop (at + length (d ++ e)) l) (append_assoc (take at l) d e)

written-more : (l ds : List ℕ) (at d : ℕ) → at + length ds < length l → set (written l at ds) (at + length ds) d ≡ written l at (ds ++ (d ∷ []))
written-more l ds at d h = written_one (written l at ds) (at + length ds) d (omega (arith, length-written l ds at (omega arith))) ∙ written-append l at ds (d ∷ []) (omega arith)

pub written-two : (l : List ℕ) (at a b : ℕ) → at + 1 < length l → set (set l at a) (at + 1) b ≡ written l at (a ∷ b ∷ [])
written-two l at a b h = ap (λ (t : List ℕ). set t (at + 1) b) (written_one l at a (omega arith)) ∙ written-more l (a ∷ []) at b h

pub written-three : (l : List ℕ) (at x : ℕ) → at + 2 < length l
    → set (set (set l at (48 + x / 100 % 10)) (at + 1) (48 + x / 10 % 10)) (at + 2) (48 + x % 10) ≡ written l at (last_three x)
unfolding last_three
written-three l at x h =
    let a : ℕ = 48 + x / 100 % 10 in
    let b : ℕ = 48 + x / 10 % 10 in
    let c : ℕ = 48 + x % 10 in
    ap (λ (t : List ℕ). set t (at + 2) c) (written-two l at a b (omega arith)) ∙ written-more l (a ∷ b ∷ []) at c h
