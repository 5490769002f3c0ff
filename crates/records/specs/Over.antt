-- The first n places of a list, taken from another: length, entries, one place more, and each element mapped. Assumes nothing.
use Rattle.std.specs.Prelude.{ℕ, zero, suc, ◌+◌, ◌-◌, ◌<◌, ◌≤◌, ◌≡◌, refl, Bool, true, false, cond, List, [], ◌∷◌, ◌++◌, map, ltb, length, get_or, set, take, drop}
use Rattle.std.proofs.Common.{not-suc-le-zero, le_of_suc-le-suc, arith, sym, ap, ◌∙◌, ltb-true, ltb-false, length-take-le, get_or-take, get_or-drop, get_or-append-add}
use Rattle.std.proofs.lemmas.List.{map-append}
use Rattle.std.proofs.Math.ListN.{get_or-append}

-- old with its first n places taken from new
abbrev pub over : {A : Type 0} → ℕ → List A → List A → List A
over n new old = take n new ++ drop n old

pub length_over : {A : Type 0} (n : ℕ) (new old : List A) → n ≤ length new → n ≤ length old → length (over n new old) ≡ length old
length_over zero new old _ _ = refl
length_over (suc n) [] old l _ = absurd (not-suc-le-zero l)
length_over (suc n) (x ∷ new) [] _ m = absurd (not-suc-le-zero m)
length_over (suc n) (x ∷ new) (y ∷ old) l m = ap suc (length_over n new old (le_of_suc-le-suc l) (le_of_suc-le-suc m))

pub over-entry : {A : Type 0} (none : A) (n i : ℕ) (new old : List A) → n ≤ length new → get_or (over n new old) i none ≡ cond (ltb i n) (get_or new i none) (get_or old i none)
over-entry none n i new old l = go (ltb i n) refl
  where
    len : length (take n new) ≡ n
    len = length-take-le n new l

    go : (b : Bool) → ltb i n ≡ b → get_or (over n new old) i none ≡ cond b (get_or new i none) (get_or old i none)
    go true q = get_or-append (take n new) (drop n old) none i (omega (arith, len, ltb-true i n q)) ∙ get_or-take n new i none (ltb-true i n q)
    go false q =
        let far : n ≤ i = ltb-false i n q in
        let place : n + (i - n) ≡ i = omega (arith, far) in
        ap (λ (k : ℕ). get_or (over n new old) k none) (sym place ∙ ap (λ (k : ℕ). k + (i - n)) (sym len))
        ∙ get_or-append-add (take n new) (drop n old) (i - n) none
        ∙ get_or-drop n old (i - n) none
        ∙ ap (λ (k : ℕ). get_or old k none) place

map-take : {A B : Type 0} (f : A → B) (n : ℕ) (l : List A) → map f (take n l) ≡ take n (map f l)
map-take f zero l = refl
map-take f (suc n) [] = refl
map-take f (suc n) (x ∷ l) = ap (λ (t : List _). f x ∷ t) (map-take f n l)

map-drop : {A B : Type 0} (f : A → B) (n : ℕ) (l : List A) → map f (drop n l) ≡ drop n (map f l)
map-drop f zero l = refl
map-drop f (suc n) [] = refl
map-drop f (suc n) (x ∷ l) = map-drop f n l

-- one more place
pub over-more : {A : Type 0} (none : A) (i : ℕ) (new old : List A) → i < length new → i < length old → set (over i new old) i (get_or new i none) ≡ over (suc i) new old
over-more none i [] old l _ = absurd (not-suc-le-zero l)
over-more none i (x ∷ new) [] _ m = absurd (not-suc-le-zero m)
over-more none zero (x ∷ new) (y ∷ old) _ _ = refl
over-more none (suc i) (x ∷ new) (y ∷ old) l m = ap (λ (t : List _). x ∷ t) (over-more none i new old (le_of_suc-le-suc l) (le_of_suc-le-suc m))

pub map-over : {A B : Type 0} (f : A → B) (n : ℕ) (new old : List A) → map f (over n new old) ≡ over n (map f new) (map f old)
map-over f n new old = map-append f (take n new) (drop n old) ∙ ap (λ (l : List _). l ++ map f (drop n old)) (map-take f n new) ∙ ap (λ (l : List _). take n (map f new) ++ l) (map-drop f n old)
