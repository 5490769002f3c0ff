-- The buyers that N names: whether all are known, one after the other; a table of 0 and 1 by buyer, and whether one is named twice; how many marks there
-- are with one more for each that is named. Assumes nothing.
use Rattle.std.specs.Prelude.{ℕ, zero, suc, ◌+◌, ◌*◌, ◌-◌, ◌<◌, ◌≤◌, ◌≡◌, refl, Bool, true, false, not, ◌&&◌, ◌||◌, List, [], ◌∷◌, ◌++◌, eqb, leb, length, get_or, take, drop, set, replicate}
use Rattle.std.specs.List.{list_all}
use Rattle.std.proofs.Math.Decide.{ℕ_discrete}
use Rattle.std.proofs.Common.{add-one, arith, sym, ap, ap₂, ◌∙◌, true≢false, eq-eqb, ne_eqb, leb-true, length-set, take-append-drop, take-suc, drop-cons, take_all, get_or-set_same, get_or-set_other}
use Rattle.std.proofs.lemmas.Bool.{not-true, not-false}
use Rattle.std.proofs.lemmas.List.{length-replicate}
use Rattle.laws.specs.Choice.{one, one-full, eqb-sym, and_left, and_right}
use Rattle.laws.specs.Fold.{any, all, zeros-get}
use Rattle.model.specs.Sale.{named_twice}
use Rattle.edit_calls.specs.Refusal.{known}

-- ---- all are known
-- those from i on decide
pub all_rest : (l : List ℕ) (p : ℕ → Bool) (i : ℕ) → i < length l → all (drop i l) p ≡ (p (get_or l i 0) && all (drop (i + 1) l) p)
unfolding all
all_rest l p i q = ap (λ (r : List ℕ). all r p) (drop-cons l i 0 q) ∙ ap (λ (k : ℕ). p (get_or l i 0) && all (drop k l) p) (sym (add-one i))

pub all-stop : (l : List ℕ) (p : ℕ → Bool) (i : ℕ) {r : Bool} → i < length l → all l p ≡ all (drop i l) p → r ≡ p (get_or l i 0) → not r ≡ true → false ≡ all l p
all-stop l p i {r} q e f n = sym (e ∙ all_rest l p i q ∙ ap (λ (b : Bool). b && all (drop (i + 1) l) p) (sym f ∙ not-true r n))

pub all-on : (l : List ℕ) (p : ℕ → Bool) (i : ℕ) {r : Bool} → i < length l → all l p ≡ all (drop i l) p → r ≡ p (get_or l i 0) → not r ≡ false → all l p ≡ all (drop (i + 1) l) p
all-on l p i {r} q e f n = e ∙ all_rest l p i q ∙ ap (λ (b : Bool). b && all (drop (i + 1) l) p) (sym f ∙ not-false r n)

drop-end : (l : List ℕ) (i : ℕ) → length l ≤ i → drop i l ≡ []
drop-end [] zero q = refl
drop-end [] (suc i) q = refl
drop-end (x ∷ l) zero q = absurd (omega arith)
drop-end (x ∷ l) (suc i) q = drop-end l i (omega arith)

pub all_done : (l : List ℕ) (p : ℕ → Bool) (i : ℕ) → length l ≤ i → all l p ≡ all (drop i l) p → true ≡ all l p
unfolding all
all_done l p i q e = sym (e ∙ ap (λ (r : List ℕ). all r p) (drop-end l i q))

-- the library's word for it
pub all-list : (l : List ℕ) (p : ℕ → Bool) → list_all p l ≡ all l p
unfolding all
all-list [] p = refl
all-list (x ∷ l) p = ap (λ (b : Bool). p x && b) (all-list l p)

-- each of them, where all are
pub all-each : (l : List ℕ) (m : ℕ) → all l (known m) ≡ true → (i : ℕ) → i < length l → (1 ≤ get_or l i 0) × (get_or l i 0 ≤ m)
unfolding all
all-each [] m e i q = absurd (omega arith)
all-each (x ∷ l) m e zero q = let k = and_left (known m x) (all l (known m)) e in (leb-true 1 x (and_left (leb 1 x) (leb x m) k), leb-true x m (and_right (leb 1 x) (leb x m) k))
all-each (x ∷ l) m e (suc i) q = all-each l m (and_right (known m x) (all l (known m)) e) i (omega arith)

-- ---- named twice
any-more : (l : List ℕ) (p : ℕ → Bool) (x : ℕ) → any (l ++ (x ∷ [])) p ≡ (any l p || p x)
unfolding any
any-more [] p x = go (p x)
  where
    go : (b : Bool) → (b || false) ≡ b
    go true = refl
    go false = refl
any-more (y ∷ l) p x = ap (λ (b : Bool). p y || b) (any-more l p x) ∙ go (p y) (any l p) (p x)
  where
    go : (a b c : Bool) → (a || (b || c)) ≡ ((a || b) || c)
    go true b c = refl
    go false b c = refl

twice-more : (l : List ℕ) (b : ℕ) → named_twice (l ++ (b ∷ [])) ≡ (named_twice l || any l (λ x. eqb x b))
unfolding named_twice any
twice-more [] b = refl
twice-more (c ∷ l) b =
    ap₂ (λ (s t : Bool). s || t) (any-more l (λ x. eqb x c) b ∙ ap (λ (t : Bool). any l (λ x. eqb x c) || t) (eqb-sym b c)) (twice-more l b)
    ∙ go (any l (λ x. eqb x c)) (eqb c b) (named_twice l) (any l (λ x. eqb x b))
  where
    go : (p q r s : Bool) → ((p || q) || (r || s)) ≡ ((p || r) || (q || s))
    go true q r s = refl
    go false true true s = refl
    go false true false s = refl
    go false false true s = refl
    go false false false s = refl

either : (a b c : Bool) → (a || b) ≡ true → (a ≡ true → c ≡ true) → (b ≡ true → c ≡ true) → c ≡ true
either true b c e f g = f refl
either false b c e f g = g e

or_left : (a b : Bool) → a ≡ true → (a || b) ≡ true
or_left a b e = ap (λ (t : Bool). t || b) e

or_right : (a b : Bool) → b ≡ true → (a || b) ≡ true
or_right true b e = refl
or_right false b e = e

any_append : (l r : List ℕ) (p : ℕ → Bool) → any l p ≡ true → any (l ++ r) p ≡ true
unfolding any
any_append [] r p e = absurd (true≢false (sym e))
any_append (x ∷ l) r p e = either (p x) (any l p) (p x || any (l ++ r) p) e (or_left (p x) (any (l ++ r) p)) (λ q. or_right (p x) (any (l ++ r) p) (any_append l r p q))

twice-append : (l r : List ℕ) → named_twice l ≡ true → named_twice (l ++ r) ≡ true
unfolding named_twice
twice-append [] r e = absurd (true≢false (sym e))
twice-append (b ∷ l) r e = either (any l (λ x. eqb x b)) (named_twice l) (any (l ++ r) (λ x. eqb x b) || named_twice (l ++ r)) e
    (λ q. or_left (any (l ++ r) (λ x. eqb x b)) (named_twice (l ++ r)) (any_append l r (λ x. eqb x b) q))
    (λ q. or_right (any (l ++ r) (λ x. eqb x b)) (named_twice (l ++ r)) (twice-append l r q))

-- a table that has a 1 for each that is named, and a 0 for each other
pub record Named (named buyers : List ℕ) : Type 0 where
  pub len : length named ≡ 1024
  pub told : (e : ℕ) → e < 1024 → get_or named e 0 ≡ one (any buyers (λ b. eqb b (1 + e)))

-- the first i are named in it, none of them twice
pub record Naming (named buyers : List ℕ) (i : ℕ) : Type 0 where
  pub so_far : Named named (take i buyers)
  pub once : named_twice (take i buyers) ≡ false

pub naming-none : (buyers : List ℕ) {named : List ℕ} → named ≡ replicate 1024 0 → Naming named buyers 0
unfolding any named_twice
naming-none [] e = record { so_far = record { len = ap length e ∙ length-replicate {A = ℕ} 1024 0; told = λ j l. ap (λ (r : List ℕ). get_or r j 0) e ∙ zeros-get 1024 j }; once = refl }
naming-none (b ∷ bs) e = record { so_far = record { len = ap length e ∙ length-replicate {A = ℕ} 1024 0; told = λ j l. ap (λ (r : List ℕ). get_or r j 0) e ∙ zeros-get 1024 j }; once = refl }

module _ {named buyers : List ℕ} {i : ℕ} (n : Naming named buyers i) (l : i < length buyers) {at : ℕ} (at-is : 1 + at ≡ get_or buyers i 0) (fits : at < 1024) where
  abbrev b : ℕ
  b = get_or buyers i 0

  one_more : take (i + 1) buyers ≡ take i buyers ++ (b ∷ [])
  one_more = ap (λ (k : ℕ). take k buyers) (add-one i) ∙ take-suc buyers i 0 l

  -- it was named before
  pub naming-twice : get_or named at 0 ≡ 1 → true ≡ named_twice buyers
  naming-twice e =
      let before : any (take i buyers) (λ x. eqb x b) ≡ true =
      ap (λ (y : ℕ). any (take i buyers) (λ x. eqb x y)) (sym at-is) ∙ one-full (any (take i buyers) (λ x. eqb x (1 + at))) (omega (arith, n.so_far.told at fits)) in
      sym (ap named_twice (sym (take-append-drop (i + 1) buyers))
      ∙ twice-append (take (i + 1) buyers) (drop (i + 1) buyers) (ap named_twice one_more ∙ twice-more (take i buyers) b ∙ or_right (named_twice (take i buyers)) _ before))

  -- it was not
  module _ (e : get_or named at 0 ≡ 1 → ⊥) where
    new : any (take i buyers) (λ x. eqb x b) ≡ false
    new = go (any (take i buyers) (λ x. eqb x (1 + at))) refl
      where
        go : (t : Bool) → any (take i buyers) (λ x. eqb x (1 + at)) ≡ t → any (take i buyers) (λ x. eqb x b) ≡ false
        go true q = absurd (e (n.so_far.told at fits ∙ ap one q))
        go false q = ap (λ (y : ℕ). any (take i buyers) (λ x. eqb x y)) (sym at-is) ∙ q

    pub naming-more : Naming (set named at 1) buyers (i + 1)
    naming-more = record {
      so_far = record { len = length-set named at 1 ∙ n.so_far.len; told = λ j q. go j q (ℕ_discrete j at) };
      once = ap named_twice one_more ∙ twice-more (take i buyers) b ∙ ap₂ (λ (s t : Bool). s || t) n.once new;
    }
      where
        split : (j : ℕ) → any (take (i + 1) buyers) (λ x. eqb x (1 + j)) ≡ (any (take i buyers) (λ x. eqb x (1 + j)) || eqb b (1 + j))
        split j = ap (λ (r : List ℕ). any r (λ x. eqb x (1 + j))) one_more ∙ any-more (take i buyers) (λ x. eqb x (1 + j)) b

        none_or : (t : Bool) → t ≡ (t || false)
        none_or true = refl
        none_or false = refl

        go : (j : ℕ) → j < 1024 → Dec (j ≡ at) → get_or (set named at 1) j 0 ≡ one (any (take (i + 1) buyers) (λ x. eqb x (1 + j)))
        go j q (yes z) =
            let y : b ≡ 1 + j = omega (arith, at-is) in
            ap (λ (k : ℕ). get_or (set named at 1) k 0) z ∙ get_or-set_same named at 1 0 (omega (arith, n.so_far.len))
            ∙ sym (ap one (split j ∙ or_right (any (take i buyers) (λ x. eqb x (1 + j))) (eqb b (1 + j)) (eq-eqb b (1 + j) y)))
        go j q (no z) =
            let y : b ≡ 1 + j → ⊥ = λ r. z (omega (arith, at-is)) in
            get_or-set_other named at j 1 0 z ∙ n.so_far.told j q
            ∙ ap one (none_or (any (take i buyers) (λ x. eqb x (1 + j))) ∙ ap (λ (t : Bool). any (take i buyers) (λ x. eqb x (1 + j)) || t) (sym (ne_eqb b (1 + j) y)) ∙ sym (split j))

pub naming-all : {named buyers : List ℕ} {i : ℕ} → Naming named buyers i → length buyers ≤ i → (false ≡ named_twice buyers) × Named named buyers
naming-all {named} {buyers} {i} n l =
    let q : take i buyers ≡ buyers = take_all i buyers l in
    (sym (ap named_twice (sym q) ∙ n.once), record { len = n.so_far.len; told = λ e u. n.so_far.told e u ∙ ap (λ (r : List ℕ). one (any r (λ b. eqb b (1 + e)))) q })
