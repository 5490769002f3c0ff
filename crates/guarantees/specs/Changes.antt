-- A catalogue with a lot withdrawn or added: entries of its lists (put-at, put_other, sessions-at), and its nets' marks (unmarked-*, with-*).
-- Rests on model's Sale. Assumes nothing.
use Prim.Native.Nat.{ℕ, zero, suc, ◌+◌, ◌-◌, ◌≤◌, ◌<◌}
use Rattle.std.proofs.Math.Decide.{ℕ_discrete}
use native.Mathlib.Omega.{arith}
use Rattle.std.specs.Prelude.{◌≡◌, Bool, ◌||◌, get_or}
use Rattle.std.proofs.Math.Path.{refl, ap}
use Rattle.std.proofs.Common.{sym, ◌∙◌, subst, ne_eqb}
use Rattle.std.proofs.Math.Bool.{true, false, cond}
use mathlib.Core.List.{List, [], ◌∷◌, ◌++◌}
use Rattle.std.proofs.lemmas.Bool.{eqb-false}
use Rattle.std.proofs.Math.Dec.{eqb}
use Rattle.std.proofs.Math.ListN.{length, length-append, get_or-append}
use Rattle.laws.specs.Choice.{one, one-le}
use Rattle.laws.specs.Fold.{sum_over, any, All, all_map, all_more}
use Rattle.laws.specs.Occurrence.{Distinct, occ-list, distinct-occ, occ-distinct, distinct_more}
use Rattle.model.specs.Catalogue.{Net}
use Rattle.model.specs.Sale.{put, sessions, unmarked, nets_without, nets_with}

-- ---- lists
pub put-length : (l : List ℕ) (i x : ℕ) → i < length l → length (put l i x) ≡ length l
unfolding put
put-length [] i x h = absurd (omega arith)
put-length (y ∷ l) zero x h = refl
put-length (y ∷ l) (suc i) x h = ap suc (put-length l i x (omega arith))

pub put-longer : (l : List ℕ) (i x : ℕ) → i ≡ length l → length (put l i x) ≡ suc (length l)
unfolding put
put-longer [] i x h = refl
put-longer (y ∷ l) zero x h = absurd (omega arith)
put-longer (y ∷ l) (suc i) x h = ap suc (put-longer l i x (omega arith))

pub put-even : (l l' : List ℕ) (i x y : ℕ) → length l ≡ length l' → length (put l i x) ≡ length (put l' i y)
unfolding put
put-even [] [] i x y e = refl
put-even [] (z ∷ l') i x y e = absurd (omega arith)
put-even (z ∷ l) [] i x y e = absurd (omega arith)
put-even (z ∷ l) (w ∷ l') zero x y e = e
put-even (z ∷ l) (w ∷ l') (suc i) x y e = ap suc (put-even l l' i x y (omega arith))

pub put-at : (l : List ℕ) (i x : ℕ) → i ≤ length l → get_or (put l i x) i 0 ≡ x
unfolding put
put-at [] zero x h = refl
put-at [] (suc i) x h = absurd (omega arith)
put-at (y ∷ l) zero x h = refl
put-at (y ∷ l) (suc i) x h = put-at l i x (omega arith)

pub put_other : (l : List ℕ) (i x j : ℕ) → i ≤ length l → (j ≡ i → ⊥) → get_or (put l i x) j 0 ≡ get_or l j 0
unfolding put
put_other [] zero x zero h n = absurd (n refl)
put_other [] zero x (suc j) h n = refl
put_other [] (suc i) x j h n = absurd (omega arith)
put_other (y ∷ l) zero x zero h n = absurd (n refl)
put_other (y ∷ l) zero x (suc j) h n = refl
put_other (y ∷ l) (suc i) x zero h n = refl
put_other (y ∷ l) (suc i) x (suc j) h n = put_other l i x j (omega arith) (λ e. n (ap suc e))

pub put_all : (l : List ℕ) (i x : ℕ) (P : ℕ → Type 0) → All l P → P x → All (put l i x) P
unfolding put
put_all [] i x P a p = (p, tt)
put_all (y ∷ l) zero x P a p = (p, a.1)
put_all (y ∷ l) (suc i) x P a p = (a.0, put_all l i x P a.1 p)

pub sessions-length : (n : ℕ) (p : ℕ → ℕ) → length (sessions n p) ≡ n
unfolding sessions
sessions-length zero p = refl
sessions-length (suc n) p = omega (arith, length-append (sessions n p) (p (suc n) ∷ []), sessions-length n p)

last-at : (l : List ℕ) (x i : ℕ) → i ≡ length l → get_or (l ++ (x ∷ [])) i 0 ≡ x
last-at [] x zero e = refl
last-at [] x (suc i) e = absurd (omega arith)
last-at (y ∷ l) x zero e = absurd (omega arith)
last-at (y ∷ l) x (suc i) e = last-at l x i (omega arith)

pub sessions-at : (n : ℕ) (p : ℕ → ℕ) (i : ℕ) → i < n → get_or (sessions n p) i 0 ≡ p (suc i)
unfolding sessions
sessions-at zero p i l = absurd (omega arith)
sessions-at (suc n) p i l = go (ℕ_discrete i n) (sessions-at n p i)
  where
    go : Dec (i ≡ n) → (i < n → get_or (sessions n p) i 0 ≡ p (suc i)) → get_or (sessions n p ++ (p (suc n) ∷ [])) i 0 ≡ p (suc i)
    go (yes e) ih = last-at (sessions n p) (p (suc n)) i (e ∙ sym (sessions-length n p)) ∙ ap (λ (j : ℕ). p (suc j)) (sym e)
    go (no e) ih = get_or-append (sessions n p) (p (suc n) ∷ []) 0 i (omega (arith, sessions-length n p)) ∙ ih (omega arith)

-- ---- marks without those at v
module _ (v : ℕ) where
  pub unmarked-length : (l : List ℕ) → length (unmarked v l) ≤ length l
  unfolding unmarked
  unmarked-length [] = omega arith
  unmarked-length (x ∷ l) = go (eqb x v) (unmarked-length l)
    where
      go : (b : Bool) → length (unmarked v l) ≤ length l → length (cond b (unmarked v l) (x ∷ unmarked v l)) ≤ suc (length l)
      go true ih = omega arith
      go false ih = omega arith

  pub unmarked-all : (l : List ℕ) (P Q : ℕ → Type 0) → All l P → ((x : ℕ) → (x ≡ v → ⊥) → P x → Q x) → All (unmarked v l) Q
  unfolding unmarked
  unmarked-all [] P Q a f = tt
  unmarked-all (x ∷ l) P Q a f = go (eqb x v) refl (unmarked-all l P Q a.1 f)
    where
      go : (b : Bool) → eqb x v ≡ b → All (unmarked v l) Q → All (cond b (unmarked v l) (x ∷ unmarked v l)) Q
      go true e ih = ih
      go false e ih = (f x (eqb-false x v e) a.0, ih)

  unmarked-sum : (l : List ℕ) (f : ℕ → ℕ) → sum_over (unmarked v l) f ≤ sum_over l f
  unfolding unmarked sum_over
  unmarked-sum [] f = omega arith
  unmarked-sum (x ∷ l) f = go (eqb x v) (unmarked-sum l f)
    where
      go : (b : Bool) → sum_over (unmarked v l) f ≤ sum_over l f → sum_over (cond b (unmarked v l) (x ∷ unmarked v l)) f ≤ f x + sum_over l f
      go true ih = omega arith
      go false ih = omega arith

  pub unmarked-distinct : (l : List ℕ) → Distinct l 0 (length l) → Distinct (unmarked v l) 0 (length (unmarked v l))
  unmarked-distinct l d = occ-distinct (unmarked v l) 0 (length (unmarked v l)) (λ x. omega (
    arith,
    occ-list (unmarked v l) x,
    unmarked-sum l (λ y. one (eqb y x)),
    occ-list l x,
    distinct-occ l 0 (length l) d x,
  ))

  pub without-length : (nets : List Net) → length (nets_without v nets) ≡ length nets
  unfolding nets_without
  without-length [] = refl
  without-length (e ∷ es) = ap suc (without-length es)

  pub without_all : (nets : List Net) (P Q : Net → Type 0) → All nets P → ((e : Net) → P e → Q (record { weight = e.weight; pins = unmarked v e.pins })) → All (nets_without v nets) Q
  unfolding nets_without
  without_all [] P Q a f = tt
  without_all (e ∷ es) P Q a f = (f e a.0, without_all es P Q a.1 f)

  pub without-marks : (nets : List Net) → sum_over (nets_without v nets) (λ e. length e.pins) ≤ sum_over nets (λ e. length e.pins)
  unfolding nets_without sum_over
  without-marks [] = omega arith
  without-marks (e ∷ es) = omega (arith, unmarked-length e.pins, without-marks es)

-- ---- how many of the buyers from i on are named: no more than there are names
unfoldable pub named_from : List ℕ → ℕ → List Net → ℕ
named_from buyers i [] = 0
named_from buyers i (e ∷ es) = one (any buyers (λ b. eqb b i)) + named_from buyers (suc i) es

unfoldable hits : ℕ → ℕ → List Net → ℕ
hits b i [] = 0
hits b i (e ∷ es) = one (eqb b i) + hits b (suc i) es

hits-none : (b i : ℕ) (es : List Net) → b < i → hits b i es ≡ 0
unfolding hits
hits-none b i [] l = refl
hits-none b i (e ∷ es) l = omega (arith, ap one (ne_eqb b i (λ q. omega arith)), hits-none b (suc i) es (omega arith))

hits-le : (b i : ℕ) (es : List Net) → hits b i es ≤ 1
unfolding hits
hits-le b i [] = omega arith
hits-le b i (e ∷ es) = go (ℕ_discrete b i) (hits-le b (suc i) es)
  where
    go : Dec (b ≡ i) → hits b (suc i) es ≤ 1 → one (eqb b i) + hits b (suc i) es ≤ 1
    go (yes q) ih = omega (arith, one-le (eqb b i), hits-none b (suc i) es (omega arith))
    go (no q) ih = omega (arith, ap one (ne_eqb b i q))

named_none : (i : ℕ) (es : List Net) → named_from [] i es ≡ 0
unfolding named_from any
named_none i [] = refl
named_none i (e ∷ es) = omega (arith, named_none (suc i) es)

named_more : (b : ℕ) (bs : List ℕ) (i : ℕ) (es : List Net) → named_from (b ∷ bs) i es ≤ hits b i es + named_from bs i es
unfolding named_from any hits
named_more b bs i [] = omega arith
named_more b bs i (e ∷ es) = go (eqb b i) (any bs (λ x. eqb x i)) (named_more b bs (suc i) es)
  where
    go : (s t : Bool) → named_from (b ∷ bs) (suc i) es ≤ hits b (suc i) es + named_from bs (suc i) es → one (s || t) + named_from (b ∷ bs) (suc i) es ≤ one s + hits b (suc i) es + (one t + named_from bs (suc i) es)
    go true t ih = omega arith
    go false t ih = omega arith

pub named-le : (buyers : List ℕ) (i : ℕ) (es : List Net) → named_from buyers i es ≤ length buyers
named-le [] i es = omega (arith, named_none i es)
named-le (b ∷ bs) i es = omega (arith, named_more b bs i es, hits-le b i es, named-le bs i es)

-- ---- a mark more at v, for the buyers that are named
module _ (v : ℕ) (buyers : List ℕ) where
  pub with-length : (i : ℕ) (nets : List Net) → length (nets_with v buyers i nets) ≡ length nets
  unfolding nets_with
  with-length i [] = refl
  with-length i (e ∷ es) = ap suc (with-length (suc i) es)

  pub with_all : (i : ℕ) (nets : List Net) (P Q : Net → Type 0) → All nets P
      → ((e : Net) → P e → Q (record { weight = e.weight; pins = e.pins }))
      → ((e : Net) → P e → Q (record { weight = e.weight; pins = e.pins ++ (v ∷ []) })) → All (nets_with v buyers i nets) Q
  unfolding nets_with
  with_all i [] P Q a f g = tt
  with_all i (e ∷ es) P Q a f g = (go (any buyers (λ b. eqb b i)), with_all (suc i) es P Q a.1 f g)
    where
      go : (b : Bool) → Q (record { weight = e.weight; pins = cond b (e.pins ++ (v ∷ [])) e.pins })
      go true = g e a.0
      go false = f e a.0

  pub with-marks : (i : ℕ) (nets : List Net) → sum_over (nets_with v buyers i nets) (λ e. length e.pins) ≡ sum_over nets (λ e. length e.pins) + named_from buyers i nets
  unfolding nets_with sum_over named_from
  with-marks i [] = refl
  with-marks i (e ∷ es) = go (any buyers (λ b. eqb b i)) (with-marks (suc i) es)
    where
      go : (b : Bool) → sum_over (nets_with v buyers (suc i) es) (λ e. length e.pins) ≡ sum_over es (λ e. length e.pins) + named_from buyers (suc i) es
          → length (cond b (e.pins ++ (v ∷ [])) e.pins) + sum_over (nets_with v buyers (suc i) es) (λ e. length e.pins) ≡ length e.pins + sum_over es (λ e. length e.pins) + (one b + named_from buyers (suc i) es)
      go true ih = omega (arith, length-append e.pins (v ∷ []))
      go false ih = omega arith
