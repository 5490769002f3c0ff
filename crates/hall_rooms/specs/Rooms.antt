-- What the hall's limit leaves to one catalogue in each session, by the tables of what the blocks of each bear. Assumes nothing.
use Rattle.std.specs.Prelude.{ℕ, zero, suc, ◌+◌, ◌-◌, ◌<◌, ◌≤◌, ◌≡◌, refl, Bool, true, false, cond, List, [], ◌∷◌, ◌++◌, eqb, leb, ltb, length, get_or, set, take, drop}
use Rattle.std.proofs.Math.Decide.{ℕ_discrete}
use Rattle.std.proofs.Common.{arith, sym, ap, ◌∙◌, eq-eqb, ne_eqb, lt-ltb, le-ltb, le-leb, length-set, get_or-set_same, get_or-set_other}
use Rattle.std.proofs.lemmas.Bool.{lt-leb}
use Rattle.laws.specs.Fold.{sum_over}
use Rattle.laws.specs.Sum.{sum, sum-zero, sum_step, sum-ext, sum-front, sum-list}

-- what block t, counted from 0, bears in a row of loads of which k are in use
unfoldable pub bearing : List ℕ → ℕ → ℕ → ℕ
bearing row k t = cond (ltb t k) (get_or row t 0) 0

-- a catalogue's part of what the others bear: none of c itself
unfoldable pub besides : ℕ → ℕ → ℕ → ℕ
besides c d w = cond (eqb d c) 0 w

-- so few bales that no sum passes a word
abbrev pub FewBales : List (List ℕ) → List ℕ → ℕ → ℕ → Type 0
FewBales loads ks count t = (d : ℕ) → d < count → bearing (get_or loads d []) (get_or ks d 0) t ≤ 999999999

abbrev pub others_bear : List (List ℕ) → List ℕ → ℕ → ℕ → ℕ → ℕ
others_bear loads ks count c t = sum count (λ d. besides c d (bearing (get_or loads d []) (get_or ks d 0) t))

-- the first n places of a row are what the limit leaves
pub record Leaves (limit : ℕ) (loads : List (List ℕ)) (ks : List ℕ) (count c n : ℕ) (row : List ℕ) : Type 0 where
  pub len : length row ≡ 16
  pub left : (t : ℕ) → t < n → get_or row t 0 ≡ limit - others_bear loads ks count c t

-- the first n places of a row are the lesser of the cap and the rooms
pub record Least (cap : ℕ) (rooms : List ℕ) (n : ℕ) (row : List ℕ) : Type 0 where
  pub len : length row ≡ 16
  pub least : (t : ℕ) → t < n → get_or row t 0 ≡ cond (leb cap (get_or rooms t 0)) cap (get_or rooms t 0)

-- ---- the arms of the code's tests
pub bears-here : (row : List ℕ) (k t : ℕ) → t < k → get_or row t 0 ≡ bearing row k t
unfolding bearing
bears-here row k t l = sym (ap (λ (b : Bool). cond b (get_or row t 0) 0) (lt-ltb t k l))

pub bears-none : (row : List ℕ) (k t : ℕ) → k ≤ t → 0 ≡ bearing row k t
unfolding bearing
bears-none row k t l = sym (ap (λ (b : Bool). cond b (get_or row t 0) 0) (le-ltb t k l))

pub besides-own : (c d w : ℕ) → d ≡ c → 0 ≡ besides c d w
unfolding besides
besides-own c d w e = sym (ap (λ (b : Bool). cond b 0 w) (eq-eqb d c e))

pub besides-other : (c d w : ℕ) {r : ℕ} → (d ≡ c → ⊥) → r ≡ w → r ≡ besides c d w
unfolding besides
besides-other c d w n e = e ∙ sym (ap (λ (b : Bool). cond b 0 w) (ne_eqb d c n))

pub besides-le : (c d w m : ℕ) → w ≤ m → besides c d w ≤ m
unfolding besides
besides-le c d w m l = go (eqb d c)
  where
    go : (b : Bool) → cond b 0 w ≤ m
    go true = omega arith
    go false = l

-- ---- the loops
pub leaves-more : (limit : ℕ) (loads : List (List ℕ)) (ks : List ℕ) (count c t : ℕ) (row : List ℕ) (v : ℕ) → t < 16 → v ≡ limit - others_bear loads ks count c t → Leaves limit loads ks count c t row → Leaves limit loads ks count c (t + 1) (set row t v)
leaves-more limit loads ks count c t row v h e on = record { len = simp length-set on.len; left = λ i l. go i l (ℕ_discrete i t) }
  where
    go : (i : ℕ) → i < t + 1 → Dec (i ≡ t) → get_or (set row t v) i 0 ≡ limit - others_bear loads ks count c i
    go i l (yes q) = rw q (get_or-set_same row t v 0 (omega (arith, on.len)) ∙ e)
    go i l (no q) = get_or-set_other row t i v 0 q ∙ on.left i (omega (arith, q))

pub least_more : (cap : ℕ) (rooms : List ℕ) (t : ℕ) (row : List ℕ) (v : ℕ) → t < 16 → v ≡ cond (leb cap (get_or rooms t 0)) cap (get_or rooms t 0) → Least cap rooms t row → Least cap rooms (t + 1) (set row t v)
least_more cap rooms t row v h e on = record { len = simp length-set on.len; least = λ i l. go i l (ℕ_discrete i t) }
  where
    go : (i : ℕ) → i < t + 1 → Dec (i ≡ t) → get_or (set row t v) i 0 ≡ cond (leb cap (get_or rooms i 0)) cap (get_or rooms i 0)
    go i l (yes q) = rw q (get_or-set_same row t v 0 (omega (arith, on.len)) ∙ e)
    go i l (no q) = get_or-set_other row t i v 0 q ∙ on.least i (omega (arith, q))

-- ---- all but one of a list
less_one : (c i w : ℕ) → besides (suc c) (suc i) w ≡ besides c i w
less_one c i w = go (ℕ_discrete i c)
  where
    go : Dec (i ≡ c) → besides (suc c) (suc i) w ≡ besides c i w
    go (yes e) = sym (besides-own (suc c) (suc i) w (omega (arith, e))) ∙ besides-own c i w e
    go (no n) = sym (besides-other (suc c) (suc i) w (λ e. n (omega (arith, e))) refl) ∙ besides-other c i w n refl

-- by places: the sum over all places but c
pub sum-others : {A : Type 0} (l : List A) (d : A) (f : A → ℕ) (c : ℕ) → sum (length l) (λ i. besides c i (f (get_or l i d))) ≡ sum_over (take c l ++ drop (suc c) l) f
unfolding sum_over
sum-others [] d f zero = sum-zero _
sum-others [] d f (suc c) = sum-zero _
sum-others (x ∷ l) d f zero =
    let rest : ℕ = sum (length l) (λ i. besides 0 (suc i) (f (get_or l i d))) in
    let front : sum (length (x ∷ l)) (λ i. besides 0 i (f (get_or (x ∷ l) i d))) ≡ besides 0 0 (f x) + rest = sum-front (length l) (λ i. besides 0 i (f (get_or (x ∷ l) i d))) in
    let same : rest ≡ sum_over l f = sum-ext (length l) (λ i. besides 0 (suc i) (f (get_or l i d))) (λ i. f (get_or l i d)) (λ i u. sym (besides-other 0 (suc i) (f (get_or l i d)) (λ e. omega arith) refl)) ∙ sum-list l d f in
    omega (arith, front, same, besides-own 0 0 (f x) refl)
sum-others (x ∷ l) d f (suc c) =
    let rest : ℕ = sum (length l) (λ i. besides (suc c) (suc i) (f (get_or l i d))) in
    let front : sum (length (x ∷ l)) (λ i. besides (suc c) i (f (get_or (x ∷ l) i d))) ≡ besides (suc c) 0 (f x) + rest = sum-front (length l) (λ i. besides (suc c) i (f (get_or (x ∷ l) i d))) in
    let own : f x ≡ besides (suc c) 0 (f x) = besides-other (suc c) 0 (f x) (λ e. omega arith) refl in
    let same : rest ≡ sum_over (take c l ++ drop (suc c) l) f = sum-ext (length l) (λ i. besides (suc c) (suc i) (f (get_or l i d))) (λ i. besides c i (f (get_or l i d))) (λ i u. less_one c i (f (get_or l i d))) ∙ sum-others l d f c in
    omega (arith, front, own, same)

-- ---- the loops' sums
pub bear-more : (loads : List (List ℕ)) (ks : List ℕ) (c t d : ℕ) {all more : ℕ} → all ≡ others_bear loads ks d c t → more ≡ besides c d (bearing (get_or loads d []) (get_or ks d 0) t) → all + more ≡ others_bear loads ks (d + 1) c t
bear-more loads ks c t d p q = omega (arith, p, q, sum_step d (λ i. besides c i (bearing (get_or loads i []) (get_or ks i 0) t)))

pub least_first : (a b : ℕ) → a ≤ b → a ≡ cond (leb a b) a b
least_first a b l = sym (ap (λ (t : Bool). cond t a b) (le-leb a b l))

pub least-second : (a b : ℕ) → b < a → b ≡ cond (leb a b) a b
least-second a b l = sym (ap (λ (t : Bool). cond t a b) (lt-leb a b l))
