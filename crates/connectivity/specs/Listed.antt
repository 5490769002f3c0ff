-- Whether a vertex is among the pins of a stretch, and the rows of 16 entries that vertices have in the tables.
-- Vertices count from 0, pin lists name them from 1. Rests on laws of occurrences.
use Rattle.std.specs.Prelude.{ℕ, zero, suc, ◌+◌, ◌*◌, ◌-◌, ◌<◌, ◌≤◌, ◌≡◌, refl, Bool, true, false, cond, List, eqb, ltb, get_or}
use Rattle.std.proofs.Common.{sym, ap, ◌∙◌, add-one, arith, eq-eqb, ne_eqb, eqb-true, lt-ltb, le-ltb}
use Rattle.std.proofs.Math.Decide.{ℕ_discrete}
use Rattle.laws.specs.Choice.{one}
use Rattle.laws.specs.Occurrence.{occ, In, occ-at, occ-in}

-- the vertex at a place of a stretch
abbrev pub vertex_at : List ℕ → ℕ → ℕ → ℕ
vertex_at pins first j = get_or pins (first + j) 0 - 1

-- whether the vertex q is among the n pins from first
unfoldable pub has : List ℕ → ℕ → ℕ → ℕ → Bool
has pins first zero q = false
has pins first (suc n) q = cond (eqb (get_or pins (first + n) 0) (q + 1)) true (has pins first n q)

pub has-at : (pins : List ℕ) (first u p i : ℕ) → i < p → get_or pins (first + i) 0 ≡ u + 1 → true ≡ has pins first p u
unfolding has
has-at pins first u zero i l e = absurd (omega arith)
has-at pins first u (suc p) i l e = by (has-at pins first u p i) (ℕ_discrete p i)
  where
    by : (i < p → get_or pins (first + i) 0 ≡ u + 1 → true ≡ has pins first p u) → Dec (p ≡ i) → true ≡ cond (eqb (get_or pins (first + p) 0) (u + 1)) true (has pins first p u)
    by rec (yes q) = rw (eq-eqb (get_or pins (first + p) 0) (u + 1) (ap (λ (z : ℕ). get_or pins (first + z) 0) q ∙ e))
    by rec (no q) = or-true (eqb (get_or pins (first + p) 0) (u + 1)) (rec (omega arith) e)
      where
        or-true : (b : Bool) {d : Bool} → true ≡ d → true ≡ cond b true d
        or-true true h = refl
        or-true false h = h

pub has-none : (pins : List ℕ) (first u p : ℕ) → ((i : ℕ) → i < p → get_or pins (first + i) 0 ≡ u + 1 → ⊥) → false ≡ has pins first p u
unfolding has
has-none pins first u zero h = refl
has-none pins first u (suc p) h = rw (ne_eqb (get_or pins (first + p) 0) (u + 1) (h p (omega arith))) (has-none pins first u p (λ i l. h i (omega arith)))

pub in-has : (l : List ℕ) (f n y : ℕ) → In l f n (y + 1) → has l f n y ≡ true
in-has l f n y i = sym (has-at l f y n i.0 i.1 i.2)

pub has_in : (l : List ℕ) (f n y : ℕ) → has l f n y ≡ true → In l f n (y + 1)
unfolding has
has_in l f zero y e = let z : ◌≡◌ {A = ℕ} 0 1 = cc in absurd (omega arith)
has_in l f (suc n) y e = by (has_in l f n y) (eqb (get_or l (f + n) 0) (y + 1)) refl e
  where
    by : (has l f n y ≡ true → In l f n (y + 1)) → (t : Bool) → eqb (get_or l (f + n) 0) (y + 1) ≡ t → cond t true (has l f n y) ≡ true → In l f (suc n) (y + 1)
    by rec true d _ = (n, omega arith, eqb-true _ _ d)
    by rec false d h = let r = rec h in (r.0, omega (arith, r.1), r.2)

pub has-iff : (l l' : List ℕ) (f n n' y y' : ℕ) → (In l f n (y + 1) → In l' f n' (y' + 1)) → (In l' f n' (y' + 1) → In l f n (y + 1)) → has l f n y ≡ has l' f n' y'
has-iff l l' f n n' y y' a b = by (has l f n y) refl (has l' f n' y') refl
  where
    by : (s : Bool) → has l f n y ≡ s → (t : Bool) → has l' f n' y' ≡ t → has l f n y ≡ has l' f n' y'
    by true e true d = e ∙ sym d
    by false e false d = e ∙ sym d
    by true e false d = cc (in-has l' f n' y' (a (has_in l f n y e)))
    by false e true d = cc (in-has l f n y (b (has_in l' f n' y' d)))

pub has-not : (l : List ℕ) (f n y : ℕ) → (In l f n (y + 1) → ⊥) → has l f n y ≡ false
has-not l f n y h = sym (has-none l f y n (λ i u e. h (i, u, e)))

-- only the places of the stretch count
pub has-ext : (l l' : List ℕ) (f n y : ℕ) → ((i : ℕ) → i < n → get_or l' (f + i) 0 ≡ get_or l (f + i) 0) → has l' f n y ≡ has l f n y
unfolding has
has-ext l l' f zero y h = refl
has-ext l l' f (suc n) y h = rw (h n (omega arith), has-ext l l' f n y (λ i u. h i (omega arith))) refl

-- ---- membership by occurrences
pub has-yes : (l : List ℕ) (f n y : ℕ) → 1 ≤ occ l f n (y + 1) → has l f n y ≡ true
has-yes l f n y h = in-has l f n y (occ-in l f n (y + 1) h)

pub has_no : (l : List ℕ) (f n y : ℕ) → occ l f n (y + 1) ≡ 0 → has l f n y ≡ false
has_no l f n y h = has-not l f n y (λ i. omega (arith, occ-at l f n i.0 (y + 1) i.1 i.2))

pub has_same : (l l' : List ℕ) (f n r y : ℕ) → occ l f n (y + 1) ≡ occ l' f r (y + 1) → has l f n y ≡ has l' f r y
has_same l l' f n r y h = has-iff l l' f n r y y
    (λ i. occ-in l' f r (y + 1) (omega (arith, occ-at l f n i.0 (y + 1) i.1 i.2)))
    (λ i. occ-in l f n (y + 1) (omega (arith, occ-at l' f r i.0 (y + 1) i.1 i.2)))

pub has-occ : (l : List ℕ) (f n y : ℕ) → has l f n y ≡ ltb 0 (occ l f n (y + 1))
has-occ l f n y = go (ℕ_discrete (occ l f n (y + 1)) 0)
  where
    go : Dec (occ l f n (y + 1) ≡ 0) → has l f n y ≡ ltb 0 (occ l f n (y + 1))
    go (yes q) = has_no l f n y q ∙ sym (le-ltb 0 (occ l f n (y + 1)) (omega arith))
    go (no q) = has-yes l f n y (omega arith) ∙ sym (lt-ltb 0 (occ l f n (y + 1)) (omega arith))

pub has-is : (l : List ℕ) (f n y : ℕ) (b : Bool) → occ l f n (y + 1) ≡ one b → has l f n y ≡ b
has-is l f n y true q = has-yes l f n y (omega arith)
has-is l f n y false q = has_no l f n y q

-- ---- one place more
pub has-empty : (pins : List ℕ) (first y : ℕ) → has pins first 0 y ≡ false
unfolding has
has-empty pins first y = refl

has_more : (pins : List ℕ) (first p y : ℕ) → has pins first (p + 1) y ≡ cond (eqb (get_or pins (first + p) 0) (y + 1)) true (has pins first p y)
unfolding has
has_more pins first p y = rw add-one

pub has_here : (pins : List ℕ) (first p y : ℕ) → get_or pins (first + p) 0 ≡ y + 1 → has pins first (p + 1) y ≡ true
has_here pins first p y e = rw (has_more pins first p y, eq-eqb (get_or pins (first + p) 0) (y + 1) e)

pub has_there : (pins : List ℕ) (first p y : ℕ) → (get_or pins (first + p) 0 ≡ y + 1 → ⊥) → has pins first (p + 1) y ≡ has pins first p y
has_there pins first p y ne = rw (has_more pins first p y, ne_eqb (get_or pins (first + p) 0) (y + 1) ne)

-- ---- rows of 16

-- no entry of the stretch at b lies in the stretch at a
abbrev pub Clear : ℕ → ℕ → ℕ → Type 0
Clear k a b = (x : ℕ) → x < k → a ≤ b + x → a + k ≤ b + x

pub clear16 : (k a b : ℕ) → k ≤ 16 → (a ≡ b → ⊥) → Clear k (16 * a) (16 * b)
clear16 k a b h ne x l o = omega arith
