-- Laws of a matrix' row and of its counts, and the row that a pin list gives. Rests on Matrix and Listed.
use Rattle.std.specs.Prelude.{ℕ, zero, suc, ◌+◌, ◌-◌, ◌<◌, ◌≤◌, ◌≡◌, refl, Bool, true, false, cond, List, eqb, get_or, set, pos, nat_abs, ◌-ℤ◌}
use Rattle.std.proofs.Common.{sym, ap, ◌∙◌, arith, eq-eqb, ne_eqb, get_or-set_other}
use Rattle.std.proofs.Math.Decide.{ℕ_discrete}
use Rattle.laws.specs.Choice.{one}
use Rattle.laws.specs.Sum.{count_below, count-change, count-le, sum-ext}
use Rattle.laws.specs.Integer.{nat_abs-diff}
use Rattle.laws.specs.Occurrence.{In}
use Rattle.laws.specs.Place.{place, place_at, place-off}
use Rattle.connectivity.specs.Share.{when, when-le, share}
use Rattle.connectivity.specs.Listed.{has, has_in, has-none, has-empty, has_here, has_there}
use Rattle.connectivity.specs.Matrix.{row_count, share_of, set_pin, set_row}

pub set_pin-here : (Q : ℕ → ℕ → ℕ) (e x b : ℕ) → set_pin Q e x b e ≡ place (Q e) x b
unfolding set_pin
set_pin-here Q e x b = rw (eq-eqb e e refl)

pub set_pin-there : (Q : ℕ → ℕ → ℕ) (e x b d : ℕ) → (d ≡ e → ⊥) → set_pin Q e x b d ≡ Q d
unfolding set_pin
set_pin-there Q e x b d ne = rw (ne_eqb d e ne)

pub set_row-here : (Q : ℕ → ℕ → ℕ) (e : ℕ) (r : ℕ → ℕ) → set_row Q e r e ≡ r
unfolding set_row
set_row-here Q e r = rw (eq-eqb e e refl)

pub set_row-there : (Q : ℕ → ℕ → ℕ) (e : ℕ) (r : ℕ → ℕ) (d : ℕ) → (d ≡ e → ⊥) → set_row Q e r d ≡ Q d
unfolding set_row
set_row-there Q e r d ne = rw (ne_eqb d e ne)

-- the law of counts
pub row_count-place : (n : ℕ) (r : ℕ → ℕ) (x b c : ℕ) → x < n → row_count n (place r x b) c + one (eqb (r x) c) ≡ row_count n r c + one (eqb b c)
unfolding row_count
row_count-place n r x b c h =
    sym (count-change n x (λ y. eqb (r y) c) (λ y. eqb (place r x b y) c) h (λ y l ne. ap (λ (z : ℕ). eqb z c) (sym (place-off r x b y ne))))
    ∙ ap (λ (z : ℕ). count_below n (λ y. eqb (r y) c) + one (eqb z c)) (place_at r x b)

pub row_count-le : (n : ℕ) (r : ℕ → ℕ) (c : ℕ) → row_count n r c ≤ n
unfolding row_count
row_count-le n r c = count-le n (λ y. eqb (r y) c)

pub row_count-ext : (n : ℕ) (r r' : ℕ → ℕ) (c : ℕ) → ((y : ℕ) → y < n → r y ≡ r' y) → row_count n r c ≡ row_count n r' c
unfolding row_count
row_count-ext n r r' c h = sum-ext n (λ y. one (eqb (r y) c)) (λ y. one (eqb (r' y) c)) (λ y l. ap (λ (z : ℕ). one (eqb z c)) (h y l))

-- the law of shares: they look at two counts
pub share_of-ext : (f f' : ℕ → ℕ) (w a c : ℕ) → (1 ≤ a → f a ≡ f' a) → f c ≡ f' c → share_of f w a c ≡ share_of f' w a c
unfolding share_of
share_of-ext f f' w zero c h e = refl
share_of-ext f f' w (suc a) c h e = rw (h (omega arith), e) refl

pub share_of-none : (f : ℕ → ℕ) (w c : ℕ) → share_of f w 0 c ≡ pos 0
unfolding share_of
share_of-none f w c = refl

pub share_of-le : (f : ℕ → ℕ) (w a c : ℕ) → nat_abs (share_of f w a c) ≤ w
unfolding share_of
share_of-le f w a c = by (eqb a 0) (eqb c a)
  where
    by : (s t : Bool) → nat_abs (cond s (pos 0) (cond t (pos 0) (pos (when (f a) 1 w) -ℤ pos (when (f c) 0 w)))) ≤ w
    by true t = omega arith
    by false true = omega arith
    by false false = nat_abs-diff (when (f a) 1 w) (when (f c) 0 w) w (when-le (f a) 1 w) (when-le (f c) 0 w)

-- the counts of a table, by the block
abbrev pub read : List ℕ → ℕ → ℕ → ℕ
read counts crow b = get_or counts (crow + (b - 1)) 0

eqb-more : (j a : ℕ) → eqb j a ≡ eqb (j + 1) (a + 1)
eqb-more j a = by (ℕ_discrete j a)
  where
    by : Dec (j ≡ a) → eqb j a ≡ eqb (j + 1) (a + 1)
    by (yes q) = eq-eqb j a q ∙ sym (eq-eqb (j + 1) (a + 1) (omega arith))
    by (no q) = ne_eqb j a q ∙ sym (ne_eqb (j + 1) (a + 1) (λ r. q (omega arith)))

pub share-is : (counts : List ℕ) (crow a w j : ℕ) → 1 ≤ a → share counts crow (a - 1) w j ≡ share_of (read counts crow) w a (j + 1)
unfolding share share_of
share-is counts crow a w j h =
    let p : j + 1 - 1 ≡ j = omega arith in
    let q : a - 1 + 1 ≡ a = omega arith in
    rw (eqb-more j (a - 1), ne_eqb a 0 (λ z. omega arith), q, p) refl

-- the row of the first `p` pins from `first`
unfoldable pub row : List ℕ → List ℕ → ℕ → ℕ → ℕ → ℕ
row pins blocks first p y = cond (has pins first p y) (get_or blocks y 0) 0

module _ (pins blocks : List ℕ) (first : ℕ) where
  pub row-none : (y : ℕ) → row pins blocks first 0 y ≡ 0
  unfolding row
  row-none y = rw (has-empty pins first y)

  pub row_here : (p y : ℕ) → get_or pins (first + p) 0 ≡ y + 1 → row pins blocks first (p + 1) y ≡ get_or blocks y 0
  unfolding row
  row_here p y e = rw (has_here pins first p y e)

  pub row-there : (p y : ℕ) → (get_or pins (first + p) 0 ≡ y + 1 → ⊥) → row pins blocks first (p + 1) y ≡ row pins blocks first p y
  unfolding row
  row-there p y ne = rw (has_there pins first p y ne)

  pub row-not : (p y : ℕ) → ((i : ℕ) → i < p → get_or pins (first + i) 0 ≡ y + 1 → ⊥) → row pins blocks first p y ≡ 0
  unfolding row
  row-not p y h = rw (← has-none pins first y p h)

pub row-yes : (pins blocks : List ℕ) (first p y : ℕ) → has pins first p y ≡ true → row pins blocks first p y ≡ get_or blocks y 0
unfolding row
row-yes pins blocks first p y e = rw e refl

pub row-no : (pins blocks : List ℕ) (first p y : ℕ) → has pins first p y ≡ false → row pins blocks first p y ≡ 0
unfolding row
row-no pins blocks first p y e = rw e refl

-- a vertex that the row has is among the pins, in its block
module _ (pins blocks : List ℕ) (first p y : ℕ) (h : 1 ≤ row pins blocks first p y) where
  row_has : has pins first p y ≡ true
  row_has = by (has pins first p y) refl
    where
      by : (t : Bool) → has pins first p y ≡ t → has pins first p y ≡ true
      by true e = e
      by false e = absurd (omega (arith, h, row-no pins blocks first p y e))

  pub row_in : In pins first p (y + 1)
  row_in = has_in pins first p y row_has

  pub row_block : row pins blocks first p y ≡ get_or blocks y 0
  row_block = row-yes pins blocks first p y row_has

-- membership alone counts
pub row_by : (pins pins' blocks : List ℕ) (first p r y : ℕ) → has pins first p y ≡ has pins' first r y → row pins blocks first p y ≡ row pins' blocks first r y
unfolding row
row_by pins pins' blocks first p r y e = rw e refl

-- another vertex' block is stored
pub row-set : (pins blocks : List ℕ) (first p v s y : ℕ) → (y ≡ v → ⊥) → row pins blocks first p y ≡ row pins (set blocks v s) first p y
unfolding row
row-set pins blocks first p v s y ne = ap (λ (z : ℕ). cond (has pins first p y) z 0) (sym (get_or-set_other blocks v y s 0 ne))
