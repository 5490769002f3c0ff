-- The rules of the critical counts: two at a column of all other pins, two at the row of the one other pin of a block. Rests on Change and Laid.
use Rattle.std.specs.Prelude.{Option, MatchOption, ℕ, zero, suc, ◌+◌, ◌*◌, ◌-◌, ◌^◌, ◌<◌, ◌≤◌, ◌≡◌, Bool, List, eqb, length, get_or, set, ℤ, ◌+ℤ◌, ◌-ℤ◌, neg_ℤ}
use Rattle.std.proofs.Math.Path.{refl}
use Rattle.std.proofs.Common.{sym, ap, ◌∙◌, subst, true≢false, ⊎_elim, below_more, length-set, get_or-set_same, get_or-set_other, to_z, of_z}
use Rattle.std.proofs.Math.Bool.{true, false, cond}
use native.Mathlib.Omega.{arith}
use Rattle.std.proofs.Math.Decide.{ℕ_discrete}
use borrow.Author.Tests.{eq-eqb, ne_eqb, eqb-true}
use Rattle.std.proofs.Math.IntN.{pos, nat_abs, +ℤ_idr}
use Rattle.std.specs.Int.Signed.{mag}
use Rattle.std.specs.Int.{w32}
use Rattle.laws.specs.Integer.{read32, grow, nat_abs-add, abs_is, pos-is, le-or-lt}
use Rattle.laws.specs.Place.{place, place_at, place-off, place-ext}
use Rattle.connectivity.specs.Raised.{Raised, at}
use Rattle.connectivity.specs.Listed.{vertex_at, clear16, in-has}
use Rattle.connectivity.specs.Row.{row, row-none, row-yes, row_in, row_block}
use Rattle.connectivity.specs.Laid.{Laid, Net, signed, signed-none, signed_le, laid_none, laid_next, laid_more, laid-ext, row-past, pin-block, next-fresh, next_here, next-there}
use Rattle.connectivity.specs.Share.{when, when-le}
use Rattle.connectivity.specs.Change.{when-no, row_but, single, delta, zero-sum, delta-none, delta-some, when-yes, row_but-idle, single-idle}

-- the entries of a vertex's row are at most `B`
abbrev pub Small : ℕ → ℕ → ℕ → List ℤ → Type 0
Small B q k g = (j : ℕ) → j < k → nat_abs (at g (16 * q + j)) ≤ B

pub record Room (g : List ℤ) (q k w : ℕ) : Type 0 where
  pub fit : 16 * q + 16 ≤ length g
  pub few : k ≤ 16
  pub weight : w ≤ 1000
  pub small : Small 2010000 q k g

pub pos-abs : (n : ℕ) → nat_abs (pos n) ≡ n
pos-abs n = omega (arith, abs_is (pos n), pos-is n)

pub raised-still : {f : ℕ → ℤ} {row k : ℕ} (g : List ℤ) → ((j : ℕ) → j < k → f j ≡ pos 0) → Raised f row k g g
raised-still {row = row} g z = record { len = refl; inside = λ j l. sym (ap (λ (t : ℤ). at g (row + j) +ℤ t) (z j l) ∙ +ℤ_idr _); outside = λ i h. refl }

-- ---- changes of all rows
laid-still : {h : ℕ → ℕ → ℤ} {r : ℕ → ℕ} {k : ℕ} (g : List ℤ) → ((y j : ℕ) → j < k → h (r y) j ≡ pos 0) → Laid h r k g g
laid-still g z = record { len = refl; inside = λ y j l. sym (ap (λ (t : ℤ). at g (16 * y + j) +ℤ t) (z y j l) ∙ +ℤ_idr _); outside = λ y j l u. refl }

laid-plus : {h h' : ℕ → ℕ → ℤ} {r : ℕ → ℕ} {k : ℕ} {g g₁ g₂ : List ℤ} → Laid h r k g g₁ → Laid h' r k g₁ g₂ → Laid (λ o j. h o j +ℤ h' o j) r k g g₂
laid-plus {h} {h'} {r} {k} {g} {g₁} {g₂} s t = record {
  len = t.len ∙ s.len;
  inside = λ y j l. grow (at g (16 * y + j)) (at g₁ (16 * y + j)) (at g₂ (16 * y + j)) (h (r y) j) (h' (r y) j) (s.inside y j l) (t.inside y j l);
  outside = λ y j l u. t.outside y j l u ∙ s.outside y j l u;
}

laid_as : {h h' : ℕ → ℕ → ℤ} {r : ℕ → ℕ} {k : ℕ} {g g₁ : List ℤ} → ((o j : ℕ) → h o j ≡ h' o j) → Laid h r k g g₁ → Laid h' r k g g₁
laid_as {r = r} {g = g} e l = record { len = l.len; inside = λ y j u. l.inside y j u ∙ ap (λ (z : ℤ). at g (16 * y + j) +ℤ z) (e (r y) j); outside = l.outside }

small-laid : {h : ℕ → ℕ → ℤ} {r : ℕ → ℕ} {n k : ℕ} {g g₁ : List ℤ} (B : ℕ) → ((y j : ℕ) → y < n → j < k → nat_abs (at g (16 * y + j)) ≤ B) → ((o j : ℕ) → nat_abs (h o j) ≤ 1000) → Laid h r k g g₁ →
    (y j : ℕ) → y < n → j < k → nat_abs (at g₁ (16 * y + j)) ≤ B + 1000
small-laid {h} {r} {g = g} B s e l y j hy hj = rw (l.inside y j hj) (omega (arith, nat_abs-add (at g (16 * y + j)) (h (r y) j), s y j hy hj, e (r y) j))

-- ---- one entry
abbrev pub One : Bool → ℕ → ℕ → ℕ → ℤ
One t a v j = signed t (pos (cond (eqb (j + 1) a) v 0))

one_set : {k : ℕ} {g g₁ : List ℤ} (q : ℕ) (t : Bool) (a w : ℕ) → 1 ≤ a → a ≤ k → k ≤ 16 → 16 * q + 16 ≤ length g →
    g₁ ≡ set g (16 * q + (a - 1)) (at g (16 * q + (a - 1)) +ℤ signed t (pos w)) → Raised (One t a w) (16 * q) k g g₁
one_set {k} {g} q t a w h l few fit d = rw d (record {
  len = length-set g (16 * q + (a - 1)) _;
  inside = λ j u. by j u (ℕ_discrete (j + 1) a);
  outside = λ i u. get_or-set_other g (16 * q + (a - 1)) i _ (pos 0) (λ z. let v : 16 * q ≤ i = omega arith in omega (arith, u v));
})
  where
    by : (j : ℕ) → j < k → Dec (j + 1 ≡ a) → at (set g (16 * q + (a - 1)) (at g (16 * q + (a - 1)) +ℤ signed t (pos w))) (16 * q + j) ≡ at g (16 * q + j) +ℤ One t a w j
    by j u (yes z) =
        let i : 16 * q + (a - 1) ≡ 16 * q + j = omega arith in
        rw (eq-eqb (j + 1) a z, i) (get_or-set_same g (16 * q + j) _ (pos 0) (omega arith))
    by j u (no z) =
        rw (ne_eqb (j + 1) a z, signed-none, +ℤ_idr) (get_or-set_other g (16 * q + (a - 1)) (16 * q + j) _ (pos 0) (λ i. z (omega arith)))

-- ---- a row but one
abbrev pub Rest : Bool → ℕ → ℕ → ℕ → ℤ
Rest t a w j = signed t (pos (cond (eqb (j + 1) a) 0 w))

-- what is added at the block `j`
pub record Amount (j a w r : ℕ) : Type 0 where
  pub own : j + 1 ≡ a → r ≡ 0
  pub off : (j + 1 ≡ a → ⊥) → r ≡ w

pub amount-is : (a w j r : ℕ) → Amount j a w r → r ≡ cond (eqb (j + 1) a) 0 w
amount-is a w j r m = by (ℕ_discrete (j + 1) a)
  where
    by : Dec (j + 1 ≡ a) → r ≡ cond (eqb (j + 1) a) 0 w
    by (yes z) = rw (eq-eqb (j + 1) a z) (m.own z)
    by (no z) = rw (ne_eqb (j + 1) a z) (m.off z)

-- ---- what a rule of the amount `v` gives a pin of the block `o` at the block `j`, nothing where it is no pin
unfoldable pub at_column : Bool → (a v o j : ℕ) → ℤ
at_column t a v o j = cond (eqb o 0) (pos 0) (signed t (pos (cond (eqb (j + 1) a) v 0)))

unfoldable pub at_row : Bool → (a v o j : ℕ) → ℤ
at_row t a v o j = cond (eqb o 0) (pos 0) (signed t (pos (cond (eqb o a) (cond (eqb (j + 1) a) 0 v) 0)))

signed-pos : (t : Bool) (v B : ℕ) → v ≤ B → nat_abs (signed t (pos v)) ≤ B
signed-pos t v B h = omega (arith, signed_le t (pos v), pos-abs v)

either-le : (b : Bool) (v B : ℕ) → v ≤ B → (cond b v 0 ≤ B) × (cond b 0 v ≤ B)
either-le true v B h = (h, omega arith)
either-le false v B h = (omega arith, h)

either-none : (b : Bool) → ◌≡◌ {A = ℕ} (cond b 0 0) 0
either-none true = refl
either-none false = refl

module _ (t : Bool) (a v : ℕ) where
  pub column-none : (j : ℕ) → at_column t a v 0 j ≡ pos 0
  unfolding at_column
  column-none j = refl

  pub column-some : (o j : ℕ) → 1 ≤ o → at_column t a v o j ≡ One t a v j
  unfolding at_column
  column-some o j h = rw (ne_eqb o 0 (λ z. omega arith))

  pub column-le : v ≤ 1000 → (o j : ℕ) → nat_abs (at_column t a v o j) ≤ 1000
  unfolding at_column
  column-le h o j = by (eqb o 0)
    where
      by : (b : Bool) → nat_abs (cond b (pos 0) (signed t (pos (cond (eqb (j + 1) a) v 0)))) ≤ 1000
      by true = omega arith
      by false = signed-pos t (cond (eqb (j + 1) a) v 0) 1000 (either-le (eqb (j + 1) a) v 1000 h).0

  pub row_other : (o j : ℕ) → (o ≡ a → ⊥) → at_row t a v o j ≡ pos 0
  unfolding at_row
  row_other o j ne = by (eqb o 0)
    where
      by : (b : Bool) → cond b (pos 0) (signed t (pos (cond (eqb o a) (cond (eqb (j + 1) a) 0 v) 0))) ≡ pos 0
      by true = refl
      by false = rw (ne_eqb o a ne) (signed-none t)

  pub row-own : (o j : ℕ) → 1 ≤ a → o ≡ a → at_row t a v o j ≡ Rest t a v j
  unfolding at_row
  row-own o j h d = rw (d, ne_eqb a 0 (λ z. omega arith), eq-eqb a a refl) refl

  pub row-le : v ≤ 1000 → (o j : ℕ) → nat_abs (at_row t a v o j) ≤ 1000
  unfolding at_row
  row-le h o j = by (eqb o 0)
    where
      by : (b : Bool) → nat_abs (cond b (pos 0) (signed t (pos (cond (eqb o a) (cond (eqb (j + 1) a) 0 v) 0)))) ≤ 1000
      by true = omega arith
      by false = signed-pos t (cond (eqb o a) (cond (eqb (j + 1) a) 0 v) 0) 1000 (either-le (eqb o a) (cond (eqb (j + 1) a) 0 v) 1000 (either-le (eqb (j + 1) a) v 1000 h).1).0

-- the amount 0 changes nothing
column-zero : (t : Bool) (a o j : ℕ) → at_column t a 0 o j ≡ pos 0
unfolding at_column
column-zero t a o j = by (eqb o 0)
  where
    by : (b : Bool) → cond b (pos 0) (signed t (pos (cond (eqb (j + 1) a) 0 0))) ≡ pos 0
    by true = refl
    by false = ap (λ (z : ℕ). signed t (pos z)) (either-none (eqb (j + 1) a)) ∙ signed-none t

row_zero : (t : Bool) (a o j : ℕ) → at_row t a 0 o j ≡ pos 0
unfolding at_row
row_zero t a o j = by (eqb o 0)
  where
    by : (b : Bool) → cond b (pos 0) (signed t (pos (cond (eqb o a) (cond (eqb (j + 1) a) 0 0) 0))) ≡ pos 0
    by true = refl
    by false = ap (λ (z : ℕ). signed t (pos z)) (ap (λ (z : ℕ). cond (eqb o a) z 0) (either-none (eqb (j + 1) a)) ∙ either-none (eqb o a)) ∙ signed-none t

-- `column_if` and `last_if`: the amount where the count `f` is `want`
module _ {k : ℕ} (r : ℕ → ℕ) (g : List ℤ) (t : Bool) (a f want w : ℕ) where
  pub column-stays : (f ≡ want → ⊥) → Laid (at_column t a (when f want w)) r k g g
  column-stays ne = rw (when-no f want w ne) (laid-still g (λ y j l. column-zero t a (r y) j))

  pub column-goes : {g₁ : List ℤ} → f ≡ want → Laid (at_column t a w) r k g g₁ → Laid (at_column t a (when f want w)) r k g g₁
  column-goes e l = rw (when-yes f want w e) l

  pub last-stays : (f ≡ want → ⊥) → Laid (at_row t a (when f want w)) r k g g
  last-stays ne = rw (when-no f want w ne) (laid-still g (λ y j l. row_zero t a (r y) j))

  pub last_goes : {g₁ : List ℤ} → f ≡ want → Laid (at_row t a w) r k g g₁ → Laid (at_row t a (when f want w)) r k g g₁
  last_goes e l = rw (when-yes f want w e) l

-- ---- the rows of a net's pins
pub record Rows (g : List ℤ) (pins blocks : List ℕ) (n k first p w : ℕ) : Type 0 where
  pub net : Net pins blocks first p n k
  pub blocks-fit : n ≤ length blocks
  pub gains-fit : 16 * n ≤ length g
  pub few : k ≤ 16
  pub weight : w ≤ 1000
  pub small : (y j : ℕ) → y < n → j < k → nat_abs (at g (16 * y + j)) ≤ 2010000

module _ {g : List ℤ} {pins blocks : List ℕ} {n k first p w : ℕ} (c : Rows g pins blocks n k first p w) {i q : ℕ} (hi : i < p) (eq : q ≡ get_or pins (first + i) 0) where
  pub pin-in : (1 ≤ q) × (q ≤ n) × (q ≤ length blocks) × (16 * q ≤ length g)
  pin-in = omega (arith, c.net.in-range i hi, c.blocks-fit, c.gains-fit)

  pub pin-room : Room g (q - 1) k w
  pin-room = record { fit = omega (arith, pin-in); few = c.few; weight = c.weight; small = λ j l. c.small (q - 1) j (omega (arith, pin-in)) l }

-- ---- `shift_column`: the first `i` pins but `x` have had their change
module _ {g : List ℤ} {pins blocks : List ℕ} {n k first p w : ℕ} (c : Rows g pins blocks n k first p w) (x : ℕ) (t : Bool) (a : ℕ) where
  abbrev pub Columned : ℕ → List ℤ → Type 0
  Columned i g₁ = Laid (at_column t a w) (place (row pins blocks first i) x 0) k g g₁

  pub column-start : Columned 0 g
  column-start = laid_none (column-none t a w) _ g (λ y. by y (ℕ_discrete y x))
    where
      by : (y : ℕ) → Dec (y ≡ x) → place (row pins blocks first 0) x 0 y ≡ 0
      by y (yes q) = rw q (place_at (row pins blocks first 0) x 0)
      by y (no q) = place-off (row pins blocks first 0) x 0 y q ∙ row-none pins blocks first y

  pub column-done : {i : ℕ} {g₁ : List ℤ} → i ≡ p → Columned i g₁ → Columned p g₁
  column-done {i} {g₁} e l = subst (λ (z : ℕ). Columned z g₁) e l

  module _ {i q : ℕ} (hi : i < p) (eq : q ≡ get_or pins (first + i) 0) {g₁ : List ℤ} (l : Columned i g₁) where
    pub column-skip : q - 1 ≡ x → Columned (i + 1) g₁
    column-skip z = laid-ext (column-none t a w) l
        (λ y. place-ext (row pins blocks first (i + 1)) (row pins blocks first i) x 0 y (λ ne. next-there c.net hi eq y (λ s. ne (s ∙ z))))

    module _ (ne : q - 1 ≡ x → ⊥) where
      fresh : place (row pins blocks first i) x 0 (q - 1) ≡ 0
      fresh = place-off (row pins blocks first i) x 0 (q - 1) ne ∙ next-fresh c.net hi eq

      pub column-small : {j : ℕ} → j < k → nat_abs (at g₁ (16 * (q - 1) + j)) ≤ 2010000
      column-small {j} h = rw (laid_next (column-none t a w) l (q - 1) fresh j h) (c.small (q - 1) j (omega (arith, pin-in c hi eq)) h)

      pub column-more : {g₂ : List ℤ} → 1 ≤ a → a ≤ k → g₂ ≡ set g₁ (16 * (q - 1) + (a - 1)) (at g₁ (16 * (q - 1) + (a - 1)) +ℤ signed t (pos w)) → Columned (i + 1) g₂
      column-more h u d =
          let r = one_set {g = g₁} (q - 1) t a w h u c.few (omega (arith, pin-in c hi eq, l.len)) d in
          laid_more (column-none t a w) c.few l fresh
          (place-off (row pins blocks first (i + 1)) x 0 (q - 1) ne ∙ next_here c.net hi eq)
          (λ y d'. place-ext (row pins blocks first (i + 1)) (row pins blocks first i) x 0 y (λ _. next-there c.net hi eq y d'))
          (record {
            len = r.len;
            inside = λ j v. r.inside j v ∙ ap (λ (z : ℤ). at g₁ (16 * (q - 1) + j) +ℤ z) (sym (column-some t a w (get_or blocks (q - 1) 0) j (pin-block c.net hi eq refl).0));
            outside = r.outside;
          })

-- ---- `shift_last`: the one pin but `x` of a block

-- at most one of the `n` vertices is of the block `o`
abbrev pub Sole : (ℕ → ℕ) → ℕ → ℕ → Type 0
Sole r n o = (y z : ℕ) → y < n → z < n → r y ≡ o → r z ≡ o → y ≡ z

-- whether the vertex `q` is another one than `x`, of the block `s`
pub record Other (blocks : List ℕ) (q x s : ℕ) (r : Bool) : Type 0 where
  pub yes : r ≡ true → (get_or blocks q 0 ≡ s) × (q ≡ x → ⊥)
  pub no : r ≡ false → get_or blocks q 0 ≡ s → q ≡ x

-- the first place of such a pin, or the number of pins
pub record Found (pins blocks : List ℕ) (first p x s r : ℕ) : Type 0 where
  pub within : r ≤ p
  pub here : r < p → (get_or blocks (vertex_at pins first r) 0 ≡ s) × (vertex_at pins first r ≡ x → ⊥)
  pub before : (i : ℕ) → i < r → get_or blocks (vertex_at pins first i) 0 ≡ s → vertex_at pins first i ≡ x

-- such a pin's first place, or that there is none
abbrev pub FoundOther : (pins blocks : List ℕ) (first p x s : ℕ) → Option ℕ → Type 0
FoundOther pins blocks first p x s r = MatchOption r (Found pins blocks first p x s p) (λ i. (i < p) × Found pins blocks first p x s i)

pub other-same : {blocks : List ℕ} {q x s : ℕ} → q ≡ x → Other blocks q x s false
other-same e = record { yes = λ z. absurd (true≢false (sym z)); no = λ z u. e }

pub other_test : {blocks : List ℕ} {q x s o : ℕ} → (q ≡ x → ⊥) → o ≡ get_or blocks q 0 → Other blocks q x s (eqb o s)
other_test {s = s} {o = o} ne e = record { yes = λ z. (sym e ∙ eqb-true o s z, ne); no = λ z u. absurd (true≢false (sym (eq-eqb o s (e ∙ u)) ∙ z)) }

-- no pin before the place `i` is such a one
abbrev pub Passed : List ℕ → List ℕ → ℕ → ℕ → ℕ → ℕ → Type 0
Passed pins blocks first x s i = (j : ℕ) → j < i → get_or blocks (vertex_at pins first j) 0 ≡ s → vertex_at pins first j ≡ x

module _ (pins blocks : List ℕ) (first p x s : ℕ) where
  pub passed_none : Passed pins blocks first x s 0
  passed_none j l = absurd (omega arith)

  pub passed-more : {i q : ℕ} → Passed pins blocks first x s i → q ≡ get_or pins (first + i) 0 → Other blocks (q - 1) x s false → Passed pins blocks first x s (i + 1)
  passed-more {i} {q} u e o = below_more (λ j. get_or blocks (vertex_at pins first j) 0 ≡ s → vertex_at pins first j ≡ x) i u (subst (λ (z : ℕ). get_or blocks (z - 1) 0 ≡ s → z - 1 ≡ x) e (o.no refl))

  pub found_here : {i q : ℕ} → i < p → Passed pins blocks first x s i → q ≡ get_or pins (first + i) 0 → Other blocks (q - 1) x s true → Found pins blocks first p x s i
  found_here l u e o = record { within = omega arith; here = λ z. subst (λ (v : ℕ). (get_or blocks (v - 1) 0 ≡ s) × (v - 1 ≡ x → ⊥)) e (o.yes refl); before = u }

  pub found_none : {i : ℕ} → i ≡ p → Passed pins blocks first x s i → Found pins blocks first p x s p
  found_none e u = record { within = omega arith; here = λ z. absurd (omega arith); before = rw (← e) u }

module _ {g : List ℤ} {pins blocks : List ℕ} {n k first p w : ℕ} (c : Rows g pins blocks n k first p w) (x : ℕ) (t : Bool) (a : ℕ) where
  abbrev R : ℕ → ℕ
  R = place (row pins blocks first p) x 0

  module _ (h : 1 ≤ a) where
    -- a vertex that the row has in the block `a` is another pin than `x`
    in-last : (y : ℕ) → R y ≡ a → (y ≡ x → ⊥) × (row pins blocks first p y ≡ a)
    in-last y e = by (ℕ_discrete y x)
      where
        by : Dec (y ≡ x) → (y ≡ x → ⊥) × (row pins blocks first p y ≡ a)
        by (yes q) = absurd (omega (arith, e, ap R q, place_at (row pins blocks first p) x 0))
        by (no q) = (q, sym (place-off (row pins blocks first p) x 0 y q) ∙ e)

    pub last_none : {r : ℕ} → Found pins blocks first p x a r → r ≡ p → Laid (at_row t a w) R k g g
    last_none {r} o e = laid-still g (λ y j l. row_other t a w (R y) j (λ z. away y (in-last y z)))
      where
        away : (y : ℕ) → (y ≡ x → ⊥) × (row pins blocks first p y ≡ a) → ⊥
        away y u =
            let m = row_in pins blocks first p y (omega (arith, u.1)) in
            let v : vertex_at pins first m.0 ≡ y = omega (arith, m.2) in
            u.0 (sym v ∙ o.before m.0 (omega (arith, m.1)) (ap (λ (z : ℕ). get_or blocks z 0) v ∙ sym (row_block pins blocks first p y (omega (arith, u.1))) ∙ u.1))

    pub last_some : {r q : ℕ} {g₁ : List ℤ} → Found pins blocks first p x a r → r < p → q ≡ get_or pins (first + r) 0 → Sole R n a → Raised (Rest t a w) (16 * (q - 1)) k g g₁ → Laid (at_row t a w) R k g g₁
    last_some {r} {q} {g₁} o l eq sole u = record {
      len = u.len;
      inside = λ y j v. by y j v (ℕ_discrete y (q - 1));
      outside = λ y j v z. u.outside (16 * y + j) (λ s. omega (arith, c.few));
    }
      where
        is-q : vertex_at pins first r ≡ q - 1
        is-q = omega arith

        in-q : R (q - 1) ≡ a
        in-q = place-off (row pins blocks first p) x 0 (q - 1) (λ z. (o.here l).1 (is-q ∙ z))
            ∙ row-yes pins blocks first p (q - 1) (in-has pins first p (q - 1) (r, l, omega (arith, pin-in c l eq)))
            ∙ ap (λ (z : ℕ). get_or blocks z 0) (sym is-q) ∙ (o.here l).0

        y-in : (y : ℕ) → R y ≡ a → y < n
        y-in y z = ⊎_elim (λ v. absurd (omega (arith, row-past c.net y v, in-last y z))) (λ v. v) (le-or-lt n y)

        by : (y j : ℕ) → j < k → Dec (y ≡ q - 1) → at g₁ (16 * y + j) ≡ at g (16 * y + j) +ℤ at_row t a w (R y) j
        by y j v (yes z) = rw z (u.inside j v ∙ ap (λ (s : ℤ). at g (16 * (q - 1) + j) +ℤ s) (sym (row-own t a w (R (q - 1)) j h in-q)))
        by y j v (no z) =
            u.outside (16 * y + j) (clear16 k (q - 1) y c.few (λ s. z (sym s)) j v)
            ∙ sym (ap (λ (s : ℤ). at g (16 * y + j) +ℤ s) (row_other t a w (R y) j (λ s. z (sole y (q - 1) (y-in y s) (omega (arith, pin-in c l eq)) s in-q))) ∙ +ℤ_idr _)

-- ---- all four
abbrev pub Delta : ℕ → ℕ → ℕ → ℕ → ℕ → ℕ → ℕ → ℤ
Delta a b fa fb w o j = delta a b fa fb w o (j + 1)

pub record Others (g : List ℤ) (pins blocks : List ℕ) (n k first p x a b fa fb w : ℕ) : Type 0 where
  pub net : Net pins blocks first p n k
  pub blocks-fit : n ≤ length blocks
  pub gains-fit : 16 * n ≤ length g
  pub few : k ≤ 16
  pub weight : w ≤ 1000
  pub a_in : a ≤ k
  pub b-in : b ≤ k
  pub a-some : fa ≡ 1 → 1 ≤ a
  pub b-some : fb ≡ 0 → 1 ≤ b
  pub a-sole : fa ≡ 2 → (1 ≤ a) × Sole (place (row pins blocks first p) x 0) n a
  pub b-sole : fb ≡ 1 → (1 ≤ b) × Sole (place (row pins blocks first p) x 0) n b
  pub small : (y j : ℕ) → y < n → j < k → nat_abs (at g (16 * y + j)) ≤ 2000000

pub delta-idle : (a b fa fb w o c : ℕ) → 2 < fa → 1 < fb → delta a b fa fb w o c ≡ pos 0
delta-idle a b fa fb w zero c ha hb = delta-none a b fa fb w c
delta-idle a b fa fb w (suc o) c ha hb =
    delta-some a b fa fb w (suc o) c (omega arith)
    ∙ zero-sum (row_but-idle fa 2 (suc o) a w c (λ z. omega arith)) (row_but-idle fb 1 (suc o) b w c (λ z. omega arith)) (single-idle fa 1 a w c (λ z. omega arith)) (single-idle fb 0 b w c (λ z. omega arith))

rules-add : (a b fa fb w o j : ℕ) → ((at_row false a (when fa 2 w) o j +ℤ at_row true b (when fb 1 w) o j) +ℤ at_column true a (when fa 1 w) o j) +ℤ at_column false b (when fb 0 w) o j ≡ Delta a b fa fb w o j
unfolding at_row at_column signed delta row_but single
rules-add a b fa fb w o j = by (eqb o 0) (row_but fa 2 o a w (j + 1)) (row_but fb 1 o b w (j + 1)) (single fa 1 a w (j + 1)) (single fb 0 b w (j + 1))
  where
    by : (t : Bool) (p q r s : ℕ) → ((cond t (pos 0) (pos p) +ℤ cond t (pos 0) (neg_ℤ (pos q))) +ℤ cond t (pos 0) (neg_ℤ (pos r))) +ℤ cond t (pos 0) (pos s)
        ≡ cond t (pos 0) (((pos p +ℤ neg_ℤ (pos q)) +ℤ neg_ℤ (pos r)) +ℤ pos s)
    by true p q r s = refl
    by false p q r s = refl

module _ {g : List ℤ} {pins blocks : List ℕ} {n k first p x a b fa fb w : ℕ} (c : Others g pins blocks n k first p x a b fa fb w) where
  pub others-idle : 2 < fa → 1 < fb → Laid (Delta a b fa fb w) (place (row pins blocks first p) x 0) k g g
  others-idle ha hb = laid-still g (λ y j l. delta-idle a b fa fb w (place (row pins blocks first p) x 0 y) (j + 1) ha hb)

  light : (f want : ℕ) → when f want w ≤ 1000
  light f want = omega (arith, when-le f want w, c.weight)

  -- room for each of the four
  rows : {g₁ : List ℤ} (B : ℕ) → B ≤ 2010000 → length g₁ ≡ length g → ((y j : ℕ) → y < n → j < k → nat_abs (at g₁ (16 * y + j)) ≤ B) → Rows g₁ pins blocks n k first p w
  rows B l e s = record {
    net = c.net;
    blocks-fit = c.blocks-fit;
    gains-fit = omega (arith, c.gains-fit, e);
    few = c.few;
    weight = c.weight;
    small = λ y j hy hj. omega (arith, s y j hy hj);
  }

  pub rows-0 : Rows g pins blocks n k first p w
  rows-0 = rows 2000000 (omega arith) refl c.small

  module _ {g₁ : List ℤ} (l₁ : Laid (at_row false a (when fa 2 w)) (place (row pins blocks first p) x 0) k g g₁) where
    small-1 : (y j : ℕ) → y < n → j < k → nat_abs (at g₁ (16 * y + j)) ≤ 2001000
    small-1 = small-laid 2000000 c.small (row-le false a (when fa 2 w) (light fa 2)) l₁

    pub rows-1 : Rows g₁ pins blocks n k first p w
    rows-1 = rows 2001000 (omega arith) l₁.len small-1

    module _ {g₂ : List ℤ} (l₂ : Laid (at_row true b (when fb 1 w)) (place (row pins blocks first p) x 0) k g₁ g₂) where
      small-2 : (y j : ℕ) → y < n → j < k → nat_abs (at g₂ (16 * y + j)) ≤ 2002000
      small-2 = small-laid 2001000 small-1 (row-le true b (when fb 1 w) (light fb 1)) l₂

      pub rows-2 : Rows g₂ pins blocks n k first p w
      rows-2 = rows 2002000 (omega arith) (l₂.len ∙ l₁.len) small-2

      module _ {g₃ : List ℤ} (l₃ : Laid (at_column true a (when fa 1 w)) (place (row pins blocks first p) x 0) k g₂ g₃) where
        pub rows-3 : Rows g₃ pins blocks n k first p w
        rows-3 = rows 2003000 (omega arith) (l₃.len ∙ l₂.len ∙ l₁.len) (small-laid 2002000 small-2 (column-le true a (when fa 1 w) (light fa 1)) l₃)

        pub others-touched : {g₄ : List ℤ} → Laid (at_column false b (when fb 0 w)) (place (row pins blocks first p) x 0) k g₃ g₄ → Laid (Delta a b fa fb w) (place (row pins blocks first p) x 0) k g g₄
        others-touched l₄ = laid_as (rules-add a b fa fb w) (laid-plus (laid-plus (laid-plus l₁ l₂) l₃) l₄)

-- ---- the stores of `shift_at`
pub shift-taken : (g : List ℤ) {g' : List ℤ} (i w : ℕ) (t : Bool) (s : ℤ) → t ≡ true → mag s < 2 ^ 31 → s ≡ pos w → g' ≡ set g i (at g i -ℤ to_z w32 (of_z w32 s)) → g' ≡ set g i (at g i +ℤ signed t (pos w))
unfolding signed
shift-taken g i w t s e f es d = d ∙ rw (e, read32 s f, es) refl

pub shift-put : (g : List ℤ) {g' : List ℤ} (i w : ℕ) (t : Bool) (s : ℤ) → t ≡ false → mag s < 2 ^ 31 → s ≡ pos w → g' ≡ set g i (at g i +ℤ to_z w32 (of_z w32 s)) → g' ≡ set g i (at g i +ℤ signed t (pos w))
unfolding signed
shift-put g i w t s e f es d = d ∙ rw (e, read32 s f, es) refl
