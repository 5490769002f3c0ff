-- When a vertex goes from block s to block t, the gain of another vertex x for a block b does not rise, unless a net of both has now one pin in s,
-- and x is there, or has now one pin in t, and b is t. `lt_z a b ≡ false` says that b is a or less. Rests on levels' World. Assumes nothing.
use Rattle.std.specs.Prelude.{ℕ, zero, suc, ◌+◌, ◌*◌, ◌-◌, ◌<◌, ◌≤◌, ◌≡◌, refl, Bool, true, false, not, List, T, eqb, get_or, ℤ, pos, ◌+ℤ◌, ◌-ℤ◌}
use Rattle.std.proofs.Math.Decide.{ℕ_discrete}
use Rattle.std.proofs.Common.{arith, sym, ◌∙◌, subst, eq-eqb, ne_eqb}
use Rattle.std.proofs.Math.Path.{ap}
use Rattle.std.proofs.Math.Bool.{cond}
use Rattle.std.specs.Int.Signed.{lt_z, lt_z_yes, lt_z_no}
use Rattle.laws.specs.Choice.{one}
use Rattle.laws.specs.Sum.{term-le}
use Rattle.laws.specs.Place.{place, place_at, place-off}
use Rattle.laws.specs.Integer.{up, dn, add_is, sub_is, pos-is, le_parts, lt-parts}
use Rattle.laws.specs.IntegerSum.{sum_z}
use Rattle.connectivity.specs.Share.{when}
use Rattle.connectivity.specs.Raised.{at}
use Rattle.connectivity.specs.Listed.{has}
use Rattle.connectivity.specs.Matrix.{row_count, share_of, row_share}
use Rattle.connectivity.specs.Row.{row, row-yes, row-no, row_count-place, row_count-ext, share_of-ext, share_of-none}
use Rattle.levels.specs.World.{World, mat}

-- ---- the order of two integers, by their parts
pub not-less : (a b : ℤ) → up b + dn a ≤ up a + dn b → lt_z a b ≡ false
not-less a b l = go (lt_z a b) refl
  where
    go : (t : Bool) → lt_z a b ≡ t → lt_z a b ≡ false
    go true e = absurd (omega (arith, lt-parts a b (lt_z_yes (subst T (sym e) tt))))
    go false e = e

pub less-not : (a b : ℤ) → lt_z a b ≡ false → up b + dn a ≤ up a + dn b
less-not a b e = le_parts b a (lt_z_no (subst (λ (t : Bool). T (not t)) (sym e) tt))

not-less-same : (a b : ℤ) → a ≡ b → lt_z a b ≡ false
not-less-same a b e = not-less a b (omega (arith, ap up e, ap dn e))

-- terms that are no more, and their sums
pub sum_z-le : (f g : ℕ → ℤ) (m : ℕ) → ((e : ℕ) → e < m → lt_z (f e) (g e) ≡ false) → lt_z (sum_z f m) (sum_z g m) ≡ false
unfolding sum_z
sum_z-le f g zero h = refl
sum_z-le f g (suc m) h = not-less (sum_z f m +ℤ f m) (sum_z g m +ℤ g m) (omega (
  arith,
  add_is (sum_z f m) (f m),
  add_is (sum_z g m) (g m),
  less-not (sum_z f m) (sum_z g m) (sum_z-le f g m (λ e l. h e (omega arith))),
  less-not (f m) (g m) (h m (omega arith)),
))

-- ---- one net
-- a weight that is given for one number is given for the other
when-to : (a b want w : ℕ) → (a ≡ want → b ≡ want) → when a want w ≤ when b want w
unfolding when
when-to a b want w h = go (ℕ_discrete a want)
  where
    go : Dec (a ≡ want) → cond (eqb a want) w 0 ≤ cond (eqb b want) w 0
    go (yes q) = rw (eq-eqb a want q, eq-eqb b want (h q)) (omega arith)
    go (no q) = rw (ne_eqb a want q) (omega arith)

-- less is given and more taken
diff-falls : (a b c d : ℕ) → c ≤ a → b ≤ d → lt_z (pos a -ℤ pos b) (pos c -ℤ pos d) ≡ false
diff-falls a b c d h l = not-less (pos a -ℤ pos b) (pos c -ℤ pos d) (omega (
  arith,
  sub_is (pos a) (pos b),
  sub_is (pos c) (pos d),
  pos-is a,
  pos-is b,
  pos-is c,
  pos-is d,
))

-- shares by two tables of counts: c before, c' after
share-falls : (c c' : ℕ → ℕ) (w a b : ℕ) → (c' a ≡ 1 → c a ≡ 1) → (c b ≡ 0 → c' b ≡ 0) → lt_z (share_of c w a b) (share_of c' w a b) ≡ false
unfolding share_of
share-falls c c' w a b own other = go (eqb a 0) (eqb b a)
  where
    go : (p q : Bool)
        → lt_z (cond p (pos 0) (cond q (pos 0) (pos (when (c a) 1 w) -ℤ pos (when (c b) 0 w)))) (cond p (pos 0) (cond q (pos 0) (pos (when (c' a) 1 w) -ℤ pos (when (c' b) 0 w)))) ≡ false
    go true q = refl
    go false true = refl
    go false false = diff-falls (when (c a) 1 w) (when (c b) 0 w) (when (c' a) 1 w) (when (c' b) 0 w) (when-to (c' a) (c a) 1 w own) (when-to (c b) (c' b) 0 w other)

-- a block that has a pin of the row counts it
row_count-has : (n : ℕ) (r : ℕ → ℕ) (x b : ℕ) → x < n → r x ≡ b → 1 ≤ row_count n r b
unfolding row_count
row_count-has n r x b l q = omega (arith, term-le n x (λ y. one (eqb (r y) b)) l, ap one (eq-eqb (r x) b q))

-- the row r of a net becomes r', with u in t and no longer in s
module _ (n u s t : ℕ) (r r' : ℕ → ℕ) (u-in : u < n) (away : s ≡ t → ⊥) (from : r u ≡ s) (moved : (y : ℕ) → y < n → r' y ≡ place r u t y) where
  pub moved-count : (b : ℕ) → row_count n r' b + one (eqb s b) ≡ row_count n r b + one (eqb t b)
  moved-count b =
      ap (λ (z : ℕ). z + one (eqb s b)) (row_count-ext n r' (place r u t) b moved)
      ∙ ap (λ (z : ℕ). row_count n (place r u t) b + one (eqb z b)) (sym from)
      ∙ row_count-place n r u t b u-in

  count-to : row_count n r' t ≡ row_count n r t + 1
  count-to = omega (arith, moved-count t, ap one (eq-eqb t t refl), ap one (ne_eqb s t away))

  count-off : (b : ℕ) → (b ≡ s → ⊥) → (b ≡ t → ⊥) → row_count n r' b ≡ row_count n r b
  count-off b ns nt = omega (arith, moved-count b, ap one (ne_eqb s b (λ q. ns (sym q))), ap one (ne_eqb t b (λ q. nt (sym q))))

  module _ (w x b : ℕ) (x-in : x < n) (other : x ≡ u → ⊥) (last : row_count n r' s ≡ 1 → r x ≡ s → ⊥) (first : row_count n r' t ≡ 1 → b ≡ t → ⊥) where
    own-count : row_count n r' (r x) ≡ 1 → row_count n r (r x) ≡ 1
    own-count q = go (ℕ_discrete (r x) s) (ℕ_discrete (r x) t)
      where
        go : Dec (r x ≡ s) → Dec (r x ≡ t) → row_count n r (r x) ≡ 1
        go (yes a) d = absurd (last (ap (row_count n r') (sym a) ∙ q) a)
        go (no a) (yes d) = absurd (omega (arith, q, ap (row_count n r') d, count-to, row_count-has n r x t x-in d))
        go (no a) (no d) = sym (count-off (r x) a d) ∙ q

    other-count : row_count n r b ≡ 0 → row_count n r' b ≡ 0
    other-count q = go (ℕ_discrete b s) (ℕ_discrete b t)
      where
        go : Dec (b ≡ s) → Dec (b ≡ t) → row_count n r' b ≡ 0
        go (yes a) d = absurd (omega (arith, q, ap (row_count n r) a, row_count-has n r u s u-in from))
        go (no a) (yes d) = absurd (first (omega (arith, q, ap (row_count n r) d, count-to)) d)
        go (no a) (no d) = count-off b a d ∙ q

    row-falls : lt_z (row_share n w r x b) (row_share n w r' x b) ≡ false
    row-falls =
        let same : r' x ≡ r x = moved x x-in ∙ place-off r u t x other in
        subst (λ (a : ℕ). lt_z (row_share n w r x b) (share_of (row_count n r') w a b) ≡ false) (sym same)
        (share-falls (row_count n r) (row_count n r') w (r x) b own-count other-count)

-- rows with the same values have the same shares
row_same : (n w x b : ℕ) (r r' : ℕ → ℕ) → x < n → ((y : ℕ) → y < n → r y ≡ r' y) → lt_z (row_share n w r x b) (row_share n w r' x b) ≡ false
row_same n w x b r r' l h = not-less-same _ _ (
    share_of-ext (row_count n r) (row_count n r') w (r x) b (λ _. row_count-ext n r r' (r x) h) (row_count-ext n r r' b h)
    ∙ ap (λ (a : ℕ). share_of (row_count n r') w a b) (h x l))

-- a vertex that neither row has
row_out : (n w x b : ℕ) (r r' : ℕ → ℕ) → r x ≡ 0 → r' x ≡ 0 → lt_z (row_share n w r x b) (row_share n w r' x b) ≡ false
row_out n w x b r r' e e' = not-less-same _ _ (
    ap (λ (a : ℕ). share_of (row_count n r) w a b) e ∙ share_of-none (row_count n r) w b
    ∙ sym (ap (λ (a : ℕ). share_of (row_count n r') w a b) e' ∙ share_of-none (row_count n r') w b))

-- ---- all nets
-- the net e has not one pin in s, if x is there, and not one in t, if the block at j is t
abbrev pub Quiet : List ℕ → List ℕ → ℕ → ℕ → ℕ → ℕ → ℕ → Type 0
Quiet counts blocks s t x j e = (get_or counts (16 * e + (s - 1)) 0 ≡ 1 → get_or blocks x 0 ≡ s → ⊥) × (get_or counts (16 * e + (t - 1)) 0 ≡ 1 → j + 1 ≡ t → ⊥)

module _ {weights counts counts' visited visited' pins blocks blocks' firsts sizes : List ℕ} {gains gains' : List ℤ} {n m k u s t : ℕ}
    (w : World weights counts visited pins blocks firsts sizes gains n m k)
    (w' : World weights counts' visited' pins blocks' firsts sizes gains' n m k)
    (u-in : u < n) (s-in : (1 ≤ s) × (s ≤ k)) (t-in : (1 ≤ t) × (t ≤ k)) (away : s ≡ t → ⊥)
    (from : get_or blocks u 0 ≡ s) (to : get_or blocks' u 0 ≡ t)
    (others : (y : ℕ) → y < n → (y ≡ u → ⊥) → get_or blocks' y 0 ≡ get_or blocks y 0) where
  abbrev among : ℕ → ℕ → Bool
  among e y = has pins (get_or firsts e 0) (get_or sizes e 0) y

  abbrev before : ℕ → ℕ → ℕ
  before = mat pins blocks firsts sizes

  abbrev after : ℕ → ℕ → ℕ
  after = mat pins blocks' firsts sizes

  pub count-is : (e b : ℕ) → e < m → (1 ≤ b) × (b ≤ k) → get_or counts' (16 * e + (b - 1)) 0 ≡ row_count n (after e) b
  count-is e b l r = w'.stands.tally.counted e (b - 1) l (omega (arith, r)) ∙ ap (row_count n (after e)) (let q : b - 1 + 1 ≡ b = omega (arith, r) in q)

  row-off : (e y : ℕ) → y < n → (y ≡ u → ⊥) → after e y ≡ before e y
  unfolding row
  row-off e y l ne = ap (λ (z : ℕ). cond (among e y) z 0) (others y l ne)

  -- a net of u
  pub row_moved : (e : ℕ) → among e u ≡ true → (y : ℕ) → y < n → after e y ≡ place (before e) u t y
  row_moved e has-u y l = go (ℕ_discrete y u)
    where
      go : Dec (y ≡ u) → after e y ≡ place (before e) u t y
      go (yes q) = rw q (row-yes pins blocks' (get_or firsts e 0) (get_or sizes e 0) u has-u ∙ to ∙ sym (place_at (before e) u t))
      go (no q) = row-off e y l q ∙ sym (place-off (before e) u t y q)

  -- a net without u
  row_kept : (e : ℕ) → among e u ≡ false → (y : ℕ) → y < n → before e y ≡ after e y
  row_kept e no-u y l = go (ℕ_discrete y u)
    where
      go : Dec (y ≡ u) → before e y ≡ after e y
      go (yes q) = rw q (row-no pins blocks (get_or firsts e 0) (get_or sizes e 0) u no-u ∙ sym (row-no pins blocks' (get_or firsts e 0) (get_or sizes e 0) u no-u))
      go (no q) = sym (row-off e y l q)

  net-falls : (x j e : ℕ) → x < n → (x ≡ u → ⊥) → e < m → (among e u ≡ true → among e x ≡ true → Quiet counts' blocks s t x j e)
      → lt_z (row_share n (get_or weights e 0) (before e) x (j + 1)) (row_share n (get_or weights e 0) (after e) x (j + 1)) ≡ false
  net-falls x j e lx ne le quiet = go (among e u) refl (among e x) refl
    where
      go : (p : Bool) → among e u ≡ p → (q : Bool) → among e x ≡ q
          → lt_z (row_share n (get_or weights e 0) (before e) x (j + 1)) (row_share n (get_or weights e 0) (after e) x (j + 1)) ≡ false
      go false p q d = row_same n (get_or weights e 0) x (j + 1) (before e) (after e) lx (row_kept e p)
      go true p false d = row_out n (get_or weights e 0) x (j + 1) (before e) (after e)
          (row-no pins blocks (get_or firsts e 0) (get_or sizes e 0) x d) (row-no pins blocks' (get_or firsts e 0) (get_or sizes e 0) x d)
      go true p true d = row-falls n u s t (before e) (after e) u-in away
          (row-yes pins blocks (get_or firsts e 0) (get_or sizes e 0) u p ∙ from) (row_moved e p) (get_or weights e 0) x (j + 1) lx ne
          (λ c o. (quiet p d).0 (count-is e s le s-in ∙ c) (sym (row-yes pins blocks (get_or firsts e 0) (get_or sizes e 0) x d) ∙ o))
          (λ c o. (quiet p d).1 (count-is e t le t-in ∙ c) o)

  pub falls : (x j : ℕ) → x < n → j < k → (x ≡ u → ⊥)
      → ((e : ℕ) → e < m → has pins (get_or firsts e 0) (get_or sizes e 0) u ≡ true → has pins (get_or firsts e 0) (get_or sizes e 0) x ≡ true → Quiet counts' blocks s t x j e)
      → lt_z (at gains (16 * x + j)) (at gains' (16 * x + j)) ≡ false
  falls x j lx lj ne quiet = rw (w.stands.gained x j lx lj, w'.stands.gained x j lx lj) (sum_z-le
      (λ e. row_share n (get_or weights e 0) (before e) x (j + 1))
      (λ e. row_share n (get_or weights e 0) (after e) x (j + 1)) m
      (λ e le. net-falls x j e lx ne le (quiet e le)))
