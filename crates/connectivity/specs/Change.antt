-- The rules of the critical counts: what the gains of a net's other pins change by when its pin x goes from the block a to b. Rests on Row.
use Rattle.std.specs.Prelude.{ℕ, ◌+◌, ◌-◌, ◌<◌, ◌≤◌, ◌≡◌, Bool, eqb, ℤ, ◌+ℤ◌, ◌-ℤ◌, neg_ℤ}
use Rattle.std.proofs.Math.Path.{refl}
use Rattle.std.proofs.Common.{sym, ap, ◌∙◌, arith}
use Rattle.std.proofs.Math.Bool.{true, false, cond}
use Rattle.std.proofs.Math.Decide.{ℕ_discrete}
use borrow.Author.Tests.{eq-eqb, ne_eqb}
use Rattle.std.proofs.Math.IntN.{pos}
use Rattle.laws.specs.Integer.{eq-by, add_is, sub_is, neg_is, pos-is}
use Rattle.laws.specs.Choice.{one}
use Rattle.laws.specs.Place.{place, place-off}
use Rattle.connectivity.specs.Share.{when}
use Rattle.connectivity.specs.Matrix.{row_count, share_of}
use Rattle.connectivity.specs.Row.{row_count-place}

-- of a vertex of the block `o`, at the block `c`: `w` at each block but `a`, if `o` is `a` and the count `f` is `want`
unfoldable pub row_but : ℕ → ℕ → ℕ → ℕ → ℕ → ℕ → ℕ
row_but f want o a w c = cond (eqb o a) (cond (eqb c a) 0 (when f want w)) 0

-- `w` at the block `a`, if the count `f` is `want`
unfoldable pub single : ℕ → ℕ → ℕ → ℕ → ℕ → ℕ
single f want a w c = cond (eqb c a) (when f want w) 0

-- all four rules: `fa` and `fb` are the counts before
unfoldable pub delta : (a b fa fb w o c : ℕ) → ℤ
delta a b fa fb w o c = cond (eqb o 0) (pos 0)
    (((pos (row_but fa 2 o a w c) +ℤ neg_ℤ (pos (row_but fb 1 o b w c))) +ℤ neg_ℤ (pos (single fa 1 a w c))) +ℤ pos (single fb 0 b w c))

-- where no rule applies
pub zero-sum : {p q s t : ℕ} → p ≡ 0 → q ≡ 0 → s ≡ 0 → t ≡ 0 → ((pos p +ℤ neg_ℤ (pos q)) +ℤ neg_ℤ (pos s)) +ℤ pos t ≡ pos 0
zero-sum e f g h = rw (e, f, g, h) refl

pub when-no : (n want w : ℕ) → (n ≡ want → ⊥) → when n want w ≡ 0
unfolding when
when-no n want w ne = rw (ne_eqb n want ne)

pub when-yes : (n want w : ℕ) → n ≡ want → when n want w ≡ w
unfolding when
when-yes n want w e = rw (eq-eqb n want e)

when-iff : (n p n' p' w : ℕ) → (n ≡ p → n' ≡ p') → (n' ≡ p' → n ≡ p) → when n p w ≡ when n' p' w
when-iff n p n' p' w f g = by (ℕ_discrete n p)
  where
    by : Dec (n ≡ p) → when n p w ≡ when n' p' w
    by (yes q) = when-yes n p w q ∙ sym (when-yes n' p' w (f q))
    by (no q) = when-no n p w q ∙ sym (when-no n' p' w (λ z. q (g z)))

module _ (f want : ℕ) where
  pub row_but-other : (o a w c : ℕ) → (o ≡ a → ⊥) → row_but f want o a w c ≡ 0
  unfolding row_but
  row_but-other o a w c ne = rw (ne_eqb o a ne)

  pub row_but-own : (o a w c : ℕ) → c ≡ a → row_but f want o a w c ≡ 0
  unfolding row_but
  row_but-own o a w c e = by (eqb o a)
    where
      by : (t : Bool) → cond t (cond (eqb c a) 0 (when f want w)) 0 ≡ 0
      by true = rw (eq-eqb c a e)
      by false = refl

  pub row_but-here : (o a w c : ℕ) → o ≡ a → (c ≡ a → ⊥) → row_but f want o a w c ≡ when f want w
  unfolding row_but
  row_but-here o a w c e ne = rw (eq-eqb o a e, ne_eqb c a ne)

  pub single-other : (a w c : ℕ) → (c ≡ a → ⊥) → single f want a w c ≡ 0
  unfolding single
  single-other a w c ne = rw (ne_eqb c a ne)

  pub single-here : (a w c : ℕ) → c ≡ a → single f want a w c ≡ when f want w
  unfolding single
  single-here a w c e = rw (eq-eqb c a e)

  pub row_but-idle : (o a w c : ℕ) → (f ≡ want → ⊥) → row_but f want o a w c ≡ 0
  unfolding row_but
  row_but-idle o a w c ne = by (eqb o a) (eqb c a)
    where
      by : (s t : Bool) → cond s (cond t 0 (when f want w)) 0 ≡ 0
      by true true = refl
      by true false = when-no f want w ne
      by false t = refl

  pub single-idle : (a w c : ℕ) → (f ≡ want → ⊥) → single f want a w c ≡ 0
  unfolding single
  single-idle a w c ne = by (eqb c a)
    where
      by : (t : Bool) → cond t (when f want w) 0 ≡ 0
      by true = when-no f want w ne
      by false = refl

pub delta-none : (a b fa fb w c : ℕ) → delta a b fa fb w 0 c ≡ pos 0
unfolding delta
delta-none a b fa fb w c = refl

pub delta-some : (a b fa fb w o c : ℕ) → 1 ≤ o → delta a b fa fb w o c ≡
    ((pos (row_but fa 2 o a w c) +ℤ neg_ℤ (pos (row_but fb 1 o b w c))) +ℤ neg_ℤ (pos (single fa 1 a w c))) +ℤ pos (single fb 0 b w c)
unfolding delta
delta-some a b fa fb w o c h = rw (ne_eqb o 0 (λ z. omega arith))

shift : (A B A' B' p q s t : ℕ) → A' + q ≡ A + p → B' + t ≡ B + s →
    pos A' -ℤ pos B' ≡ (pos A -ℤ pos B) +ℤ (((pos p +ℤ neg_ℤ (pos q)) +ℤ neg_ℤ (pos s)) +ℤ pos t)
shift A B A' B' p q s t e d = eq-by _ _ (omega (
  arith,
  sub_is (pos A') (pos B'),
  sub_is (pos A) (pos B),
  pos-is A,
  pos-is B,
  pos-is A',
  pos-is B',
  pos-is p,
  pos-is q,
  pos-is s,
  pos-is t,
  neg_is (pos q),
  neg_is (pos s),
  add_is (pos p) (neg_ℤ (pos q)),
  add_is (pos p +ℤ neg_ℤ (pos q)) (neg_ℤ (pos s)),
  add_is ((pos p +ℤ neg_ℤ (pos q)) +ℤ neg_ℤ (pos s)) (pos t),
  add_is (pos A -ℤ pos B) (((pos p +ℤ neg_ℤ (pos q)) +ℤ neg_ℤ (pos s)) +ℤ pos t),
))

-- at the block that a pin leaves, at the one that it comes to, and at any other
from-none : (F G : ℕ) → pos G -ℤ pos F ≡ pos 0 +ℤ (pos G -ℤ pos F)
from-none F G = eq-by _ _ (omega (arith, pos-is 0, add_is (pos 0) (pos G -ℤ pos F)))

to_none : (F G : ℕ) → pos 0 ≡ (pos F -ℤ pos G) +ℤ (pos G -ℤ pos F)
to_none F G = eq-by _ _ (omega (arith, pos-is 0, pos-is F, pos-is G, sub_is (pos F) (pos G), sub_is (pos G) (pos F), add_is (pos F -ℤ pos G) (pos G -ℤ pos F)))

swap : (F D G : ℕ) → pos G -ℤ pos D ≡ (pos F -ℤ pos D) +ℤ (pos G -ℤ pos F)
swap F D G = eq-by _ _ (omega (
  arith,
  pos-is F,
  pos-is D,
  pos-is G,
  sub_is (pos G) (pos D),
  sub_is (pos F) (pos D),
  sub_is (pos G) (pos F),
  add_is (pos F -ℤ pos D) (pos G -ℤ pos F),
))

-- a pin is counted
pub row_count-has : (n : ℕ) (r : ℕ → ℕ) (y o : ℕ) → y < n → r y ≡ o → 1 ≤ o → 1 ≤ row_count n r o
row_count-has n r y o l e h = omega (arith, row_count-place n r y 0 o l, ap (λ (z : ℕ). one (eqb z o)) e, ap one (eq-eqb o o refl), ap one (ne_eqb 0 o (λ z. omega arith)))

-- where one pin is counted there are no two
pub row_count-one : (n : ℕ) (r : ℕ → ℕ) (o y z : ℕ) → row_count n r o ≡ 1 → 1 ≤ o → y < n → z < n → r y ≡ o → r z ≡ o → y ≡ z
row_count-one n r o y z e h hy hz ey ez = by (ℕ_discrete z y)
  where
    by : Dec (z ≡ y) → y ≡ z
    by (yes q) = sym q
    by (no q) = absurd (omega (
      arith,
      row_count-has n (place r y 0) z o hz (place-off r y 0 z q ∙ ez) h,
      row_count-place n r y 0 o hy,
      ap (λ (t : ℕ). one (eqb t o)) ey,
      ap one (eq-eqb o o refl),
      ap one (ne_eqb 0 o (λ t. omega arith)),
    ))

module _ (n : ℕ) (r : ℕ → ℕ) (x a b w : ℕ) (hx : x < n) (ea : r x ≡ a) (ne : a ≡ b → ⊥) where
  count-a : 1 ≤ a → row_count n (place r x b) a + 1 ≡ row_count n r a
  count-a h = omega (arith, row_count-place n r x b a hx, ap (λ (z : ℕ). one (eqb z a)) ea, ap one (eq-eqb a a refl), ap one (ne_eqb b a (λ z. ne (sym z))))

  count-b : 1 ≤ b → row_count n (place r x b) b ≡ row_count n r b + 1
  count-b h = omega (arith, row_count-place n r x b b hx, ap (λ (z : ℕ). one (eqb z b)) ea, ap one (eq-eqb b b refl), ap one (ne_eqb a b ne))

  count-other : (c : ℕ) → (c ≡ a → ⊥) → (c ≡ b → ⊥) → row_count n (place r x b) c ≡ row_count n r c
  count-other c na nb = omega (arith, row_count-place n r x b c hx, ap (λ (z : ℕ). one (eqb z c)) ea, ap one (ne_eqb a c (λ z. na (sym z))), ap one (ne_eqb b c (λ z. nb (sym z))))

  module _ (fa fb : ℕ) (ha : 1 ≤ a → fa ≡ row_count n r a) (hb : 1 ≤ b → fb ≡ row_count n r b) where
    -- what leaving frees, and what it draws
    drawn : (c : ℕ) → 1 ≤ c → when (row_count n (place r x b) c) 0 w + single fb 0 b w c ≡ when (row_count n r c) 0 w + single fa 1 a w c
    drawn c hc = by (ℕ_discrete c a) (ℕ_discrete c b)
      where
        by : Dec (c ≡ a) → Dec (c ≡ b) → when (row_count n (place r x b) c) 0 w + single fb 0 b w c ≡ when (row_count n r c) 0 w + single fa 1 a w c
        by (yes p) (yes q) = absurd (ne (sym p ∙ q))
        by (yes p) (no q) =
            let h : 1 ≤ a = omega arith in
            omega (
              arith,
              single-other fb 0 b w c q,
              single-here fa 1 a w c p,
              ap (λ (z : ℕ). when (row_count n (place r x b) z) 0 w) p,
              ap (λ (z : ℕ). when (row_count n r z) 0 w) p,
              when-no (row_count n r a) 0 w (λ z. omega (arith, count-a h)),
              when-iff (row_count n (place r x b) a) 0 fa 1 w (λ z. omega (arith, count-a h, ha h)) (λ z. omega (arith, count-a h, ha h)),
            )
        by (no p) (yes q) =
            let h : 1 ≤ b = omega arith in
            omega (
              arith,
              single-other fa 1 a w c p,
              single-here fb 0 b w c q,
              ap (λ (z : ℕ). when (row_count n (place r x b) z) 0 w) q,
              ap (λ (z : ℕ). when (row_count n r z) 0 w) q,
              when-no (row_count n (place r x b) b) 0 w (λ z. omega (arith, count-b h)),
              ap (λ (z : ℕ). when z 0 w) (hb h),
            )
        by (no p) (no q) = omega (arith, single-other fa 1 a w c p, single-other fb 0 b w c q, ap (λ (z : ℕ). when z 0 w) (count-other c p q))

    -- the shares of the moved pin itself all change by the same number, its share at the block that it left
    pub own-change : 1 ≤ a → 1 ≤ b → (c : ℕ) → 1 ≤ c → share_of (row_count n (place r x b)) w b c ≡ share_of (row_count n r) w a c +ℤ (pos (when fb 0 w) -ℤ pos (when fa 1 w))
    unfolding share_of
    own-change la lb c hc = rw (ne_eqb a 0 (λ z. omega arith), ne_eqb b 0 (λ z. omega arith), sole-b, ← ha la) (by (ℕ_discrete c a) (ℕ_discrete c b))
      where
        sole-b : when (row_count n (place r x b) b) 1 w ≡ when fb 0 w
        sole-b = when-iff (row_count n (place r x b) b) 1 fb 0 w (λ z. omega (arith, count-b lb, hb lb)) (λ z. omega (arith, count-b lb, hb lb))

        left-a : when (row_count n (place r x b) a) 0 w ≡ when fa 1 w
        left-a = when-iff (row_count n (place r x b) a) 0 fa 1 w (λ z. omega (arith, count-a la, ha la)) (λ z. omega (arith, count-a la, ha la))

        by : Dec (c ≡ a) → Dec (c ≡ b) → cond (eqb c b) (pos 0) (pos (when fb 0 w) -ℤ pos (when (row_count n (place r x b) c) 0 w)) ≡
            cond (eqb c a) (pos 0) (pos (when fa 1 w) -ℤ pos (when (row_count n r c) 0 w)) +ℤ (pos (when fb 0 w) -ℤ pos (when fa 1 w))
        by (yes p) (yes q) = absurd (ne (sym p ∙ q))
        by (yes p) (no q) = rw (ne_eqb c b q, eq-eqb c a p, p, left-a) (from-none (when fa 1 w) (when fb 0 w))
        by (no p) (yes q) = rw (eq-eqb c b q, ne_eqb c a p, q, ← hb lb) (to_none (when fa 1 w) (when fb 0 w))
        by (no p) (no q) = rw (ne_eqb c b q, ne_eqb c a p, count-other c p q) (swap (when fa 1 w) (when (row_count n r c) 0 w) (when fb 0 w))

    module _ (y o : ℕ) (hy : y < n) (ny : y ≡ x → ⊥) (eo : r y ≡ o) (ho : 1 ≤ o) where
      still : 1 ≤ row_count n (place r x b) o
      still = row_count-has n (place r x b) y o hy (place-off r x b y ny ∙ eo) ho

      freed : (c : ℕ) → (c ≡ o → ⊥) → when (row_count n (place r x b) o) 1 w + row_but fb 1 o b w c ≡ when (row_count n r o) 1 w + row_but fa 2 o a w c
      freed c nc = by (ℕ_discrete o a) (ℕ_discrete o b)
        where
          by : Dec (o ≡ a) → Dec (o ≡ b) → when (row_count n (place r x b) o) 1 w + row_but fb 1 o b w c ≡ when (row_count n r o) 1 w + row_but fa 2 o a w c
          by (yes p) (yes q) = absurd (ne (sym p ∙ q))
          by (yes p) (no q) =
              let h : 1 ≤ a = omega arith in
              let l : 1 ≤ row_count n (place r x b) a = rw p at still in
              omega (
                arith,
                row_but-other fb 1 o b w c q,
                row_but-here fa 2 o a w c p (λ z. nc (z ∙ sym p)),
                ap (λ (z : ℕ). when (row_count n (place r x b) z) 1 w) p,
                ap (λ (z : ℕ). when (row_count n r z) 1 w) p,
                when-no (row_count n r a) 1 w (λ z. omega (arith, count-a h)),
                when-iff (row_count n (place r x b) a) 1 fa 2 w (λ z. omega (arith, count-a h, ha h)) (λ z. omega (arith, count-a h, ha h)),
              )
          by (no p) (yes q) =
              let h : 1 ≤ b = omega arith in
              let l : 1 ≤ row_count n r b = row_count-has n r y b hy (eo ∙ q) h in
              omega (
                arith,
                row_but-other fa 2 o a w c p,
                row_but-here fb 1 o b w c q (λ z. nc (z ∙ sym q)),
                ap (λ (z : ℕ). when (row_count n (place r x b) z) 1 w) q,
                ap (λ (z : ℕ). when (row_count n r z) 1 w) q,
                when-no (row_count n (place r x b) b) 1 w (λ z. omega (arith, count-b h)),
                ap (λ (z : ℕ). when z 1 w) (hb h),
              )
          by (no p) (no q) = omega (arith, row_but-other fa 2 o a w c p, row_but-other fb 1 o b w c q, ap (λ (z : ℕ). when z 1 w) (count-other o p q))

      -- at its own block nothing changes
      own-none : delta a b fa fb w o o ≡ pos 0
      own-none = delta-some a b fa fb w o o ho ∙ zero-sum (a-none (ℕ_discrete o a)) (b-none (ℕ_discrete o b)) (a_one (ℕ_discrete o a)) (b-one (ℕ_discrete o b))
        where
          a-none : Dec (o ≡ a) → row_but fa 2 o a w o ≡ 0
          a-none (yes p) = row_but-own fa 2 o a w o p
          a-none (no p) = row_but-other fa 2 o a w o p

          b-none : Dec (o ≡ b) → row_but fb 1 o b w o ≡ 0
          b-none (yes p) = row_but-own fb 1 o b w o p
          b-none (no p) = row_but-other fb 1 o b w o p

          a_one : Dec (o ≡ a) → single fa 1 a w o ≡ 0
          a_one (yes p) =
              let h : 1 ≤ a = omega arith in
              let l : 1 ≤ row_count n (place r x b) a = rw p at still in
              single-here fa 1 a w o p ∙ when-no fa 1 w (λ z. omega (arith, count-a h, ha h))
          a_one (no p) = single-other fa 1 a w o p

          b-one : Dec (o ≡ b) → single fb 0 b w o ≡ 0
          b-one (yes p) =
              let h : 1 ≤ b = omega arith in
              let l : 1 ≤ row_count n r b = row_count-has n r y b hy (eo ∙ p) h in
              single-here fb 0 b w o p ∙ when-no fb 0 w (λ z. omega (arith, hb h))
          b-one (no p) = single-other fb 0 b w o p

      -- the law
      pub share-change : (c : ℕ) → 1 ≤ c → share_of (row_count n (place r x b)) w o c ≡ share_of (row_count n r) w o c +ℤ delta a b fa fb w o c
      unfolding share_of
      share-change c hc = rw (ne_eqb o 0 (λ z. omega arith)) (by (ℕ_discrete c o))
        where
          by : Dec (c ≡ o) → cond (eqb c o) (pos 0) (pos (when (row_count n (place r x b) o) 1 w) -ℤ pos (when (row_count n (place r x b) c) 0 w)) ≡
              cond (eqb c o) (pos 0) (pos (when (row_count n r o) 1 w) -ℤ pos (when (row_count n r c) 0 w)) +ℤ delta a b fa fb w o c
          by (yes q) = rw (q, eq-eqb o o refl, own-none) refl
          by (no q) = rw (ne_eqb c o q, delta-some a b fa fb w o c ho) (shift _ _ _ _ _ _ _ _ (freed c q) (drawn c hc))
