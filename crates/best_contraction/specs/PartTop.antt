-- Tops: for each part of 64 vertices the highest of their bounds; how they are set, and how they lead to the vertex of the highest bound.
-- Vertices and parts count from 1. Rests on Bound. Assumes nothing.
use Rattle.std.specs.Prelude.{◌≡◌, ◌⊎◌, List, ℕ, ◌+◌, ◌-◌, ◌*◌, ◌/◌, ◌≤◌, ◌<◌, max, length, get_or, set}
use Rattle.std.proofs.Common.{sym, ap, ◌∙◌, subst, inl, inr, arith, length-set, get_or-set_same, get_or-set_other}
use Rattle.std.proofs.Math.Decide.{ℕ_discrete, dec_lt}
use Rattle.incidence.specs.On.{Cut}
use Rattle.best_contraction.specs.Rating.{lesser}
use Rattle.best_contraction.specs.Bound.{Highest}

-- r is the highest of the entries after `from`, up to `to`; 0 where there is none
pub record TopOf (l : List ℕ) (from to r : ℕ) : Type 0 where
  pub above : (x : ℕ) → from < x → x ≤ to → get_or l x 0 ≤ r
  pub least : (s : ℕ) → ((x : ℕ) → from < x → x ≤ to → get_or l x 0 ≤ s) → r ≤ s

-- the larger of two numbers
pub larger-max : (a b r : ℕ) → r ≡ max a b → r ≡ a + (b - a)
larger-max a b r e = omega (arith, e)

-- the last vertex of part c, where there are n
abbrev pub part_end : ℕ → ℕ → ℕ
part_end c n = lesser (64 * c) n

pub cut-end : (c n r : ℕ) → Cut (64 * c) n r → r ≡ part_end c n
cut-end c n r k = go (dec_lt r n)
  where
    go : Dec (r < n) → r ≡ part_end c n
    go (yes h) = omega (arith, k.same h)
    go (no h) = omega (arith, k.left, k.right)

-- the first `done` parts have their tops
pub record ToppedTo (l : List ℕ) (n done : ℕ) (tops : List ℕ) : Type 0 where
  pub len : length tops ≡ 17
  pub top : (c : ℕ) → 1 ≤ c → c ≤ done → 64 * (c - 1) < n → TopOf l (64 * (c - 1)) (part_end c n) (get_or tops c 0)

-- all parts of at most 1,024 vertices have their tops
abbrev pub Topped : List ℕ → ℕ → List ℕ → Type 0
Topped l n tops = ToppedTo l n 16 tops

-- r is the first vertex after `from`, up to `to`, whose bound is up to `top`
pub record FirstUp (l : List ℕ) (from to top r : ℕ) : Type 0 where
  pub low : from < r
  pub high : r ≤ to
  pub up : top ≤ get_or l r 0
  pub first : (x : ℕ) → from < x → x < r → get_or l x 0 < top

-- ---- the highest of a stretch

module _ (l : List ℕ) where
  pub top-none : (from : ℕ) → TopOf l from from 0
  top-none from = record { above = λ x a b. absurd (omega arith); least = λ s h. omega arith }

  pub top_one : (y z : ℕ) → z ≡ y + 1 → TopOf l y z (get_or l z 0)
  top_one y z e = record {
    above = λ x a b. let q : x ≡ z = omega arith in omega (arith, ap (λ (k : ℕ). get_or l k 0) q);
    least = λ s h. h z (omega arith) (omega arith);
  }

  -- two stretches of which the second begins where the first ends
  pub top-join : (a b c p q r : ℕ) → a ≤ b → b ≤ c → TopOf l a b p → TopOf l b c q → r ≡ p + (q - p) → TopOf l a c r
  top-join a b c p q r ab bc h k e = record {
    above = λ x u v. go x u v (dec_lt b x);
    least = λ s f. omega (arith, h.least s (λ x u v. f x u (omega arith)), k.least s (λ x u v. f x (omega arith) v));
  }
    where
      go : (x : ℕ) → a < x → x ≤ c → Dec (b < x) → get_or l x 0 ≤ r
      go x u v (yes w) = omega (arith, k.above x w v)
      go x u v (no w) = omega (arith, h.above x u (omega arith))

  pub top-four : (y p q r : ℕ) → p ≡ get_or l (y + 1) 0 + (get_or l (y + 2) 0 - get_or l (y + 1) 0) → q ≡ get_or l (y + 3) 0 + (get_or l (y + 4) 0 - get_or l (y + 3) 0) → r ≡ p + (q - p) → TopOf l y (y + 4) r
  top-four y p q r ep eq er =
      top-join y (y + 2) (y + 4) p q r (omega arith) (omega arith)
      (top-join y (y + 1) (y + 2) _ _ p (omega arith) (omega arith) (top_one y (y + 1) (omega arith)) (top_one (y + 1) (y + 2) (omega arith)) ep)
      (top-join (y + 2) (y + 3) (y + 4) _ _ q (omega arith) (omega arith) (top_one (y + 2) (y + 3) (omega arith)) (top_one (y + 3) (y + 4) (omega arith)) eq)
      er

  -- ---- all parts

  -- part c has the top that was written last
  top-at : (n i c : ℕ) (tops : List ℕ) (r : ℕ) → i < 16 → length tops ≡ 17 → c ≡ i + 1 → TopOf l (64 * i) (part_end (i + 1) n) r → TopOf l (64 * (c - 1)) (part_end c n) (get_or (set tops (i + 1) r) c 0)
  top-at n i c tops r small len q k =
      let here : r ≡ get_or (set tops (i + 1) r) c 0 = sym (ap (λ (k : ℕ). get_or (set tops (i + 1) r) k 0) q ∙ get_or-set_same tops (i + 1) r 0 (omega arith)) in
      let start : 64 * i ≡ 64 * (c - 1) = omega arith in
      subst (TopOf l (64 * (c - 1)) (part_end c n)) here (subst (λ (k : ℕ). TopOf l k (part_end c n) r) start (subst (λ (k : ℕ). TopOf l (64 * i) (part_end k n) r) (sym q) k))

  pub tops-none : (n : ℕ) (tops : List ℕ) → length tops ≡ 17 → ToppedTo l n 0 tops
  tops-none n tops h = record { len = h; top = λ c a b k. absurd (omega arith) }

  pub tops-more : (n i : ℕ) (tops : List ℕ) (r : ℕ) → i < 16 → ToppedTo l n i tops → TopOf l (64 * i) (part_end (i + 1) n) r → ToppedTo l n (i + 1) (set tops (i + 1) r)
  tops-more n i tops r small h k = record { len = length-set tops (i + 1) r ∙ h.len; top = λ c a b s. go c a b s (ℕ_discrete c (i + 1)) }
    where
      go : (c : ℕ) → 1 ≤ c → c ≤ i + 1 → 64 * (c - 1) < n → Dec (c ≡ i + 1) → TopOf l (64 * (c - 1)) (part_end c n) (get_or (set tops (i + 1) r) c 0)
      go c a b s (yes q) = top-at n i c tops r small h.len q k
      go c a b s (no q) = subst (TopOf l (64 * (c - 1)) (part_end c n)) (sym (get_or-set_other tops (i + 1) c r 0 q)) (h.top c a (omega arith) s)

  pub tops-all : (n i : ℕ) (tops : List ℕ) → n ≤ 64 * i → ToppedTo l n i tops → Topped l n tops
  tops-all n i tops all h = record { len = h.len; top = λ c a b s. h.top c a (omega arith) s }

-- one bound set
pub tops-set : (l : List ℕ) (n u b i : ℕ) (tops : List ℕ) (r : ℕ) → 1 ≤ u → u ≤ n → n ≤ 1024 → i ≡ (u - 1) / 64 → Topped l n tops → TopOf (set l u b) (64 * i) (part_end (i + 1) n) r → Topped (set l u b) n (set tops (i + 1) r)
tops-set l n u b i tops r low high small e h k = record { len = length-set tops (i + 1) r ∙ h.len; top = λ c a f s. go c a f s (ℕ_discrete c (i + 1)) }
  where
    go : (c : ℕ) → 1 ≤ c → c ≤ 16 → 64 * (c - 1) < n → Dec (c ≡ i + 1) → TopOf (set l u b) (64 * (c - 1)) (part_end c n) (get_or (set tops (i + 1) r) c 0)
    go c a f s (yes q) = top-at (set l u b) n i c tops r (omega arith) h.len q k
    go c a f s (no q) = subst (TopOf (set l u b) (64 * (c - 1)) (part_end c n)) (sym (get_or-set_other tops (i + 1) c r 0 q)) (record {
      above = λ x g t. omega (arith, old.above x g t, same x g t);
      least = λ z e. old.least z (λ x g t. omega (arith, e x g t, same x g t));
    })
      where
        old : TopOf l (64 * (c - 1)) (part_end c n) (get_or tops c 0)
        old = h.top c a f s

        same : (x : ℕ) → 64 * (c - 1) < x → x ≤ part_end c n → get_or (set l u b) x 0 ≡ get_or l x 0
        same x f t = get_or-set_other l u x b 0 (λ z. q (omega arith))

-- ---- the first of the highest parts

-- the part x of top b weighed against t, of top c: r, of top d, is chosen
abbrev pub Tops : ℕ → ℕ → ℕ → ℕ → ℕ → ℕ → Type 0
Tops b x c t d r = ((c < b) × (d ≡ b) × (r ≡ x)) ⊎ ((b ≤ c) × (d ≡ c) × (r ≡ t))

pub highest-one : (l : List ℕ) → Highest l 1 1
highest-one l = record { low = omega arith; high = omega arith; first = λ x a b. absurd (omega arith); most = λ x a b. let q : x ≡ 1 = omega arith in omega (arith, ap (λ (k : ℕ). get_or l k 0) q) }

pub highest-more : (l : List ℕ) (i b c t d r : ℕ) → 1 ≤ i → Highest l i t → c ≡ get_or l t 0 → b ≡ get_or l (i + 1) 0 → Tops b (i + 1) c t d r → Highest l (i + 1) r × (d ≡ get_or l r 0)
highest-more l i b c t d r some h ec eb (inl w) = (
  subst (Highest l (i + 1)) (sym w.2) (record {
    low = omega arith;
    high = omega arith;
    first = λ x a k. omega (arith, h.most x a (omega arith), w.0);
    most = λ x a k. go x a k (ℕ_discrete x (i + 1));
  }),
  w.1 ∙ eb ∙ ap (λ (k : ℕ). get_or l k 0) (sym w.2),
)
  where
    go : (x : ℕ) → 1 ≤ x → x ≤ i + 1 → Dec (x ≡ i + 1) → get_or l x 0 ≤ get_or l (i + 1) 0
    go x a k (yes q) = omega (arith, ap (λ (k : ℕ). get_or l k 0) q)
    go x a k (no q) = omega (arith, h.most x a (omega arith), w.0)
highest-more l i b c t d r some h ec eb (inr w) = (
  subst (Highest l (i + 1)) (sym w.2) (record {
    low = h.low;
    high = omega (arith, h.high);
    first = h.first;
    most = λ x a k. go x a k (ℕ_discrete x (i + 1));
  }),
  w.1 ∙ ec ∙ ap (λ (k : ℕ). get_or l k 0) (sym w.2),
)
  where
    go : (x : ℕ) → 1 ≤ x → x ≤ i + 1 → Dec (x ≡ i + 1) → get_or l x 0 ≤ get_or l t 0
    go x a k (yes q) = omega (arith, ap (λ (k : ℕ). get_or l k 0) q, w.0)
    go x a k (no q) = h.most x a (omega arith)

-- ---- the first of the highest vertices

module _ (l : List ℕ) where
  -- the loop over a part
  pub up_none : (from top y : ℕ) → y ≡ from + 1 → (x : ℕ) → from < x → x < y → get_or l x 0 < top
  up_none from top y e x a b = absurd (omega arith)

  pub up_more : (from top y : ℕ) → ((x : ℕ) → from < x → x < y → get_or l x 0 < top) → get_or l y 0 < top → (x : ℕ) → from < x → x < y + 1 → get_or l x 0 < top
  up_more from top y h k x a b = go (ℕ_discrete x y)
    where
      go : Dec (x ≡ y) → get_or l x 0 < top
      go (yes q) = omega (arith, ap (λ (k : ℕ). get_or l k 0) q)
      go (no q) = h x a (omega arith)

  -- where none before the last is up, the last is, since some entry is
  pub up-last : (from to top : ℕ) → from < to → TopOf l from to top → ((x : ℕ) → from < x → x < to → get_or l x 0 < top) → FirstUp l from to top to
  up-last from to top some t h = record { low = some; high = omega arith; up = go (dec_lt (get_or l to 0) top); first = h }
    where
      go : Dec (get_or l to 0 < top) → top ≤ get_or l to 0
      go (yes q) = absurd (omega (arith, t.least (top - 1) (λ x a b. under x a b (ℕ_discrete x to))))
        where
          under : (x : ℕ) → from < x → x ≤ to → Dec (x ≡ to) → get_or l x 0 ≤ top - 1
          under x a b (yes e) = omega (arith, ap (λ (k : ℕ). get_or l k 0) e)
          under x a b (no e) = omega (arith, h x a (omega arith))
      go (no q) = omega arith

  -- the first vertex up to the highest top has the highest bound of all
  pub highest-of : (n parts c v : ℕ) (tops : List ℕ) → 1 ≤ n → n ≤ 1024 → parts ≡ (n + 63) / 64 → Topped l n tops → Highest tops parts c → FirstUp l (64 * (c - 1)) (part_end c n) (get_or tops c 0) v → Highest l n v
  highest-of n parts c v tops some small e t h f = record {
    low = omega (arith, f.low);
    high = omega (arith, f.high);
    first = λ x a b. before x a b (dec_lt (64 * (c - 1)) x);
    most = λ x a b. omega (arith, in-part x a b, h.most ((x - 1) / 64 + 1) (omega arith) (omega arith), f.up);
  }
    where
      in-part : (x : ℕ) → 1 ≤ x → x ≤ n → get_or l x 0 ≤ get_or tops ((x - 1) / 64 + 1) 0
      in-part x a b = (t.top ((x - 1) / 64 + 1) (omega arith) (omega arith) (omega arith)).above x (omega arith) (omega arith)

      before : (x : ℕ) → 1 ≤ x → x < v → Dec (64 * (c - 1) < x) → get_or l x 0 < get_or l v 0
      before x a b (yes q) = omega (arith, f.first x q b, f.up)
      before x a b (no q) = omega (arith, in-part x a (omega (arith, f.high)), h.first ((x - 1) / 64 + 1) (omega arith) (omega arith), f.up)
