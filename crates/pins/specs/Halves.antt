-- A place in a rising stretch found by halves. Rests on laws' Rising.
use Rattle.std.specs.Prelude.{◌≡◌, true, false, List, ℕ, ◌+◌, ◌-◌, ◌≤◌, ◌<◌, ltb, length, take, drop, get_or}
use Rattle.std.specs.List.Sorted.{IsPartitionedBy, IsPartitionPoint}
use Rattle.std.proofs.Math.Decide.{ℕ_discrete}
use Rattle.std.proofs.Common.{arith, ap, ◌∙◌, ltb-true, ltb-false, lt-ltb}
use Rattle.std.proofs.lemmas.List.{length-take, length-drop, get_or-take, get_or-drop, get_or_default}
use Rattle.laws.specs.Occurrence.{at}
use Rattle.laws.specs.Rising.{Rising}

-- r is the first place from `from` on whose pin is not below x, or n, if the n pins rise
pub record Placed (l : List ℕ) (f from n x r : ℕ) : Type 0 where
  pub low : from ≤ r
  pub high : r ≤ n
  pub below : Rising l f n → (k : ℕ) → from ≤ k → k < r → at l f k < x
  pub above : Rising l f n → (k : ℕ) → r ≤ k → k < n → x ≤ at l f k

-- it is one of the places from lo to hi
pub record Between (l : List ℕ) (f from n x lo hi : ℕ) : Type 0 where
  pub low : from ≤ lo
  pub order : lo ≤ hi
  pub high : hi ≤ n
  pub below : Rising l f n → (k : ℕ) → from ≤ k → k < lo → at l f k < x
  pub above : Rising l f n → (k : ℕ) → hi ≤ k → k < n → x ≤ at l f k

pub record Halved (l : List ℕ) (f x lo hi lo' hi' : ℕ) : Type 0 where
  pub less : hi' - lo' < hi - lo
  pub between : (from n : ℕ) → Between l f from n x lo hi → Between l f from n x lo' hi'

pub between-all : (l : List ℕ) (f from n x : ℕ) → from ≤ n → Between l f from n x from n
between-all l f from n x h = record { low = omega arith; order = h; high = omega arith; below = λ r k a b. absurd (omega arith); above = λ r k a b. absurd (omega arith) }

pub upper-half : (l : List ℕ) (f x lo hi mid : ℕ) → lo ≤ mid → mid < hi → at l f mid < x → Halved l f x lo hi (mid + 1) hi
upper-half l f x lo hi mid a b h = record { less = omega arith; between = λ from n w. record { low = omega (arith, w.low); order = omega arith; high = w.high; below = λ r k p q. go from n w r k p q (ℕ_discrete k mid); above = w.above } }
  where
    go : (from n : ℕ) → Between l f from n x lo hi → Rising l f n → (k : ℕ) → from ≤ k → k < mid + 1 → Dec (k ≡ mid) → at l f k < x
    go from n w r k p q (yes e) = rw e h
    go from n w r k p q (no e) = omega (arith, h, r k mid (omega arith) (omega (arith, w.high)))

pub lower-half : (l : List ℕ) (f x lo hi mid : ℕ) → lo ≤ mid → mid < hi → x ≤ at l f mid → Halved l f x lo hi lo mid
lower-half l f x lo hi mid a b h = record { less = omega arith; between = λ from n w. record { low = w.low; order = a; high = omega (arith, w.high); below = w.below; above = λ r k p q. go from n w r k p q (ℕ_discrete k mid) } }
  where
    go : (from n : ℕ) → Between l f from n x lo hi → Rising l f n → (k : ℕ) → mid ≤ k → k < n → Dec (k ≡ mid) → x ≤ at l f k
    go from n w r k p q (yes e) = rw e h
    go from n w r k p q (no e) = omega (arith, h, r mid k (omega arith) q)

pub placed : {l : List ℕ} {f from n x lo hi : ℕ} → Between l f from n x lo hi → hi ≤ lo → Placed l f from n x lo
placed w h = record { low = w.low; high = omega (arith, w.order, w.high); below = w.below; above = λ r k p q. w.above r k (omega arith) q }

-- ---- the stretch from place `from` on, as a list by itself

abbrev pub from_on : List ℕ → ℕ → ℕ → ℕ → List ℕ
from_on l f from n = take (f + n - (f + from)) (drop (f + from) l)

from_on-length : (l : List ℕ) (f from n : ℕ) → f + n ≤ length l → from ≤ n → length (from_on l f from n) ≡ n - from
from_on-length l f from n fit le = omega (arith, length-take (f + n - (f + from)) (drop (f + from) l), length-drop (f + from) l)

from_on-at : (l : List ℕ) (f from n k d : ℕ) → f + n ≤ length l → from + k < n → get_or (from_on l f from n) k d ≡ at l f (from + k)
from_on-at l f from n k d fit h =
    let e : f + from + k ≡ f + (from + k) = omega arith in
    get_or-take (f + n - (f + from)) (drop (f + from) l) k d (omega arith)
    ∙ get_or-drop (f + from) l k d
    ∙ get_or_default l (f + from + k) d 0 (omega arith)
    ∙ ap (λ (i : ℕ). get_or l i 0) e

-- its pins below x come first
pub rising-split : (l : List ℕ) (f from n x : ℕ) → f + n ≤ length l → from ≤ n → Rising l f n → IsPartitionedBy (λ y. ltb y x) (from_on l f from n)
rising-split l f from n x fit le r i j d ij jn e = go (ℕ_discrete i j)
  where
    inside : from + j < n
    inside = omega (arith, jn, from_on-length l f from n fit le)

    below : at l f (from + j) < x
    below = ltb-true _ _ (rw (from_on-at l f from n j d fit inside) at e)

    go : Dec (i ≡ j) → ltb (get_or (from_on l f from n) i d) x ≡ true
    go (yes q) = rw q e
    go (no q) = rw (from_on-at l f from n i d fit (omega (arith, inside))) (lt-ltb _ _ (omega (arith, below, r (from + i) (from + j) (omega arith) inside)))

pub placed-split : {l : List ℕ} {f from n x r : ℕ} → f + n ≤ length l → from ≤ n → r ≤ length (from_on l f from n)
    → (Rising l f n → IsPartitionPoint (λ y. ltb y x ≡ true) (λ y. ltb y x ≡ false) (from_on l f from n) r) → Placed l f from n x (from + r)
placed-split {l} {f} {from} {n} {x} {r} fit le b s = record {
  low = omega arith;
  high = omega (arith, from_on-length l f from n fit le);
  below = λ u k a h.
      let e : from + (k - from) ≡ k = omega arith in
      ltb-true _ _ (rw (from_on-at l f from n (k - from) 0 fit (omega (arith, from_on-length l f from n fit le)), e) at ((s u).0 (k - from) 0 (omega arith) (omega arith)));
  above = λ u k a h.
      let e : from + (k - from) ≡ k = omega arith in
      ltb-false _ _ (rw (from_on-at l f from n (k - from) 0 fit (omega arith), e) at ((s u).1 (k - from) 0 (omega arith) (omega (arith, from_on-length l f from n fit le))));
}
