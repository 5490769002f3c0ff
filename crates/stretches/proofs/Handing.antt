-- The tests before a net's pins are handed out, and the stretch that is. Rests on Stretch of specs.
use Prim.Native.Nat.{ℕ, ◌+◌, ◌-◌, ◌≤◌, ◌<◌}
use mathlib.Core.Path.{◌≡◌, refl, ap, sym, ◌∙◌}
use mathlib.Core.Bool.{Bool, true, false, ◌&&◌, cond}
use mathlib.Core.List.{List}
use borrow.Author.Tests.{leb-true, le-leb, lt-leb}
use lib.Dec.{leb}
use lib.ListN.{length, get_or}
use Rattle.laws.specs.Choice.{and_left, and_right}
use Rattle.model.specs.Memory.{Part, long_lists, handed_out}
use Rattle.model.specs.Lent.{net_tables}
use Rattle.stretches.specs.Stretch.{Backed, part_in}

-- equal stretches have the same first place and size
pub alike : {p q : Part} {first size : ℕ} → p ≡ q → (first ≡ p.from) × (size ≡ p.size) → (first ≡ q.from) × (size ≡ q.size)
alike e s = (s.0 ∙ ap (λ (x : Part). x.from) e, s.1 ∙ ap (λ (x : Part). x.size) e)

module _ (lp pp f c pc : List ℕ) where
  pub long-is : (p q r s t : Bool) → leb 8192 (length lp) ≡ p → leb 8192 (length pp) ≡ q → leb 1024 (length f) ≡ r → leb 1024 (length c) ≡ s → leb 1024 (length pc) ≡ t → (p && q && r && s && t) ≡ long_lists (net_tables lp pp f c pc)
  unfolding long_lists
  long-is p q r s t a b d g h = rw (← a, ← b, ← d, ← g, ← h)

  -- tables that are long enough have first places and sizes for every net
  tests : long_lists (net_tables lp pp f c pc) ≡ true → (1024 ≤ length f) × (1024 ≤ length c) × (1024 ≤ length pc)
  unfolding long_lists
  tests e =
      let e4 = and_left _ _ e in
      let e3 = and_left _ _ e4 in (
        leb-true 1024 (length f) (and_right (leb 8192 (length lp) && leb 8192 (length pp)) _ e3),
        leb-true 1024 (length c) (and_right (leb 8192 (length lp) && leb 8192 (length pp) && leb 1024 (length f)) _ e4),
        leb-true 1024 (length pc) (and_right (leb 8192 (length lp) && leb 8192 (length pp) && leb 1024 (length f) && leb 1024 (length c)) _ e),
      )

  pub backed-loaded : (b : Bool) → b ≡ long_lists (net_tables lp pp f c pc) → Backed b f c
  backed-loaded b e = record { f-len = λ q. (tests (sym e ∙ q)).0; c_len = λ q. (tests (sym e ∙ q)).1 }

  pub backed-present : (b : Bool) → b ≡ long_lists (net_tables lp pp f c pc) → Backed b f pc
  backed-present b e = record { f-len = λ q. (tests (sym e ∙ q)).0; c_len = λ q. (tests (sym e ∙ q)).2 }

  pub handed-present : (b : Bool) (e : ℕ) → b ≡ long_lists (net_tables lp pp f c pc) → part_in pp f pc b e ≡ handed_out (net_tables lp pp f c pc) true e
  unfolding part_in handed_out
  handed-present b e q = rw q

  pub handed-loaded : (b : Bool) (e : ℕ) → b ≡ long_lists (net_tables lp pp f c pc) → part_in lp f c b e ≡ handed_out (net_tables lp pp f c pc) false e
  unfolding part_in handed_out
  handed-loaded b e q = rw q

module _ (table f c : List ℕ) (long : Bool) (e : ℕ) where
  abbrev from : ℕ
  from = get_or f (e - 1) 0

  abbrev size : ℕ
  size = get_or c (e - 1) 0

  abbrev tested : Bool → Bool → Bool → Bool → Part
  tested w x y z = cond (w && x && y && z) (record { from = from; size = size }) (record { from = 0; size = 0 })

  -- the first test that fails gives the empty stretch
  pub short_none : long ≡ false → part_in table f c long e ≡ record { from = 0; size = 0 }
  unfolding part_in
  short_none q = ap (λ (t : Bool). tested (leb 1 e) (leb e 1024) t (leb (from + size) (length table))) q ∙ go (leb 1 e) (leb e 1024) (leb (from + size) (length table))
    where
      go : (w x z : Bool) → tested w x false z ≡ record { from = 0; size = 0 }
      go true true z = refl
      go true false z = refl
      go false x z = refl

  pub zero-none : e < 1 → part_in table f c long e ≡ record { from = 0; size = 0 }
  unfolding part_in
  zero-none q = ap (λ (t : Bool). tested t (leb e 1024) long (leb (from + size) (length table))) (lt-leb 1 e q)

  pub high-none : 1024 < e → part_in table f c long e ≡ record { from = 0; size = 0 }
  unfolding part_in
  high-none q = ap (λ (t : Bool). tested (leb 1 e) t long (leb (from + size) (length table))) (lt-leb e 1024 q) ∙ go (leb 1 e)
    where
      go : (w : Bool) → tested w false long (leb (from + size) (length table)) ≡ record { from = 0; size = 0 }
      go true = refl
      go false = refl

  pub past-none : length table < from + size → part_in table f c long e ≡ record { from = 0; size = 0 }
  unfolding part_in
  past-none q = ap (tested (leb 1 e) (leb e 1024) long) (lt-leb (from + size) (length table) q) ∙ go (leb 1 e) (leb e 1024) long
    where
      go : (w x y : Bool) → tested w x y false ≡ record { from = 0; size = 0 }
      go true true true = refl
      go true true false = refl
      go true false y = refl
      go false x y = refl

  pub part-some : long ≡ true → 1 ≤ e → e ≤ 1024 → from + size ≤ length table → part_in table f c long e ≡ record { from = from; size = size }
  unfolding part_in
  part-some l p q r =
      ap (λ (t : Bool). tested t (leb e 1024) long (leb (from + size) (length table))) (le-leb 1 e p)
      ∙ ap (λ (t : Bool). tested true t long (leb (from + size) (length table))) (le-leb e 1024 q)
      ∙ ap (λ (t : Bool). tested true true t (leb (from + size) (length table))) l
      ∙ ap (tested true true true) (le-leb (from + size) (length table) r)
