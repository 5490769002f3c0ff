-- One net's stretch of pins: a vertex found in it, replaced or removed by a contraction, put back by the undo. Rests on laws of occurrences.
use Rattle.std.specs.Prelude.{Option, Some, None, IsSome, ◌≡◌, refl, ◌⊎◌, ◌↔◌, List, ℕ, ◌+◌, ◌-◌, ◌≤◌, ◌<◌, max, length, set}
use Rattle.std.proofs.Common.{sym, ap, ◌∙◌, inl, inr, arith, length-set, get_or-set_same, get_or-set_other}
use Rattle.std.proofs.Math.Decide.{ℕ_discrete, dec_lt}
use Rattle.laws.specs.Occurrence.{at, same, occ, In, Distinct, same-yes, same-no, same-le, occ-step, occ-at, occ-in, occ-more, occ-set, occ-ext, distinct-occ, occ-distinct}
use Rattle.laws.specs.Rising.{Rising, rising-distinct}
use Rattle.pins.specs.Rising.{RisingBut, Outside, Shuffled, Carried, Lowered, wider, stood, apart}
use Rattle.pins.specs.Lift.{Lifted}

-- a place that was found, or n
abbrev pub place_or : ℕ → Option ℕ → ℕ
place_or n None = n
place_or n (Some i) = i

-- r is a place of the stretch that holds x, or n where x is in none
pub record Found (l : List ℕ) (f n x r : ℕ) : Type 0 where
  pub within : r ≤ n
  pub found : r < n → at l f r ≡ x
  pub missing : r ≡ n → occ l f n x ≡ 0

pub found_in : (l : List ℕ) (f n x r : ℕ) → Found l f n x r → In l f n x → r < n
found_in l f n x r h i = go (dec_lt r n)
  where
    go : Dec (r < n) → r < n
    go (yes k) = k
    go (no k) = absurd (omega (arith, h.missing (omega (arith, h.within)), occ-at l f n i.0 x i.1 i.2))

-- what stands there is found
pub found-some : (l : List ℕ) (f n x : ℕ) (r : Option ℕ) → Found l f n x (place_or n r) → In l f n x → IsSome r
found-some l f n x None h i = absurd (omega (arith, found_in l f n x n h i))
found-some l f n x (Some k) h i = refl

-- v is contracted into u: the stretch of n places of l, with v among them, is now the stretch of r places of l'
pub record Relinked (l l' : List ℕ) (f n r u v : ℕ) : Type 0 where
  pub counts : (x : ℕ) → occ l' f r x + same v x ≡ max (occ l f n x) (same u x)
  pub removed : 1 ≤ occ l f n u → (r + 1 ≡ n) × (at l' f r ≡ v)
  pub replaced : occ l f n u ≡ 0 → r ≡ n
  pub rising : Rising l f n → Rising l' f r
  pub outside : Outside l l' f n

-- u is split into u and v again; N places were loaded
pub record Unlinked (l l' : List ℕ) (f n N r u v : ℕ) : Type 0 where
  pub restored : n < N → at l f n ≡ v → (r ≡ n + 1) × ((x : ℕ) → occ l' f r x ≡ occ l f n x + same v x)
  pub replaced : ((n < N) × (at l f n ≡ v) → ⊥) → (r ≡ n) × ((x : ℕ) → occ l' f n x + same u x ≡ occ l f n x + same v x)
  pub rising : Rising l f n → occ l f n v ≡ 0 → Rising l' f r
  pub outside : Outside l l' f r

-- ---- what `relink` says of sets

-- y becomes x
abbrev pub Becomes : ℕ → ℕ → ℕ → ℕ → Type 0
Becomes u v y x = ((y ≡ x) × (y ≡ v → ⊥)) ⊎ ((y ≡ v) × (x ≡ u))

module _ (l l' : List ℕ) (f n r u v : ℕ) (ne : u ≡ v → ⊥) (d : Distinct l f n) (h : In l f n v) (k : Relinked l l' f n r u v) where
  pub relinked-distinct : Distinct l' f r
  relinked-distinct = occ-distinct l' f r (λ x. omega (arith, k.counts x, distinct-occ l f n d x, same-le u x))

  pub relinked-to : (x : ℕ) → In l' f r x → (y : ℕ) × (In l f n y) × (Becomes u v y x)
  relinked-to x i = go (ℕ_discrete x u) (ℕ_discrete x v)
    where
      p : 1 ≤ occ l' f r x
      p = occ-at l' f r i.0 x i.1 i.2

      go : Dec (x ≡ u) → Dec (x ≡ v) → (y : ℕ) × (In l f n y) × (Becomes u v y x)
      go (yes e) o = (v, h, inr (refl, e))
      go (no e) (yes q) = absurd (omega (arith, p, k.counts x, same-yes v x (sym q), same-no u x (λ z. e (sym z)), distinct-occ l f n d x))
      go (no e) (no q) = (x, occ-in l f n x (omega (arith, p, k.counts x, same-no u x (λ z. e (sym z)))), inl (refl, q))

  pub relinked-from : (x y : ℕ) → In l f n y → Becomes u v y x → In l' f r x
  relinked-from x y i (inl b) = occ-in l' f r x (omega (arith, k.counts x, occ-at l f n i.0 x i.1 (i.2 ∙ b.0), same-no v x (λ z. b.1 (b.0 ∙ sym z))))
  relinked-from x y i (inr b) = occ-in l' f r x (omega (arith, k.counts x, same-yes u x (sym b.1), same-no v x (λ z. ne (sym (z ∙ b.1)))))

-- the same for a reader, as sets: what the contract of `relink` says
pub record Contracted (l l' : List ℕ) (f n r u v : ℕ) : Type 0 where
  pub counted : Relinked l l' f n r u v
  pub distinct : Distinct l' f r
  pub members : (x : ℕ) → In l' f r x ↔ ((y : ℕ) × (In l f n y) × (Becomes u v y x))

pub contracted : (l l' : List ℕ) (f n r u v : ℕ) → (u ≡ v → ⊥) → Distinct l f n → In l f n v → Relinked l l' f n r u v → Contracted l l' f n r u v
contracted l l' f n r u v ne d h k = record {
  counted = k;
  distinct = relinked-distinct l l' f n r u v ne d h k;
  members = λ x. (relinked-to l l' f n r u v ne d h k x, λ w. relinked-from l l' f n r u v ne d h k x w.0 w.1 w.2);
}

-- ---- one pin for another
-- a of the stretch has become b
pub record Replaced (l l' : List ℕ) (f n a b : ℕ) : Type 0 where
  pub counts : (x : ℕ) → occ l' f n x + same a x ≡ occ l f n x + same b x
  pub rising : occ l f n b ≡ 0 → Rising l f n → Rising l' f n
  pub outside : Outside l l' f n
  pub len : length l' ≡ length l

-- the last place is left out
but_last : (l : List ℕ) (f n : ℕ) → RisingBut l f n (n - 1) → Rising l f (n - 1)
but_last l f n r i j ij jn = r i j ij (omega arith) (λ q. omega arith) (λ q. omega arith)

module _ {l l₁ : List ℕ} {f n i : ℕ} (b : f + n ≤ length l) (k : i < n) (c : Carried l l₁ f n i (n - 1)) where
  carried-counts : (a : ℕ) → at l f i ≡ a → (x : ℕ) → occ l₁ f (n - 1) x + same a x ≡ occ l f n x
  carried-counts a e x =
      let m : n - 1 + 1 ≡ n = omega arith in
      omega (arith, rw m at (occ-step l₁ f (n - 1) x), ap (λ (z : ℕ). same z x) (c.here ∙ e), c.shuffled.often x)

  carried-rising : Rising l f n → Rising l₁ f (n - 1)
  carried-rising r = but_last l₁ f n (c.rising (λ p q pq qn np nq. r p q pq qn))

  pub remove-law : (u v : ℕ) → at l f i ≡ v → 1 ≤ occ l f n u → Relinked l l₁ f n (n - 1) u v
  remove-law u v e some = record {
    counts = λ x. go x (ℕ_discrete u x);
    removed = λ h. (omega arith, c.here ∙ e);
    replaced = λ h. absurd (omega arith);
    rising = carried-rising;
    outside = c.shuffled.outside;
  }
    where
      go : (x : ℕ) → Dec (u ≡ x) → occ l₁ f (n - 1) x + same v x ≡ max (occ l f n x) (same u x)
      go x (yes q) = omega (arith, carried-counts v e x, ap (occ l f n) q, same-le u x)
      go x (no q) = omega (arith, carried-counts v e x, same-no u x q)

-- the pin at place i gets b, which is not above it, and is let down
pub sunk-law : {l l₂ : List ℕ} {f n i : ℕ} (a b : ℕ) → f + n ≤ length l → i < n → at l f i ≡ a → b ≤ a → Lowered (set l (f + i) b) l₂ f i → Replaced l l₂ f n a b
sunk-law {l} {l₂} {f} {n} {i} a b fit h e low w = record {
  counts = λ x. omega (arith, occ-set l f n i b x h (omega arith), ap (λ (z : ℕ). same z x) e, s.often x);
  rising = λ none r x y xy yn. go none r x y xy yn (dec_lt i y) (dec_lt i x);
  outside = λ j o. s.outside j o ∙ get_or-set_other l (f + i) j b 0 (apart f n i j h o);
  len = s.len ∙ length-set l (f + i) b;
}
  where
    l₁ : List ℕ
    l₁ = set l (f + i) b

    s : Shuffled (set l (f + i) b) l₂ f n
    s = wider (omega arith) w.shuffled

    here : at (set l (f + i) b) f i ≡ b
    here = get_or-set_same l (f + i) b 0 (omega arith)

    kept : (p : ℕ) → (p ≡ i → ⊥) → at (set l (f + i) b) f p ≡ at l f p
    kept p q = get_or-set_other l (f + i) (f + p) b 0 (λ z. q (omega arith))

    less : occ l f n b ≡ 0 → b < a
    less none = strict low differ
      where
        differ : a ≡ b → ⊥
        differ q = omega (arith, occ-at l f n i b h (e ∙ q))

        strict : b ≤ a → (a ≡ b → ⊥) → b < a
        strict u v = omega (arith, v)

    distinct : occ l f n b ≡ 0 → Rising l f n → Distinct (set l (f + i) b) f (i + 1)
    distinct none r = occ-distinct (set l (f + i) b) f (i + 1) (λ x. once x (ℕ_discrete b x))
      where
        first : (x : ℕ) → occ (set l (f + i) b) f i x ≡ occ l f i x
        first x = occ-ext l (set l (f + i) b) f i x (λ p q. kept p (λ z. omega arith))

        part : (x : ℕ) → occ l f i x ≤ occ l f n x
        part x = let m : i + (n - i) ≡ n = omega arith in rw m at (occ-more l f i (n - i) x)

        once : (x : ℕ) → Dec (b ≡ x) → occ (set l (f + i) b) f (i + 1) x ≤ 1
        once x (yes q) = omega (arith, occ-step (set l (f + i) b) f i x, first x, part x, ap (occ l f n) q, same-le (at (set l (f + i) b) f i) x)
        once x (no q) = omega (arith, occ-step (set l (f + i) b) f i x, first x, part x, distinct-occ l f n (rising-distinct l f n r) x, ap (λ (z : ℕ). same z x) here, same-no b x q)

    front : occ l f n b ≡ 0 → Rising l f n → Rising l₂ f (i + 1)
    front none r = w.rising (distinct none r) (λ p q pq qi. omega (arith, kept p (λ z. omega arith), kept q (λ z. omega arith), r p q pq (omega arith)))

    -- what stands in front is below what stands behind place i
    under : occ l f n b ≡ 0 → Rising l f n → (x y : ℕ) → x ≤ i → i < y → y < n → at l₂ f x < at l f y
    under none r x y xi iy yn = at_place (stood w.shuffled x (omega arith))
      where
        at_place : In (set l (f + i) b) f (i + 1) (at l₂ f x) → at l₂ f x < at l f y
        at_place p = go (ℕ_discrete p.0 i)
          where
            go : Dec (p.0 ≡ i) → at l₂ f x < at l f y
            go (yes q) = omega (arith, p.2, ap (at (set l (f + i) b) f) q, here, less none, e, r i y iy yn)
            go (no q) = omega (arith, p.2, kept p.0 q, r p.0 y (omega (arith, p.1)) yn)

    behind : (y : ℕ) → i < y → at l₂ f y ≡ at l f y
    behind y iy = w.shuffled.outside (f + y) (inr (omega arith)) ∙ kept y (λ z. omega arith)

    go : occ l f n b ≡ 0 → Rising l f n → (x y : ℕ) → x < y → y < n → Dec (i < y) → Dec (i < x) → at l₂ f x < at l₂ f y
    go none r x y xy yn (no p) q = front none r x y xy (omega arith)
    go none r x y xy yn (yes p) (yes q) = omega (arith, behind x q, behind y p, r x y xy yn)
    go none r x y xy yn (yes p) (no q) = omega (arith, behind y p, under none r x y (omega arith) p yn)

-- the pin at place i has become b and was lifted
pub lifted-law : {l l' : List ℕ} {f n i : ℕ} (a b : ℕ) → at l f i ≡ a → a < b → Lifted l l' f n i b → Replaced l l' f n a b
lifted-law a b e h k = record {
  counts = λ x. omega (arith, k.counts x, ap (λ (z : ℕ). same z x) e);
  rising = λ none r. k.rising (omega (arith, e)) none r;
  outside = k.outside;
  len = k.len;
}

pub replace-law : {l l' : List ℕ} {f n u v : ℕ} → occ l f n u ≡ 0 → Replaced l l' f n v u → Relinked l l' f n n u v
replace-law {l} {l'} {f} {n} {u} {v} none k = record {
  counts = λ x. go x (ℕ_discrete u x);
  removed = λ h. absurd (omega arith);
  replaced = λ h. refl;
  rising = k.rising none;
  outside = k.outside;
}
  where
    go : (x : ℕ) → Dec (u ≡ x) → occ l' f n x + same v x ≡ max (occ l f n x) (same u x)
    go x (yes q) = omega (arith, k.counts x, ap (occ l f n) q, same-le u x)
    go x (no q) = omega (arith, k.counts x, same-no u x q)

-- ---- the two cases of `unlink`
pub regrow-law : {l l' : List ℕ} {f n N u v : ℕ} → n < N → at l f n ≡ v → Lowered l l' f n → Unlinked l l' f n N (n + 1) u v
regrow-law {l} {l'} {f} {n} {N} {u} {v} m e k = record {
  restored = λ _ _. (refl, λ x. omega (arith, k.shuffled.often x, occ-step l f n x, ap (λ (z : ℕ). same z x) e));
  replaced = λ h. absurd (h (m, e));
  rising = λ r none. k.rising (occ-distinct l f (n + 1) (λ x. once r none x (ℕ_discrete v x))) r;
  outside = k.shuffled.outside;
}
  where
    once : Rising l f n → occ l f n v ≡ 0 → (x : ℕ) → Dec (v ≡ x) → occ l f (n + 1) x ≤ 1
    once r none x (yes q) = omega (arith, occ-step l f n x, ap (occ l f n) q, same-le (at l f n) x)
    once r none x (no q) = omega (arith, occ-step l f n x, ap (λ (z : ℕ). same z x) e, same-no v x q, distinct-occ l f n (rising-distinct l f n r) x)

pub unput-law : {l l' : List ℕ} {f n N u v : ℕ} → ((n < N) × (at l f n ≡ v) → ⊥) → Replaced l l' f n u v → Unlinked l l' f n N n u v
unput-law {l} {l'} {f} {n} {N} {u} {v} not k = record {
  restored = λ m q. absurd (not (m, q));
  replaced = λ h. (refl, k.counts);
  rising = λ r none. k.rising none r;
  outside = k.outside;
}
