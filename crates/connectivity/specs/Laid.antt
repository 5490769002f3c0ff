-- A gain table to which each vertex has had its net's share added, and the stretch of a net's pins. Rests on Row.
use Rattle.std.specs.Prelude.{ℕ, ◌+◌, ◌*◌, ◌-◌, ◌<◌, ◌≤◌, ◌≡◌, refl, Bool, true, false, cond, List, length, get_or, ℤ, pos, nat_abs, ◌+ℤ◌, neg_ℤ}
use Rattle.std.proofs.Common.{sym, ap, ◌∙◌, arith}
use Rattle.std.proofs.Math.Decide.{ℕ_discrete}
use Rattle.std.proofs.Math.IntN.{+ℤ_idr}
use Rattle.laws.specs.Integer.{neg_is, abs_is}
use Rattle.connectivity.specs.Share.{share}
use Rattle.connectivity.specs.Raised.{Raised, at}
use Rattle.connectivity.specs.Listed.{vertex_at, clear16}
use Rattle.connectivity.specs.Matrix.{share_of}
use Rattle.connectivity.specs.Row.{read, row, row_here, row-there, row-not, share-is, share_of-none}

-- `h a j` is what a vertex that the row `r` has in the block `a` gets at the block `j`
pub record Laid (h : ℕ → ℕ → ℤ) (r : ℕ → ℕ) (k : ℕ) (g g' : List ℤ) : Type 0 where
  pub len : length g' ≡ length g
  pub inside : (y j : ℕ) → j < k → at g' (16 * y + j) ≡ at g (16 * y + j) +ℤ h (r y) j
  pub outside : (y j : ℕ) → k ≤ j → j < 16 → at g' (16 * y + j) ≡ at g (16 * y + j)

-- taken or place
unfoldable pub signed : Bool → ℤ → ℤ
signed t z = cond t (neg_ℤ z) z

-- the share by the counts of a table, taken or put
abbrev pub given : Bool → List ℕ → ℕ → ℕ → ℕ → ℕ → ℤ
given t counts e w a j = signed t (share_of (read counts (16 * e)) w a (j + 1))

pub signed-none : (t : Bool) → signed t (pos 0) ≡ pos 0
unfolding signed
signed-none true = refl
signed-none false = refl

pub signed_le : (t : Bool) (z : ℤ) → nat_abs (signed t z) ≤ nat_abs z
unfolding signed
signed_le true z = omega (arith, neg_is z, abs_is z, abs_is (neg_ℤ z))
signed_le false z = omega arith

pub given-none : (t : Bool) (counts : List ℕ) (e w j : ℕ) → given t counts e w 0 j ≡ pos 0
given-none t counts e w j = ap (signed t) (share_of-none (read counts (16 * e)) w (j + 1)) ∙ signed-none t

module _ {h : ℕ → ℕ → ℤ} {k : ℕ} (zero-none : (j : ℕ) → h 0 j ≡ pos 0) where
  pub laid_none : (r : ℕ → ℕ) (g : List ℤ) → ((y : ℕ) → r y ≡ 0) → Laid h r k g g
  laid_none r g z = record {
    len = refl;
    inside = λ y j l. sym (ap (λ (a : ℕ). at g (16 * y + j) +ℤ h a j) (z y) ∙ ap (λ (t : ℤ). at g (16 * y + j) +ℤ t) (zero-none j) ∙ +ℤ_idr _);
    outside = λ y j l u. refl;
  }

  -- a vertex that the row has not yet has its entry as it was
  pub laid_next : {r : ℕ → ℕ} {g g₁ : List ℤ} → Laid h r k g g₁ → (q : ℕ) → r q ≡ 0 → (j : ℕ) → j < k → at g₁ (16 * q + j) ≡ at g (16 * q + j)
  laid_next {g} t q z j l = t.inside q j l ∙ ap (λ (a : ℕ). at g (16 * q + j) +ℤ h a j) z ∙ ap (λ (s : ℤ). at g (16 * q + j) +ℤ s) (zero-none j) ∙ +ℤ_idr _

  pub laid_more : {r r' : ℕ → ℕ} {g g₁ g₂ : List ℤ} {q o : ℕ} → k ≤ 16 → Laid h r k g g₁ → r q ≡ 0 → r' q ≡ o → ((y : ℕ) → (y ≡ q → ⊥) → r' y ≡ r y) → Raised (h o) (16 * q) k g₁ g₂ → Laid h r' k g g₂
  laid_more {r} {r'} {g} {g₁} {g₂} {q} {o} few t z e same u = record {
    len = u.len ∙ t.len;
    inside = λ y j l. by y j l (ℕ_discrete y q);
    outside = λ y j l v. u.outside (16 * y + j) (λ s. omega arith) ∙ t.outside y j l v;
  }
    where
      by : (y j : ℕ) → j < k → Dec (y ≡ q) → at g₂ (16 * y + j) ≡ at g (16 * y + j) +ℤ h (r' y) j
      by y j l (yes p) = rw (p, e) (u.inside j l ∙ ap (λ (s : ℤ). s +ℤ h o j) (laid_next t q z j l))
      by y j l (no p) =
          u.outside (16 * y + j) (clear16 k q y few (λ s. p (sym s)) j l) ∙ t.inside y j l ∙ ap (λ (a : ℕ). at g (16 * y + j) +ℤ h a j) (sym (same y p))

  pub laid-ext : {r r' : ℕ → ℕ} {g g₁ : List ℤ} → Laid h r k g g₁ → ((y : ℕ) → r' y ≡ r y) → Laid h r' k g g₁
  laid-ext {g} t same = record {
    len = t.len;
    inside = λ y j l. t.inside y j l ∙ ap (λ (a : ℕ). at g (16 * y + j) +ℤ h a j) (sym (same y));
    outside = t.outside;
  }

-- the stretch of a net's pins: it has each once, and each is of a block
pub record Net (pins blocks : List ℕ) (first p n k : ℕ) : Type 0 where
  pub pins-fit : first + p ≤ length pins
  pub in-range : (j : ℕ) → j < p → (1 ≤ get_or pins (first + j) 0) × (get_or pins (first + j) 0 ≤ n)
  pub in_blocks : (j : ℕ) → j < p → (1 ≤ get_or blocks (vertex_at pins first j) 0) × (get_or blocks (vertex_at pins first j) 0 ≤ k)
  pub once : (i j : ℕ) → i < j → j < p → get_or pins (first + i) 0 ≡ get_or pins (first + j) 0 → ⊥

-- no vertex past `n` is in the row
pub row-past : {pins blocks : List ℕ} {first p n k : ℕ} → Net pins blocks first p n k → (y : ℕ) → n ≤ y → row pins blocks first p y ≡ 0
row-past {pins} {blocks} {first} {p} s y h = row-not pins blocks first p y (λ i u f. omega (arith, s.in-range i u))

-- the pin `q` comes next: the row of the pins before it does not have it yet
module _ {pins blocks : List ℕ} {first p n k i q : ℕ} (s : Net pins blocks first p n k) (hi : i < p) (eq : q ≡ get_or pins (first + i) 0) where
  pub pin-range : (1 ≤ q) × (q ≤ n)
  pin-range = omega (arith, s.in-range i hi)

  pin_at : get_or pins (first + i) 0 ≡ q - 1 + 1
  pin_at = omega (arith, pin-range)

  pub pin-block : {b : ℕ} → b ≡ get_or blocks (q - 1) 0 → (1 ≤ b) × (b ≤ k)
  pin-block eb = omega (arith, eb, s.in_blocks i hi, ap (λ (z : ℕ). get_or blocks (z - 1) 0) eq)

  pub next-fresh : row pins blocks first i (q - 1) ≡ 0
  next-fresh = row-not pins blocks first i (q - 1) (λ j l t. s.once j i l hi (t ∙ sym pin_at))

  pub next_here : row pins blocks first (i + 1) (q - 1) ≡ get_or blocks (q - 1) 0
  next_here = row_here pins blocks first i (q - 1) pin_at

  pub next-there : (y : ℕ) → (y ≡ q - 1 → ⊥) → row pins blocks first (i + 1) y ≡ row pins blocks first i y
  next-there y ne = row-there pins blocks first i y (λ t. ne (omega (arith, t, pin_at)))

-- only the places of the stretch count
pub net-ext : {pins pins' blocks : List ℕ} {f p n k : ℕ} → length pins' ≡ length pins → ((i : ℕ) → i < p → get_or pins' (f + i) 0 ≡ get_or pins (f + i) 0) → Net pins blocks f p n k → Net pins' blocks f p n k
net-ext hl h s = record {
  pins-fit = omega (arith, hl, s.pins-fit);
  in-range = λ j l. rw (h j l) (s.in-range j l);
  in_blocks = λ j l. rw (h j l) (s.in_blocks j l);
  once = λ i j l u q. s.once i j l u (sym (h i (omega arith)) ∙ q ∙ h j u);
}

-- what `share_row` says, by the block from 1
pub raised-given : {k : ℕ} {g g' : List ℤ} (t : Bool) (counts : List ℕ) (x e a w : ℕ) → 1 ≤ a → Raised (λ j. signed t (share counts (16 * e) (a - 1) w j)) (16 * x) k g g' → Raised (given t counts e w a) (16 * x) k g g'
raised-given {g = g} t counts x e a w h u = record {
  len = u.len;
  inside = λ j l. u.inside j l ∙ ap (λ (s : ℤ). at g (16 * x + j) +ℤ signed t s) (share-is counts (16 * e) a w j h);
  outside = u.outside;
}

-- a row with shares taken from it or put to it is raised by them, by the sign
pub raised-taken : (f : ℕ → ℤ) {row k : ℕ} {g g' : List ℤ} (t : Bool) → t ≡ true → Raised (λ j. neg_ℤ (f j)) row k g g' → Raised (λ j. signed t (f j)) row k g g'
unfolding signed
raised-taken f t e u = rw e u

pub raised-put : (f : ℕ → ℤ) {row k : ℕ} {g g' : List ℤ} (t : Bool) → t ≡ false → Raised f row k g g' → Raised (λ j. signed t (f j)) row k g g'
unfolding signed
raised-put f t e u = rw e u
