-- The candidates of a search as three rows of bits: row 0 has the vertices that may be chosen, row 1 those that have moved and those that
-- are fixed, which count here as moved, row 2 the nets whose pins have been marked. What marking does to them. Vertices and nets count from 0.
-- Rests on incidence's rows of bits and connectivity's pin stretches. Assumes nothing.
use Prim.Native.Nat.{ℕ, zero, suc, ◌+◌, ◌*◌, ◌-◌, ◌/◌, ◌%◌, ◌<◌, ◌≤◌}
use Rattle.std.proofs.Math.Decide.{ℕ_discrete, dec_lt}
use Rattle.std.proofs.Common.{add-one, arith, sym, ◌∙◌, eq-eqb, ne_eqb, eqb-true}
use Rattle.std.specs.Prelude.{◌≡◌, Bool, false, not, ◌&&◌, ◌||◌, cond, List, eqb, length, get_or}
use Rattle.std.proofs.Math.Path.{refl, ap, ap₂, subst}
use Rattle.std.proofs.Math.Bool.{true, and-false, and-true, or-true, or-false}
use Rattle.std.specs.Int.Bits.{bit_and, bit_xor}
use Rattle.laws.specs.Bit.{bit, bit-lt, bit-and, bit-xor}
use Rattle.incidence.specs.Word.{NextBit}
use Rattle.incidence.specs.On.{on, on-is, Changed, Cut}
use Rattle.connectivity.specs.Listed.{has}

-- the vertex may be chosen
abbrev pub candidate_bit : List ℕ → ℕ → Bool
candidate_bit l x = eqb (on l 0 x) 1

-- the vertex has moved, or is fixed
abbrev pub moved_bit : List ℕ → ℕ → Bool
moved_bit l x = eqb (on l 1 x) 1

-- those that pass a test have become candidates, except where they have moved
pub record Marked (l l' : List ℕ) (p : ℕ → Bool) : Type 0 where
  pub len : length l' ≡ length l
  pub moved : (x : ℕ) → x < 1024 → moved_bit l' x ≡ moved_bit l x
  pub marks : (x : ℕ) → x < 1024 → candidate_bit l' x ≡ (candidate_bit l x || (p x && not (moved_bit l x)))

pub marked-none : (l : List ℕ) (p : ℕ → Bool) → ((x : ℕ) → x < 1024 → p x ≡ false) → Marked l l p
marked-none l p h = record {
  len = refl;
  moved = λ x k. refl;
  marks = λ x k. sym (or-false (candidate_bit l x)) ∙ ap (λ (b : Bool). candidate_bit l x || (b && not (moved_bit l x))) (sym (h x k));
}

pub marked-ext : {l l' : List ℕ} {p : ℕ → Bool} (q : ℕ → Bool) → Marked l l' p → ((x : ℕ) → x < 1024 → p x ≡ q x) → Marked l l' q
marked-ext {l} q m h = record {
  len = m.len;
  moved = m.moved;
  marks = λ x k. m.marks x k ∙ ap (λ (b : Bool). candidate_bit l x || (b && not (moved_bit l x))) (h x k);
}

pub marked_more : {l l' l'' : List ℕ} {p q : ℕ → Bool} → Marked l l' p → Marked l' l'' q → Marked l l'' (λ x. p x || q x)
marked_more {l} {l'} {p = p} {q = q} a b = record {
  len = b.len ∙ a.len;
  moved = λ x k. b.moved x k ∙ a.moved x k;
  marks = λ x k.
      b.marks x k
      ∙ ap₂ (λ (c d : Bool). c || (q x && not d)) (a.marks x k) (a.moved x k)
      ∙ law (candidate_bit l x) (p x) (q x) (not (moved_bit l x));
}
  where
    law : (c p q n : Bool) → ((c || (p && n)) || (q && n)) ≡ (c || ((p || q) && n))
    law true p q n = refl
    law false false q n = refl
    law false true q true = refl
    law false true true false = refl
    law false true false false = refl

-- row 2 is as it was
pub record SameNets (l l' : List ℕ) : Type 0 where
  pub same : (e : ℕ) → e < 1024 → on l' 2 e ≡ on l 2 e

pub nets-same : (l : List ℕ) → SameNets l l
nets-same l = record { same = λ e k. refl }

pub nets-then : {l l' l'' : List ℕ} → SameNets l l' → SameNets l' l'' → SameNets l l''
nets-then a b = record { same = λ e k. b.same e k ∙ a.same e k }

-- row 2 has all that it had
pub record MoreNets (l l' : List ℕ) : Type 0 where
  pub more : (e : ℕ) → e < 1024 → on l 2 e ≡ 1 → on l' 2 e ≡ 1

pub more-none : (l : List ℕ) → MoreNets l l
more-none l = record { more = λ e k o. o }

pub more-then : {l l' l'' : List ℕ} → MoreNets l l' → MoreNets l' l'' → MoreNets l l''
more-then a b = record { more = λ e k o. b.more e k (a.more e k o) }

-- a bit of another row is changed
pub nets-beside : {l l' : List ℕ} {r x v : ℕ} → r < 2 → Changed l l' r x v → SameNets l l'
nets-beside k c = record { same = λ e l. c.elsewhere 2 e l (λ p _. omega arith) }

-- ---- one vertex

pub marked-one : {l l' : List ℕ} (x : ℕ) → x < 1024 → moved_bit l x ≡ false → Changed l l' 0 x 1 → Marked l l' (λ y. eqb y x)
marked-one {l} {l'} x small m c = record {
  len = c.len;
  moved = λ y k. ap (λ (z : ℕ). eqb z 1) (c.elsewhere 1 y k (λ p q. omega arith));
  marks = λ y k. go y k (ℕ_discrete y x);
}
  where
    go : (y : ℕ) → y < 1024 → Dec (y ≡ x) → candidate_bit l' y ≡ (candidate_bit l y || (eqb y x && not (moved_bit l y)))
    go y k (yes q) =
        ap (candidate_bit l') q
        ∙ ap (λ (z : ℕ). eqb z 1) c.here
        ∙ sym (or-true (candidate_bit l y))
        ∙ sym (ap₂ (λ (a b : Bool). candidate_bit l y || (a && not b)) (eq-eqb y x q) (ap (moved_bit l) q ∙ m))
    go y k (no q) =
        ap (λ (z : ℕ). eqb z 1) (c.elsewhere 0 y k (λ _ r. q r))
        ∙ sym (or-false (candidate_bit l y))
        ∙ sym (ap (λ (a : Bool). candidate_bit l y || (a && not (moved_bit l y))) (ne_eqb y x q))

pub marked-moved : (l : List ℕ) (x : ℕ) → moved_bit l x ≡ true → Marked l l (λ y. eqb y x)
marked-moved l x m = record { len = refl; moved = λ y k. refl; marks = λ y k. sym (or-false (candidate_bit l y)) ∙ ap (λ (b : Bool). candidate_bit l y || b) (sym (go y (ℕ_discrete y x))) }
  where
    go : (y : ℕ) → Dec (y ≡ x) → (eqb y x && not (moved_bit l y)) ≡ false
    go y (yes q) = ap (λ (b : Bool). eqb y x && not b) (ap (moved_bit l) q ∙ m) ∙ and-false (eqb y x)
    go y (no q) = ap (λ (b : Bool). b && not (moved_bit l y)) (ne_eqb y x q)

-- ---- the pins of a net

-- the stretch lies in the table, and its pins are vertices
pub record PinsOk (pins : List ℕ) (first size : ℕ) : Type 0 where
  pub fit : first + size ≤ length pins
  pub vertices : (j : ℕ) → j < size → (1 ≤ get_or pins (first + j) 0) × (get_or pins (first + j) 0 ≤ 1024)

pub pins-none : (l pins : List ℕ) (first : ℕ) → Marked l l (has pins first 0)
unfolding has
pins-none l pins first = marked-none l (has pins first 0) (λ x k. refl)

pub pins-more : {l l' l'' : List ℕ} (pins : List ℕ) (first j v : ℕ) → 1 ≤ get_or pins (first + j) 0 → v ≡ get_or pins (first + j) 0 → Marked l l' (has pins first j) → Marked l' l'' (λ y. eqb y (v - 1)) → Marked l l'' (has pins first (j + 1))
unfolding has
pins-more pins first j v low e a b = marked-ext (has pins first (j + 1)) (marked_more a b) (λ x k. two (has pins first j x) (eqb x (v - 1)) ∙ ap (λ (t : Bool). cond t true (has pins first j x)) (same x) ∙ ap (λ (i : ℕ). has pins first i x) (sym (add-one j)))
  where
    two : (a b : Bool) → (a || b) ≡ cond b true a
    two true true = refl
    two true false = refl
    two false true = refl
    two false false = refl

    same : (x : ℕ) → eqb x (v - 1) ≡ eqb (get_or pins (first + j) 0) (x + 1)
    same x = go (ℕ_discrete x (v - 1))
      where
        go : Dec (x ≡ v - 1) → eqb x (v - 1) ≡ eqb (get_or pins (first + j) 0) (x + 1)
        go (yes q) = eq-eqb x (v - 1) q ∙ sym (eq-eqb (get_or pins (first + j) 0) (x + 1) (omega arith))
        go (no q) = ne_eqb x (v - 1) q ∙ sym (ne_eqb (get_or pins (first + j) 0) (x + 1) (λ r. q (omega arith)))

-- ---- the nets of a vertex

-- x is a pin of one of the nets of u below m
unfoldable pub near : (bits pins firsts sizes : List ℕ) → ℕ → ℕ → ℕ → Bool
near bits pins firsts sizes u zero x = false
near bits pins firsts sizes u (suc e) x = near bits pins firsts sizes u e x || (eqb (on bits u e) 1 && has pins (get_or firsts e 0) (get_or sizes e 0) x)

pub record NetsOk (bits pins firsts sizes : List ℕ) (m u : ℕ) : Type 0 where
  pub bits_fit : 16 * u + 16 ≤ length bits
  pub few : m ≤ 1024
  pub firsts-fit : m ≤ length firsts
  pub sizes-fit : m ≤ length sizes
  pub nets : (e : ℕ) → e < m → PinsOk pins (get_or firsts e 0) (get_or sizes e 0)

module _ (bits pins firsts sizes : List ℕ) (u : ℕ) where
  near_step : (e x : ℕ) → near bits pins firsts sizes u (e + 1) x ≡ (near bits pins firsts sizes u e x || (eqb (on bits u e) 1 && has pins (get_or firsts e 0) (get_or sizes e 0) x))
  unfolding near
  near_step e x = ap (λ (i : ℕ). near bits pins firsts sizes u i x) (add-one e)

  near_first : (x : ℕ) → near bits pins firsts sizes u 0 x ≡ false
  unfolding near
  near_first x = refl

  pub nets-all : {l l' : List ℕ} (m e : ℕ) → e ≤ m → m ≤ e → Marked l l' (near bits pins firsts sizes u e) → Marked l l' (near bits pins firsts sizes u m)
  nets-all {l} {l'} m e p q a = let r : e ≡ m = omega arith in subst (λ (i : ℕ). Marked l l' (near bits pins firsts sizes u i)) r a

  -- how `near` is told by its nets
  pub near-yes : (m x e : ℕ) → e < m → on bits u e ≡ 1 → has pins (get_or firsts e 0) (get_or sizes e 0) x ≡ true → near bits pins firsts sizes u m x ≡ true
  unfolding near
  near-yes zero x e l o k = absurd (omega arith)
  near-yes (suc m) x e l o k = go (ℕ_discrete e m) (near-yes m x e)
    where
      go : Dec (e ≡ m) → (e < m → on bits u e ≡ 1 → has pins (get_or firsts e 0) (get_or sizes e 0) x ≡ true → near bits pins firsts sizes u m x ≡ true)
          → (near bits pins firsts sizes u m x || (eqb (on bits u m) 1 && has pins (get_or firsts m 0) (get_or sizes m 0) x)) ≡ true
      go (yes q) ih =
          subst (λ (i : ℕ). (near bits pins firsts sizes u m x || (eqb (on bits u i) 1 && has pins (get_or firsts i 0) (get_or sizes i 0) x)) ≡ true) q
          (ap₂ (λ (a b : Bool). near bits pins firsts sizes u m x || (a && b)) (eq-eqb (on bits u e) 1 o) k ∙ or-true (near bits pins firsts sizes u m x))
      go (no q) ih = ap (λ (b : Bool). b || (eqb (on bits u m) 1 && has pins (get_or firsts m 0) (get_or sizes m 0) x)) (ih (omega arith) o k)

  pub near-no : (m x : ℕ) → ((e : ℕ) → e < m → (eqb (on bits u e) 1 && has pins (get_or firsts e 0) (get_or sizes e 0) x) ≡ false) → near bits pins firsts sizes u m x ≡ false
  unfolding near
  near-no zero x h = refl
  near-no (suc m) x h = ap₂ (λ (a b : Bool). a || b) (near-no m x (λ e l. h e (omega arith))) (h m (omega arith))

-- ---- the nets whose pins have been marked

-- the pins of each net of row 2 are candidates or have moved
pub record Covered (l pins firsts sizes : List ℕ) : Type 0 where
  pub covers : (e : ℕ) → e < 1024 → on l 2 e ≡ 1 → (x : ℕ) → x < 1024 → has pins (get_or firsts e 0) (get_or sizes e 0) x ≡ true → (candidate_bit l x || moved_bit l x) ≡ true

module _ {pins firsts sizes : List ℕ} where
  -- a search begins with no net
  pub covered_none : {l : List ℕ} → ((e : ℕ) → e < 1024 → on l 2 e ≡ 0) → Covered l pins firsts sizes
  covered_none n = record { covers = λ e k o. absurd (omega (arith, n e k)) }

  -- the pins of a net are marked already
  pub net-again : {l : List ℕ} (e : ℕ) → e < 1024 → Covered l pins firsts sizes → eqb (on l 2 e) 1 ≡ true → Marked l l (has pins (get_or firsts e 0) (get_or sizes e 0))
  net-again {l} e k c o = record { len = refl; moved = λ x kx. refl; marks = λ x kx. law (has pins (get_or firsts e 0) (get_or sizes e 0) x) (candidate_bit l x) (moved_bit l x) (c.covers e k (eqb-true (on l 2 e) 1 o) x kx) }
    where
      law : (p c m : Bool) → (p ≡ true → (c || m) ≡ true) → c ≡ (c || (p && not m))
      law p true m f = refl
      law false false m f = refl
      law true false true f = refl
      law true false false f = f refl

-- a bit of row 2 is changed, and the other rows are as they were
beside-nets : {l l' : List ℕ} {e v : ℕ} → Changed l l' 2 e v → (r x : ℕ) → r < 2 → x < 1024 → eqb (on l' r x) 1 ≡ eqb (on l r x) 1
beside-nets c r x kr k = ap (λ (z : ℕ). eqb z 1) (c.elsewhere r x k (λ q _. omega arith))

-- the pins of a net are marked, and the net is put into row 2
module _ (pins firsts sizes : List ℕ) {l l₁ l₂ : List ℕ} (e : ℕ) (a : Marked l l₁ (has pins (get_or firsts e 0) (get_or sizes e 0))) (b : Changed l₁ l₂ 2 e 1) where
  pub net-marked : Marked l l₂ (has pins (get_or firsts e 0) (get_or sizes e 0))
  net-marked = record {
    len = b.len ∙ a.len;
    moved = λ x k. beside-nets b 1 x (omega arith) k ∙ a.moved x k;
    marks = λ x k. beside-nets b 0 x (omega arith) k ∙ a.marks x k;
  }

  pub net-more : SameNets l l₁ → MoreNets l l₂
  net-more n = record { more = λ e' k o. go e' k o (ℕ_discrete e' e) }
    where
      go : (e' : ℕ) → e' < 1024 → on l 2 e' ≡ 1 → Dec (e' ≡ e) → on l₂ 2 e' ≡ 1
      go e' k o (yes d) = ap (on l₂ 2) d ∙ b.here
      go e' k o (no d) = b.elsewhere 2 e' k (λ _ r. d r) ∙ n.same e' k ∙ o

  pub net-covered : SameNets l l₁ → Covered l pins firsts sizes → Covered l₂ pins firsts sizes
  net-covered n c = record { covers = λ e' k o x kx q. ap₂ (λ (s t : Bool). s || t) (net-marked.marks x kx) (net-marked.moved x kx) ∙ law (has pins (get_or firsts e 0) (get_or sizes e 0) x) (candidate_bit l x) (moved_bit l x) ∙ go e' k o x kx q (ℕ_discrete e' e) }
    where
      law : (p c m : Bool) → ((c || (p && not m)) || m) ≡ ((c || m) || p)
      law p true m = refl
      law true false true = refl
      law true false false = refl
      law false false true = refl
      law false false false = refl

      go : (e' : ℕ) → e' < 1024 → on l₂ 2 e' ≡ 1 → (x : ℕ) → x < 1024 → has pins (get_or firsts e' 0) (get_or sizes e' 0) x ≡ true → Dec (e' ≡ e)
          → ((candidate_bit l x || moved_bit l x) || has pins (get_or firsts e 0) (get_or sizes e 0) x) ≡ true
      go e' k o x kx q (yes d) =
          ap (λ (p : Bool). (candidate_bit l x || moved_bit l x) || p) (ap (λ (i : ℕ). has pins (get_or firsts i 0) (get_or sizes i 0) x) (sym d) ∙ q)
          ∙ or-true (candidate_bit l x || moved_bit l x)
      go e' k o x kx q (no d) =
          ap (λ (t : Bool). t || has pins (get_or firsts e 0) (get_or sizes e 0) x) (c.covers e' k (sym (b.elsewhere 2 e' k (λ _ r. d r) ∙ n.same e' k) ∙ o) x kx q)

-- ---- the nets of one word

-- the bits of a word that another has not
pub record Fresh (word seen r : ℕ) : Type 0 where
  pub on_word : (j : ℕ) → bit r j ≡ 1 → bit word j ≡ 1
  pub on-seen : (j : ℕ) → bit r j ≡ 0 → bit word j ≡ 1 → bit seen j ≡ 1

pub fresh-law : (word seen : ℕ) → Fresh word seen (bit_xor word (bit_and word seen))
fresh-law word seen = record {
  on_word = λ j h. first (bit word j) (bit seen j) (bit-lt word j) (bit-lt seen j) (sym (told j) ∙ h);
  on-seen = λ j h q. second (bit word j) (bit seen j) (bit-lt seen j) q (sym (told j) ∙ h);
}
  where
    told : (j : ℕ) → bit (bit_xor word (bit_and word seen)) j ≡ bit_xor (bit word j) (bit_and (bit word j) (bit seen j))
    told j = bit-xor word (bit_and word seen) j ∙ ap (λ (z : ℕ). bit_xor (bit word j) z) (bit-and word seen j)

    first : (a b : ℕ) → a < 2 → b < 2 → bit_xor a (bit_and a b) ≡ 1 → a ≡ 1
    first zero zero h k q = absurd (omega (arith, q))
    first zero (suc zero) h k q = absurd (omega (arith, q))
    first zero (suc (suc b)) h k q = absurd (omega arith)
    first (suc zero) b h k q = refl
    first (suc (suc a)) b h k q = absurd (omega arith)

    second : (a b : ℕ) → b < 2 → a ≡ 1 → bit_xor a (bit_and a b) ≡ 0 → b ≡ 1
    second a zero k e q = absurd (omega (arith, ap (λ (z : ℕ). bit_xor z (bit_and z 0)) e, q))
    second a (suc zero) k e q = refl
    second a (suc (suc b)) k e q = absurd (omega arith)

-- the net j of the word w
same_word : (l : List ℕ) (x e w j : ℕ) → e / 64 ≡ w → e % 64 ≡ j → on l x e ≡ bit (get_or l (16 * x + w) 0) j
same_word l x e w j p q = on-is l x e ∙ ap₂ (λ (a b : ℕ). bit (get_or l (16 * x + a) 0) b) p q

-- where the next word begins lies past where this one does
pub word-past : {from m r : ℕ} → from < m → Cut (from + 64) m r → from < r
word-past {from} {m} {r} h c = by (dec_lt r m)
  where
    by : Dec (r < m) → from < r
    by (yes k) = omega (arith, c.same k)
    by (no k) = omega arith

-- what `mark_word` does: whatever had been marked up to `from`, up to r it is now
pub record WordMarked (bits pins firsts sizes : List ℕ) (m u from r : ℕ) (l₀ l : List ℕ) : Type 0 where
  pub cut : Cut (from + 64) m r
  pub marked : (l₁ : List ℕ) → Marked l₁ l₀ (near bits pins firsts sizes u from) → Marked l₁ l (near bits pins firsts sizes u r)
  pub len : length l ≡ length l₀
  pub covered : Covered l pins firsts sizes

-- its loop: the nets below bit j of the word are marked, and none past `to`
pub record Words (bits pins firsts sizes : List ℕ) (u from to : ℕ) (l₀ : List ℕ) (j : ℕ) (l : List ℕ) : Type 0 where
  pub marked : (l₁ : List ℕ) (i : ℕ) → Cut (from + j) to i → Marked l₁ l₀ (near bits pins firsts sizes u from) → Marked l₁ l (near bits pins firsts sizes u i)
  pub len : length l ≡ length l₀
  pub covered : Covered l pins firsts sizes
  pub more : MoreNets l₀ l

module _ (bits pins firsts sizes : List ℕ) (u : ℕ) where
  -- nets that u is no pin of, or whose pins are marked already
  nets-pass : {l l' : List ℕ} (a d : ℕ) → a + d ≤ 1024 → Covered l' pins firsts sizes → ((e : ℕ) → a ≤ e → e < a + d → on bits u e ≡ 1 → on l' 2 e ≡ 1) →
      Marked l l' (near bits pins firsts sizes u a) → Marked l l' (near bits pins firsts sizes u (a + d))
  nets-pass {l} {l'} a zero few c h k = let q : a ≡ a + 0 = omega arith in subst (λ (i : ℕ). Marked l l' (near bits pins firsts sizes u i)) q k
  nets-pass {l} {l'} a (suc d) few c h k = let q : a + d + 1 ≡ a + suc d = omega arith in
      subst (λ (i : ℕ). Marked l l' (near bits pins firsts sizes u i)) q (by (nets-pass a d (omega arith) c (λ e p r. h e p (omega arith)) k) (ℕ_discrete (on bits u (a + d)) 1))
    where
      by : Marked l l' (near bits pins firsts sizes u (a + d)) → Dec (on bits u (a + d) ≡ 1) → Marked l l' (near bits pins firsts sizes u (a + d + 1))
      by z (yes o) = marked-ext (near bits pins firsts sizes u (a + d + 1)) (marked_more z (net-again (a + d) (omega arith) c (eq-eqb (on l' 2 (a + d)) 1 (h (a + d) (omega arith) (omega arith) o))))
          (λ x kx. sym (near_step bits pins firsts sizes u (a + d) x ∙ ap (λ (t : Bool). near bits pins firsts sizes u (a + d) x || (t && has pins (get_or firsts (a + d) 0) (get_or sizes (a + d) 0) x)) (eq-eqb (on bits u (a + d)) 1 o)))
      by z (no o) = marked-ext (near bits pins firsts sizes u (a + d + 1)) z
          (λ x kx. sym (near_step bits pins firsts sizes u (a + d) x ∙ ap (λ (t : Bool). near bits pins firsts sizes u (a + d) x || (t && has pins (get_or firsts (a + d) 0) (get_or sizes (a + d) 0) x)) (ne_eqb (on bits u (a + d)) 1 o) ∙ or-false _))

  module _ (m from to word seen nets : ℕ) (l₀ : List ℕ) (few : m ≤ 1024) (lt : from < m) (even : from % 64 ≡ 0) (cut : Cut (from + 64) m to)
      (ew : word ≡ get_or bits (16 * u + from / 64) 0) (es : seen ≡ get_or l₀ (32 + from / 64) 0) (f : Fresh word seen nets) where
    small : to ≤ 1024
    small = omega (arith, few, cut.right)

    ends : to ≤ from + 64
    ends = cut.left

    begins : from ≤ to
    begins = omega (arith, word-past lt cut)

    seen-on : (j : ℕ) → j < 64 → from + j < 1024 → bit nets j ≡ 0 → on bits u (from + j) ≡ 1 → on l₀ 2 (from + j) ≡ 1
    seen-on j h k z o =
        same_word l₀ 2 (from + j) (from / 64) j (omega arith) (omega arith) ∙ ap (λ (v : ℕ). bit v j) (sym es)
        ∙ f.on-seen j z (ap (λ (v : ℕ). bit v j) ew ∙ sym (same_word bits u (from + j) (from / 64) j (omega arith) (omega arith)) ∙ o)

    -- from the bit a on the next is r: the nets between are passed
    between : {l l₁ : List ℕ} (a r i : ℕ) → NextBit nets a r → Covered l pins firsts sizes → MoreNets l₀ l → a ≤ 64 → from + a ≤ to → Cut (from + r) to i →
        Marked l₁ l (near bits pins firsts sizes u (from + a)) → Marked l₁ l (near bits pins firsts sizes u i)
    between {l} {l₁} a r i b c n ha hi low k =
        let le : from + a ≤ i = at_least (dec_lt i to) in
        let q : from + a + (i - (from + a)) ≡ i = omega arith in
        subst (λ (e : ℕ). Marked l₁ l (near bits pins firsts sizes u e)) q (nets-pass (from + a) (i - (from + a)) (omega (arith, low.right, small)) c (λ e p g o. passed e p (omega arith) o) k)
      where
        at_least : Dec (i < to) → from + a ≤ i
        at_least (yes h) = omega (arith, low.same h, b.low)
        at_least (no h) = omega arith

        passed : (e : ℕ) → from + a ≤ e → e < i → on bits u e ≡ 1 → on l 2 e ≡ 1
        passed e p g o =
            let q : from + (e - from) ≡ e = omega arith in
            n.more e (omega (arith, low.right, small)) (subst (λ (z : ℕ). on l₀ 2 z ≡ 1) q (seen-on (e - from) (omega (arith, low.left, b.high)) (omega (arith, low.right, small)) (b.passed (e - from) (omega arith) (omega (arith, low.left))) (ap (on bits u) q ∙ o)))

    pub words-none : (r : ℕ) → NextBit nets 0 r → Covered l₀ pins firsts sizes → Words bits pins firsts sizes u from to l₀ r l₀
    words-none r b c = record {
      marked = λ l₁ i low k.
          let q : from ≡ from + 0 = omega arith in
          between 0 r i b c (more-none l₀) (omega arith) (omega (arith, begins)) low (subst (λ (e : ℕ). Marked l₁ l₀ (near bits pins firsts sizes u e)) q k);
      len = refl;
      covered = c;
      more = more-none l₀;
    }

    pub words-on : (j : ℕ) → j < 64 → bit nets j ≡ 1 → on bits u (from + j) ≡ 1
    words-on j h o = same_word bits u (from + j) (from / 64) j (omega arith) (omega arith) ∙ ap (λ (v : ℕ). bit v j) (sym ew) ∙ f.on_word j o

    pub words_more : {l l' : List ℕ} (j r : ℕ) → from + j < to → j < 64 → bit nets j ≡ 1 → Words bits pins firsts sizes u from to l₀ j l →
        Marked l l' (has pins (get_or firsts (from + j) 0) (get_or sizes (from + j) 0)) → Covered l' pins firsts sizes → MoreNets l l' → NextBit nets (j + 1) r → Words bits pins firsts sizes u from to l₀ r l'
    words_more {l} {l'} j r h hj o w k c n b = record {
      marked = λ l₁ i low z.
          let q : from + j + 1 ≡ from + (j + 1) = omega arith in
          between (j + 1) r i b c (more-then w.more n) (omega arith) (omega arith) low
          (subst (λ (e : ℕ). Marked l₁ l' (near bits pins firsts sizes u e)) q
          (marked-ext (near bits pins firsts sizes u (from + j + 1)) (marked_more (w.marked l₁ (from + j) (record { left = omega arith; right = omega arith; same = λ _. refl }) z) k)
          (λ x kx. sym (near_step bits pins firsts sizes u (from + j) x ∙ ap (λ (t : Bool). near bits pins firsts sizes u (from + j) x || (t && has pins (get_or firsts (from + j) 0) (get_or sizes (from + j) 0) x)) (eq-eqb (on bits u (from + j)) 1 (words-on j hj o))))));
      len = k.len ∙ w.len;
      covered = c;
      more = more-then w.more n;
    }

    pub words-done : {l : List ℕ} (j : ℕ) → to ≤ from + j → Words bits pins firsts sizes u from to l₀ j l → WordMarked bits pins firsts sizes m u from to l₀ l
    words-done j h w = record {
      cut = cut;
      marked = λ l₁ z. w.marked l₁ to (record { left = h; right = omega arith; same = λ q. absurd (omega arith) }) z;
      len = w.len;
      covered = w.covered;
    }

  pub nets-first : (l : List ℕ) → Marked l l (near bits pins firsts sizes u 0)
  nets-first l = marked-none l (near bits pins firsts sizes u 0) (λ x k. near_first bits pins firsts sizes u x)

-- ---- a vertex has moved

-- u has moved, and is no candidate any more; those that pass a test have become candidates, except where they have moved
pub record Spread (l l' : List ℕ) (u : ℕ) (p : ℕ → Bool) : Type 0 where
  pub len : length l' ≡ length l
  pub moved : (x : ℕ) → x < 1024 → moved_bit l' x ≡ (eqb u x || moved_bit l x)
  pub marks : (x : ℕ) → x < 1024 → candidate_bit l' x ≡ ((candidate_bit l x && not (eqb u x)) || (p x && not (eqb u x || moved_bit l x)))

-- u is taken out of the candidates, and put to those that have moved
module _ {l l₁ l₂ : List ℕ} (u : ℕ) (a : Changed l l₁ 0 u 0) (b : Changed l₁ l₂ 1 u 1) where
  moved_then : (x : ℕ) → x < 1024 → Dec (u ≡ x) → moved_bit l₂ x ≡ (eqb u x || moved_bit l x)
  moved_then x k (yes q) = ap (moved_bit l₂) (sym q) ∙ ap (λ (z : ℕ). eqb z 1) b.here ∙ sym (ap (λ (t : Bool). t || moved_bit l x) (eq-eqb u x q))
  moved_then x k (no q) =
      ap (λ (z : ℕ). eqb z 1) (b.elsewhere 1 x k (λ _ r. q (sym r)) ∙ a.elsewhere 1 x k (λ r _. omega arith))
      ∙ sym (ap (λ (t : Bool). t || moved_bit l x) (ne_eqb u x q))

  chosen-then : (x : ℕ) → x < 1024 → Dec (u ≡ x) → candidate_bit l₂ x ≡ (candidate_bit l x && not (eqb u x))
  chosen-then x k (yes q) =
      ap (λ (z : ℕ). eqb z 1) (b.elsewhere 0 x k (λ r _. omega arith) ∙ ap (on l₁ 0) (sym q) ∙ a.here)
      ∙ sym (ap (λ (t : Bool). candidate_bit l x && not t) (eq-eqb u x q) ∙ and-false (candidate_bit l x))
  chosen-then x k (no q) =
      ap (λ (z : ℕ). eqb z 1) (b.elsewhere 0 x k (λ r _. omega arith) ∙ a.elsewhere 0 x k (λ _ r. q (sym r)))
      ∙ sym (ap (λ (t : Bool). candidate_bit l x && not t) (ne_eqb u x q) ∙ and-true (candidate_bit l x))

  pub spread-law : {l₃ : List ℕ} {p : ℕ → Bool} → Marked l₂ l₃ p → Spread l l₃ u p
  spread-law {p = p} c = record {
    len = c.len ∙ b.len ∙ a.len;
    moved = λ x k. c.moved x k ∙ moved_then x k (ℕ_discrete u x);
    marks = λ x k. c.marks x k ∙ ap₂ (λ (s t : Bool). s || (p x && not t)) (chosen-then x k (ℕ_discrete u x)) (moved_then x k (ℕ_discrete u x));
  }

  pub covered-then : {pins firsts sizes : List ℕ} → Covered l pins firsts sizes → Covered l₂ pins firsts sizes
  covered-then c = record {
    covers = λ e k o x kx q.
        ap₂ (λ (s t : Bool). s || t) (chosen-then x kx (ℕ_discrete u x)) (moved_then x kx (ℕ_discrete u x))
        ∙ law (candidate_bit l x) (moved_bit l x) (eqb u x) (c.covers e k (sym (nets.same e k) ∙ o) x kx q);
  }
    where
      nets : SameNets l l₂
      nets = nets-then (nets-beside (omega arith) a) (nets-beside (omega arith) b)

      law : (c m e : Bool) → (c || m) ≡ true → ((c && not e) || (e || m)) ≡ true
      law true m true q = refl
      law false m true q = refl
      law true m false q = refl
      law false m false q = q
