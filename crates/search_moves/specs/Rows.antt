-- The pins of nets as rows of vertex bits, bit x of row e: marking by them, and rows made from pin stretches. Vertices and nets count from 0.
-- Rests on Marks. Assumes nothing.
use Rattle.std.specs.Prelude.{ℕ, zero, suc, ◌+◌, ◌*◌, ◌-◌, ◌/◌, ◌%◌, ◌<◌, ◌≤◌, ◌≡◌, refl, Bool, not, ◌&&◌, ◌||◌, List, eqb, length, get_or, set}
use Rattle.std.proofs.Math.Decide.{ℕ_discrete}
use Rattle.std.proofs.Common.{arith, sym, ap, ap₂, ◌∙◌, length-set, get_or-set_same, get_or-set_other}
use Rattle.std.specs.Int.Bits.{bit_or, bit_and, bit_xor}
use Rattle.laws.specs.Bit.{bit, bit-lt, bit-or, bit-and, bit-xor}
use Rattle.incidence.specs.On.{on, on-is, Changed}
use Rattle.connectivity.specs.Listed.{has, has-empty, has_here, has_there}
use Rattle.search_moves.specs.Marks.{candidate_bit, moved_bit, Marked, SameNets, marked-ext}

-- row e has the vertices that pass a test
pub record RowIs (rows : List ℕ) (e : ℕ) (p : ℕ → Bool) : Type 0 where
  pub fit : 16 * e + 16 ≤ length rows
  pub tells : (x : ℕ) → x < 1024 → eqb (on rows e x) 1 ≡ p x

-- each net with more pins than a limit has them in its row
pub record RowsPast (rows pins firsts sizes : List ℕ) (limit m : ℕ) : Type 0 where
  pub row : (e : ℕ) → e < m → limit < get_or sizes e 0 → RowIs rows e (has pins (get_or firsts e 0) (get_or sizes e 0))

-- each net has its pins in its row
pub record RowsAre (rows pins firsts sizes : List ℕ) (m : ℕ) : Type 0 where
  pub fit : 16 * m ≤ length rows
  pub tells : (e : ℕ) → e < m → (x : ℕ) → x < 1024 → eqb (on rows e x) 1 ≡ has pins (get_or firsts e 0) (get_or sizes e 0) x

pub rows-past : {rows pins firsts sizes : List ℕ} {m : ℕ} (limit : ℕ) → RowsAre rows pins firsts sizes m → RowsPast rows pins firsts sizes limit m
rows-past limit r = record { row = λ e l h. record { fit = omega (arith, r.fit); tells = r.tells e l } }

-- where no net is past the limit, nothing is asked of the rows
pub rows_none : {rows pins firsts sizes : List ℕ} {limit m : ℕ} → ((e : ℕ) → e < m → get_or sizes e 0 ≤ limit) → RowsPast rows pins firsts sizes limit m
rows_none k = record { row = λ e l h. absurd (omega (arith, k e l, h)) }

-- ---- a net marked by its row

-- the first c words of row 0 are marked
pub record MarkedTo (rows : List ℕ) (e : ℕ) (l₀ : List ℕ) (c : ℕ) (l : List ℕ) : Type 0 where
  pub done : (i : ℕ) → i < c → get_or l i 0 ≡ bit_or (get_or l₀ i 0) (bit_xor (get_or rows (16 * e + i) 0) (bit_and (get_or rows (16 * e + i) 0) (get_or l₀ (16 + i) 0)))
  pub rest : (i : ℕ) → c ≤ i → get_or l i 0 ≡ get_or l₀ i 0
  pub len : length l ≡ length l₀

pub marked-words-none : (rows : List ℕ) (e : ℕ) (l : List ℕ) → MarkedTo rows e l 0 l
marked-words-none rows e l = record { done = λ i h. absurd (omega arith); rest = λ i h. refl; len = refl }

pub marked-words-more : {rows : List ℕ} {e : ℕ} {l₀ l : List ℕ} (c word : ℕ) → length l₀ ≡ 48 → c < 16 → word ≡ get_or rows (16 * e + c) 0 → MarkedTo rows e l₀ c l
    → MarkedTo rows e l₀ (c + 1) (set l c (bit_or (get_or l c 0) (bit_xor word (bit_and word (get_or l (16 + c) 0)))))
marked-words-more {rows} {e} {l₀} {l} c word long small q k = record {
  done = λ i h. go i h (ℕ_discrete i c);
  rest = λ i h. get_or-set_other l c i _ 0 (λ z. omega arith) ∙ k.rest i (omega arith);
  len = length-set l c _ ∙ k.len;
}
  where
    value : bit_or (get_or l c 0) (bit_xor word (bit_and word (get_or l (16 + c) 0))) ≡ bit_or (get_or l₀ c 0) (bit_xor (get_or rows (16 * e + c) 0) (bit_and (get_or rows (16 * e + c) 0) (get_or l₀ (16 + c) 0)))
    value = rw (k.rest c (omega arith), k.rest (16 + c) (omega arith), q)

    go : (i : ℕ) → i < c + 1 → Dec (i ≡ c)
        → get_or (set l c (bit_or (get_or l c 0) (bit_xor word (bit_and word (get_or l (16 + c) 0))))) i 0 ≡ bit_or (get_or l₀ i 0) (bit_xor (get_or rows (16 * e + i) 0) (bit_and (get_or rows (16 * e + i) 0) (get_or l₀ (16 + i) 0)))
    go i h (yes z) = rw z (get_or-set_same l c _ 0 (omega (arith, k.len, long)) ∙ value)
    go i h (no z) = get_or-set_other l c i _ 0 z ∙ k.done i (omega arith)

-- a bit of row 0 after it, in truth values
mark-bool : (a w s : ℕ) → a < 2 → w < 2 → s < 2 → eqb (bit_or a (bit_xor w (bit_and w s))) 1 ≡ (eqb a 1 || (eqb w 1 && not (eqb s 1)))
mark-bool zero zero zero h k j = refl
mark-bool zero zero (suc zero) h k j = refl
mark-bool zero zero (suc (suc s)) h k j = absurd (omega arith)
mark-bool zero (suc zero) zero h k j = refl
mark-bool zero (suc zero) (suc zero) h k j = refl
mark-bool zero (suc zero) (suc (suc s)) h k j = absurd (omega arith)
mark-bool zero (suc (suc w)) s h k j = absurd (omega arith)
mark-bool (suc zero) zero zero h k j = refl
mark-bool (suc zero) zero (suc zero) h k j = refl
mark-bool (suc zero) zero (suc (suc s)) h k j = absurd (omega arith)
mark-bool (suc zero) (suc zero) zero h k j = refl
mark-bool (suc zero) (suc zero) (suc zero) h k j = refl
mark-bool (suc zero) (suc zero) (suc (suc s)) h k j = absurd (omega arith)
mark-bool (suc zero) (suc (suc w)) s h k j = absurd (omega arith)
mark-bool (suc (suc a)) w s h k j = absurd (omega arith)

first-row : (z : List ℕ) (x : ℕ) → on z 0 x ≡ bit (get_or z (x / 64) 0) (x % 64)
first-row z x = let q : 16 * 0 + x / 64 ≡ x / 64 = omega arith in on-is z 0 x ∙ ap (λ (i : ℕ). bit (get_or z i 0) (x % 64)) q

second-row : (z : List ℕ) (x : ℕ) → on z 1 x ≡ bit (get_or z (16 + x / 64) 0) (x % 64)
second-row z x = let q : 16 * 1 + x / 64 ≡ 16 + x / 64 = omega arith in on-is z 1 x ∙ ap (λ (i : ℕ). bit (get_or z i 0) (x % 64)) q

bit-of : (a w s j : ℕ) → bit (bit_or a (bit_xor w (bit_and w s))) j ≡ bit_or (bit a j) (bit_xor (bit w j) (bit_and (bit w j) (bit s j)))
bit-of a w s j = bit-or a (bit_xor w (bit_and w s)) j ∙ ap (bit_or (bit a j)) (bit-xor w (bit_and w s) j ∙ ap (bit_xor (bit w j)) (bit-and w s j))

module _ {rows : List ℕ} {e : ℕ} {l₀ l : List ℕ} (k : MarkedTo rows e l₀ 16 l) where
  marks-are : (x : ℕ) → x < 1024 → candidate_bit l x ≡ (candidate_bit l₀ x || (eqb (on rows e x) 1 && not (moved_bit l₀ x)))
  marks-are x h =
      let a = get_or l₀ (x / 64) 0 in
      let w = get_or rows (16 * e + x / 64) 0 in
      let s = get_or l₀ (16 + x / 64) 0 in
      let j = x % 64 in
      ap (λ (z : ℕ). eqb z 1) (first-row l x ∙ ap (λ (z : ℕ). bit z j) (k.done (x / 64) (omega arith)) ∙ bit-of a w s j)
      ∙ mark-bool (bit a j) (bit w j) (bit s j) (bit-lt a j) (bit-lt w j) (bit-lt s j)
      ∙ ap₂ (λ (c b : Bool). c || b)
      (ap (λ (z : ℕ). eqb z 1) (sym (first-row l₀ x)))
      (ap₂ (λ (c b : ℕ). eqb c 1 && not (eqb b 1)) (sym (on-is rows e x)) (sym (second-row l₀ x)))

  pub row-marked : Marked l₀ l (λ x. eqb (on rows e x) 1)
  row-marked = record {
    len = k.len;
    moved = λ x h. ap (λ (z : ℕ). eqb z 1) (second-row l x ∙ ap (λ (z : ℕ). bit z (x % 64)) (k.rest (16 + x / 64) (omega arith)) ∙ sym (second-row l₀ x));
    marks = marks-are;
  }

  pub row-nets : SameNets l₀ l
  row-nets = record {
    same = λ d h. on-is l 2 d ∙ ap (λ (z : ℕ). bit z (d % 64)) (k.rest (16 * 2 + d / 64) (omega arith)) ∙ sym (on-is l₀ 2 d);
  }

-- the row has the pins of a stretch
pub marked-by-row : {rows : List ℕ} {e : ℕ} {l l' : List ℕ} {p : ℕ → Bool} → RowIs rows e p → Marked l l' (λ x. eqb (on rows e x) 1) → Marked l l' p
marked-by-row {p = p} r k = marked-ext p k r.tells

-- ---- rows made from the pins

-- row e has the first j pins of a stretch, and no other row is changed
pub record FilledTo (l pins : List ℕ) (first e j : ℕ) (l' : List ℕ) : Type 0 where
  pub here : (x : ℕ) → x < 1024 → eqb (on l' e x) 1 ≡ has pins first j x
  pub beside : (d x : ℕ) → x < 1024 → (d ≡ e → ⊥) → on l' d x ≡ on l d x
  pub len : length l' ≡ length l

pub filled_none : (l pins : List ℕ) (first e : ℕ) → ((x : ℕ) → x < 1024 → on l e x ≡ 0) → FilledTo l pins first e 0 l
filled_none l pins first e blank = record {
  here = λ x h. ap (λ (z : ℕ). eqb z 1) (blank x h) ∙ sym (has-empty pins first x);
  beside = λ d x h n. refl;
  len = refl;
}

pub filled_more : {l l₁ l₂ pins : List ℕ} {first e : ℕ} (j v : ℕ) → 1 ≤ get_or pins (first + j) 0 → v ≡ get_or pins (first + j) 0 → FilledTo l pins first e j l₁ → Changed l₁ l₂ e (v - 1) 1
    → FilledTo l pins first e (j + 1) l₂
filled_more {l₁ = l₁} {l₂} {pins} {first} {e} j v low q k c = record {
  here = λ x h. go x h (ℕ_discrete x (v - 1));
  beside = λ d x h n. c.elsewhere d x h (λ z _. n z) ∙ k.beside d x h n;
  len = c.len ∙ k.len;
}
  where
    go : (x : ℕ) → x < 1024 → Dec (x ≡ v - 1) → eqb (on l₂ e x) 1 ≡ has pins first (j + 1) x
    go x h (yes z) = ap (λ (i : ℕ). eqb (on l₂ e i) 1) z ∙ ap (λ (i : ℕ). eqb i 1) c.here ∙ sym (has_here pins first j x (omega arith))
    go x h (no z) = ap (λ (i : ℕ). eqb i 1) (c.elsewhere e x h (λ _ i. z i)) ∙ k.here x h ∙ sym (has_there pins first j x (λ i. z (omega arith)))

-- the rows of the first i nets have their pins, and the others have none yet
pub record RowsTo (l pins firsts sizes : List ℕ) (i : ℕ) : Type 0 where
  pub done : (e : ℕ) → e < i → (x : ℕ) → x < 1024 → eqb (on l e x) 1 ≡ has pins (get_or firsts e 0) (get_or sizes e 0) x
  pub blank : (e : ℕ) → i ≤ e → (x : ℕ) → x < 1024 → on l e x ≡ 0
  pub len : length l ≡ 16384

pub rows-to-none : {l : List ℕ} (pins firsts sizes : List ℕ) → length l ≡ 16384 → ((e x : ℕ) → x < 1024 → on l e x ≡ 0) → RowsTo l pins firsts sizes 0
rows-to-none pins firsts sizes long blank = record { done = λ e h. absurd (omega arith); blank = λ e h x k. blank e x k; len = long }

pub rows-to-more : {l l' pins firsts sizes : List ℕ} (i first size : ℕ) → first ≡ get_or firsts i 0 → size ≡ get_or sizes i 0 → RowsTo l pins firsts sizes i → FilledTo l pins first i size l'
    → RowsTo l' pins firsts sizes (i + 1)
rows-to-more {l} {l'} {pins} {firsts} {sizes} i first size qf qs r f = record {
  done = λ e h x k. go e h x k (ℕ_discrete e i);
  blank = λ e h x k. f.beside e x k (λ z. omega arith) ∙ r.blank e (omega arith) x k;
  len = f.len ∙ r.len;
}
  where
    go : (e : ℕ) → e < i + 1 → (x : ℕ) → x < 1024 → Dec (e ≡ i) → eqb (on l' e x) 1 ≡ has pins (get_or firsts e 0) (get_or sizes e 0) x
    go e h x k (yes z) = rw z (f.here x k ∙ ap₂ (λ (a b : ℕ). has pins a b x) qf qs)
    go e h x k (no z) = ap (λ (t : ℕ). eqb t 1) (f.beside e x k z) ∙ r.done e (omega arith) x k

pub rows-to-all : {l pins firsts sizes : List ℕ} {m : ℕ} (i : ℕ) → m ≤ 1024 → m ≤ i → RowsTo l pins firsts sizes i → RowsAre l pins firsts sizes m
rows-to-all i few h r = record { fit = omega (arith, r.len); tells = λ e k. r.done e (omega arith) }
