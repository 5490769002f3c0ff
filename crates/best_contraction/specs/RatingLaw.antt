-- Laws of the table that ratings are added up in: one pin, one net, all nets of a vertex; how it is cleared; and that no rating passes the
-- sum of the vertex's own terms. Rests on Rating. Assumes nothing.
use Rattle.std.specs.Prelude.{◌≡◌, refl, Bool, true, false, List, ℕ, zero, suc, ◌+◌, ◌-◌, ◌*◌, ◌/◌, ◌≤◌, ◌<◌, eqb, length, get_or, set}
use Rattle.std.proofs.Common.{sym, ap₂, ◌∙◌, subst, div-le_self, mul-one, mul-zero, mul-add, arith, eq-eqb, ne_eqb, length-set, get_or-set_same, get_or-set_other}
use Rattle.std.proofs.Math.Path.{ap}
use Rattle.std.proofs.Math.Bool.{cond}
use Rattle.std.proofs.Math.Decide.{ℕ_discrete, dec_lt}
use Rattle.std.proofs.Math.Nat.{div-zero}
use Rattle.incidence.specs.Word.{NextBit}
use Rattle.incidence.specs.On.{on, Next, Cut, next-in-word}
use Rattle.laws.specs.Occurrence.{at, same, occ, same-yes, same-no, occ-zero, occ-step, occ-more}
use Rattle.laws.specs.Sum.{sum, sum_step, sum-nil, sum_mono, sum-skip}
use Rattle.best_contraction.specs.Rating.{lesser, term_of, over, row_of, own_sum, StretchOk, TablesOk, RowOk, OwnOk, Blank, Raised, Holds, Cleared}

pub raised-none : (l : List ℕ) (d : ℕ → ℕ) → length l ≡ 1025 → ((z : ℕ) → d z ≡ 0) → Raised l l d
raised-none l d h k = record { here = λ z. omega (arith, k z); len = h }

pub raised-more : (l l' l'' : List ℕ) (d d' d'' : ℕ → ℕ) → Raised l l' d → Raised l' l'' d' → ((z : ℕ) → d'' z ≡ d z + d' z) → Raised l l'' d''
raised-more l l' l'' d d' d'' r s k = record { here = λ z. omega (arith, r.here z, s.here z, k z); len = s.len }

-- ---- the loop that clears

pub cleared-none : (l : List ℕ) → length l ≡ 1025 → Cleared l l 0
cleared-none l len = record { gone = λ z a b. absurd (omega arith); still = λ z q. q; len = len }

pub cleared_more : (l0 l : List ℕ) (i : ℕ) → i < 1024 → Cleared l0 l i → Cleared l0 (set l (i + 1) 0) (i + 1)
cleared_more l0 l i h c = record {
  gone = λ z a b. change z (λ n. c.gone z a (omega arith)) (ℕ_discrete z (i + 1));
  still = λ z q. change z (λ n. c.still z q) (ℕ_discrete z (i + 1));
  len = length-set l (i + 1) 0 ∙ c.len;
}
  where
    change : (z : ℕ) → ((z ≡ i + 1 → ⊥) → get_or l z 0 ≡ 0) → Dec (z ≡ i + 1) → get_or (set l (i + 1) 0) z 0 ≡ 0
    change z old (yes q) = ap (λ (k : ℕ). get_or (set l (i + 1) 0) k 0) q ∙ get_or-set_same l (i + 1) 0 0 (omega (arith, c.len))
    change z old (no q) = get_or-set_other l (i + 1) z 0 0 q ∙ old q

-- ---- the term of a net

pub term-none : (w n : ℕ) → n < 2 → (0 ≡ term_of w n) × (0 ≤ 536870912)
term-none w n h = let e : n - 1 ≡ 0 = omega arith in (sym (ap (λ (k : ℕ). 5040 * w / k) e ∙ div-zero (5040 * w)), omega arith)

pub term-some : (w n : ℕ) → w ≤ 65535 → (term_of w n ≡ term_of w n) × (term_of w n ≤ 536870912)
term-some w n h = (refl, omega (arith, div-le_self (5040 * w) (n - 1)))

-- ---- one net

sum-45 : (n : ℕ) (f : ℕ → ℕ) → ((i : ℕ) → i < n → f i ≤ 35184372088832) → sum n f ≤ n * 35184372088832
unfolding sum
sum-45 zero f h = omega arith
sum-45 (suc n) f h = omega (arith, sum-45 n f (λ i q. h i (omega arith)), h n (omega arith))

-- at most the term, since no pin stands in a net twice
times-once : (t k : ℕ) → k ≤ 1 → t * k ≤ t
times-once t zero h = omega (arith, mul-zero t)
times-once t (suc zero) h = omega (arith, mul-one t)
times-once t (suc (suc k)) h = absurd (omega arith)

-- one pin
raised-pin : (l : List ℕ) (y t : ℕ) → length l ≡ 1025 → y ≤ 1024 → Raised l (set l y (get_or l y 0 + t)) (λ z. t * same y z)
raised-pin l y t len small = record { here = λ z. go z (ℕ_discrete z y); len = length-set l y (get_or l y 0 + t) ∙ len }
  where
    go : (z : ℕ) → Dec (z ≡ y) → get_or (set l y (get_or l y 0 + t)) z 0 ≡ get_or l z 0 + t * same y z
    go z (yes q) =
        let one : t * same y z ≡ t = ap (λ (k : ℕ). t * k) (same-yes y z (sym q)) ∙ mul-one t in
        omega (arith, ap (λ (k : ℕ). get_or (set l y (get_or l y 0 + t)) k 0) q, ap (λ (k : ℕ). get_or l k 0) q, get_or-set_same l y (get_or l y 0 + t) 0 (omega arith))
    go z (no q) =
        let none : t * same y z ≡ 0 = ap (λ (k : ℕ). t * k) (same-no y z (λ w. q (sym w))) ∙ mul-zero t in
        omega (arith, get_or-set_other l y z (get_or l y 0 + t) 0 q)

-- the loop over the pins of a net
module _ (l0 pins : List ℕ) (f n t : ℕ) (ok : StretchOk l0 pins f n 1152921504606846976) (small : t ≤ 536870912) where
  pub net-none : Raised l0 l0 (λ z. t * occ pins f 0 z)
  net-none = raised-none l0 _ ok.len (λ z. ap (λ (k : ℕ). t * k) (occ-zero pins f z) ∙ mul-zero t)

  pub net-room : (l : List ℕ) (i y : ℕ) → i < n → Raised l0 l (λ z. t * occ pins f i z) → y ≡ at pins f i → (y < 1025) × (get_or l y 0 + t < 18446744073709551616)
  net-room l i y h r e = (omega (arith, ok.pin i h), omega (arith, r.here y, ok.small y, times-once t (occ pins f i y) few))
    where
      few : occ pins f i y ≤ 1
      few = let all : i + (n - i) ≡ n = omega arith in omega (arith, occ-more pins f i (n - i) y, ap (λ (k : ℕ). occ pins f k y) all, ok.once y)

  pub net-more : (l : List ℕ) (i y : ℕ) → i < n → Raised l0 l (λ z. t * occ pins f i z) → y ≡ at pins f i → Raised l0 (set l y (get_or l y 0 + t)) (λ z. t * occ pins f (i + 1) z)
  net-more l i y h r e = raised-more l0 l (set l y (get_or l y 0 + t)) _ _ _ r (raised-pin l y t r.len (omega (arith, ok.pin i h)))
      (λ z. ap (λ (k : ℕ). t * k) (occ-step pins f i z ∙ ap (λ (k : ℕ). occ pins f i z + same k z) (sym e)) ∙ mul-add t (occ pins f i z) (same y z))

-- ---- all nets of a vertex

module _ (bits : List ℕ) (x : ℕ) (G : ℕ → ℕ) where
  -- nets that are not x's add nothing
  over_skip : (i m e : ℕ) → Next bits x i m e → over bits x e G ≡ over bits x i G
  unfolding over
  over_skip i m e k = sum-skip i e _ k.low (λ j l h. ap (λ (b : Bool). cond b (G j) 0) (ne_eqb (on bits x j) 1 (λ q. omega (arith, k.passed j l h))))

  over_none : over bits x 0 G ≡ 0
  unfolding over
  over_none = sum-nil 0 _ (λ i h. absurd (omega arith))

  pub over_first : (m e : ℕ) → Next bits x 0 m e → over bits x e G ≡ 0
  over_first m e k = over_skip 0 m e k ∙ over_none

  over-step : (e : ℕ) → on bits x e ≡ 1 → over bits x (e + 1) G ≡ over bits x e G + G e
  unfolding over
  over-step e here = sum_step e _ ∙ ap (λ (b : Bool). over bits x e G + cond b (G e) 0) (eq-eqb _ _ here)

  pub over-next : (m e e' : ℕ) → on bits x e ≡ 1 → Next bits x (e + 1) m e' → over bits x e' G ≡ over bits x e G + G e
  over-next m e e' here k = over_skip (e + 1) m e' k ∙ over-step e here

pub over-le : (bits : List ℕ) (x m : ℕ) (G : ℕ → ℕ) → ((e : ℕ) → e < m → G e ≤ 35184372088832) → over bits x m G ≤ m * 35184372088832
unfolding over
over-le bits x m G h = sum-45 m _ (λ e q. go (eqb (on bits x e) 1) e q)
  where
    go : (b : Bool) (e : ℕ) → e < m → cond b (G e) 0 ≤ 35184372088832
    go true e q = h e q
    go false e q = omega arith

-- ---- nothing to add

pub over-nil : (bits : List ℕ) (x m : ℕ) (G : ℕ → ℕ) → ((e : ℕ) → e < m → G e ≡ 0) → over bits x m G ≡ 0
unfolding over
over-nil bits x m G k = sum-nil m _ (λ i h. go i h (eqb (on bits x i) 1))
  where
    go : (i : ℕ) → i < m → (b : Bool) → cond b (G i) 0 ≡ 0
    go i h true = k i h
    go i h false = refl

over-mono : (bits : List ℕ) (x m : ℕ) (G H : ℕ → ℕ) → ((e : ℕ) → e < m → G e ≤ H e) → over bits x m G ≤ over bits x m H
unfolding over
over-mono bits x m G H h = sum_mono m _ _ (λ e l. go (eqb (on bits x e) 1) e l)
  where
    go : (b : Bool) (e : ℕ) → e < m → cond b (G e) 0 ≤ cond b (H e) 0
    go true e l = h e l
    go false e l = omega arith

-- ---- a word in hand

module _ (bits : List ℕ) (x c word to : ℕ) (held : word ≡ get_or bits (16 * x + c) 0) (few : to ≤ 64) where
  word-found : (from r : ℕ) → NextBit word from r → r < to → on bits x (64 * c + r) ≡ 1
  word-found from r b h = (next-in-word bits x c word from r refl held b).found (omega arith)

  -- the next set bit of the word c is the next net, as far as the first `to` of its nets go
  word_next : (from r i : ℕ) → from ≤ to → i ≡ 64 * c + from → NextBit word from r → Next bits x i (64 * c + to) (lesser (64 * c + r) (64 * c + to))
  word_next from r i l e b = record {
    low = omega (arith, k.low);
    high = omega arith;
    found = λ h. let q : lesser (64 * c + r) (64 * c + to) ≡ 64 * c + r = omega arith in rw q (word-found from r b (omega arith));
    passed = λ d f h. k.passed d f (omega arith);
  }
    where
      k : Next bits x i (64 * c + 64) (64 * c + r)
      k = next-in-word bits x c word from r e held b

word_end : (c m to j : ℕ) → 64 * c < m → to ≤ j → Cut (m - 64 * c) 64 to → lesser (64 * c + j) (64 * c + to) ≡ lesser (64 * (c + 1)) m
word_end c m to j some all k = go (dec_lt to 64)
  where
    go : Dec (to < 64) → lesser (64 * c + j) (64 * c + to) ≡ lesser (64 * (c + 1)) m
    go (yes h) = let e : 64 * c + to ≡ m = omega (arith, k.same h) in omega arith
    go (no h) = let e : to ≡ 64 = omega (arith, k.right) in omega (arith, k.left)

-- j is the next bit of the word c, of which the first `to` nets count, and the nets before it have been added up
pub record InWord (bits pins firsts sizes net_weights : List ℕ) (u c to j : ℕ) (l : List ℕ) : Type 0 where
  pub found : j < to → on bits (u - 1) (64 * c + j) ≡ 1
  pub holds : Holds l (row_of bits pins firsts sizes net_weights u (lesser (64 * c + j) (64 * c + to)))

-- ---- all nets: the two loops

module _ (bits pins firsts sizes net_weights : List ℕ) (u m : ℕ) (ok : RowOk pins firsts sizes net_weights m) where
  abbrev row : ℕ → ℕ → ℕ
  row = row_of bits pins firsts sizes net_weights u

  pub row-none : (l : List ℕ) → Blank l → Holds l (row 0)
  row-none l h = record { here = λ z. h.zeros z ∙ sym (over_none bits (u - 1) _); len = h.len }

  row-skip : (l : List ℕ) (i end e : ℕ) → Holds l (row i) → Next bits (u - 1) i end e → Holds l (row e)
  row-skip l i end e h k = record { here = λ z. h.here z ∙ sym (over_skip bits (u - 1) _ i end e k); len = h.len }

  pub row-first : (l : List ℕ) (e : ℕ) → Blank l → Next bits (u - 1) 0 m e → Holds l (row e)
  row-first l e h k = row-skip l 0 m e (row-none l h) k

  pub row-stretch : (l : List ℕ) (e f s : ℕ) → e < m → Holds l (row e) → f ≡ get_or firsts e 0 → s ≡ get_or sizes e 0 → StretchOk l pins f s 1152921504606846976
  row-stretch l e f s h r ef es = subst (λ (k : ℕ). StretchOk l pins k s 1152921504606846976) (sym ef) (subst (λ (k : ℕ). StretchOk l pins (get_or firsts e 0) k 1152921504606846976) (sym es) (record {
    len = r.len;
    stretch = ok.stretch e h;
    pin = ok.pin e h;
    once = λ z. ok.once e z h;
    small = λ z. omega (arith, r.here z, ok.nets, bound z);
  }))
    where
      inner : (z g : ℕ) → g < m → term_of (get_or net_weights g 0) (get_or sizes g 0) * occ pins (get_or firsts g 0) (get_or sizes g 0) z ≤ 35184372088832
      inner z g q = omega (arith, times-once (term_of (get_or net_weights g 0) (get_or sizes g 0)) (occ pins (get_or firsts g 0) (get_or sizes g 0) z) (ok.once g z q), (term-some (get_or net_weights g 0) (get_or sizes g 0) (ok.light g q)).1)

      bound : (z : ℕ) → row e z ≤ e * 35184372088832
      bound z = over-le bits (u - 1) e _ (λ g q. inner z g (omega arith))

  pub row_more : (l l' : List ℕ) (e end e' f s t : ℕ) → Holds l (row e) → on bits (u - 1) e ≡ 1 → f ≡ get_or firsts e 0 → s ≡ get_or sizes e 0 → t ≡ term_of (get_or net_weights e 0) (get_or sizes e 0)
      → Raised l l' (λ z. t * occ pins f s z) → Next bits (u - 1) (e + 1) end e' → Holds l' (row e')
  row_more l l' e end e' f s t h here ef es et r k = record {
    here = λ z. r.here z ∙ ap₂ (λ (a b : ℕ). a + b) (h.here z) (sym (same-net z)) ∙ sym (over-next bits (u - 1) _ end e e' here k);
    len = r.len;
  }
    where
      same-net : (z : ℕ) → term_of (get_or net_weights e 0) (get_or sizes e 0) * occ pins (get_or firsts e 0) (get_or sizes e 0) z ≡ t * occ pins f s z
      same-net z = rw (ef, es, et)

  -- the loop over the bits of a word
  module _ (c word to : ℕ) (held : word ≡ get_or bits (16 * (u - 1) + c) 0) (few : to ≤ 64) where
    pub word_none : (l : List ℕ) (r : ℕ) → Holds l (row (64 * c)) → NextBit word 0 r → InWord bits pins firsts sizes net_weights u c to r l
    word_none l r h b = record {
      found = word-found bits (u - 1) c word to held few 0 r b;
      holds = row-skip l (64 * c) (64 * c + to) _ h (word_next bits (u - 1) c word to held few 0 r (64 * c) (omega arith) (omega arith) b);
    }

    pub word-here : (l : List ℕ) (j : ℕ) → j < to → InWord bits pins firsts sizes net_weights u c to j l → Holds l (row (64 * c + j))
    word-here l j h w = let q : lesser (64 * c + j) (64 * c + to) ≡ 64 * c + j = omega arith in subst (λ (e : ℕ). Holds l (row e)) q w.holds

    pub word_more : (l l' : List ℕ) (j r f s t : ℕ) → j < to → InWord bits pins firsts sizes net_weights u c to j l → f ≡ get_or firsts (64 * c + j) 0 → s ≡ get_or sizes (64 * c + j) 0
        → t ≡ term_of (get_or net_weights (64 * c + j) 0) (get_or sizes (64 * c + j) 0) → Raised l l' (λ z. t * occ pins f s z) → NextBit word (j + 1) r → InWord bits pins firsts sizes net_weights u c to r l'
    word_more l l' j r f s t h w ef es et k b = record {
      found = word-found bits (u - 1) c word to held few (j + 1) r b;
      holds = row_more l l' (64 * c + j) (64 * c + to) _ f s t (word-here l j h w) (w.found h) ef es et k (word_next bits (u - 1) c word to held few (j + 1) r (64 * c + j + 1) (omega arith) (omega arith) b);
    }

  pub word-all : (l : List ℕ) (c to j : ℕ) → 64 * c < m → to ≤ j → Cut (m - 64 * c) 64 to → InWord bits pins firsts sizes net_weights u c to j l → Holds l (row (lesser (64 * (c + 1)) m))
  word-all l c to j some all k w = subst (λ (e : ℕ). Holds l (row e)) (word_end c m to j some all k) w.holds

  -- no rating passes the sum of the terms of u's own nets
  pub row-own : (z : ℕ) → row m z ≤ own_sum bits sizes net_weights u m
  row-own z = over-mono bits (u - 1) m _ _ (λ e l. times-once (term_of (get_or net_weights e 0) (get_or sizes e 0)) (occ pins (get_or firsts e 0) (get_or sizes e 0) z) (ok.once e z l))

pub row_ok : {bits pins firsts sizes net_weights blocks : List ℕ} {m n : ℕ} → TablesOk bits pins firsts sizes net_weights blocks m n → RowOk pins firsts sizes net_weights m
row_ok ok = record {
  nets = ok.nets;
  in-firsts = ok.in-firsts;
  in-sizes = ok.in-sizes;
  in-net_weights = ok.in-net_weights;
  light = ok.light;
  stretch = ok.stretch;
  pin = λ e h i k. omega (arith, (ok.pin e h i k).1, ok.vertices);
  once = ok.once;
}

-- the sum of those terms, as the loop has it
module _ (bits sizes net_weights : List ℕ) (u m : ℕ) where
  pub own-none : (e : ℕ) → Next bits (u - 1) 0 m e → 0 ≡ own_sum bits sizes net_weights u e
  own-none e k = sym (over_first bits (u - 1) _ m e k)

  pub own-more : (e e' s r t : ℕ) → s ≡ own_sum bits sizes net_weights u e → on bits (u - 1) e ≡ 1 → t ≡ term_of (get_or net_weights e 0) (get_or sizes e 0) → r ≡ s + t → Next bits (u - 1) (e + 1) m e'
      → r ≡ own_sum bits sizes net_weights u e'
  own-more e e' s r t es here et er k = omega (arith, over-next bits (u - 1) (λ e. term_of (get_or net_weights e 0) (get_or sizes e 0)) m e e' here k)

  pub own_room : (e : ℕ) → e ≤ m → m ≤ 1024 → ((e : ℕ) → e < m → get_or net_weights e 0 ≤ 65535) → own_sum bits sizes net_weights u e ≤ 36028797018963968
  own_room e l few light = omega (arith, over-le bits (u - 1) e (λ e. term_of (get_or net_weights e 0) (get_or sizes e 0)) (λ g q. omega (arith, (term-some (get_or net_weights g 0) (get_or sizes g 0) (light g (omega arith))).1)))

pub own-ok : (bits pins firsts sizes net_weights blocks : List ℕ) (u m n : ℕ) → TablesOk bits pins firsts sizes net_weights blocks m n → 1 ≤ u → u ≤ n → OwnOk bits sizes net_weights u m
own-ok bits pins firsts sizes net_weights blocks u m n ok l h = record {
  u-from = l;
  in-bits = omega (arith, ok.rows);
  nets = ok.nets;
  in-sizes = ok.in-sizes;
  in-net_weights = ok.in-net_weights;
  light = ok.light;
}
