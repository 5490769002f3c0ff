-- Which vertex is a pin of which net, as the words of the bitset have it: one pin changed, the next net of a vertex, two rows joined.
-- Rests on Word.
use Rattle.std.specs.Prelude.{Option, MatchOption, ◌≡◌, refl, List, ℕ, ◌+◌, ◌-◌, ◌*◌, ◌/◌, ◌%◌, ◌^◌, ◌≤◌, ◌<◌, max, min, length, get_or, set, replicate}
use Rattle.std.proofs.Common.{sym, ap, ◌∙◌, div-one, add-zero, arith, shr-shr, length-set, get_or-set_same, get_or-set_other}
use Rattle.std.proofs.Math.Decide.{dec_lt, ℕ_discrete}
use Rattle.std.specs.Int.Bits.{bit_or}
use Rattle.laws.specs.Bit.{bit, Made}
use Rattle.laws.specs.Fold.{zeros-get}
use Rattle.incidence.specs.Word.{Lowest, NextBit, bit-or-max, bit-shr, bit-of-zero, bit_high}

-- 1 where vertex x is a pin of net e, below 1,024; else 0
unfoldable pub on : List ℕ → ℕ → ℕ → ℕ
on l x e = bit (get_or l (16 * x + e / 64) 0) (e % 64)

pub on-is : (l : List ℕ) (x e : ℕ) → on l x e ≡ bit (get_or l (16 * x + e / 64) 0) (e % 64)
unfolding on
on-is l x e = refl

-- a table of zeros has no pin
pub on-blank : (n x e : ℕ) → on (replicate n 0) x e ≡ 0
on-blank n x e = on-is (replicate n 0) x e ∙ bit-of-zero (get_or (replicate n 0) (16 * x + e / 64) 0) (e % 64) (zeros-get n (16 * x + e / 64))

-- (x, e) is made v, and all else is as it was
pub record Changed (l l' : List ℕ) (x e v : ℕ) : Type 0 where
  pub here : on l' x e ≡ v
  pub elsewhere : (y f : ℕ) → f < 1024 → (y ≡ x → f ≡ e → ⊥) → on l' y f ≡ on l y f
  pub len : length l' ≡ length l

-- row u is made the union of the rows u and v, and the other rows are as they were
pub record Joined (l l' : List ℕ) (u v : ℕ) : Type 0 where
  pub here : (e : ℕ) → e < 1024 → on l' u e ≡ max (on l u e) (on l v e)
  pub elsewhere : (y e : ℕ) → e < 1024 → (y ≡ u → ⊥) → on l' y e ≡ on l y e
  pub len : length l' ≡ length l

-- r is the first net of x from `from` on and below m; m where there is none
pub record Next (l : List ℕ) (x from m r : ℕ) : Type 0 where
  pub low : from ≤ r
  pub high : r ≤ m
  pub found : r < m → on l x r ≡ 1
  pub passed : (e : ℕ) → from ≤ e → e < r → on l x e ≡ 0

-- an iterator over the nets of x below m, as it goes: it stands at one of them, or at m
pub record Along (l : List ℕ) (x m : ℕ) (l' : List ℕ) (x' m' at : ℕ) : Type 0 where
  pub bits : l' ≡ l
  pub row : x' ≡ x
  pub end : m' ≡ m
  pub low : at ≤ m
  pub here : at < m → on l x at ≡ 1

-- it begins at the first one
pub record Starts (l : List ℕ) (x m : ℕ) (l' : List ℕ) (x' m' at : ℕ) : Type 0 where
  pub along : Along l x m l' x' m' at
  pub first : Next l x 0 m at

-- it gave the net where it stood, and stands at the next one
pub record GaveOne (l : List ℕ) (x m at e : ℕ) (l' : List ℕ) (x' m' at' : ℕ) : Type 0 where
  pub here : at ≡ e
  pub below : e < m
  pub next : Next l x (e + 1) m at'
  pub bits : l' ≡ l
  pub row : x' ≡ x
  pub end : m' ≡ m

-- or nothing at the end
abbrev pub GaveNet : List ℕ → ℕ → ℕ → ℕ → Option ℕ → List ℕ → ℕ → ℕ → ℕ → Type 0
GaveNet l x m at r l' x' m' at' = MatchOption r ((at ≡ m) × (l' ≡ l) × (x' ≡ x) × (m' ≡ m) × (at' ≡ at)) (λ e. GaveOne l x m at e l' x' m' at')

pub along-next : {l : List ℕ} {x m : ℕ} {l' : List ℕ} {x' m' at e : ℕ} {l'' : List ℕ} {x'' m'' at' : ℕ} → Along l x m l' x' m' at → GaveOne l' x' m' at e l'' x'' m'' at' → Along l x m l'' x'' m'' at'
along-next a g = record {
  bits = g.bits ∙ a.bits;
  row = g.row ∙ a.row;
  end = g.end ∙ a.end;
  low = omega (arith, g.next.high, a.end);
  here = λ h. rw (a.bits, a.row) at (g.next.found (omega (arith, a.end, h)));
}

-- e is a net of x, and at' the next one
pub record Net (l : List ℕ) (x m e at' : ℕ) : Type 0 where
  pub below : e < m
  pub here : on l x e ≡ 1
  pub next : Next l x (e + 1) m at'

pub gave : {l : List ℕ} {x m : ℕ} {l' : List ℕ} {x' m' at e : ℕ} {l'' : List ℕ} {x'' m'' at' : ℕ} → Along l x m l' x' m' at → GaveOne l' x' m' at e l'' x'' m'' at' → Net l x m e at'
gave {at = at} {e = e} a g = record {
  below = omega (arith, g.below, a.end);
  here = let q : at ≡ e = g.here in rw q at (a.here (omega (arith, g.here, g.below, a.end)));
  next = rw (a.bits, a.row, a.end) at g.next;
}

-- ---- one bit changed

pub changed : (l : List ℕ) (x e v r : ℕ) → 16 * x + 16 ≤ length l → e < 1024 → Made (get_or l (16 * x + e / 64) 0) (e % 64) v r
    → Changed l (set l (16 * x + e / 64) r) x e v
unfolding on
changed l x e v r room small k = record {
  here = rw (get_or-set_same l (16 * x + e / 64) r 0 (omega arith)) k.here;
  elsewhere = λ y f hf ne. go y f hf ne (ℕ_discrete (16 * y + f / 64) (16 * x + e / 64));
  len = length-set l (16 * x + e / 64) r;
}
  where
    go : (y f : ℕ) → f < 1024 → (y ≡ x → f ≡ e → ⊥) → Dec (16 * y + f / 64 ≡ 16 * x + e / 64) → on (set l (16 * x + e / 64) r) y f ≡ on l y f
    go y f hf ne (yes q) =
        let differ : f % 64 ≡ e % 64 → ⊥ = λ s. ne (omega arith) (omega arith) in
        rw (q, get_or-set_same l (16 * x + e / 64) r 0 (omega arith)) (k.elsewhere (f % 64) differ)
    go y f hf ne (no q) = ap (λ (z : ℕ). bit z (f % 64)) (get_or-set_other l (16 * x + e / 64) (16 * y + f / 64) r 0 q)

-- ---- the first net

-- no net of x from `from` on and below e
abbrev pub Clear : List ℕ → ℕ → ℕ → ℕ → Type 0
Clear l x from to = (e : ℕ) → from ≤ e → e < to → on l x e ≡ 0

same_word : (l : List ℕ) (x e w j : ℕ) → e / 64 ≡ w → e % 64 ≡ j → on l x e ≡ bit (get_or l (16 * x + w) 0) j
unfolding on
same_word l x e w j p q = rw (p, q)

-- the rest of `from`'s word is 0
pub clear-rest : (l : List ℕ) (x from : ℕ) → get_or l (16 * x + from / 64) 0 / 2 ^ (from % 64) ≡ 0 → Clear l x from ((from / 64 + 1) * 64)
clear-rest l x from z e low high =
    same_word l x e (from / 64) (from % 64 + (e - from)) (omega arith) (omega arith)
    ∙ sym (bit-shr (get_or l (16 * x + from / 64) 0) (from % 64) (e - from))
    ∙ bit-of-zero (get_or l (16 * x + from / 64) 0 / 2 ^ (from % 64)) (e - from) z

-- a word more that is 0
pub clear-word : (l : List ℕ) (x from w : ℕ) → Clear l x from (w * 64) → get_or l (16 * x + w) 0 ≡ 0 → Clear l x from ((w + 1) * 64)
clear-word l x from w k z e low high = go (dec_lt e (w * 64))
  where
    go : Dec (e < w * 64) → on l x e ≡ 0
    go (yes h) = k e low h
    go (no h) = same_word l x e w (e % 64) (omega arith) refl ∙ bit-of-zero (get_or l (16 * x + w) 0) (e % 64) z

-- r is the smaller of a and m
pub record Cut (a m r : ℕ) : Type 0 where
  pub left : r ≤ a
  pub right : r ≤ m
  pub same : r < m → r ≡ a

pub cut_min : (a m r : ℕ) → r ≡ min a m → Cut a m r
cut_min a m r e = record { left = omega (arith, e); right = omega (arith, e); same = λ h. omega (arith, e, h) }

-- found at bit j + t of the word w, of which the bits from j on were looked at
pub next-at : (l : List ℕ) (x from w j t m r : ℕ) → from ≤ m → j < 64 → from ≤ w * 64 + j → Clear l x from (w * 64 + j) → get_or l (16 * x + w) 0 < 2 ^ 64
    → Lowest (get_or l (16 * x + w) 0 / 2 ^ j) t → Cut (w * 64 + j + t) m r → Next l x from m r
next-at l x from w j t m r le hj start clear fits k c = record {
  low = low (dec_lt r m);
  high = c.right;
  found = found;
  passed = passed;
}
  where
    word : ℕ
    word = get_or l (16 * x + w) 0

    one : bit (get_or l (16 * x + w) 0) (j + t) ≡ 1
    one = sym (bit-shr (get_or l (16 * x + w) 0) j t) ∙ k.set

    inside : Dec (j + t < 64) → j + t < 64
    inside (yes h) = h
    inside (no h) = absurd (omega (arith, one, bit_high (get_or l (16 * x + w) 0) (j + t) fits (omega arith)))

    within : j + t < 64
    within = inside (dec_lt (j + t) 64)

    low : Dec (r < m) → from ≤ r
    low (yes h) = omega (arith, c.same h)
    low (no h) = omega arith

    found : r < m → on l x r ≡ 1
    found h =
        let e : r ≡ w * 64 + j + t = c.same h in
        let b : j + t < 64 = within in
        same_word l x r w (j + t) (omega arith) (omega arith) ∙ one

    passed : (e : ℕ) → from ≤ e → e < r → on l x e ≡ 0
    passed e h g = go (dec_lt e (w * 64 + j))
      where
        go : Dec (e < w * 64 + j) → on l x e ≡ 0
        go (yes q) = clear e h q
        go (no q) =
            let b : j + t < 64 = within in
            let d = e - (w * 64 + j) in
            same_word l x e w (j + d) (omega arith) (omega arith) ∙ sym (bit-shr (get_or l (16 * x + w) 0) j d) ∙ k.below d (omega arith)

pub next-rest : (l : List ℕ) (x from m t r : ℕ) → from ≤ m → get_or l (16 * x + from / 64) 0 < 2 ^ 64
    → Lowest (get_or l (16 * x + from / 64) 0 / 2 ^ (from % 64)) t → Cut (from + t) m r → Next l x from m r
next-rest l x from m t r le fits k c =
    let e : from + t ≡ from / 64 * 64 + from % 64 + t = omega arith in
    next-at l x from (from / 64) (from % 64) t m r le (omega arith) (omega arith) (λ f h g. absurd (omega arith)) fits k (rw e at c)

pub next_word : (l : List ℕ) (x from w m t r : ℕ) → from ≤ w * 64 → w * 64 < m → Clear l x from (w * 64) → get_or l (16 * x + w) 0 < 2 ^ 64
    → Lowest (get_or l (16 * x + w) 0) t → Cut (w * 64 + t) m r → Next l x from m r
next_word l x from w m t r start le clear fits k c =
    next-at l x from w 0 t m r (omega arith) (omega arith) (omega arith) (λ f h g. clear f h (omega arith)) fits (rw div-one k) (rw add-zero c)

pub next-none : (l : List ℕ) (x from to m : ℕ) → from ≤ m → m ≤ to → Clear l x from to → Next l x from m m
next-none l x from to m h g k = record {
  low = h;
  high = omega arith;
  found = λ q. absurd (omega arith);
  passed = λ e a b. k e a (omega arith);
}

-- a word in hand: its next bit is the next net below the next word's
pub next-in-word : (l : List ℕ) (x w word from r : ℕ) {i : ℕ} → i ≡ 64 * w + from → word ≡ get_or l (16 * x + w) 0 → NextBit word from r → Next l x i (64 * w + 64) (64 * w + r)
next-in-word l x w word from r start q b = record {
  low = omega (arith, b.low);
  high = omega (arith, b.high);
  found = λ h. same_word l x (64 * w + r) w r (omega arith) (omega arith) ∙ ap (λ (z : ℕ). bit z r) (sym q) ∙ b.found (omega arith);
  passed = λ e h g.
      same_word l x e w (e - 64 * w) (omega (arith, b.high)) (omega (arith, b.high))
      ∙ ap (λ (z : ℕ). bit z (e - 64 * w)) (sym q)
      ∙ b.passed (e - 64 * w) (omega arith) (omega arith);
}

-- ---- two rows joined

-- the first k words of row u are joined, and no other is changed
pub record JoinedTo (l l' : List ℕ) (u v k : ℕ) : Type 0 where
  pub done : (i : ℕ) → i < k → get_or l' (16 * u + i) 0 ≡ bit_or (get_or l (16 * u + i) 0) (get_or l (16 * v + i) 0)
  pub rest : (i : ℕ) → (i < 16 * u + k → i < 16 * u) → get_or l' i 0 ≡ get_or l i 0
  pub len : length l' ≡ length l

pub joined-none : (l : List ℕ) (u v : ℕ) → JoinedTo l l u v 0
joined-none l u v = record { done = λ i h. absurd (omega arith); rest = λ i h. refl; len = refl }

pub joined-more : (l l' : List ℕ) (u v k : ℕ) → 16 * u + 16 ≤ length l → k < 16 → JoinedTo l l' u v k
    → JoinedTo l (set l' (16 * u + k) (bit_or (get_or l' (16 * u + k) 0) (get_or l' (16 * v + k) 0))) u v (k + 1)
joined-more l l' u v k room small j = record {
  done = λ i h. go i h (ℕ_discrete i k);
  rest = λ i h. get_or-set_other l' (16 * u + k) i _ 0 (λ e. absurd (omega (arith, h (omega arith)))) ∙ j.rest i (λ q. h (omega arith));
  len = length-set l' (16 * u + k) _ ∙ j.len;
}
  where
    value : bit_or (get_or l' (16 * u + k) 0) (get_or l' (16 * v + k) 0) ≡ bit_or (get_or l (16 * u + k) 0) (get_or l (16 * v + k) 0)
    value = rw (j.rest (16 * u + k) (λ q. absurd (omega arith)), j.rest (16 * v + k) (λ q. omega arith))

    go : (i : ℕ) → i < k + 1 → Dec (i ≡ k)
        → get_or (set l' (16 * u + k) (bit_or (get_or l' (16 * u + k) 0) (get_or l' (16 * v + k) 0))) (16 * u + i) 0 ≡ bit_or (get_or l (16 * u + i) 0) (get_or l (16 * v + i) 0)
    go i h (yes e) = rw e (get_or-set_same l' (16 * u + k) _ 0 (omega (arith, j.len)) ∙ value)
    go i h (no e) = get_or-set_other l' (16 * u + k) (16 * u + i) _ 0 (λ q. e (omega arith)) ∙ j.done i (omega arith)

pub joined : (l l' : List ℕ) (u v : ℕ) → JoinedTo l l' u v 16 → Joined l l' u v
unfolding on
joined l l' u v j = record {
  here = λ e h. ap (λ (z : ℕ). bit z (e % 64)) (j.done (e / 64) (omega arith)) ∙ bit-or-max (get_or l (16 * u + e / 64) 0) (get_or l (16 * v + e / 64) 0) (e % 64);
  elsewhere = λ y e h ne. ap (λ (z : ℕ). bit z (e % 64)) (j.rest (16 * y + e / 64) (λ q. apart y e h ne q));
  len = j.len;
}
  where
    apart : (y e : ℕ) → e < 1024 → (y ≡ u → ⊥) → 16 * y + e / 64 < 16 * u + 16 → 16 * y + e / 64 < 16 * u
    apart y e h ne q = go (ℕ_discrete y u)
      where
        go : Dec (y ≡ u) → 16 * y + e / 64 < 16 * u
        go (yes z) = absurd (ne z)
        go (no z) = omega arith

-- ---- stops: a net of x, or m, and the bits of its word above it

-- rest has the bits of the word of `at` above it
abbrev pub RestOf : List ℕ → ℕ → ℕ → ℕ → Type 0
RestOf l x at rest = (get_or l (16 * x + at / 64) 0 < 2 ^ 64) × (rest ≡ get_or l (16 * x + at / 64) 0 / 2 ^ (at % 64 + 1))

-- the lowest bit of a part of a word, whose bit 0 stands for the net `from`; t is its number
pub record Stopped (part from m at rest : ℕ) : Type 0 where
  pub t : ℕ
  pub lowest : Lowest part t
  pub cut : Cut (from + t) m at
  pub above : rest ≡ part / 2 ^ (t + 1)

-- `at` is the first net of x from `from` on, or m
pub record StopsAt (l : List ℕ) (x from m at rest : ℕ) : Type 0 where
  pub next : Next l x from m at
  pub above : at < m → RestOf l x at rest

-- the nets of x from `at` on are below m, and its row is in the table
pub record InRow (l : List ℕ) (x m at rest : ℕ) : Type 0 where
  pub row : 16 * x + 16 ≤ length l
  pub low : at ≤ m
  pub high : m ≤ 1024
  pub above : at < m → RestOf l x at rest

-- a stop in what the word w has from its bit j on, which stands for the net `base`
pub stop-in : (l : List ℕ) (x from w j base part m at rest : ℕ) → base ≡ w * 64 + j → from ≤ m → from ≤ base → Clear l x from base → get_or l (16 * x + w) 0 < 2 ^ 64
    → part ≡ get_or l (16 * x + w) 0 / 2 ^ j → 0 < part → Stopped part base m at rest → StopsAt l x from m at rest
stop-in l x from w j base part m at rest e le start clear fits is some s = record {
  next = next-at l x from w j s.t m at le inside (omega (arith, e)) (rw e at clear) fits (rw is at s.lowest) (rw e at s.cut);
  above = λ h.
      let q : at ≡ base + s.t = s.cut.same h in
      let b : j + s.t < 64 = within in
      let d : at / 64 ≡ w = omega (arith, q, e, b) in
      let r : at % 64 + 1 ≡ j + (s.t + 1) = omega (arith, q, e, b) in
      (rw d fits, s.above ∙ rw (is, d, r) (shr-shr (get_or l (16 * x + w) 0) j (s.t + 1)));
}
  where
    one : bit (get_or l (16 * x + w) 0) (j + s.t) ≡ 1
    one = sym (bit-shr (get_or l (16 * x + w) 0) j s.t) ∙ (rw is at s.lowest.set)

    within : j + s.t < 64
    within = go (dec_lt (j + s.t) 64)
      where
        go : Dec (j + s.t < 64) → j + s.t < 64
        go (yes h) = h
        go (no h) = absurd (omega (arith, one, bit_high (get_or l (16 * x + w) 0) (j + s.t) fits (omega arith)))

    inside : j < 64
    inside = omega (arith, within)

-- where a word has nothing above the net `at`, the nets after `at` in it are none of x's
pub clear-above : (l : List ℕ) (x at rest : ℕ) → RestOf l x at rest → rest ≡ 0 → Clear l x (at + 1) (64 * (at / 64 + 1))
clear-above l x at rest is z e low high =
    same_word l x e (at / 64) (at % 64 + 1 + (e - (at + 1))) (omega arith) (omega arith)
    ∙ sym (bit-shr (get_or l (16 * x + at / 64) 0) (at % 64 + 1) (e - (at + 1)))
    ∙ bit-of-zero (get_or l (16 * x + at / 64) 0 / 2 ^ (at % 64 + 1)) (e - (at + 1)) (sym is.1 ∙ z)
