-- What one pin's change does to the counts and the masks, and that only a matrix' values count. Rests on Row.
use Rattle.std.specs.Prelude.{ℕ, zero, suc, ◌+◌, ◌*◌, ◌-◌, ◌/◌, ◌%◌, ◌^◌, ◌<◌, ◌≤◌, ◌≡◌, refl, List, eqb, ltb, length, get_or, set, ℤ, nat_abs}
use Rattle.std.proofs.Common.{sym, ap, ◌∙◌, subst, arith, zero-mul, eq-eqb, ne_eqb, lt-ltb, le-ltb, length-set, get_or-set_same, get_or-set_other}
use Rattle.std.proofs.Math.Decide.{ℕ_discrete}
use Rattle.laws.specs.Choice.{one}
use Rattle.laws.specs.IntegerSum.{sum_z-ext, sum_z-abs}
use Rattle.std.specs.Int.Bits.{bit_or, bit_and, bit_xor, or_zero_r, and_zero_r, xor_zero_r}
use Rattle.laws.specs.Bit.{bit, Masked, MaskedAt, masked-at, one_shl, set-law, clear-law}
use Rattle.laws.specs.Place.{place, place_at, place-off, place-ext}
use Rattle.connectivity.specs.Raised.{at}
use Rattle.connectivity.specs.Matrix.{row_count, share_of, row_share, set_pin, Tally, Stands}
use Rattle.connectivity.specs.Row.{read, set_pin-here, set_pin-there, row_count-place, row_count-ext, share_of-ext, share_of-le}

-- one count of the net `e` is made `v`, and its mask to fit
pub record Stepped (e s v : ℕ) (cs cs' vs vs' : List ℕ) : Type 0 where
  pub here : get_or cs' (16 * e + s) 0 ≡ v
  pub others : (i : ℕ) → (i ≡ 16 * e + s → ⊥) → get_or cs' i 0 ≡ get_or cs i 0
  pub mask : MaskedAt vs vs' e s (one (ltb 0 v))

-- the same by the block, of which 0 is none
pub record Step (e b v : ℕ) (cs cs' vs vs' : List ℕ) : Type 0 where
  pub counts-len : length cs' ≡ length cs
  pub masks-len : length vs' ≡ length vs
  pub none : b ≡ 0 → (cs' ≡ cs) × (vs' ≡ vs)
  pub some : 1 ≤ b → Stepped e (b - 1) v cs cs' vs vs'

-- the mask of the net `e` shows whether its count of the block `b` is above 0
abbrev pub MaskShows : ℕ → ℕ → List ℕ → List ℕ → Type 0
MaskShows e b cs vs = 1 ≤ b → bit (get_or vs e 0) (b - 1) ≡ one (ltb 0 (get_or cs (16 * e + (b - 1)) 0))

set_pin-case : (P : (ℕ → ℕ) → Type 0) (Q : ℕ → ℕ → ℕ) (e x b d : ℕ) → (d ≡ e → P (place (Q e) x b)) → ((d ≡ e → ⊥) → P (Q d)) → P (set_pin Q e x b d)
set_pin-case P Q e x b d f g = by (ℕ_discrete d e)
  where
    by : Dec (d ≡ e) → P (set_pin Q e x b d)
    by (yes q) = subst (λ (i : ℕ). P (set_pin Q e x b i)) (sym q) (subst P (sym (set_pin-here Q e x b)) (f q))
    by (no q) = subst P (sym (set_pin-there Q e x b d q)) (g q)

-- a change to what is there is none
pub set_pin-none : (Q : ℕ → ℕ → ℕ) (e x b d y : ℕ) → Q e x ≡ b → Q d y ≡ set_pin Q e x b d y
set_pin-none Q e x b d y eb = set_pin-case (λ r. Q d y ≡ r y) Q e x b d (λ q. rw q (by (ℕ_discrete y x))) (λ q. refl)
  where
    by : Dec (y ≡ x) → Q e y ≡ place (Q e) x b y
    by (yes q) = rw q (eb ∙ sym (place_at (Q e) x b))
    by (no q) = sym (place-off (Q e) x b y q)

place-le : (r : ℕ → ℕ) (x b y k : ℕ) → b ≤ k → r y ≤ k → place r x b y ≤ k
place-le r x b y k hb hr = by (ℕ_discrete y x)
  where
    by : Dec (y ≡ x) → place r x b y ≤ k
    by (yes q) = rw q (rw place_at hb)
    by (no q) = rw (place-off r x b y q) hr

-- only the values count
pub tally-ext : {Q Q' : ℕ → ℕ → ℕ} {n m k : ℕ} {cs vs : List ℕ} → ((e y : ℕ) → e < m → y < n → Q e y ≡ Q' e y) → Tally Q n m k cs vs → Tally Q' n m k cs vs
tally-ext {Q} {Q'} {n} h t = record {
  block-le = λ e y l u. rw (← h e y l u) (t.block-le e y l u);
  counted = λ e j l u. t.counted e j l u ∙ row_count-ext n (Q e) (Q' e) (j + 1) (λ y v. h e y l v);
  shown = λ e j l u. t.shown e j l u ∙ ap (λ (z : ℕ). one (ltb 0 z)) (row_count-ext n (Q e) (Q' e) (j + 1) (λ y v. h e y l v));
}

module _ {Q : ℕ → ℕ → ℕ} {n m k : ℕ} {cs vs : List ℕ} (t : Tally Q n m k cs vs) (e x : ℕ) (he : e < m) (hx : x < n) (few : k ≤ 16) where
  -- one block's count has changed, by the law of counts
  tally-step : {cs' vs' : List ℕ} (b s v : ℕ) → b ≤ k → s < k → Stepped e s v cs cs' vs vs' → v ≡ row_count n (place (Q e) x b) (s + 1) →
      ((j : ℕ) → (j ≡ s → ⊥) → row_count n (place (Q e) x b) (j + 1) ≡ row_count n (Q e) (j + 1)) → Tally (set_pin Q e x b) n m k cs' vs'
  tally-step {cs'} {vs'} b s v hb hs p ev same = record {
    block-le = λ d y l u. set_pin-case (λ r. r y ≤ k) Q e x b d (λ q. place-le (Q e) x b y k hb (t.block-le e y he u)) (λ q. t.block-le d y l u);
    counted = λ d j l u. set_pin-case (λ r. get_or cs' (16 * d + j) 0 ≡ row_count n r (j + 1)) Q e x b d
        (λ q. ap (λ (i : ℕ). get_or cs' (16 * i + j) 0) q ∙ count_at j u (ℕ_discrete j s))
        (λ q. p.others (16 * d + j) (λ z. q (omega arith)) ∙ t.counted d j l u);
    shown = λ d j l u. set_pin-case (λ r. bit (get_or vs' d 0) j ≡ one (ltb 0 (row_count n r (j + 1)))) Q e x b d
        (λ q. ap (λ (i : ℕ). bit (get_or vs' i 0) j) q ∙ mask_at j u (ℕ_discrete j s))
        (λ q. ap (λ (z : ℕ). bit z j) (p.mask.others d q) ∙ t.shown d j l u);
  }
    where
      count_at : (j : ℕ) → j < k → Dec (j ≡ s) → get_or cs' (16 * e + j) 0 ≡ row_count n (place (Q e) x b) (j + 1)
      count_at j u (yes q) = rw q (p.here ∙ ev)
      count_at j u (no q) = p.others (16 * e + j) (λ z. q (omega arith)) ∙ t.counted e j he u ∙ sym (same j q)

      mask_at : (j : ℕ) → j < k → Dec (j ≡ s) → bit (get_or vs' e 0) j ≡ one (ltb 0 (row_count n (place (Q e) x b) (j + 1)))
      mask_at j u (yes q) = rw q (p.mask.changed.here ∙ ap (λ (z : ℕ). one (ltb 0 z)) ev)
      mask_at j u (no q) = p.mask.changed.elsewhere j q ∙ t.shown e j he u ∙ ap (λ (z : ℕ). one (ltb 0 z)) (sym (same j q))

  pub count_of : (b : ℕ) → 1 ≤ b → b ≤ k → get_or cs (16 * e + (b - 1)) 0 ≡ row_count n (Q e) b
  count_of b h l = t.counted e (b - 1) he (omega arith) ∙ ap (row_count n (Q e)) (omega arith)

  pub mask-shows : (b : ℕ) → b ≤ k → MaskShows e b cs vs
  mask-shows b l h = t.shown e (b - 1) he (omega arith) ∙ ap (λ (z : ℕ). one (ltb 0 z)) (sym (t.counted e (b - 1) he (omega arith)))

  -- the pin leaves its block `a`
  module _ (a : ℕ) (ha : a ≤ k) (ea : Q e x ≡ a) where
    leave : (c : ℕ) → 1 ≤ c → row_count n (place (Q e) x 0) c + one (eqb a c) ≡ row_count n (Q e) c
    leave c h = let u : one (eqb 0 c) ≡ 0 = ap one (ne_eqb 0 c (λ z. omega arith)) in
        omega (arith, row_count-place n (Q e) x 0 c hx, ap (λ (z : ℕ). one (eqb z c)) ea)

    pub has_one : 1 ≤ a → 1 ≤ get_or cs (16 * e + (a - 1)) 0
    has_one h = omega (arith, count_of a h ha, leave a h, ap one (eq-eqb a a refl))

    pub tally-depart : {cs' vs' : List ℕ} (v : ℕ) → v ≡ get_or cs (16 * e + (a - 1)) 0 - 1 → Step e a v cs cs' vs vs' → Tally (set_pin Q e x 0) n m k cs' vs'
    tally-depart {cs'} {vs'} v ev p = by a refl
      where
        by : (z : ℕ) → a ≡ z → Tally (set_pin Q e x 0) n m k cs' vs'
        by zero q = rw ((p.none q).0, (p.none q).1) (tally-ext (λ d y l u. set_pin-none Q e x 0 d y (ea ∙ q)) t)
        by (suc z) q = tally-step 0 (a - 1) v (omega arith) (omega arith) (p.some (omega arith))
            (let f : a - 1 + 1 ≡ a = omega arith in rw f (omega (arith, ev, count_of a (omega arith) ha, leave a (omega arith), ap one (eq-eqb a a refl))))
            (λ j ne. omega (arith, leave (j + 1) (omega arith), ap one (ne_eqb a (j + 1) (λ f. ne (omega arith)))))

  -- a vertex that is no pin comes to the block `b`
  module _ (b : ℕ) (hb : b ≤ k) (ea : Q e x ≡ 0) where
    come : (c : ℕ) → 1 ≤ c → row_count n (place (Q e) x b) c ≡ row_count n (Q e) c + one (eqb b c)
    come c h = let u : one (eqb 0 c) ≡ 0 = ap one (ne_eqb 0 c (λ z. omega arith)) in
        omega (arith, row_count-place n (Q e) x b c hx, ap (λ (z : ℕ). one (eqb z c)) ea)

    pub tally-arrive : {cs' vs' : List ℕ} (v : ℕ) → v ≡ get_or cs (16 * e + (b - 1)) 0 + 1 → Step e b v cs cs' vs vs' → Tally (set_pin Q e x b) n m k cs' vs'
    tally-arrive {cs'} {vs'} v ev p = by b refl
      where
        by : (z : ℕ) → b ≡ z → Tally (set_pin Q e x b) n m k cs' vs'
        by zero q = rw ((p.none q).0, (p.none q).1) (tally-ext (λ d y l u. set_pin-none Q e x b d y (ea ∙ sym q)) t)
        by (suc z) q = tally-step b (b - 1) v hb (omega arith) (p.some (omega arith))
            (let f : b - 1 + 1 ≡ b = omega arith in rw f (omega (arith, ev, count_of b (omega arith) hb, come b (omega arith), ap one (eq-eqb b b refl))))
            (λ j ne. omega (arith, come (j + 1) (omega arith), ap one (ne_eqb b (j + 1) (λ f. ne (omega arith)))))

-- the two steps are one
pub set_pin-twice : (Q : ℕ → ℕ → ℕ) (e x c b d y : ℕ) → set_pin (set_pin Q e x c) e x b d y ≡ set_pin Q e x b d y
set_pin-twice Q e x c b d y = by (ℕ_discrete d e)
  where
    by : Dec (d ≡ e) → set_pin (set_pin Q e x c) e x b d y ≡ set_pin Q e x b d y
    by (yes q) = rw (q, set_pin-here, set_pin-here, set_pin-here) (place-ext (place (Q e) x c) (Q e) x b y (λ ne. place-off (Q e) x c y ne))
    by (no q) = ap (λ (r : ℕ → ℕ). r y) (set_pin-there (set_pin Q e x c) e x b d q ∙ set_pin-there Q e x c d q ∙ sym (set_pin-there Q e x b d q))

-- the share by the table is the share by the matrix
pub given_is : {Q : ℕ → ℕ → ℕ} {n m k : ℕ} {cs vs : List ℕ} → Tally Q n m k cs vs → (e y j w z : ℕ) → e < m → y < n → j < k → Q e y ≡ z →
    share_of (read cs (16 * e)) w z (j + 1) ≡ row_share n w (Q e) y (j + 1)
given_is {Q} {n} {cs = cs} t e y j w z he hy hj ez =
    share_of-ext (read cs (16 * e)) (row_count n (Q e)) w z (j + 1)
    (λ h. t.counted e (z - 1) he (omega (arith, t.block-le e y he hy)) ∙ ap (row_count n (Q e)) (omega arith))
    (ap (λ (i : ℕ). get_or cs (16 * e + i) 0) (omega arith) ∙ t.counted e j he hj)
    ∙ ap (λ (a : ℕ). share_of (row_count n (Q e)) w a (j + 1)) (sym ez)

-- the gains are small
pub small_of : {Q : ℕ → ℕ → ℕ} {n m k : ℕ} {weights cs vs : List ℕ} {g : List ℤ} → Stands Q n m k weights cs vs g → m ≤ 1024 → ((e : ℕ) → e < m → get_or weights e 0 ≤ 1000) →
    (y j : ℕ) → y < n → j < k → nat_abs (at g (16 * y + j)) ≤ 1024000
small_of {Q} {n} {m} {weights = weights} s hm hw y j hy hj = rw (s.gained y j hy hj) (omega (
  arith,
  sum_z-abs (λ e. row_share n (get_or weights e 0) (Q e) y (j + 1)) m 1000 (λ e l. omega (arith, share_of-le (row_count n (Q e)) (get_or weights e 0) (Q e y) (j + 1), hw e l)),
))

-- the stores of a step
pub step_set : (e b v r : ℕ) (cs vs : List ℕ) → 1 ≤ b → 16 * e + (b - 1) < length cs → e < length vs → Masked (get_or vs e 0) (b - 1) (one (ltb 0 v)) r →
    Step e b v cs (set cs (16 * e + (b - 1)) v) vs (set vs e r)
step_set e b v r cs vs h hc hv k = record {
  counts-len = length-set cs (16 * e + (b - 1)) v;
  masks-len = length-set vs e r;
  none = λ z. absurd (omega arith);
  some = λ z. record {
    here = get_or-set_same cs (16 * e + (b - 1)) v 0 hc;
    others = λ i ne. get_or-set_other cs (16 * e + (b - 1)) i v 0 ne;
    mask = masked-at vs e (b - 1) (one (ltb 0 v)) r hv k;
  };
}

pub none_is : (n : ℕ) → n < 65536 → (65536 - n) / 65536 ≡ one (eqb n 0)
none_is zero h = omega (arith, ap one (eq-eqb 0 0 refl))
none_is (suc n) h = omega (arith, ap one (ne_eqb (suc n) 0 (λ q. omega arith)))

-- a bit set or cleared by a shift of `x`, which is 1 where the count is 0 and else 0: then the mask shows the count as it is
none-shifted : (s x : ℕ) → x ≡ 0 → (x * 2 ^ s) % 2 ^ 16 ≡ 0
none-shifted s x e = ap (λ (z : ℕ). (z * 2 ^ s) % 2 ^ 16) e ∙ omega (arith, zero-mul (2 ^ s))

module _ (m s n x : ℕ) (hm : m < 2 ^ 16) (hs : s < 16) (shows : 1 ≤ n → bit m s ≡ 1) (ex : x ≡ one (eqb n 0)) where
  pub set_first : Masked m s 1 (bit_or m ((x * 2 ^ s) % 2 ^ 16))
  set_first = by (ℕ_discrete n 0)
    where
      by : Dec (n ≡ 0) → Masked m s 1 (bit_or m ((x * 2 ^ s) % 2 ^ 16))
      by (yes q) =
          let e : x ≡ 1 = ex ∙ ap one (eq-eqb n 0 q) in
          rw (e, one_shl 16 s hs) (set-law m s hm hs)
      by (no q) =
          let e : x ≡ 0 = ex ∙ ap one (ne_eqb n 0 q) in
          rw (none-shifted s x e, or_zero_r m) (record { small = hm; here = shows (omega arith); elsewhere = λ j ne. refl })

  pub clear-last : Masked m s (one (ltb 0 n)) (bit_xor m (bit_and m ((x * 2 ^ s) % 2 ^ 16)))
  clear-last = by (ℕ_discrete n 0)
    where
      by : Dec (n ≡ 0) → Masked m s (one (ltb 0 n)) (bit_xor m (bit_and m ((x * 2 ^ s) % 2 ^ 16)))
      by (yes q) =
          let e : x ≡ 1 = ex ∙ ap one (eq-eqb n 0 q) in
          rw (e, one_shl 16 s hs, le-ltb 0 n (omega arith)) (clear-law m s hm hs)
      by (no q) =
          let e : x ≡ 0 = ex ∙ ap one (ne_eqb n 0 q) in
          rw (none-shifted s x e, and_zero_r m, xor_zero_r m, lt-ltb 0 n (omega arith)) (record { small = hm; here = shows (omega arith); elsewhere = λ j ne. refl })

-- only the values of a matrix count
pub stands-ext : {Q Q' : ℕ → ℕ → ℕ} {n m k : ℕ} {weights cs vs : List ℕ} {g : List ℤ} → ((e y : ℕ) → e < m → y < n → Q e y ≡ Q' e y) →
    Stands Q n m k weights cs vs g → Stands Q' n m k weights cs vs g
stands-ext {Q} {Q'} {n} {m} {weights = weights} h s = record {
  tally = tally-ext h s.tally;
  gained = λ y j hy hj. s.gained y j hy hj ∙ sum_z-ext _ _ m (λ e l.
      share_of-ext (row_count n (Q e)) (row_count n (Q' e)) (get_or weights e 0) (Q e y) (j + 1) (λ z. row_count-ext n (Q e) (Q' e) (Q e y) (λ i v. h e i l v)) (row_count-ext n (Q e) (Q' e) (j + 1) (λ i v. h e i l v))
      ∙ ap (λ (a : ℕ). share_of (row_count n (Q' e)) (get_or weights e 0) a (j + 1)) (h e y l hy));
}
