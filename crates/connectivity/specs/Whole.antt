-- The pins of a net that has none yet, all at once: they are counted, then the net's shares are added to the gains of each. Rests on Set.
use Rattle.std.specs.Prelude.{ℕ, zero, suc, ◌+◌, ◌*◌, ◌-◌, ◌<◌, ◌≤◌, ◌≡◌, refl, false, List, [], ◌∷◌, length, get_or, set, ℤ, pos, nat_abs, ◌+ℤ◌, ◌-ℤ◌}
use Rattle.std.proofs.Common.{sym, ap, ◌∙◌, arith, lt-ltb, get_or-set_same}
use Rattle.std.proofs.Math.Decide.{ℕ_discrete}
use Rattle.std.proofs.lemmas.List.{set-get_or}
use Rattle.std.proofs.Math.IntN.{+ℤ_idr}
use Rattle.laws.specs.Choice.{one}
use Rattle.laws.specs.Bit.{bit, Masked}
use Rattle.laws.specs.Place.{place, place_at, place-off}
use Rattle.laws.specs.IntegerSum.{sum_z, sum_z-change}
use Rattle.connectivity.specs.Share.{share}
use Rattle.connectivity.specs.Raised.{Raised, Ready, at}
use Rattle.connectivity.specs.Matrix.{row_count, share_of, row_share, set_pin, set_row, Tally, Stands, KeptTally, Kept}
use Rattle.connectivity.specs.Row.{row, row-none, row_count-le, share_of-none, set_pin-here, set_pin-there, set_row-here, set_row-there}
use Rattle.connectivity.specs.Laid.{Laid, Net, given, given-none, signed, laid_none, laid_next, laid_more, raised-given, row-past, pin-range, pin-block, next-fresh, next_here, next-there}
use Rattle.connectivity.specs.Law.{Step, MaskShows, count_of, mask-shows, tally-arrive, tally-ext, step_set, given_is, small_of}
use Rattle.connectivity.specs.Set.{Frame, kept-tally-none, kept-tally-trans, kept_step, kept-laid}

-- the net `e` has no pin
abbrev pub Bare : (ℕ → ℕ → ℕ) → ℕ → ℕ → Type 0
Bare Q e n = (y : ℕ) → y < n → Q e y ≡ 0

-- ---- the counts

set-again : (l : List ℕ) (i a b : ℕ) → set (set l i a) i b ≡ set l i b
set-again [] i a b = refl
set-again (x ∷ l) zero a b = refl
set-again (x ∷ l) (suc i) a b = ap (λ (r : List ℕ). x ∷ r) (set-again l i a b)

-- what `count_pins` needs
pub record CountsPins (counts visited pins blocks : List ℕ) (n m k first p e : ℕ) : Type 0 where
  pub Q : ℕ → ℕ → ℕ
  pub tally : Tally Q n m k counts visited
  pub bare : Bare Q e n
  pub net : Net pins blocks first p n k
  pub blocks-fit : n ≤ length blocks
  pub counts-fit : 16 * m ≤ length counts
  pub masks-fit : m ≤ length visited
  pub few : k ≤ 16
  pub few-vertices : n ≤ 1024
  pub e-in : e < m

-- what it has done with the first `i` pins
pub record CountedPins (pins blocks : List ℕ) (n m k first i e : ℕ) (cs cs' vs vs' : List ℕ) : Type 0 where
  pub tally : (Q : ℕ → ℕ → ℕ) → Tally Q n m k cs vs → Bare Q e n → Tally (set_row Q e (row pins blocks first i)) n m k cs' vs'
  pub kept : KeptTally m k cs cs' vs vs'

module _ {cs₀ vs₀ pins blocks : List ℕ} {n m k first p e : ℕ} (o : CountsPins cs₀ vs₀ pins blocks n m k first p e) where
  pub count_none : CountedPins pins blocks n m k first 0 e cs₀ cs₀ vs₀ vs₀
  count_none = record { tally = λ Q t z. tally-ext (λ d y l h. by Q z d y h (ℕ_discrete d e)) t; kept = kept-tally-none cs₀ vs₀ }
    where
      by : (Q : ℕ → ℕ → ℕ) → Bare Q e n → (d y : ℕ) → y < n → Dec (d ≡ e) → Q d y ≡ set_row Q e (row pins blocks first 0) d y
      by Q z d y h (yes q) = rw (q, set_row-here) (z y h ∙ sym (row-none pins blocks first y))
      by Q z d y h (no q) = ap (λ (r : ℕ → ℕ). r y) (sym (set_row-there Q e (row pins blocks first 0) d q))

  pub count-all : {i : ℕ} {cs vs : List ℕ} → i ≡ p → CountedPins pins blocks n m k first i e cs₀ cs vs₀ vs → CountedPins pins blocks n m k first p e cs₀ cs vs₀ vs
  count-all q c = rw (← q) c

  module _ {i q b : ℕ} {cs vs : List ℕ} (hi : i < p) (c : CountedPins pins blocks n m k first i e cs₀ cs vs₀ vs) (eq : q ≡ get_or pins (first + i) 0) (eb : b ≡ get_or blocks (q - 1) 0) where
    vertex-in : q - 1 < n
    vertex-in = omega (arith, pin-range o.net hi eq)

    fresh : (Q : ℕ → ℕ → ℕ) → set_row Q e (row pins blocks first i) e (q - 1) ≡ 0
    fresh Q = rw set_row-here (next-fresh o.net hi eq)

    pub count_room : 1 ≤ b → get_or cs (16 * e + (b - 1)) 0 < 65535
    count_room h = omega (
      arith,
      count_of (c.tally o.Q o.tally o.bare) e (q - 1) o.e-in vertex-in o.few b h (pin-block o.net hi eq eb).1,
      row_count-le n (set_row o.Q e (row pins blocks first i) e) b,
      o.few-vertices,
    )

    pub count-shows : MaskShows e b cs vs
    count-shows = mask-shows (c.tally o.Q o.tally o.bare) e (q - 1) o.e-in vertex-in o.few b (pin-block o.net hi eq eb).1

    pub count-more : {cs₁ vs₁ : List ℕ} → Step e b (get_or cs (16 * e + (b - 1)) 0 + 1) cs cs₁ vs vs₁ → CountedPins pins blocks n m k first (i + 1) e cs₀ cs₁ vs₀ vs₁
    count-more s = record {
      tally = λ Q t z. tally-ext (λ d y l h. by Q d y (ℕ_discrete d e))
          (tally-arrive (c.tally Q t z) e (q - 1) o.e-in vertex-in o.few b (pin-block o.net hi eq eb).1 (fresh Q) _ refl s);
      kept = kept-tally-trans c.kept (kept_step o.e-in (pin-block o.net hi eq eb).1 o.few s);
    }
      where
        at-e : (y : ℕ) → Dec (y ≡ q - 1) → place (row pins blocks first i) (q - 1) b y ≡ row pins blocks first (i + 1) y
        at-e y (yes z) = rw z (place_at (row pins blocks first i) (q - 1) b ∙ eb ∙ sym (next_here o.net hi eq))
        at-e y (no z) = place-off (row pins blocks first i) (q - 1) b y z ∙ sym (next-there o.net hi eq y z)

        by : (Q : ℕ → ℕ → ℕ) (d y : ℕ) → Dec (d ≡ e) → set_pin (set_row Q e (row pins blocks first i)) e (q - 1) b d y ≡ set_row Q e (row pins blocks first (i + 1)) d y
        by Q d y (yes z) = rw (z, set_pin-here, set_row-here, set_row-here) (at-e y (ℕ_discrete y (q - 1)))
        by Q d y (no z) = ap (λ (r : ℕ → ℕ). r y) (
            set_pin-there (set_row Q e (row pins blocks first i)) e (q - 1) b d z
            ∙ set_row-there Q e (row pins blocks first i) d z
            ∙ sym (set_row-there Q e (row pins blocks first (i + 1)) d z))

  -- the net's mask is in hand, and stored once all are counted
  pub held_none : CountedPins pins blocks n m k first 0 e cs₀ cs₀ vs₀ (set vs₀ e (get_or vs₀ e 0))
  held_none = rw set-get_or count_none

  module _ {i q b : ℕ} {cs : List ℕ} (mask : ℕ) (hi : i < p) (c : CountedPins pins blocks n m k first i e cs₀ cs vs₀ (set vs₀ e mask)) (eq : q ≡ get_or pins (first + i) 0) (eb : b ≡ get_or blocks (q - 1) 0) where
    held : get_or (set vs₀ e mask) e 0 ≡ mask
    held = get_or-set_same vs₀ e mask 0 (omega (arith, o.masks-fit, o.e-in))

    some : 1 ≤ b
    some = (pin-block o.net hi eq eb).0

    pub held-shows : 1 ≤ get_or cs (16 * e + (b - 1)) 0 → bit mask (b - 1) ≡ 1
    held-shows h = ap (λ (z : ℕ). bit z (b - 1)) (sym held) ∙ count-shows hi c eq eb some ∙ ap one (lt-ltb 0 (get_or cs (16 * e + (b - 1)) 0) h)

    pub held_more : {r : ℕ} → Masked mask (b - 1) 1 r → CountedPins pins blocks n m k first (i + 1) e cs₀ (set cs (16 * e + (b - 1)) (get_or cs (16 * e + (b - 1)) 0 + 1)) vs₀ (set vs₀ e r)
    held_more {r} s = rw (← set-again vs₀ e mask r) (count-more hi c eq eb (step_set e b (get_or cs (16 * e + (b - 1)) 0 + 1) r cs (set vs₀ e mask) some
        (omega (arith, c.kept.counts-len, o.counts-fit, o.e-in, o.few, pin-block o.net hi eq eb)) (omega (arith, c.kept.masks-len, o.masks-fit, o.e-in))
        (rw (held, lt-ltb 0 (get_or cs (16 * e + (b - 1)) 0 + 1) (omega arith)) s)))

-- ---- the gains

-- what `share_pins` needs
pub record SharesPins (g : List ℤ) (counts pins blocks : List ℕ) (n k first p e w : ℕ) : Type 0 where
  pub net : Net pins blocks first p n k
  pub blocks-fit : n ≤ length blocks
  pub gains-fit : 16 * n ≤ length g
  pub counts-fit : 16 * e + 16 ≤ length counts
  pub few : k ≤ 16
  pub weight : w ≤ 1000
  pub small : (y j : ℕ) → y < n → j < k → nat_abs (at g (16 * y + j)) ≤ 2000000

module _ {g : List ℤ} {counts pins blocks : List ℕ} {n k first p e w : ℕ} (o : SharesPins g counts pins blocks n k first p e w) where
  pub share-none : Laid (given false counts e w) (row pins blocks first 0) k g g
  share-none = laid_none (given-none false counts e w) _ g (row-none pins blocks first)

  pub share-all : {i : ℕ} {g₁ : List ℤ} → i ≡ p → Laid (given false counts e w) (row pins blocks first i) k g g₁ → Laid (given false counts e w) (row pins blocks first p) k g g₁
  share-all q l = rw (← q) l

  module _ {i q b : ℕ} {g₁ : List ℤ} (hi : i < p) (l : Laid (given false counts e w) (row pins blocks first i) k g g₁) (eq : q ≡ get_or pins (first + i) 0) (eb : b ≡ get_or blocks (q - 1) 0) where
    pub share-ready : Ready g₁ counts (16 * (q - 1)) (16 * e) (b - 1) k w
    share-ready = record {
      gains-fit = omega (arith, pin-range o.net hi eq, o.gains-fit, o.few, l.len);
      counts-fit = omega (arith, o.counts-fit, o.few);
      own_in = omega (arith, pin-block o.net hi eq eb);
      weight = o.weight;
      small = λ j h. rw (laid_next (given-none false counts e w) l (q - 1) (next-fresh o.net hi eq) j h) (o.small (q - 1) j (omega (arith, pin-range o.net hi eq)) h);
    }

    pub share-more : {g₂ : List ℤ} → Raised (λ j. signed false (share counts (16 * e) (b - 1) w j)) (16 * (q - 1)) k g₁ g₂ → Laid (given false counts e w) (row pins blocks first (i + 1)) k g g₂
    share-more u = laid_more (given-none false counts e w) o.few l (next-fresh o.net hi eq) (next_here o.net hi eq ∙ sym eb) (next-there o.net hi eq) (raised-given false counts (q - 1) e b w (pin-block o.net hi eq eb).0 u)

-- the law of the whole: the sums over the nets change at `e` alone, where they had nothing
pub stands-row : {Q : ℕ → ℕ → ℕ} {n m k e w : ℕ} {weights cs vs cs' vs' : List ℕ} {g g' : List ℤ} (R : ℕ → ℕ) → e < m → w ≡ get_or weights e 0 → Stands Q n m k weights cs vs g → Bare Q e n →
    Tally (set_row Q e R) n m k cs' vs' → Laid (given false cs' e w) R k g g' → Stands (set_row Q e R) n m k weights cs' vs' g'
unfolding signed
stands-row {Q} {n} {m} {k} {e} {w} {weights} {cs' = cs'} {g = g} {g' = g'} R he ew s bare t l = record { tally = t; gained = λ y j hy hj. laid y j hy hj ∙ change y j hy }
  where
    old : ℕ → ℕ → ℕ → ℤ
    old y j d = row_share n (get_or weights d 0) (Q d) y (j + 1)

    new : ℕ → ℕ → ℕ → ℤ
    new y j d = row_share n (get_or weights d 0) (set_row Q e R d) y (j + 1)

    shared : (y j : ℕ) → y < n → j < k → given false cs' e w (R y) j ≡ new y j e
    shared y j hy hj = given_is t e y j w (R y) he hy hj (ap (λ (r : ℕ → ℕ). r y) (set_row-here Q e R)) ∙ ap (λ (v : ℕ). row_share n v (set_row Q e R e) y (j + 1)) ew

    laid : (y j : ℕ) → y < n → j < k → at g' (16 * y + j) ≡ sum_z (old y j) m +ℤ new y j e
    laid y j hy hj = l.inside y j hj ∙ cc (s.gained y j hy hj, shared y j hy hj)

    none : (y j : ℕ) → y < n → old y j e ≡ pos 0
    none y j hy = ap (λ (a : ℕ). share_of (row_count n (Q e)) (get_or weights e 0) a (j + 1)) (bare y hy) ∙ share_of-none (row_count n (Q e)) (get_or weights e 0) (j + 1)

    change : (y j : ℕ) → y < n → sum_z (old y j) m +ℤ new y j e ≡ sum_z (new y j) m
    change y j hy =
        sym (ap (λ (z : ℤ). z +ℤ new y j e) (ap (λ (z : ℤ). sum_z (old y j) m -ℤ z) (none y j hy) ∙ +ℤ_idr (sum_z (old y j) m)))
        ∙ sum_z-change (old y j) (new y j) m e he (λ d u nd. ap (λ (r : ℕ → ℕ). row_share n (get_or weights d 0) r y (j + 1)) (sym (set_row-there Q e R d nd)))

-- ---- both

-- what `fill_pins` needs: the net has no pin in the matrix that the tables stand for
pub record FillsPins (weights counts visited pins blocks : List ℕ) (gains : List ℤ) (n m k first p e : ℕ) : Type 0 where
  pub Q : ℕ → ℕ → ℕ
  pub stands : Stands Q n m k weights counts visited gains
  pub bare : Bare Q e n
  pub frame : Frame weights counts visited gains n m k
  pub net : Net pins blocks first p n k
  pub blocks-fit : n ≤ length blocks
  pub e-in : e < m

-- what it does: whatever matrix the tables stood for, they stand for it with the row of the pin list
pub record FilledPins (weights pins blocks : List ℕ) (n m k first p e : ℕ) (cs cs' vs vs' : List ℕ) (g g' : List ℤ) : Type 0 where
  pub stands : (Q : ℕ → ℕ → ℕ) → Stands Q n m k weights cs vs g → Bare Q e n → Stands (set_row Q e (row pins blocks first p)) n m k weights cs' vs' g'
  pub kept : Kept n m k cs cs' vs vs' g g'

module _ {weights cs vs pins blocks : List ℕ} {g : List ℤ} {n m k first p e : ℕ} (o : FillsPins weights cs vs pins blocks g n m k first p e) where
  module _ {w : ℕ} {cs' vs' : List ℕ} (ew : w ≡ get_or weights e 0) (c : CountedPins pins blocks n m k first p e cs cs' vs vs') where
    pub fill-shares : SharesPins g cs' pins blocks n k first p e w
    fill-shares = record {
      net = o.net;
      blocks-fit = o.blocks-fit;
      gains-fit = o.frame.gains-fit;
      counts-fit = omega (arith, o.frame.counts-fit, o.e-in, c.kept.counts-len);
      few = o.frame.few;
      weight = omega (arith, ew, o.frame.weight e o.e-in);
      small = λ y j hy hj. omega (arith, small_of o.stands o.frame.few-nets o.frame.weight y j hy hj);
    }

    pub fill_done : {g' : List ℤ} → Laid (given false cs' e w) (row pins blocks first p) k g g' → FilledPins weights pins blocks n m k first p e cs cs' vs vs' g g'
    fill_done l = record {
      stands = λ Q s z. stands-row (row pins blocks first p) o.e-in ew s z (c.tally Q s.tally z) l;
      kept = record { of-tally = c.kept; of-gains = kept-laid (given-none false cs' e w) (row-past o.net) l };
    }
