-- The contract of `set_pin`, what it leaves alone, and what its steps do to the counts. Rests on Law.
use Rattle.std.specs.Prelude.{ℕ, zero, suc, ◌+◌, ◌*◌, ◌-◌, ◌<◌, ◌≤◌, ◌≡◌, refl, List, length, get_or, ℤ, pos, ◌+ℤ◌}
use Rattle.std.proofs.Common.{ap, ◌∙◌, ⊎_elim, arith}
use Rattle.std.proofs.Math.Decide.{ℕ_discrete}
use Rattle.std.proofs.Math.IntN.{+ℤ_idr}
use Rattle.laws.specs.Integer.{le-or-lt}
use Rattle.laws.specs.Bit.{bit}
use Rattle.laws.specs.Place.{place, place_at, place-off}
use Rattle.connectivity.specs.Raised.{at}
use Rattle.connectivity.specs.Matrix.{set_pin, Tally, Stands, Kept, KeptTally, KeptGains}
use Rattle.connectivity.specs.Row.{row, set_pin-here, row_count-le}
use Rattle.connectivity.specs.Laid.{Laid, Net, row-past}
use Rattle.connectivity.specs.Law.{Step, MaskShows, count_of, mask-shows, has_one, tally-depart, tally-arrive, tally-ext, set_pin-twice}

-- the tables' sizes
pub record Frame (weights counts visited : List ℕ) (gains : List ℤ) (n m k : ℕ) : Type 0 where
  pub counts-fit : 16 * m ≤ length counts
  pub masks-fit : m ≤ length visited
  pub gains-fit : 16 * n ≤ length gains
  pub weights-fit : m ≤ length weights
  pub few : k ≤ 16
  pub few-nets : m ≤ 1024
  pub few-vertices : n ≤ 1024
  pub weight : (e : ℕ) → e < m → get_or weights e 0 ≤ 1000

-- the row `r` has the pins of the stretch, of the block that `blocks` has, but `x` in the block `a`
abbrev pub Seen : (ℕ → ℕ) → List ℕ → List ℕ → ℕ → ℕ → ℕ → ℕ → ℕ → Type 0
Seen r pins blocks first p n x a = (y : ℕ) → y < n → r y ≡ place (row pins blocks first p) x a y

-- what `set_pin` needs: the tables stand for some matrix whose row `e` is that of the pin list
pub record Sets (weights counts visited pins blocks : List ℕ) (gains : List ℤ) (n m k first p e x a b : ℕ) : Type 0 where
  pub Q : ℕ → ℕ → ℕ
  pub stands : Stands Q n m k weights counts visited gains
  pub seen : Seen (Q e) pins blocks first p n x a
  pub frame : Frame weights counts visited gains n m k
  pub net : Net pins blocks first p n k
  pub blocks-fit : n ≤ length blocks
  pub e-in : e < m
  pub x-in : x < n
  pub a_in : a ≤ k
  pub b-in : b ≤ k

-- what it does: whatever matrix the tables stood for, they stand for it with the one pin changed
pub record Set (weights pins blocks : List ℕ) (n m k first p e x a b : ℕ) (cs cs' vs vs' : List ℕ) (g g' : List ℤ) : Type 0 where
  pub stands : (Q : ℕ → ℕ → ℕ) → Stands Q n m k weights cs vs g → Seen (Q e) pins blocks first p n x a → Stands (set_pin Q e x b) n m k weights cs' vs' g'
  pub kept : Kept n m k cs cs' vs vs' g g'

-- ---- what is not in use is kept
pub kept-tally-trans : {m k : ℕ} {cs cs₁ cs₂ vs vs₁ vs₂ : List ℕ} → KeptTally m k cs cs₁ vs vs₁ → KeptTally m k cs₁ cs₂ vs₁ vs₂ → KeptTally m k cs cs₂ vs vs₂
kept-tally-trans s t = record {
  counts-len = t.counts-len ∙ s.counts-len;
  masks-len = t.masks-len ∙ s.masks-len;
  counts_past = λ e j l u. t.counts_past e j l u ∙ s.counts_past e j l u;
  counts-over = λ i l. t.counts-over i l ∙ s.counts-over i l;
  masks-past = λ e j l. t.masks-past e j l ∙ s.masks-past e j l;
  masks-over = λ e l. t.masks-over e l ∙ s.masks-over e l;
}

pub kept-gains-trans : {n k : ℕ} {g g₁ g₂ : List ℤ} → KeptGains n k g g₁ → KeptGains n k g₁ g₂ → KeptGains n k g g₂
kept-gains-trans s t = record {
  gains-len = t.gains-len ∙ s.gains-len;
  gains-past = λ y j l u. t.gains-past y j l u ∙ s.gains-past y j l u;
  gains-over = λ y j l u. t.gains-over y j l u ∙ s.gains-over y j l u;
}

pub kept-tally-none : {m k : ℕ} (cs vs : List ℕ) → KeptTally m k cs cs vs vs
kept-tally-none cs vs = record { counts-len = refl; masks-len = refl; counts_past = λ d j l u. refl; counts-over = λ i l. refl; masks-past = λ d j l. refl; masks-over = λ d l. refl }

pub kept-none : {n m k : ℕ} (cs vs : List ℕ) (g : List ℤ) → Kept n m k cs cs vs vs g g
kept-none cs vs g = record {
  of-tally = kept-tally-none cs vs;
  of-gains = record { gains-len = refl; gains-past = λ y j l u. refl; gains-over = λ y j l u. refl };
}

pub kept_trans : {n m k : ℕ} {cs cs₁ cs₂ vs vs₁ vs₂ : List ℕ} {g g₁ g₂ : List ℤ} → Kept n m k cs cs₁ vs vs₁ g g₁ → Kept n m k cs₁ cs₂ vs₁ vs₂ g₁ g₂ → Kept n m k cs cs₂ vs vs₂ g g₂
kept_trans s t = record { of-tally = kept-tally-trans s.of-tally t.of-tally; of-gains = kept-gains-trans s.of-gains t.of-gains }

pub frame-kept : {weights cs cs' vs vs' : List ℕ} {g g' : List ℤ} {n m k : ℕ} → Frame weights cs vs g n m k → Kept n m k cs cs' vs vs' g g' → Frame weights cs' vs' g' n m k
frame-kept f s = record {
  counts-fit = omega (arith, f.counts-fit, s.of-tally.counts-len);
  masks-fit = omega (arith, f.masks-fit, s.of-tally.masks-len);
  gains-fit = omega (arith, f.gains-fit, s.of-gains.gains-len);
  weights-fit = f.weights-fit;
  few = f.few;
  few-nets = f.few-nets;
  few-vertices = f.few-vertices;
  weight = f.weight;
}

pub kept_step : {e b v m k : ℕ} {cs cs' vs vs' : List ℕ} → e < m → b ≤ k → k ≤ 16 → Step e b v cs cs' vs vs' → KeptTally m k cs cs' vs vs'
kept_step {e} {b} {v} {m} {k} {cs} {cs'} {vs} {vs'} he hb few s = by b refl
  where
    by : (z : ℕ) → b ≡ z → KeptTally m k cs cs' vs vs'
    by zero q = rw ((s.none q).0, (s.none q).1) (kept-tally-none cs vs)
    by (suc z) q = let t = s.some (omega arith) in record {
      counts-len = s.counts-len;
      masks-len = s.masks-len;
      counts_past = λ d j l u. t.others (16 * d + j) (λ f. omega arith);
      counts-over = λ i l. t.others i (λ f. omega arith);
      masks-past = λ d j l. mask d j l (ℕ_discrete d e);
      masks-over = λ d l. t.mask.others d (λ f. omega arith);
    }
      where
        mask : (d j : ℕ) → k ≤ j → Dec (d ≡ e) → bit (get_or vs' d 0) j ≡ bit (get_or vs d 0) j
        mask d j l (yes f) = rw f ((s.some (omega arith)).mask.changed.elsewhere j (λ h. omega arith))
        mask d j l (no f) = ap (λ (i : ℕ). bit i j) ((s.some (omega arith)).mask.others d f)

pub kept-laid : {h : ℕ → ℕ → ℤ} {r : ℕ → ℕ} {n k : ℕ} {g g' : List ℤ} → ((j : ℕ) → h 0 j ≡ pos 0) → ((y : ℕ) → n ≤ y → r y ≡ 0) → Laid h r k g g' → KeptGains n k g g'
kept-laid {h} {r} {n} {k} {g} none past l = record {
  gains-len = l.len;
  gains-past = l.outside;
  gains-over = λ y j u v. ⊎_elim
      (λ z. l.outside y j z v)
      (λ z. l.inside y j z ∙ ap (λ (o : ℕ). at g (16 * y + j) +ℤ h o j) (past y u) ∙ ap (λ (t : ℤ). at g (16 * y + j) +ℤ t) (none j) ∙ +ℤ_idr _)
      (le-or-lt k j);
}

pub past-none : {pins blocks : List ℕ} {first p n k : ℕ} (x a : ℕ) → x < n → Net pins blocks first p n k → (y : ℕ) → n ≤ y → place (row pins blocks first p) x a y ≡ 0
past-none {pins} {blocks} {first} {p} x a hx net y h =
    place-off (row pins blocks first p) x a y (λ f. omega arith) ∙ row-past net y h

-- ---- the steps of `set_pin`
module _ {weights cs vs pins blocks : List ℕ} {g : List ℤ} {n m k first p e x a b : ℕ} (o : Sets weights cs vs pins blocks g n m k first p e x a b) where
  own : (Q : ℕ → ℕ → ℕ) → Seen (Q e) pins blocks first p n x a → Q e x ≡ a
  own Q s = s x o.x-in ∙ place_at (row pins blocks first p) x a

  pub set-depart : 1 ≤ a → 1 ≤ get_or cs (16 * e + (a - 1)) 0
  set-depart h = has_one o.stands.tally e x o.e-in o.x-in o.frame.few a o.a_in (own o.Q o.seen) h

  pub depart-shows : MaskShows e a cs vs
  depart-shows = mask-shows o.stands.tally e x o.e-in o.x-in o.frame.few a o.a_in

  module _ {cs₁ vs₁ : List ℕ} (d : Step e a (get_or cs (16 * e + (a - 1)) 0 - 1) cs cs₁ vs vs₁) where
    gone : (Q : ℕ → ℕ → ℕ) → Tally Q n m k cs vs → Seen (Q e) pins blocks first p n x a → Tally (set_pin Q e x 0) n m k cs₁ vs₁
    gone Q t s = tally-depart t e x o.e-in o.x-in o.frame.few a o.a_in (own Q s) _ refl d

    pub set-arrive : 1 ≤ b → get_or cs₁ (16 * e + (b - 1)) 0 < 65535
    set-arrive h = omega (
      arith,
      count_of (gone o.Q o.stands.tally o.seen) e x o.e-in o.x-in o.frame.few b h o.b-in,
      row_count-le n (set_pin o.Q e x 0 e) b,
      o.frame.few-vertices,
    )

    pub arrive-shows : MaskShows e b cs₁ vs₁
    arrive-shows = mask-shows (gone o.Q o.stands.tally o.seen) e x o.e-in o.x-in o.frame.few b o.b-in

    module _ {cs₂ vs₂ : List ℕ} (u : Step e b (get_or cs₁ (16 * e + (b - 1)) 0 + 1) cs₁ cs₂ vs₁ vs₂) where
      pub come : (Q : ℕ → ℕ → ℕ) → Tally Q n m k cs vs → Seen (Q e) pins blocks first p n x a → Tally (set_pin Q e x b) n m k cs₂ vs₂
      come Q t s = tally-ext (λ i y h l. set_pin-twice Q e x 0 b i y)
          (tally-arrive (gone Q t s) e x o.e-in o.x-in o.frame.few b o.b-in (rw set_pin-here (place_at (Q e) x 0)) _ refl u)
