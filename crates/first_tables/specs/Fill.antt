-- The tables filled after loading: each net counts its pins, and the bitset gets them. Rests on levels' World.
use Rattle.std.specs.Prelude.{ℕ, ◌+◌, ◌*◌, ◌-◌, ◌<◌, ◌≤◌, ◌≡◌, refl, List, length, get_or, ℤ}
use Rattle.std.proofs.Common.{sym, ap, ◌∙◌, arith}
use Rattle.std.proofs.Math.Decide.{ℕ_discrete}
use Rattle.laws.specs.Choice.{one}
use Rattle.incidence.specs.On.{on, Changed}
use Rattle.connectivity.specs.Listed.{has, has_here, has_there, has-empty}
use Rattle.connectivity.specs.Matrix.{set_row, Stands, Kept}
use Rattle.connectivity.specs.Row.{row, set_row-here, set_row-there}
use Rattle.connectivity.specs.Laid.{Net}
use Rattle.connectivity.specs.Law.{stands-ext}
use Rattle.connectivity.specs.Empty.{Blank, stands-empty}
use Rattle.connectivity.specs.Set.{Frame, kept-none, kept_trans, frame-kept}
use Rattle.levels.specs.World.{mat, Lists, World}

-- ---- one net

-- what `fill_net` needs: the net has no pin in the matrix that the tables stand for
pub record FillsNet (weights counts visited pins blocks bits : List ℕ) (gains : List ℤ) (n m k first p e : ℕ) : Type 0 where
  pub Q : ℕ → ℕ → ℕ
  pub stands : Stands Q n m k weights counts visited gains
  pub empty : (y : ℕ) → y < n → Q e y ≡ 0
  pub frame : Frame weights counts visited gains n m k
  pub net : Net pins blocks first p n k
  pub blocks-fit : n ≤ length blocks
  pub bits_fit : 16 * n ≤ length bits
  pub bare : (x : ℕ) → x < n → on bits x e ≡ 0
  pub e-in : e < m

-- what it does: whatever matrix the tables stood for, they stand for it with the row of the pin list, and the bitset has the pins
pub record FilledNet (weights pins blocks : List ℕ) (n m k first p e : ℕ) (bits bits' cs cs' vs vs' : List ℕ) (g g' : List ℤ) : Type 0 where
  pub stands : (Q : ℕ → ℕ → ℕ) → Stands Q n m k weights cs vs g → ((y : ℕ) → y < n → Q e y ≡ 0) → Stands (set_row Q e (row pins blocks first p)) n m k weights cs' vs' g'
  pub kept : Kept n m k cs cs' vs vs' g g'
  pub marked : (x : ℕ) → x < n → on bits' x e ≡ one (has pins first p x)
  pub elsewhere : (x d : ℕ) → d < 1024 → (d ≡ e → ⊥) → on bits' x d ≡ on bits x d
  pub bits-len : length bits' ≡ length bits

-- ---- its pins in the bitset

-- what `mark_pins` needs: the bitset has no pin of the net yet
pub record MarksPins (pins bits : List ℕ) (n first p e : ℕ) : Type 0 where
  pub pins-fit : first + p ≤ length pins
  pub in-range : (j : ℕ) → j < p → (1 ≤ get_or pins (first + j) 0) × (get_or pins (first + j) 0 ≤ n)
  pub bits_fit : 16 * n ≤ length bits
  pub bare : (x : ℕ) → x < n → on bits x e ≡ 0
  pub e-in : e < 1024

-- what it has done with the first i pins
pub record MarkedPins (pins : List ℕ) (n first i e : ℕ) (bits bits' : List ℕ) : Type 0 where
  pub marked : (x : ℕ) → x < n → on bits' x e ≡ one (has pins first i x)
  pub elsewhere : (x d : ℕ) → d < 1024 → (d ≡ e → ⊥) → on bits' x d ≡ on bits x d
  pub bits-len : length bits' ≡ length bits

module _ {pins bits₀ : List ℕ} {n first p e : ℕ} (o : MarksPins pins bits₀ n first p e) where
  pub marked-none : MarkedPins pins n first 0 e bits₀ bits₀
  marked-none = record {
    marked = λ x l. o.bare x l ∙ sym (ap one (has-empty pins first x));
    elsewhere = λ x d l ne. refl;
    bits-len = refl;
  }

  pub marked_all : {i : ℕ} {bits : List ℕ} → i ≡ p → MarkedPins pins n first i e bits₀ bits → MarkedPins pins n first p e bits₀ bits
  marked_all q c = rw (← q) c

  module _ {i q : ℕ} {bits : List ℕ} (hi : i < p) (c : MarkedPins pins n first i e bits₀ bits) (eq : q ≡ get_or pins (first + i) 0) where
    pub pin-room : (1 ≤ q) × (16 * q ≤ length bits)
    pin-room = omega (arith, o.in-range i hi, o.bits_fit, c.bits-len)

    pub marked_more : {bits₁ : List ℕ} → Changed bits bits₁ (q - 1) e 1 → MarkedPins pins n first (i + 1) e bits₀ bits₁
    marked_more {bits₁} w = record {
      marked = λ x l. mark x l (ℕ_discrete x (q - 1));
      elsewhere = λ x d l ne. w.elsewhere x d l (λ a z. ne z) ∙ c.elsewhere x d l ne;
      bits-len = w.len ∙ c.bits-len;
    }
      where
        mark : (x : ℕ) → x < n → Dec (x ≡ q - 1) → on bits₁ x e ≡ one (has pins first (i + 1) x)
        mark x l (yes z) = rw z (w.here ∙ sym (ap one (has_here pins first i (q - 1) (omega (arith, eq, pin-room)))))
        mark x l (no z) = w.elsewhere x e o.e-in (λ a s. z a) ∙ c.marked x l ∙ ap one (sym (has_there pins first i x (λ s. z (omega (arith, s, eq)))))

-- ---- all nets

-- what `fill` needs: whole pin lists, and tables that are blank where they are in use
pub record Fills (weights counts visited pins blocks firsts sizes bits : List ℕ) (gains : List ℤ) (n m k : ℕ) : Type 0 where
  pub lists : Lists pins blocks firsts sizes n m k
  pub frame : Frame weights counts visited gains n m k
  pub blank : Blank n m k counts visited gains
  pub bits_fit : 16 * n ≤ length bits
  pub bare : (x e : ℕ) → x < n → e < m → on bits x e ≡ 0

-- the nets below e are done
pub record Filling (weights pins blocks firsts sizes : List ℕ) (n m k e : ℕ) (bits bits' cs cs' vs vs' : List ℕ) (g g' : List ℤ) : Type 0 where
  pub Q : ℕ → ℕ → ℕ
  pub stands : Stands Q n m k weights cs' vs' g'
  pub done : (d y : ℕ) → d < e → y < n → Q d y ≡ mat pins blocks firsts sizes d y
  pub yet : (d y : ℕ) → e ≤ d → y < n → Q d y ≡ 0
  pub kept : Kept n m k cs cs' vs vs' g g'
  pub marked : (x d : ℕ) → x < n → d < e → on bits' x d ≡ one (has pins (get_or firsts d 0) (get_or sizes d 0) x)
  pub bare : (x d : ℕ) → x < n → e ≤ d → d < m → on bits' x d ≡ 0
  pub bits-len : length bits' ≡ length bits

-- what `fill` does
pub record Filled (weights pins blocks firsts sizes : List ℕ) (n m k : ℕ) (bits bits' cs cs' vs vs' : List ℕ) (g g' : List ℤ) : Type 0 where
  pub world : World weights cs' vs' pins blocks firsts sizes g' n m k
  pub kept : Kept n m k cs cs' vs vs' g g'
  pub marked : (x e : ℕ) → x < n → e < m → on bits' x e ≡ one (has pins (get_or firsts e 0) (get_or sizes e 0) x)
  pub bits-len : length bits' ≡ length bits

module _ {weights cs₀ vs₀ pins blocks firsts sizes bits₀ : List ℕ} {g₀ : List ℤ} {n m k : ℕ} (o : Fills weights cs₀ vs₀ pins blocks firsts sizes bits₀ g₀ n m k) where
  pub filling-none : Filling weights pins blocks firsts sizes n m k 0 bits₀ bits₀ cs₀ cs₀ vs₀ vs₀ g₀ g₀
  filling-none = record {
    Q = λ _ _. 0;
    stands = stands-empty o.blank;
    done = λ d y l h. absurd (omega arith);
    yet = λ d y l h. refl;
    kept = kept-none cs₀ vs₀ g₀;
    marked = λ x d h l. absurd (omega arith);
    bare = λ x d h l u. o.bare x d h u;
    bits-len = refl;
  }

  module _ {e f p : ℕ} {cs vs bits : List ℕ} {g : List ℤ} (he : e < m) (c : Filling weights pins blocks firsts sizes n m k e bits₀ bits cs₀ cs vs₀ vs g₀ g)
      (ef : f ≡ get_or firsts e 0) (ep : p ≡ get_or sizes e 0) where
    pub filling-net : FillsNet weights cs vs pins blocks bits g n m k f p e
    filling-net = record {
      Q = c.Q;
      stands = c.stands;
      empty = λ y l. c.yet e y (omega arith) l;
      frame = frame-kept o.frame c.kept;
      net = rw (ef, ep) (o.lists.nets e he);
      blocks-fit = o.lists.blocks-fit;
      bits_fit = omega (arith, o.bits_fit, c.bits-len);
      bare = λ x l. c.bare x e l (omega arith) he;
      e-in = he;
    }

    pub filling-more : {cs₁ vs₁ bits₁ : List ℕ} {g₁ : List ℤ} → FilledNet weights pins blocks n m k f p e bits bits₁ cs cs₁ vs vs₁ g g₁ →
        Filling weights pins blocks firsts sizes n m k (e + 1) bits₀ bits₁ cs₀ cs₁ vs₀ vs₁ g₀ g₁
    filling-more {bits₁ = bits₁} t = record {
      Q = set_row c.Q e (row pins blocks f p);
      stands = t.stands c.Q c.stands (λ y l. c.yet e y (omega arith) l);
      done = λ d y l h. past d y l h (ℕ_discrete d e);
      yet = λ d y l h. ap (λ (r : ℕ → ℕ). r y) (set_row-there c.Q e (row pins blocks f p) d (λ q. omega arith)) ∙ c.yet d y (omega arith) h;
      kept = kept_trans c.kept t.kept;
      marked = λ x d h l. mark x d h l (ℕ_discrete d e);
      bare = λ x d h l u. t.elsewhere x d (omega (arith, o.frame.few-nets)) (λ q. omega arith) ∙ c.bare x d h (omega arith) u;
      bits-len = t.bits-len ∙ c.bits-len;
    }
      where
        past : (d y : ℕ) → d < e + 1 → y < n → Dec (d ≡ e) → set_row c.Q e (row pins blocks f p) d y ≡ mat pins blocks firsts sizes d y
        past d y l h (yes q) = rw (q, set_row-here, ef, ep) refl
        past d y l h (no q) = ap (λ (r : ℕ → ℕ). r y) (set_row-there c.Q e (row pins blocks f p) d q) ∙ c.done d y (omega arith) h

        mark : (x d : ℕ) → x < n → d < e + 1 → Dec (d ≡ e) → on bits₁ x d ≡ one (has pins (get_or firsts d 0) (get_or sizes d 0) x)
        mark x d h l (yes q) = rw (q, ← ef, ← ep) (t.marked x h)
        mark x d h l (no q) = t.elsewhere x d (omega (arith, o.frame.few-nets)) q ∙ c.marked x d h (omega arith)

  pub filling-done : {e : ℕ} {cs vs bits : List ℕ} {g : List ℤ} → e ≡ m → Filling weights pins blocks firsts sizes n m k e bits₀ bits cs₀ cs vs₀ vs g₀ g →
      Filled weights pins blocks firsts sizes n m k bits₀ bits cs₀ cs vs₀ vs g₀ g
  filling-done q c = record {
    world = record {
      stands = stands-ext (λ d y l h. c.done d y (omega arith) h) c.stands;
      frame = frame-kept o.frame c.kept;
      lists = o.lists;
    };
    kept = c.kept;
    marked = λ x d h l. c.marked x d h (omega arith);
    bits-len = c.bits-len;
  }
