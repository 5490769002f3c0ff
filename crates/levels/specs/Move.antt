-- A vertex's move, which the first nets have seen and the others not: the loop over the vertex's nets. Rests on World.
use Rattle.std.specs.Prelude.{ℕ, ◌+◌, ◌-◌, ◌*◌, ◌<◌, ◌≤◌, ◌≡◌, true, false, cond, List, ltb, length, get_or, set, ℤ}
use Rattle.std.proofs.Common.{sym, ap, ◌∙◌, subst, arith, lt-ltb, le-ltb, length-set, get_or-set_same, get_or-set_other}
use Rattle.std.proofs.Math.Decide.{ℕ_discrete, dec_lt}
use Rattle.laws.specs.Choice.{one, one-full, one_none}
use Rattle.laws.specs.Place.{place, place_at, place-off}
use Rattle.incidence.specs.On.{on, Next, Cut}
use Rattle.connectivity.specs.Listed.{has, has_in, vertex_at}
use Rattle.connectivity.specs.Matrix.{set_pin, Stands, Kept}
use Rattle.connectivity.specs.Row.{row, row-yes, row-no, row-set, set_pin-here, set_pin-there}
use Rattle.connectivity.specs.Laid.{Net}
use Rattle.connectivity.specs.Law.{stands-ext}
use Rattle.connectivity.specs.Set.{Frame, Seen, Sets, Set, kept-none, kept_trans, frame-kept}
use Rattle.levels.specs.World.{mat, Lists, World}

-- what it leaves, once the block is stored
pub record Moved (weights pins firsts sizes : List ℕ) (n m k : ℕ) (blocks cs cs' vs vs' : List ℕ) (g g' : List ℤ) : Type 0 where
  pub world : World weights cs' vs' pins blocks firsts sizes g' n m k
  pub kept : Kept n m k cs cs' vs vs' g g'

module _ (pins blocks firsts sizes : List ℕ) (u t : ℕ) where
  -- the first `i` nets have seen the move
  unfoldable pub half : ℕ → ℕ → ℕ → ℕ
  half i d = cond (ltb d i) (mat pins (set blocks u t) firsts sizes d) (mat pins blocks firsts sizes d)

  half-past : (i d : ℕ) → d < i → half i d ≡ mat pins (set blocks u t) firsts sizes d
  unfolding half
  half-past i d h = rw (lt-ltb d i h)

  half-yet : (i d : ℕ) → i ≤ d → half i d ≡ mat pins blocks firsts sizes d
  unfolding half
  half-yet i d h = rw (le-ltb d i h)

  -- nets that u is no pin of
  half-skip : (i i' d y : ℕ) → i ≤ i' → (i ≤ d → d < i' → has pins (get_or firsts d 0) (get_or sizes d 0) u ≡ false) → half i d y ≡ half i' d y
  half-skip i i' d y le none = go (dec_lt d i) (dec_lt d i')
    where
      absent : has pins (get_or firsts d 0) (get_or sizes d 0) u ≡ false → Dec (y ≡ u) → mat pins blocks firsts sizes d y ≡ mat pins (set blocks u t) firsts sizes d y
      absent h (yes q) = rw q (row-no pins blocks _ _ u h ∙ sym (row-no pins (set blocks u t) _ _ u h))
      absent h (no q) = row-set pins blocks _ _ u t y q

      go : Dec (d < i) → Dec (d < i') → half i d y ≡ half i' d y
      go (yes p) q = ap (λ (r : ℕ → ℕ). r y) (half-past i d p ∙ sym (half-past i' d (omega arith)))
      go (no p) (yes q) =
          ap (λ (r : ℕ → ℕ). r y) (half-yet i d (omega arith))
          ∙ absent (none (omega arith) q) (ℕ_discrete y u)
          ∙ ap (λ (r : ℕ → ℕ). r y) (sym (half-past i' d q))
      go (no p) (no q) = ap (λ (r : ℕ → ℕ). r y) (half-yet i d (omega arith) ∙ sym (half-yet i' d (omega arith)))

-- what the rest of the loop needs: the first `i` nets have seen the move of u from the block s to t, and the bitset tells the nets of u
pub record Moves (weights counts visited pins blocks firsts sizes bits : List ℕ) (gains : List ℤ) (n m k u s t i : ℕ) : Type 0 where
  pub stands : Stands (half pins blocks firsts sizes u t i) n m k weights counts visited gains
  pub frame : Frame weights counts visited gains n m k
  pub lists : Lists pins blocks firsts sizes n m k
  pub marked : (e : ℕ) → e < m → on bits u e ≡ one (has pins (get_or firsts e 0) (get_or sizes e 0) u)
  pub bits_fit : 16 * u + 16 ≤ length bits
  pub u-in : u < n
  pub t-in : (1 ≤ t) × (t ≤ k)
  pub s-is : s ≡ get_or blocks u 0
  pub other : s ≡ t → ⊥

-- the state of the loop over the nets
pub record Moving (weights pins blocks firsts sizes : List ℕ) (n m k u t i : ℕ) (cs₀ cs vs₀ vs : List ℕ) (g₀ g : List ℤ) : Type 0 where
  pub stands : Stands (half pins blocks firsts sizes u t i) n m k weights cs vs g
  pub kept : Kept n m k cs₀ cs vs₀ vs g₀ g

-- no net has seen it yet
pub half-none : {weights cs vs : List ℕ} {g : List ℤ} {n m k : ℕ} (pins blocks firsts sizes : List ℕ) (u t : ℕ) → Stands (mat pins blocks firsts sizes) n m k weights cs vs g → Stands (half pins blocks firsts sizes u t 0) n m k weights cs vs g
half-none pins blocks firsts sizes u t s = stands-ext (λ d y l v. ap (λ (r : ℕ → ℕ). r y) (sym (half-yet pins blocks firsts sizes u t 0 d (omega arith)))) s

module _ {weights cs₀ vs₀ pins blocks firsts sizes bits : List ℕ} {g₀ : List ℤ} {n m k u s t i₀ : ℕ} (o : Moves weights cs₀ vs₀ pins blocks firsts sizes bits g₀ n m k u s t i₀) where
  -- on to the vertex's next net
  skip : {i i' z : ℕ} {cs vs : List ℕ} {g : List ℤ} → Next bits u i z i' → Stands (half pins blocks firsts sizes u t i) n m k weights cs vs g → Stands (half pins blocks firsts sizes u t i') n m k weights cs vs g
  skip {i} {i'} w h = stands-ext (λ d y l v. half-skip pins blocks firsts sizes u t i i' d y w.low (λ p q. one_none _ (sym (o.marked d l) ∙ w.passed d p q))) h

  pub moving-none : Moving weights pins blocks firsts sizes n m k u t i₀ cs₀ cs₀ vs₀ vs₀ g₀ g₀
  moving-none = record { stands = o.stands; kept = kept-none cs₀ vs₀ g₀ }

  pub moving-first : {i z : ℕ} → Next bits u i₀ z i → Moving weights pins blocks firsts sizes n m k u t i cs₀ cs₀ vs₀ vs₀ g₀ g₀
  moving-first w = record { stands = skip w o.stands; kept = kept-none cs₀ vs₀ g₀ }

  -- the tables that the loop has come to
  pub moving-moves : {i : ℕ} {cs vs : List ℕ} {g : List ℤ} → Moving weights pins blocks firsts sizes n m k u t i cs₀ cs vs₀ vs g₀ g → Moves weights cs vs pins blocks firsts sizes bits g n m k u s t i
  moving-moves c = record {
    stands = c.stands;
    frame = frame-kept o.frame c.kept;
    lists = o.lists;
    marked = o.marked;
    bits_fit = o.bits_fit;
    u-in = o.u-in;
    t-in = o.t-in;
    s-is = o.s-is;
    other = o.other;
  }

  pub moving-join : {i i' : ℕ} {cs cs₁ vs vs₁ : List ℕ} {g g₁ : List ℤ} → Moving weights pins blocks firsts sizes n m k u t i cs₀ cs vs₀ vs g₀ g → Moving weights pins blocks firsts sizes n m k u t i' cs cs₁ vs vs₁ g g₁ →
      Moving weights pins blocks firsts sizes n m k u t i' cs₀ cs₁ vs₀ vs₁ g₀ g₁
  moving-join c d = record { stands = d.stands; kept = kept_trans c.kept d.kept }

  -- the nets of one word: all 64 of them, or those below m
  pub moving-word : (c : ℕ) {j to : ℕ} {cs vs : List ℕ} {g : List ℤ} → j ≤ 64 → to ≤ j → Cut (m - 64 * c) 64 to → Moving weights pins blocks firsts sizes n m k u t (64 * c + j) cs₀ cs vs₀ vs g₀ g →
      Moving weights pins blocks firsts sizes n m k u t (64 * (c + 1)) cs₀ cs vs₀ vs g₀ g
  moving-word c {j} {to} {cs} {vs} {g} hj le cut d = by (dec_lt to 64)
    where
      by : Dec (to < 64) → Moving weights pins blocks firsts sizes n m k u t (64 * (c + 1)) cs₀ cs vs₀ vs g₀ g
      by (yes h) = record {
        stands = stands-ext (λ e y l v. ap (λ (r : ℕ → ℕ). r y) (half-past pins blocks firsts sizes u t (64 * c + j) e (omega (arith, cut.same h)) ∙ sym (half-past pins blocks firsts sizes u t (64 * (c + 1)) e (omega (arith, cut.same h))))) d.stands;
        kept = d.kept;
      }
      by (no h) =
          let q : 64 * c + j ≡ 64 * (c + 1) = omega arith in
          subst (λ (i : ℕ). Moving weights pins blocks firsts sizes n m k u t i cs₀ cs vs₀ vs g₀ g) q d

  module _ {i : ℕ} {cs vs : List ℕ} {g : List ℤ} (hi : i < m) (found : on bits u i ≡ 1) (c : Moving weights pins blocks firsts sizes n m k u t i cs₀ cs vs₀ vs g₀ g)
      {f p : ℕ} (ef : f ≡ get_or firsts i 0) (ep : p ≡ get_or sizes i 0) where
    has-u : has pins f p u ≡ true
    has-u = rw (ef, ep) (one-full _ (omega (arith, o.marked i hi, found)))

    here : (y : ℕ) → half pins blocks firsts sizes u t i i y ≡ row pins blocks f p y
    here y = ap (λ (r : ℕ → ℕ). r y) (half-yet pins blocks firsts sizes u t i i (omega arith)) ∙ cc

    next : (y : ℕ) → half pins blocks firsts sizes u t (i + 1) i y ≡ row pins (set blocks u t) f p y
    next y = ap (λ (r : ℕ → ℕ). r y) (half-past pins blocks firsts sizes u t (i + 1) i (omega arith)) ∙ cc

    seen : Seen (half pins blocks firsts sizes u t i i) pins blocks f p n u s
    seen y l = here y ∙ by (ℕ_discrete y u)
      where
        by : Dec (y ≡ u) → row pins blocks f p y ≡ place (row pins blocks f p) u s y
        by (yes q) = rw q (row-yes pins blocks f p u has-u ∙ sym o.s-is ∙ sym (place_at (row pins blocks f p) u s))
        by (no q) = sym (place-off (row pins blocks f p) u s y q)

    pub moving-sets : Sets weights cs vs pins blocks g n m k f p i u s t
    moving-sets = record {
      Q = half pins blocks firsts sizes u t i;
      stands = c.stands;
      seen = seen;
      frame = frame-kept o.frame c.kept;
      net = rw (ef, ep) (o.lists.nets i hi);
      blocks-fit = o.lists.blocks-fit;
      e-in = hi;
      x-in = o.u-in;
      a_in = omega (arith, c.stands.tally.block-le i u hi o.u-in, seen u o.u-in ∙ place_at (row pins blocks f p) u s);
      b-in = o.t-in.1;
    }

    -- a pin has a block
    pub moving-both : (1 ≤ s) × (1 ≤ t) × (s ≡ t → ⊥)
    moving-both =
        let j = has_in pins f p u has-u in
        let z : vertex_at pins f j.0 ≡ u = omega (arith, j.2) in
        (omega (arith, moving-sets.net.in_blocks j.0 j.1, ap (λ (v : ℕ). get_or blocks v 0) z, o.s-is), o.t-in.0, o.other)

    pub moving-more : {cs₁ vs₁ : List ℕ} {g₁ : List ℤ} {i' z : ℕ} → Set weights pins blocks n m k f p i u s t cs cs₁ vs vs₁ g g₁ → Next bits u (i + 1) z i' →
        Moving weights pins blocks firsts sizes n m k u t i' cs₀ cs₁ vs₀ vs₁ g₀ g₁
    moving-more d w = record {
      stands = skip w (stands-ext (λ e y l v. by e y (ℕ_discrete e i)) (d.stands (half pins blocks firsts sizes u t i) c.stands seen));
      kept = kept_trans c.kept d.kept;
    }
      where
        at-u : (y : ℕ) → Dec (y ≡ u) → place (half pins blocks firsts sizes u t i i) u t y ≡ row pins (set blocks u t) f p y
        at-u y (yes q) = rw q (place_at (half pins blocks firsts sizes u t i i) u t ∙ sym (row-yes pins (set blocks u t) f p u has-u ∙ get_or-set_same blocks u t 0 (omega (arith, o.u-in, o.lists.blocks-fit))))
        at-u y (no q) = place-off (half pins blocks firsts sizes u t i i) u t y q ∙ here y ∙ row-set pins blocks f p u t y q

        by : (e y : ℕ) → Dec (e ≡ i) → set_pin (half pins blocks firsts sizes u t i) i u t e y ≡ half pins blocks firsts sizes u t (i + 1) e y
        by e y (yes q) = rw q (ap (λ (r : ℕ → ℕ). r y) (set_pin-here (half pins blocks firsts sizes u t i) i u t) ∙ at-u y (ℕ_discrete y u) ∙ sym (next y))
        by e y (no q) = ap (λ (r : ℕ → ℕ). r y) (set_pin-there (half pins blocks firsts sizes u t i) i u t e q)
            ∙ half-skip pins blocks firsts sizes u t i (i + 1) e y (omega arith) (λ a b. absurd (q (omega arith)))

  -- the pins' blocks are blocks after the store
  net-moved : {first p : ℕ} → Net pins blocks first p n k → Net pins (set blocks u t) first p n k
  net-moved {first} {p} s = record {
    pins-fit = s.pins-fit;
    in-range = s.in-range;
    in_blocks = λ j l. by j l (ℕ_discrete (vertex_at pins first j) u);
    once = s.once;
  }
    where
      by : (j : ℕ) → j < p → Dec (vertex_at pins first j ≡ u) → (1 ≤ get_or (set blocks u t) (vertex_at pins first j) 0) × (get_or (set blocks u t) (vertex_at pins first j) 0 ≤ k)
      by j l (yes q) = rw (q, get_or-set_same blocks u t 0 (omega (arith, o.u-in, o.lists.blocks-fit))) o.t-in
      by j l (no q) = rw (get_or-set_other blocks u (vertex_at pins first j) t 0 q) (s.in_blocks j l)

  pub moving-done : {i : ℕ} {cs vs : List ℕ} {g : List ℤ} → m ≤ i → Moving weights pins blocks firsts sizes n m k u t i cs₀ cs vs₀ vs g₀ g →
      Moved weights pins firsts sizes n m k (set blocks u t) cs₀ cs vs₀ vs g₀ g
  moving-done {i} e c = record {
    world = record {
      stands = stands-ext (λ d y l v. ap (λ (r : ℕ → ℕ). r y) (half-past pins blocks firsts sizes u t i d (omega arith))) c.stands;
      frame = frame-kept o.frame c.kept;
      lists = record {
        nets = λ d l. net-moved (o.lists.nets d l);
        blocks-fit = omega (arith, o.lists.blocks-fit, length-set blocks u t);
        firsts-fit = o.lists.firsts-fit;
        sizes-fit = o.lists.sizes-fit;
      };
    };
    kept = c.kept;
  }
