-- v contracted into u in every net that has v, found by the bitset; the incidence follows at the end. Rests on ContractNet and on pins' Board.
use Rattle.std.specs.Prelude.{ℕ, ◌+◌, ◌-◌, ◌<◌, ◌≤◌, ◌≡◌, refl, Bool, true, false, ◌⊎◌, List, ◌∷◌, length, get_or, set, ℤ}
use Rattle.std.proofs.Common.{sym, ap, ◌∙◌, ⊎_elim, inl, inr, arith, length-set, get_or-set_same, get_or-set_other}
use Rattle.std.proofs.Math.Decide.{ℕ_discrete, dec_lt}
use Rattle.laws.specs.Choice.{one, one-full, one_none}
use Rattle.laws.specs.Occurrence.{at}
use Rattle.model.specs.Measure.{Contraction}
use Rattle.guarantees.specs.Climbs.{Sound}
use Rattle.connectivity.specs.Listed.{has, in-has, has-is}
use Rattle.incidence.specs.On.{on, Next, Joined}
use Rattle.connectivity.specs.Matrix.{Kept}
use Rattle.connectivity.specs.Set.{kept_trans, kept-none}
use Rattle.levels.specs.World.{mat, World, world-net}
use Rattle.levels.specs.ContractNet.{ContractNetNeeds, ContractNetDoes}
use Rattle.pins.specs.Stack.{row as stack_row, present-on, row-into, row_other, one-or}
use Rattle.pins.specs.Stretch.{Stretch, stretch-ext, stretch-in, skip-on}
use Rattle.pins.proofs.Turns.{stretch-contract}
use Rattle.pins.specs.Board.{join, half, half-below, half-from, Board, Room, KeptLists, room-kept}

-- what the loop needs: (u, v) may go on the stack `cs` that the lists and the tables stand for
pub record ContractsAll (weights counts visited pins blocks firsts sizes bits : List ℕ) (gains : List ℤ) (n m k u v : ℕ) : Type 0 where
  pub world : World weights counts visited pins blocks firsts sizes gains n m k
  pub own : ℕ → ℕ → Bool
  pub cs : List Contraction
  pub loaded : List ℕ
  pub sound : Sound (join u v ∷ cs)
  pub board : Board own (λ _. cs) pins firsts sizes loaded bits n m
  pub room : Room pins firsts sizes loaded bits n m
  pub u-in : u < n
  pub v-in : v < n
  pub together : get_or blocks u 0 ≡ get_or blocks v 0

-- each net's stretch is what its stack says
pub record Nets (own : ℕ → ℕ → Bool) (st : ℕ → List Contraction) (pins firsts sizes loaded : List ℕ) (m : ℕ) : Type 0 where
  pub net : (e : ℕ) → e < m → Stretch (own e) (st e) pins (get_or firsts e 0) (get_or sizes e 0) (get_or loaded e 0)

-- the nets below e are done; the incidence waits
pub record Contracting (weights blocks firsts bits : List ℕ) (n m k u v e : ℕ) (pins pins' sizes sizes' cs cs' vs vs' : List ℕ) (g g' : List ℤ) : Type 0 where
  pub world : World weights cs' vs' pins' blocks firsts sizes' g' n m k
  pub kept : Kept n m k cs cs' vs vs' g g'
  pub nets : (own : ℕ → ℕ → Bool) (st : List Contraction) (loaded : List ℕ) → Sound (join u v ∷ st) → Room pins firsts sizes loaded bits n m → Board own (λ _. st) pins firsts sizes loaded bits n m →
      Nets own (half e (join u v ∷ st) st) pins' firsts sizes' loaded m
  pub pins-len : length pins' ≡ length pins
  pub sizes-len : length sizes' ≡ length sizes
  pub pins-past : (i : ℕ) → ((d : ℕ) → d < m → (i < get_or firsts d 0) ⊎ (get_or firsts d 0 + get_or sizes d 0 ≤ i)) → get_or pins' i 0 ≡ get_or pins i 0
  pub sizes-past : (d : ℕ) → m ≤ d → get_or sizes' d 0 ≡ get_or sizes d 0
  pub shorter : (d : ℕ) → d < m → get_or sizes' d 0 ≤ get_or sizes d 0

-- what it does
pub record ContractedAll (weights blocks firsts : List ℕ) (n m k u v : ℕ) (pins pins' sizes sizes' bits bits' cs cs' vs vs' : List ℕ) (g g' : List ℤ) : Type 0 where
  pub world : World weights cs' vs' pins' blocks firsts sizes' g' n m k
  pub kept : Kept n m k cs cs' vs vs' g g'
  pub board : (own : ℕ → ℕ → Bool) (st : List Contraction) (loaded : List ℕ) → Sound (join u v ∷ st) → Room pins firsts sizes loaded bits n m → Board own (λ _. st) pins firsts sizes loaded bits n m →
      Board own (λ _. join u v ∷ st) pins' firsts sizes' loaded bits' n m
  pub room : (loaded : List ℕ) → Room pins firsts sizes loaded bits n m → Room pins' firsts sizes' loaded bits' n m
  pub kept-lists : (own : ℕ → ℕ → Bool) (st : List Contraction) (loaded : List ℕ) → Board own (λ _. st) pins firsts sizes loaded bits n m → KeptLists firsts loaded m pins pins' sizes sizes'

-- ---- the pin lists
module _ {own : ℕ → ℕ → Bool} {pins firsts sizes loaded : List ℕ} {m : ℕ} (st : List Contraction) (u v e : ℕ) (so : Sound (join u v ∷ st))
    (b : Nets own (half e (join u v ∷ st) st) pins firsts sizes loaded m) where
  -- nets that v is no pin of
  nets-skip : (e' : ℕ) → e ≤ e' → e' ≤ m → ((d : ℕ) → e ≤ d → d < e' → stack_row (own d) st (v + 1) ≡ false) → Nets own (half e' (join u v ∷ st) st) pins firsts sizes loaded m
  nets-skip e' le high none = record { net = λ d l. net d l (dec_lt d e) (dec_lt d e') }
    where
      net : (d : ℕ) → d < m → Dec (d < e) → Dec (d < e') → Stretch (own d) (half e' (join u v ∷ st) st d) pins (get_or firsts d 0) (get_or sizes d 0) (get_or loaded d 0)
      net d l (yes h) k = rw (half-below e' (join u v ∷ st) st d (omega arith)) (rw (half-below e (join u v ∷ st) st d h) at (b.net d l))
      net d l (no h) (yes k) = rw (half-below e' (join u v ∷ st) st d k) (skip-on (own d) st (join u v) so pins _ _ _ (none d (omega arith) k) (rw (half-from e (join u v ∷ st) st d (omega arith)) at (b.net d l)))
      net d l (no h) (no k) = rw (half-from e' (join u v ∷ st) st d (omega arith)) (rw (half-from e (join u v ∷ st) st d (omega arith)) at (b.net d l))

  stretch-e : e < m → Stretch (own e) st pins (get_or firsts e 0) (get_or sizes e 0) (get_or loaded e 0)
  stretch-e he = rw (half-from e (join u v ∷ st) st e (omega arith)) at (b.net e he)

  -- one net more
  nets-more : {pins' : List ℕ} {r : ℕ} → e < length sizes → (he : e < m) → ((d : ℕ) → d < m → (d ≡ e → ⊥) → (i : ℕ) → i < get_or loaded d 0 → at pins' (get_or firsts d 0) i ≡ at pins (get_or firsts d 0) i) →
      Stretch (own e) (join u v ∷ st) pins' (get_or firsts e 0) r (get_or loaded e 0) → Nets own (half (e + 1) (join u v ∷ st) st) pins' firsts (set sizes e r) loaded m
  nets-more {pins'} {r} fit he far new = record { net = λ d l. net d l (ℕ_discrete d e) (dec_lt d e) }
    where
      size-e : get_or (set sizes e r) e 0 ≡ r
      size-e = get_or-set_same sizes e r 0 fit

      same-d : (d : ℕ) → d < m → (d ≡ e → ⊥) → (s : List Contraction) → Stretch (own d) s pins (get_or firsts d 0) (get_or sizes d 0) (get_or loaded d 0) → Stretch (own d) s pins' (get_or firsts d 0) (get_or (set sizes e r) d 0) (get_or loaded d 0)
      same-d d l ne s q = rw (get_or-set_other sizes e d r 0 ne) (stretch-ext (own d) s pins pins' _ _ _ (far d l ne) q)

      net : (d : ℕ) → d < m → Dec (d ≡ e) → Dec (d < e) → Stretch (own d) (half (e + 1) (join u v ∷ st) st d) pins' (get_or firsts d 0) (get_or (set sizes e r) d 0) (get_or loaded d 0)
      net d l (yes q) k = rw (half-below (e + 1) (join u v ∷ st) st d (omega arith), q, size-e) new
      net d l (no q) (yes k) = rw (half-below (e + 1) (join u v ∷ st) st d (omega arith)) (same-d d l q (join u v ∷ st) (rw (half-below e (join u v ∷ st) st d k) at (b.net d l)))
      net d l (no q) (no k) = rw (half-from (e + 1) (join u v ∷ st) st d (omega arith)) (same-d d l q st (rw (half-from e (join u v ∷ st) st d (omega arith)) at (b.net d l)))

module _ {weights cs₀ vs₀ pins₀ blocks firsts sizes₀ bits : List ℕ} {g₀ : List ℤ} {n m k u v : ℕ} (o : ContractsAll weights cs₀ vs₀ pins₀ blocks firsts sizes₀ bits g₀ n m k u v) where
  -- v's row, whatever the stack
  row_of : (own : ℕ → ℕ → Bool) (st : List Contraction) (loaded : List ℕ) → Board own (λ _. st) pins₀ firsts sizes₀ loaded bits n m → (d : ℕ) → d < m → on bits v d ≡ one (stack_row (own d) st (v + 1))
  row_of own st loaded b d l = b.marked v d o.v-in l

  nets-start : (own : ℕ → ℕ → Bool) (st : List Contraction) (loaded : List ℕ) → Board own (λ _. st) pins₀ firsts sizes₀ loaded bits n m → Nets own (half 0 (join u v ∷ st) st) pins₀ firsts sizes₀ loaded m
  nets-start own st loaded b = record { net = λ d l. rw (half-from 0 (join u v ∷ st) st d (omega arith)) (b.nets d l) }

  pub contracting-none : {e : ℕ} → Next bits v 0 m e → Contracting weights blocks firsts bits n m k u v e pins₀ pins₀ sizes₀ sizes₀ cs₀ cs₀ vs₀ vs₀ g₀ g₀
  contracting-none {e} w = record {
    world = o.world;
    kept = kept-none cs₀ vs₀ g₀;
    nets = λ own st loaded so ro b. nets-skip st u v 0 so (nets-start own st loaded b) e (omega arith) w.high
        (λ d l h. one_none _ (sym (row_of own st loaded b d (omega (arith, w.high))) ∙ w.passed d l h));
    pins-len = refl;
    sizes-len = refl;
    pins-past = λ i h. refl;
    sizes-past = λ d l. refl;
    shorter = λ d l. omega arith;
  }

  module _ {cs vs pins sizes : List ℕ} {g : List ℤ} {e : ℕ} (he : e < m) (here : on bits v e ≡ 1)
      (c : Contracting weights blocks firsts bits n m k u v e pins₀ pins sizes₀ sizes cs₀ cs vs₀ vs g₀ g)
      {f p : ℕ} (ef : f ≡ get_or firsts e 0) (ep : p ≡ get_or sizes e 0) where
    nets-now : Nets o.own (half e (join u v ∷ o.cs) o.cs) pins firsts sizes o.loaded m
    nets-now = c.nets o.own o.cs o.loaded o.sound o.room o.board

    has-v : has pins f p v ≡ true
    has-v = rw (ef, ep) (in-has pins (get_or firsts e 0) (get_or sizes e 0) v (stretch-in (o.own e) o.cs pins _ _ _ (stretch-e o.cs u v e o.sound nets-now he) (v + 1) o.sound.0.gone-on
        (one-full _ (omega (arith, row_of o.own o.cs o.loaded o.board e he, here)))))

    marked-u : on bits u e ≡ one (has pins f p u)
    marked-u = rw (ef, ep) (o.board.marked u e o.u-in he
        ∙ ap one (sym (has-is pins (get_or firsts e 0) (get_or sizes e 0) u (stack_row (o.own e) o.cs (u + 1)) ((stretch-e o.cs u v e o.sound nets-now he).pins (u + 1) ∙ present-on (o.own e) o.cs (u + 1) o.sound.0.into-on))))

    pub contracting-contracts : ContractNetNeeds weights cs vs pins blocks bits g n m k f p e u v
    contracting-contracts = record {
      Q = mat pins blocks firsts sizes;
      stands = c.world.stands;
      seen = λ y l. rw (ef, ep) refl;
      frame = c.world.frame;
      net = rw (ef, ep) (c.world.lists.nets e he);
      blocks-fit = c.world.lists.blocks-fit;
      e-in = he;
      u-in = o.u-in;
      v-in = o.v-in;
      two = λ q. o.sound.0.two (ap (λ (z : ℕ). z + 1) q);
      together = o.together;
      has-v = has-v;
      marked = marked-u;
      bits_fit = omega (arith, o.room.bits_fit, o.u-in);
    }

    module _ {cs₁ vs₁ pins₁ : List ℕ} {g₁ : List ℤ} {r : ℕ} (t : ContractNetDoes weights blocks n m k f p e u v r pins pins₁ cs cs₁ vs vs₁ g g₁) where
      size-e : get_or (set sizes e r) e 0 ≡ r
      size-e = get_or-set_same sizes e r 0 (omega (arith, c.world.lists.sizes-fit))

      size-d : (d : ℕ) → (d ≡ e → ⊥) → get_or (set sizes e r) d 0 ≡ get_or sizes d 0
      size-d d ne = get_or-set_other sizes e d r 0 ne

      -- the other nets' places stand as they stood
      far : (own : ℕ → ℕ → Bool) (st : List Contraction) (loaded : List ℕ) → Room pins₀ firsts sizes₀ loaded bits n m → Nets own (half e (join u v ∷ st) st) pins firsts sizes loaded m →
          (d : ℕ) → d < m → (d ≡ e → ⊥) → (i : ℕ) → i < get_or loaded d 0 → at pins₁ (get_or firsts d 0) i ≡ at pins (get_or firsts d 0) i
      far own st loaded ro b d hd ne i l = t.linked.counted.outside (get_or firsts d 0 + i) (⊎_elim
          (λ q. inl (omega (arith, q, ef)))
          (λ q. inr (omega (arith, q, ef, ep, (b.net e he).whole)))
          (ro.apart d e hd he ne))

      apart : (d : ℕ) → d < m → (d ≡ e → ⊥) → (i : ℕ) → i < get_or sizes d 0 → get_or pins₁ (get_or firsts d 0 + i) 0 ≡ get_or pins (get_or firsts d 0 + i) 0
      apart d hd ne i l = far o.own o.cs o.loaded o.room nets-now d hd ne i (omega (arith, (nets-now.net d hd).whole))

      new : (own : ℕ → ℕ → Bool) (st : List Contraction) (loaded : List ℕ) → Sound (join u v ∷ st) → Board own (λ _. st) pins₀ firsts sizes₀ loaded bits n m → Nets own (half e (join u v ∷ st) st) pins firsts sizes loaded m →
          Stretch (own e) (join u v ∷ st) pins₁ (get_or firsts e 0) r (get_or loaded e 0)
      new own st loaded so b q = stretch-contract (own e) st (join u v) so pins (get_or firsts e 0) (get_or sizes e 0) (get_or loaded e 0) (one-full _ (omega (arith, row_of own st loaded b e he, here))) pins₁ r
          (stretch-e st u v e so q he) (rw (ef, ep) at t.linked.counted)

      smaller : (d : ℕ) → d < m → Dec (d ≡ e) → get_or (set sizes e r) d 0 ≤ get_or sizes₀ d 0
      smaller d l (yes q) = rw q (omega (arith, size-e, t.shorter, ep, c.shorter e he))
      smaller d l (no q) = omega (arith, size-d d q, c.shorter d l)

      pub contracting-more : {e' : ℕ} → Next bits v (e + 1) m e' → Contracting weights blocks firsts bits n m k u v e' pins₀ pins₁ sizes₀ (set sizes e r) cs₀ cs₁ vs₀ vs₁ g₀ g₁
      contracting-more {e'} w = record {
        world = world-net he ef ep t.pins-len apart t.net t.stands t.kept c.world;
        kept = kept_trans c.kept t.kept;
        nets = λ own st loaded so ro b. let q = c.nets own st loaded so ro b in
            nets-skip st u v (e + 1) so (nets-more st u v e so q (omega (arith, c.world.lists.sizes-fit)) he (far own st loaded ro q) (new own st loaded so b q)) e' w.low w.high
            (λ d l h. one_none _ (sym (row_of own st loaded b d (omega (arith, w.high))) ∙ w.passed d l h));
        pins-len = t.pins-len ∙ c.pins-len;
        sizes-len = length-set sizes e r ∙ c.sizes-len;
        pins-past = λ i h. t.linked.counted.outside i (⊎_elim (λ q. inl (omega (arith, q, ef))) (λ q. inr (omega (arith, q, ef, ep, c.shorter e he))) (h e he)) ∙ c.pins-past i h;
        sizes-past = λ d l. size-d d (λ q. omega arith) ∙ c.sizes-past d l;
        shorter = λ d l. smaller d l (ℕ_discrete d e);
      }

  pub contracting-done : {cs vs pins sizes bits' : List ℕ} {g : List ℤ} {e : ℕ} → e ≡ m → Contracting weights blocks firsts bits n m k u v e pins₀ pins sizes₀ sizes cs₀ cs vs₀ vs g₀ g → Joined bits bits' u v →
      ContractedAll weights blocks firsts n m k u v pins₀ pins sizes₀ sizes bits bits' cs₀ cs vs₀ vs g₀ g
  contracting-done {pins} {sizes} {bits'} {e} q c j = record {
    world = c.world;
    kept = c.kept;
    board = λ own st loaded so ro b. record {
      nets = λ d l. rw (half-below e (join u v ∷ st) st d (omega arith)) at ((c.nets own st loaded so ro b).net d l);
      marked = λ x d k l. bit-after own st loaded b x d k l (ℕ_discrete x u);
    };
    room = λ loaded ro. room-kept c.pins-len c.sizes-len j.len ro;
    kept-lists = λ own st loaded b. record {
      pins-len = c.pins-len;
      sizes-len = c.sizes-len;
      pins-past = λ i h. c.pins-past i (λ d l. ⊎_elim (λ q. inl q) (λ q. inr (omega (arith, q, (b.nets d l).whole))) (h d l));
      sizes-past = c.sizes-past;
    };
  }
    where
      bit-after : (own : ℕ → ℕ → Bool) (st : List Contraction) (loaded : List ℕ) → Board own (λ _. st) pins₀ firsts sizes₀ loaded bits n m → (x d : ℕ) → x < n → d < m → Dec (x ≡ u) → on bits' x d ≡ one (stack_row (own d) (join u v ∷ st) (x + 1))
      bit-after own st loaded b x d xn l (yes z) = rw z (omega (
        arith,
        j.here d (omega (arith, o.room.few-nets)),
        b.marked u d o.u-in l,
        b.marked v d o.v-in l,
        ap one (row-into (own d) st (join u v)),
        one-or (stack_row (own d) st (u + 1)) (stack_row (own d) st (v + 1)),
      ))
      bit-after own st loaded b x d xn l (no z) = j.elsewhere x d (omega (arith, o.room.few-nets)) z ∙ b.marked x d xn l ∙ ap one (sym (row_other (own d) st (join u v) (x + 1) (λ q. z (omega arith))))
