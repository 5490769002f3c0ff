-- v split from u in one net: its list, its bit, its counts and its shares in the gains. Rests on World and on pins' Split.
use Rattle.std.specs.Prelude.{ℕ, ◌+◌, ◌-◌, ◌<◌, ◌≤◌, ◌≡◌, refl, Bool, true, false, List, ◌∷◌, ltb, length, get_or, ℤ}
use Rattle.std.proofs.Common.{sym, ap, ◌∙◌, arith, lt-ltb, le-ltb}
use Rattle.std.proofs.Math.Decide.{ℕ_discrete}
use Rattle.laws.specs.Choice.{one}
use Rattle.laws.specs.Occurrence.{occ, In, occ-at, occ-in}
use Rattle.laws.specs.Place.{place, place_at, place-off}
use Rattle.model.specs.Measure.{Contraction}
use Rattle.connectivity.specs.Listed.{has, vertex_at, has_in, has-yes, has_no, has_same}
use Rattle.connectivity.specs.Matrix.{set_pin, set_row, Stands, Kept}
use Rattle.connectivity.specs.Row.{row, row-yes, row-no, row_by, set_pin-here, set_pin-there, set_row-here, set_row-there}
use Rattle.connectivity.specs.Laid.{Net}
use Rattle.connectivity.specs.Law.{stands-ext}
use Rattle.connectivity.specs.Set.{Frame, Seen, Sets, Set, frame-kept, kept_trans}
use Rattle.pins.specs.Stack.{present, present-on, present-gone, present-into, present-other}
use Rattle.pins.specs.Stretch.{Stretch, stretch-distinct}
use Rattle.pins.specs.Board.{join}
use Rattle.pins.specs.Split.{Splits, Split}

-- what `split_net` needs
pub record SplitNetNeeds (weights counts visited pins blocks bits : List ℕ) (gains : List ℤ) (n m k first p N e u v : ℕ) : Type 0 where
  pub Q : ℕ → ℕ → ℕ
  pub stands : Stands Q n m k weights counts visited gains
  pub seen : (y : ℕ) → y < n → Q e y ≡ row pins blocks first p y
  pub frame : Frame weights counts visited gains n m k
  pub net : Net pins blocks first p n k
  pub blocks-fit : n ≤ length blocks
  pub e-in : e < m
  pub u-in : u < n
  pub v-in : v < n
  pub together : get_or blocks u 0 ≡ get_or blocks v 0
  pub splits : Splits pins bits first p N e u v

-- what it does
pub record SplitNetDoes (weights blocks : List ℕ) (n m k first p N e u v r : ℕ) (pins pins' bits bits' cs cs' vs vs' : List ℕ) (g g' : List ℤ) : Type 0 where
  pub split : Split pins pins' bits bits' first p N r e u v
  pub net : Net pins' blocks first r n k
  pub stands : (Q : ℕ → ℕ → ℕ) → Stands Q n m k weights cs vs g → ((y : ℕ) → y < n → Q e y ≡ row pins blocks first p y) →
      Stands (set_row Q e (row pins' blocks first r)) n m k weights cs' vs' g'
  pub kept : Kept n m k cs cs' vs vs' g g'

module _ {weights cs vs pins blocks bits : List ℕ} {g : List ℤ} {n m k first p N e u v : ℕ} (o : SplitNetNeeds weights cs vs pins blocks bits g n m k first p N e u v) {s : ℕ} (es : s ≡ get_or blocks v 0) where
  -- the net and the stack below, by which all is read
  abbrev own : ℕ → Bool
  own = o.splits.own

  abbrev below : List Contraction
  below = o.splits.cs

  was : Stretch own (join u v ∷ below) pins first p N
  was = o.splits.stretch

  two : u ≡ v → ⊥
  two q = o.splits.sound.0.two (ap (λ (z : ℕ). z + 1) q)

  v-one : present own below (v + 1) ≡ 1
  v-one = present-on own below (v + 1) o.splits.sound.0.gone-on ∙ ap one o.splits.has-v

  v-was : has pins first p v ≡ false
  v-was = has_no pins first p v (was.pins (v + 1) ∙ present-gone own below (join u v) o.splits.sound.0)

  u-was : has pins first p u ≡ true
  u-was = has-yes pins first p u (omega (arith, was.pins (u + 1), present-into own below (join u v) o.splits.sound.0, v-one))

  u-home : get_or blocks u 0 ≡ s
  u-home = o.together ∙ sym es

  home : (1 ≤ s) × (s ≤ k)
  home =
      let i = has_in pins first p u u-was in
      let q : vertex_at pins first i.0 ≡ u = omega (arith, i.2) in
      omega (arith, u-home, o.net.in_blocks i.0 i.1, ap (λ (z : ℕ). get_or blocks z 0) q)

  seen-v : (Q : ℕ → ℕ → ℕ) → ((y : ℕ) → y < n → Q e y ≡ row pins blocks first p y) → Seen (Q e) pins blocks first p n v 0
  seen-v Q f y l = f y l ∙ by (ℕ_discrete y v)
    where
      by : Dec (y ≡ v) → row pins blocks first p y ≡ place (row pins blocks first p) v 0 y
      by (yes q) = rw q (row-no pins blocks first p v v-was ∙ sym (place_at (row pins blocks first p) v 0))
      by (no q) = sym (place-off (row pins blocks first p) v 0 y q)

  pub split-sets : Sets weights cs vs pins blocks g n m k first p e v 0 s
  split-sets = record {
    Q = o.Q;
    stands = o.stands;
    seen = seen-v o.Q o.seen;
    frame = o.frame;
    net = o.net;
    blocks-fit = o.blocks-fit;
    e-in = o.e-in;
    x-in = o.v-in;
    a_in = omega arith;
    b-in = home.1;
  }

  module _ {cs₁ vs₁ : List ℕ} {g₁ : List ℤ} (d : Set weights pins blocks n m k first p e v 0 s cs cs₁ vs vs₁ g g₁)
      {pins' bits' : List ℕ} {r : ℕ} (t : Split pins pins' bits bits' first p N r e u v) where
    now : Stretch own below pins' first r N
    now = t.stretch own below o.splits.sound o.splits.has-v was

    v-now : has pins' first r v ≡ true
    v-now = has-yes pins' first r v (omega (arith, now.pins (v + 1), v-one))

    others : (y : ℕ) → (y ≡ u → ⊥) → (y ≡ v → ⊥) → has pins first p y ≡ has pins' first r y
    others y nu nv = has_same pins pins' first p r y (was.pins (y + 1) ∙ present-other own below (join u v) o.splits.sound.0 (y + 1) (λ q. nu (omega arith)) (λ q. nv (omega arith)) ∙ sym (now.pins (y + 1)))

    u-row : {b : Bool} → ltb p r ≡ b → occ pins' first r (u + 1) ≡ one b
    u-row q = now.pins (u + 1) ∙ present-on own below (u + 1) o.splits.sound.0.into-on ∙ ap one (t.tells own below o.splits.sound o.splits.has-v was ∙ q)

    -- the new stretch is whole
    pub net-split : Net pins' blocks first r n k
    net-split = record {
      pins-fit = omega (arith, t.pins-len, t.small, o.splits.room);
      in-range = λ j l. number_in j l (ℕ_discrete (get_or pins' (first + j) 0) (u + 1)) (ℕ_discrete (get_or pins' (first + j) 0) (v + 1));
      in_blocks = λ j l. home-in j l (ℕ_discrete (get_or pins' (first + j) 0) (u + 1)) (ℕ_discrete (get_or pins' (first + j) 0) (v + 1));
      once = λ i j l h q. let z = stretch-distinct own below pins' first r N now i j (omega arith) h q in omega (arith, z);
    }
      where
        back : (j : ℕ) → j < r → (get_or pins' (first + j) 0 ≡ u + 1 → ⊥) → (get_or pins' (first + j) 0 ≡ v + 1 → ⊥) → In pins first p (get_or pins' (first + j) 0)
        back j l nu nv =
            let x = get_or pins' (first + j) 0 in
            occ-in pins first p x (omega (arith, occ-at pins' first r j x l refl, now.pins x, was.pins x, present-other own below (join u v) o.splits.sound.0 x nu nv))

        number_in : (j : ℕ) → j < r → Dec (get_or pins' (first + j) 0 ≡ u + 1) → Dec (get_or pins' (first + j) 0 ≡ v + 1) → (1 ≤ get_or pins' (first + j) 0) × (get_or pins' (first + j) 0 ≤ n)
        number_in j l (yes q) z = omega (arith, o.u-in)
        number_in j l (no q) (yes z) = omega (arith, o.v-in)
        number_in j l (no q) (no z) = let i = back j l q z in omega (arith, i.2, o.net.in-range i.0 i.1)

        home-in : (j : ℕ) → j < r → Dec (get_or pins' (first + j) 0 ≡ u + 1) → Dec (get_or pins' (first + j) 0 ≡ v + 1) → (1 ≤ get_or blocks (vertex_at pins' first j) 0) × (get_or blocks (vertex_at pins' first j) 0 ≤ k)
        home-in j l (yes q) z =
            let w : vertex_at pins' first j ≡ u = omega arith in
            omega (arith, home, u-home, ap (λ (i : ℕ). get_or blocks i 0) w)
        home-in j l (no q) (yes z) =
            let w : vertex_at pins' first j ≡ v = omega arith in
            omega (arith, home, es, ap (λ (i : ℕ). get_or blocks i 0) w)
        home-in j l (no q) (no z) =
            let i = back j l q z in
            let w : vertex_at pins first i.0 ≡ vertex_at pins' first j = omega (arith, i.2) in
            omega (arith, o.net.in_blocks i.0 i.1, ap (λ (i : ℕ). get_or blocks i 0) w)

    after : (Q : ℕ → ℕ → ℕ) → Stands Q n m k weights cs vs g → ((y : ℕ) → y < n → Q e y ≡ row pins blocks first p y) → Stands (set_pin Q e v s) n m k weights cs₁ vs₁ g₁
    after Q q f = d.stands Q q (seen-v Q f)

    -- `u` was a pin too
    pub split-both : p < r → SplitNetDoes weights blocks n m k first p N e u v r pins pins' bits bits' cs cs₁ vs vs₁ g g₁
    split-both grown = record {
      split = t;
      net = net-split;
      stands = λ Q q f. stands-ext (λ i y l h. by Q f i y h (ℕ_discrete i e)) (after Q q f);
      kept = d.kept;
    }
      where
        u-now : has pins' first r u ≡ true
        u-now = has-yes pins' first r u (omega (arith, u-row (lt-ltb p r grown)))

        at-e : (Q : ℕ → ℕ → ℕ) → ((y : ℕ) → y < n → Q e y ≡ row pins blocks first p y) → (y : ℕ) → y < n → Dec (y ≡ v) → Dec (y ≡ u) → place (Q e) v s y ≡ row pins' blocks first r y
        at-e Q f y h (yes q) z = rw q (place_at (Q e) v s ∙ es ∙ sym (row-yes pins' blocks first r v v-now))
        at-e Q f y h (no q) (yes z) = place-off (Q e) v s y q ∙ f y h ∙ row_by pins pins' blocks first p r y (rw z (u-was ∙ sym u-now))
        at-e Q f y h (no q) (no z) = place-off (Q e) v s y q ∙ f y h ∙ row_by pins pins' blocks first p r y (others y z q)

        by : (Q : ℕ → ℕ → ℕ) → ((y : ℕ) → y < n → Q e y ≡ row pins blocks first p y) → (i y : ℕ) → y < n → Dec (i ≡ e) → set_pin Q e v s i y ≡ set_row Q e (row pins' blocks first r) i y
        by Q f i y h (yes q) = rw (q, set_pin-here, set_row-here) (at-e Q f y h (ℕ_discrete y v) (ℕ_discrete y u))
        by Q f i y h (no q) = ap (λ (w : ℕ → ℕ). w y) (set_pin-there Q e v s i q ∙ sym (set_row-there Q e (row pins' blocks first r) i q))

    -- `u` was none, and goes
    module _ (same : r ≤ p) where
      u-gone : has pins' first r u ≡ false
      u-gone = has_no pins' first r u (u-row (le-ltb p r same))

      seen-u : (Q : ℕ → ℕ → ℕ) → ((y : ℕ) → y < n → Q e y ≡ row pins blocks first p y) → Seen (set_pin Q e v s e) pins' blocks first r n u s
      seen-u Q f y l = rw set_pin-here (by (ℕ_discrete y v) (ℕ_discrete y u))
        where
          by : Dec (y ≡ v) → Dec (y ≡ u) → place (Q e) v s y ≡ place (row pins' blocks first r) u s y
          by (yes q) z = rw q (place_at (Q e) v s ∙ es ∙ sym (place-off (row pins' blocks first r) u s v (λ i. two (sym i)) ∙ row-yes pins' blocks first r v v-now))
          by (no q) (yes z) = rw z (place-off (Q e) v s u two ∙ f u o.u-in ∙ row-yes pins blocks first p u u-was ∙ u-home ∙ sym (place_at (row pins' blocks first r) u s))
          by (no q) (no z) =
              place-off (Q e) v s y q ∙ f y l ∙ row_by pins pins' blocks first p r y (others y z q) ∙ sym (place-off (row pins' blocks first r) u s y z)

      pub split-sets-2 : Sets weights cs₁ vs₁ pins' blocks g₁ n m k first r e u s 0
      split-sets-2 = record {
        Q = set_pin o.Q e v s;
        stands = after o.Q o.stands o.seen;
        seen = seen-u o.Q o.seen;
        frame = frame-kept o.frame d.kept;
        net = net-split;
        blocks-fit = o.blocks-fit;
        e-in = o.e-in;
        x-in = o.u-in;
        a_in = home.1;
        b-in = omega arith;
      }

      pub split-new : {cs₂ vs₂ : List ℕ} {g₂ : List ℤ} → Set weights pins' blocks n m k first r e u s 0 cs₁ cs₂ vs₁ vs₂ g₁ g₂ → SplitNetDoes weights blocks n m k first p N e u v r pins pins' bits bits' cs cs₂ vs vs₂ g g₂
      split-new w = record {
        split = t;
        net = net-split;
        stands = λ Q q f. stands-ext (λ i y l h. by Q f i y h (ℕ_discrete i e)) (w.stands (set_pin Q e v s) (after Q q f) (seen-u Q f));
        kept = kept_trans d.kept w.kept;
      }
        where
          at-e : (Q : ℕ → ℕ → ℕ) → ((y : ℕ) → y < n → Q e y ≡ row pins blocks first p y) → (y : ℕ) → y < n → Dec (y ≡ u) → place (set_pin Q e v s e) u 0 y ≡ row pins' blocks first r y
          at-e Q f y h (yes z) = rw z (place_at (set_pin Q e v s e) u 0 ∙ sym (row-no pins' blocks first r u u-gone))
          at-e Q f y h (no z) = place-off (set_pin Q e v s e) u 0 y z ∙ seen-u Q f y h ∙ place-off (row pins' blocks first r) u s y z

          by : (Q : ℕ → ℕ → ℕ) → ((y : ℕ) → y < n → Q e y ≡ row pins blocks first p y) → (i y : ℕ) → y < n → Dec (i ≡ e) → set_pin (set_pin Q e v s) e u 0 i y ≡ set_row Q e (row pins' blocks first r) i y
          by Q f i y h (yes q) = rw (q, set_row-here) (ap (λ (w : ℕ → ℕ). w y) (set_pin-here (set_pin Q e v s) e u 0) ∙ at-e Q f y h (ℕ_discrete y u))
          by Q f i y h (no q) = ap (λ (w : ℕ → ℕ). w y) (set_pin-there (set_pin Q e v s) e u 0 i q ∙ set_pin-there Q e v s i q ∙ sym (set_row-there Q e (row pins' blocks first r) i q))
