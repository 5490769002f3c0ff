-- v contracted into u in one net: its list, its counts and its shares in the gains. Rests on World and on pins' Link.
use Rattle.std.specs.Prelude.{ℕ, ◌+◌, ◌*◌, ◌-◌, ◌<◌, ◌≤◌, ◌≡◌, refl, true, false, ◌⊎◌, List, eqb, length, get_or, ℤ}
use Rattle.std.proofs.Common.{sym, ap, ◌∙◌, subst, ⊎_elim, inl, inr, arith}
use Rattle.std.proofs.Math.Decide.{ℕ_discrete}
use Rattle.laws.specs.Integer.{le-or-lt}
use Rattle.laws.specs.Occurrence.{occ, In, Distinct}
use Rattle.laws.specs.Choice.{one, one-eqb}
use Rattle.laws.specs.Place.{place, place_at, place-off}
use Rattle.incidence.specs.On.{on}
use Rattle.connectivity.specs.Listed.{has, vertex_at, in-has, has_in, has-iff, has-not, has-yes, has_no}
use Rattle.pins.specs.Link.{Contracted, Becomes}
use Rattle.connectivity.specs.Matrix.{set_pin, set_row, Stands, Kept}
use Rattle.connectivity.specs.Row.{row, row-yes, row-no, row_by, set_pin-here, set_pin-there, set_row-here, set_row-there}
use Rattle.connectivity.specs.Laid.{Net}
use Rattle.connectivity.specs.Law.{stands-ext}
use Rattle.connectivity.specs.Set.{Frame, Seen, Sets, Set, frame-kept, kept_trans}

-- what `contract_net` needs
pub record ContractNetNeeds (weights counts visited pins blocks bits : List ℕ) (gains : List ℤ) (n m k first p e u v : ℕ) : Type 0 where
  pub Q : ℕ → ℕ → ℕ
  pub stands : Stands Q n m k weights counts visited gains
  pub seen : (y : ℕ) → y < n → Q e y ≡ row pins blocks first p y
  pub frame : Frame weights counts visited gains n m k
  pub net : Net pins blocks first p n k
  pub blocks-fit : n ≤ length blocks
  pub e-in : e < m
  pub u-in : u < n
  pub v-in : v < n
  pub two : u ≡ v → ⊥
  pub together : get_or blocks u 0 ≡ get_or blocks v 0
  pub has-v : has pins first p v ≡ true
  pub marked : on bits u e ≡ one (has pins first p u)
  pub bits_fit : 16 * u + 16 ≤ length bits

-- what it does
pub record ContractNetDoes (weights blocks : List ℕ) (n m k first p e u v r : ℕ) (pins pins' cs cs' vs vs' : List ℕ) (g g' : List ℤ) : Type 0 where
  pub linked : Contracted pins pins' first p r (u + 1) (v + 1)
  pub pins-len : length pins' ≡ length pins
  pub shorter : r ≤ p
  pub net : Net pins' blocks first r n k
  pub stands : (Q : ℕ → ℕ → ℕ) → Stands Q n m k weights cs vs g → ((y : ℕ) → y < n → Q e y ≡ row pins blocks first p y) →
      Stands (set_row Q e (row pins' blocks first r)) n m k weights cs' vs' g'
  pub kept : Kept n m k cs cs' vs vs' g g'

-- ---- what `relink` does to the row
module _ {pins pins' : List ℕ} {first p r u v : ℕ} (c : Contracted pins pins' first p r (u + 1) (v + 1)) (ne : u ≡ v → ⊥) (hv : has pins first p v ≡ true) where
  pub gone-v : has pins' first r v ≡ false
  gone-v = has-not pins' first r v (λ i. let q = (c.members (v + 1)).0 i in ⊎_elim (λ b. b.1 b.0) (λ b. ne (omega (arith, b.1))) q.2)

  pub come-u : has pins' first r u ≡ true
  come-u = in-has pins' first r u ((c.members (u + 1)).1 (v + 1, has_in pins first p v hv, inr (refl, refl)))

  pub same-y : (y : ℕ) → (y ≡ u → ⊥) → (y ≡ v → ⊥) → has pins first p y ≡ has pins' first r y
  same-y y nu nv = has-iff pins pins' first p r y y
      (λ i. (c.members (y + 1)).1 (y + 1, i, inl (refl, λ z. nv (omega arith))))
      (λ i. let q = (c.members (y + 1)).0 i in ⊎_elim (λ b. subst (In pins first p) b.0 q.1) (λ b. absurd (nu (omega (arith, b.1)))) q.2)

-- ---- the steps of `contract_net`
module _ {weights cs vs pins blocks bits : List ℕ} {g : List ℤ} {n m k first p e u v : ℕ} (o : ContractNetNeeds weights cs vs pins blocks bits g n m k first p e u v) {s : ℕ} (es : s ≡ get_or blocks v 0) where
  seen-v : (Q : ℕ → ℕ → ℕ) → ((y : ℕ) → y < n → Q e y ≡ row pins blocks first p y) → Seen (Q e) pins blocks first p n v s
  seen-v Q f y l = f y l ∙ by (ℕ_discrete y v)
    where
      by : Dec (y ≡ v) → row pins blocks first p y ≡ place (row pins blocks first p) v s y
      by (yes q) = rw q (row-yes pins blocks first p v o.has-v ∙ sym es ∙ sym (place_at (row pins blocks first p) v s))
      by (no q) = sym (place-off (row pins blocks first p) v s y q)

  home : (1 ≤ s) × (s ≤ k)
  home =
      let i = has_in pins first p v o.has-v in
      let q : vertex_at pins first i.0 ≡ v = omega (arith, i.2) in
      omega (arith, es, o.net.in_blocks i.0 i.1, ap (λ (z : ℕ). get_or blocks z 0) q)

  pub contract-sets : Sets weights cs vs pins blocks g n m k first p e v s 0
  contract-sets = record {
    Q = o.Q;
    stands = o.stands;
    seen = seen-v o.Q o.seen;
    frame = o.frame;
    net = o.net;
    blocks-fit = o.blocks-fit;
    e-in = o.e-in;
    x-in = o.v-in;
    a_in = home.1;
    b-in = omega arith;
  }

  module _ {cs₁ vs₁ : List ℕ} {g₁ : List ℤ} (d : Set weights pins blocks n m k first p e v s 0 cs cs₁ vs vs₁ g g₁)
      {pins' : List ℕ} {r : ℕ} (c : Contracted pins pins' first p r (u + 1) (v + 1)) (hl : length pins' ≡ length pins) (hr : r ≤ p) where
    -- the new stretch is whole
    net-linked : Net pins' blocks first r n k
    net-linked = record {
      pins-fit = omega (arith, hl, hr, o.net.pins-fit);
      in-range = λ j l. number_in j l;
      in_blocks = λ j l. home-in j l;
      once = λ i j l h q. let z = c.distinct i j (omega arith) h q in omega (arith, z);
    }
      where
        back : (j : ℕ) → j < r → (y : ℕ) × (In pins first p y) × (Becomes (u + 1) (v + 1) y (get_or pins' (first + j) 0))
        back j l = (c.members (get_or pins' (first + j) 0)).0 (j, l, refl)

        number_in : (j : ℕ) → j < r → (1 ≤ get_or pins' (first + j) 0) × (get_or pins' (first + j) 0 ≤ n)
        number_in j l = let q = back j l in ⊎_elim
            (λ b. omega (arith, b.0, q.1.2, o.net.in-range q.1.0 q.1.1))
            (λ b. omega (arith, b.1, o.u-in)) q.2

        home-in : (j : ℕ) → j < r → (1 ≤ get_or blocks (vertex_at pins' first j) 0) × (get_or blocks (vertex_at pins' first j) 0 ≤ k)
        home-in j l = let q = back j l in ⊎_elim
            (λ b.
            let z : vertex_at pins first q.1.0 ≡ vertex_at pins' first j = omega (arith, b.0, q.1.2) in
            omega (arith, o.net.in_blocks q.1.0 q.1.1, ap (λ (i : ℕ). get_or blocks i 0) z))
            (λ b.
            let z : vertex_at pins' first j ≡ u = omega (arith, b.1) in
            omega (arith, home, es, o.together, ap (λ (i : ℕ). get_or blocks i 0) z))
            q.2

    after : (Q : ℕ → ℕ → ℕ) → Stands Q n m k weights cs vs g → ((y : ℕ) → y < n → Q e y ≡ row pins blocks first p y) → Stands (set_pin Q e v 0) n m k weights cs₁ vs₁ g₁
    after Q t f = d.stands Q t (seen-v Q f)

    -- `u` was a pin already
    pub contract-both : has pins first p u ≡ true → ContractNetDoes weights blocks n m k first p e u v r pins pins' cs cs₁ vs vs₁ g g₁
    contract-both hu = record {
      linked = c;
      pins-len = hl;
      shorter = hr;
      net = net-linked;
      stands = λ Q t f. stands-ext (λ i y l h. by Q f i y h (ℕ_discrete i e)) (after Q t f);
      kept = d.kept;
    }
      where
        at-e : (Q : ℕ → ℕ → ℕ) → ((y : ℕ) → y < n → Q e y ≡ row pins blocks first p y) → (y : ℕ) → y < n → Dec (y ≡ v) → Dec (y ≡ u) → place (Q e) v 0 y ≡ row pins' blocks first r y
        at-e Q f y h (yes q) z = rw q (place_at (Q e) v 0 ∙ sym (row-no pins' blocks first r v (gone-v c o.two o.has-v)))
        at-e Q f y h (no q) (yes z) = place-off (Q e) v 0 y q ∙ f y h ∙ row_by pins pins' blocks first p r y (rw z (hu ∙ sym (come-u c o.two o.has-v)))
        at-e Q f y h (no q) (no z) = place-off (Q e) v 0 y q ∙ f y h ∙ row_by pins pins' blocks first p r y (same-y c o.two o.has-v y z q)

        by : (Q : ℕ → ℕ → ℕ) → ((y : ℕ) → y < n → Q e y ≡ row pins blocks first p y) → (i y : ℕ) → y < n → Dec (i ≡ e) → set_pin Q e v 0 i y ≡ set_row Q e (row pins' blocks first r) i y
        by Q f i y h (yes q) = rw (q, set_pin-here, set_row-here) (at-e Q f y h (ℕ_discrete y v) (ℕ_discrete y u))
        by Q f i y h (no q) = ap (λ (w : ℕ → ℕ). w y) (set_pin-there Q e v 0 i q ∙ sym (set_row-there Q e (row pins' blocks first r) i q))

    -- `u` comes in its place
    module _ (hu : has pins first p u ≡ false) where
      seen-u : (Q : ℕ → ℕ → ℕ) → ((y : ℕ) → y < n → Q e y ≡ row pins blocks first p y) → Seen (set_pin Q e v 0 e) pins' blocks first r n u 0
      seen-u Q f y l = rw set_pin-here (by (ℕ_discrete y v) (ℕ_discrete y u))
        where
          by : Dec (y ≡ v) → Dec (y ≡ u) → place (Q e) v 0 y ≡ place (row pins' blocks first r) u 0 y
          by (yes q) z = rw q (place_at (Q e) v 0 ∙ sym (place-off (row pins' blocks first r) u 0 v (λ i. o.two (sym i)) ∙ row-no pins' blocks first r v (gone-v c o.two o.has-v)))
          by (no q) (yes z) = rw z (place-off (Q e) v 0 u o.two ∙ f u o.u-in ∙ row-no pins blocks first p u hu ∙ sym (place_at (row pins' blocks first r) u 0))
          by (no q) (no z) =
              place-off (Q e) v 0 y q ∙ f y l ∙ row_by pins pins' blocks first p r y (same-y c o.two o.has-v y z q) ∙ sym (place-off (row pins' blocks first r) u 0 y z)

      pub contract-sets-2 : Sets weights cs₁ vs₁ pins' blocks g₁ n m k first r e u 0 s
      contract-sets-2 = record {
        Q = set_pin o.Q e v 0;
        stands = after o.Q o.stands o.seen;
        seen = seen-u o.Q o.seen;
        frame = frame-kept o.frame d.kept;
        net = net-linked;
        blocks-fit = o.blocks-fit;
        e-in = o.e-in;
        x-in = o.u-in;
        a_in = omega arith;
        b-in = home.1;
      }

      pub contract-new : {cs₂ vs₂ : List ℕ} {g₂ : List ℤ} → Set weights pins' blocks n m k first r e u 0 s cs₁ cs₂ vs₁ vs₂ g₁ g₂ → ContractNetDoes weights blocks n m k first p e u v r pins pins' cs cs₂ vs vs₂ g g₂
      contract-new t = record {
        linked = c;
        pins-len = hl;
        shorter = hr;
        net = net-linked;
        stands = λ Q q f. stands-ext (λ i y l h. by Q f i y h (ℕ_discrete i e)) (t.stands (set_pin Q e v 0) (after Q q f) (seen-u Q f));
        kept = kept_trans d.kept t.kept;
      }
        where
          at-e : (Q : ℕ → ℕ → ℕ) → ((y : ℕ) → y < n → Q e y ≡ row pins blocks first p y) → (y : ℕ) → y < n → Dec (y ≡ u) → place (set_pin Q e v 0 e) u s y ≡ row pins' blocks first r y
          at-e Q f y h (yes z) = rw z (place_at (set_pin Q e v 0 e) u s ∙ es ∙ sym o.together ∙ sym (row-yes pins' blocks first r u (come-u c o.two o.has-v)))
          at-e Q f y h (no z) = place-off (set_pin Q e v 0 e) u s y z ∙ seen-u Q f y h ∙ place-off (row pins' blocks first r) u 0 y z

          by : (Q : ℕ → ℕ → ℕ) → ((y : ℕ) → y < n → Q e y ≡ row pins blocks first p y) → (i y : ℕ) → y < n → Dec (i ≡ e) → set_pin (set_pin Q e v 0) e u s i y ≡ set_row Q e (row pins' blocks first r) i y
          by Q f i y h (yes q) = rw (q, set_row-here) (ap (λ (w : ℕ → ℕ). w y) (set_pin-here (set_pin Q e v 0) e u s) ∙ at-e Q f y h (ℕ_discrete y u))
          by Q f i y h (no q) = ap (λ (w : ℕ → ℕ). w y) (set_pin-there (set_pin Q e v 0) e u s i q ∙ set_pin-there Q e v 0 i q ∙ sym (set_row-there Q e (row pins' blocks first r) i q))

-- ---- what `relink` needs and says, by the pins that the code passes
pub linked_of : {pins pins' : List ℕ} {first p r a b : ℕ} (u v : ℕ) → a ≡ u + 1 → b ≡ v + 1 → Contracted pins pins' first p r a b → Contracted pins pins' first p r (u + 1) (v + 1)
linked_of {pins} {pins'} {first} {p} {r} {a} {b} u v ea eb c =
    subst (λ (z : ℕ). Contracted pins pins' first p r (u + 1) z) eb (subst (λ (z : ℕ). Contracted pins pins' first p r z b) ea c)

pub linked-le : {pins pins' : List ℕ} {first p r u v : ℕ} → Contracted pins pins' first p r u v → r ≤ p
linked-le {pins} {pins'} {first} {p} {r} {u} c = ⊎_elim
    (λ l. omega (arith, c.counted.removed l))
    (λ l. omega (arith, c.counted.replaced (omega arith)))
    (le-or-lt 1 (occ pins first p u))

-- the size tells whether u was a pin
pub was-pin : {pins pins' : List ℕ} {first p r v : ℕ} (u : ℕ) → Contracted pins pins' first p r (u + 1) v → r < p → has pins first p u ≡ true
was-pin {pins} {first = first} {p = p} u c l = ⊎_elim (λ h. has-yes pins first p u h) (λ h. absurd (omega (arith, c.counted.replaced (omega arith)))) (le-or-lt 1 (occ pins first p (u + 1)))

pub was-none : {pins pins' : List ℕ} {first p r v : ℕ} (u : ℕ) → Contracted pins pins' first p r (u + 1) v → p ≤ r → has pins first p u ≡ false
was-none {pins} {first = first} {p = p} u c l = ⊎_elim (λ h. absurd (omega (arith, c.counted.removed h))) (λ h. has_no pins first p u (omega arith)) (le-or-lt 1 (occ pins first p (u + 1)))

module _ {weights cs vs pins blocks bits : List ℕ} {g : List ℤ} {n m k first p e u v : ℕ} (o : ContractNetNeeds weights cs vs pins blocks bits g n m k first p e u v) where
  pub distinct : Distinct pins first p
  distinct i j hi hj q = ⊎_elim
      (λ l. ⊎_elim (λ h. omega arith) (λ h. absurd (o.net.once i j h hj q)) (le-or-lt j i))
      (λ l. absurd (o.net.once j i l hi (sym q)))
      (le-or-lt i j)

  pub in-v : {b : ℕ} → b ≡ v + 1 → In pins first p b
  in-v eb = rw eb (has_in pins first p v o.has-v)

  -- what the bitset answers for u
  pub both : eqb (on bits u e) 1 ≡ has pins first p u
  both = ap (λ (z : ℕ). eqb z 1) o.marked ∙ one-eqb (has pins first p u)
