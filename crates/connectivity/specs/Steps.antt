-- The steps of `set_pin`: the row of the changed pin, the counts, the other pins, that row again; and of `move_pin`: the counts, the other pins,
-- the row of the moved pin. Rests on Set, Touch and Moved.
use Rattle.std.specs.Prelude.{ℕ, zero, suc, ◌+◌, ◌*◌, ◌-◌, ◌<◌, ◌≤◌, ◌≡◌, refl, Bool, true, false, List, length, get_or, ℤ, nat_abs, ◌+ℤ◌, ◌-ℤ◌, eqb}
use Rattle.std.proofs.Common.{sym, ap, ◌∙◌, arith, eq-eqb, ne_eqb}
use Rattle.std.proofs.Math.Decide.{ℕ_discrete}
use Rattle.std.proofs.Math.IntN.{+ℤ_idr}
use Rattle.laws.specs.Choice.{one}
use Rattle.laws.specs.Place.{place, place_at, place-off, place-ext}
use Rattle.laws.specs.Integer.{eq-by, add_is, sub_is, nat_abs-add}
use Rattle.laws.specs.IntegerSum.{sum_z, sum_z-change}
use Rattle.connectivity.specs.Share.{share}
use Rattle.connectivity.specs.Raised.{Raised, Ready, at}
use Rattle.connectivity.specs.Matrix.{row_count, share_of, row_share, set_pin, Tally, Stands}
use Rattle.connectivity.specs.Row.{read, row, row_count-place, set_pin-here, set_pin-there, share_of-le, share_of-none}
use Rattle.connectivity.specs.Law.{Step, count_of, given_is, small_of, stands-ext, set_pin-none}
use Rattle.connectivity.specs.Set.{Sets, Set, come, kept-none, kept-tally-trans, kept-gains-trans, kept_step, kept-laid, past-none}
use Rattle.connectivity.specs.Listed.{clear16}
use Rattle.connectivity.specs.Change.{delta, delta-none, share-change, own-change, row_count-one}
use Rattle.connectivity.specs.Touch.{Room, Sole, Others, Delta, raised-still, others-idle}
use Rattle.connectivity.specs.Moved.{way_back, back-idle, kept_row}
use Rattle.connectivity.specs.Laid.{Laid, given, given-none, signed, signed_le, laid_none, laid_more, laid_next, raised-given}

-- the count of a block, and `none` where there is no block
pub record CountAt (counts : List ℕ) (e a none r : ℕ) : Type 0 where
  pub no : a ≡ 0 → r ≡ none
  pub yes : 1 ≤ a → r ≡ get_or counts (16 * e + (a - 1)) 0

pub count-there : {counts : List ℕ} {e a none r : ℕ} → 1 ≤ a → r ≡ get_or counts (16 * e + (a - 1)) 0 → CountAt counts e a none r
count-there h q = record { no = λ z. absurd (omega arith); yes = λ _. q }

-- what a vertex's own row needs
pub record OwnRow (g : List ℤ) (counts : List ℕ) (x e a k w : ℕ) : Type 0 where
  pub fit : 16 * x + 16 ≤ length g
  pub counts-fit : 16 * e + 16 ≤ length counts
  pub few : k ≤ 16
  pub weight : w ≤ 1000
  pub a_in : a ≤ k
  pub small : (j : ℕ) → j < k → nat_abs (at g (16 * x + j)) ≤ 2000000

module _ {g : List ℤ} {counts : List ℕ} {x e a k w : ℕ} (t : Bool) (c : OwnRow g counts x e a k w) where
  pub own-none : a ≡ 0 → Laid (given t counts e w) (place (λ _. 0) x a) k g g
  own-none z = laid_none (given-none t counts e w) _ g (λ y. by y (ℕ_discrete y x))
    where
      by : (y : ℕ) → Dec (y ≡ x) → place (λ _. 0) x a y ≡ 0
      by y (yes q) = rw q (place_at (λ _. 0) x a ∙ z)
      by y (no q) = place-off (λ _. 0) x a y q

  pub own-ready : 1 ≤ a → Ready g counts (16 * x) (16 * e) (a - 1) k w
  own-ready h = record {
    gains-fit = omega (arith, c.fit, c.few);
    counts-fit = omega (arith, c.counts-fit, c.few);
    own_in = omega (arith, c.a_in);
    weight = c.weight;
    small = c.small;
  }

  pub own-some : {g₁ : List ℤ} → 1 ≤ a → Raised (λ j. signed t (share counts (16 * e) (a - 1) w j)) (16 * x) k g g₁ → Laid (given t counts e w) (place (λ _. 0) x a) k g g₁
  own-some h u = laid_more (given-none t counts e w) c.few (laid_none (given-none t counts e w) (λ _. 0) g (λ y. refl)) refl (place_at (λ _. 0) x a) (λ y ne. place-off (λ _. 0) x a y ne) (raised-given t counts x e a w h u)

-- ---- the law of the whole change
moved_by : (s f d : ℤ) → (s -ℤ f) +ℤ (f +ℤ d) ≡ s +ℤ d
moved_by s f d = eq-by _ _ (omega (arith, sub_is s f, add_is f d, add_is (s -ℤ f) (f +ℤ d), add_is s d))

module _ {Q : ℕ → ℕ → ℕ} {n m k : ℕ} {weights cs vs cs' vs' : List ℕ} {g : List ℤ} (R : ℕ → ℕ) (e x a b w fa fb : ℕ) (he : e < m) (hx : x < n) (few : k ≤ 16) (ha : a ≤ k) (hb : b ≤ k) (ew : w ≡ get_or weights e 0) (ne : a ≡ b → ⊥)
    (s : Stands Q n m k weights cs vs g) (seen : (y : ℕ) → y < n → Q e y ≡ place R x a y) (ca : CountAt cs e a 3 fa) (cb : CountAt cs e b 2 fb)
    (t : Tally (set_pin Q e x b) n m k cs' vs') where
  own : Q e x ≡ a
  own = seen x hx ∙ place_at R x a

  own-now : set_pin Q e x b e x ≡ b
  own-now = rw set_pin-here (place_at (Q e) x b)

  count-a : 1 ≤ a → fa ≡ row_count n (Q e) a
  count-a h = ca.yes h ∙ count_of s.tally e x he hx few a h ha

  count-b : 1 ≤ b → fb ≡ row_count n (Q e) b
  count-b h = cb.yes h ∙ count_of s.tally e x he hx few b h hb

  -- the net's share in a gain of the changed pin, before and after
  abbrev was : ℕ → ℤ
  was j = row_share n w (Q e) x (j + 1)

  abbrev is : ℕ → ℤ
  is j = row_share n w (set_pin Q e x b e) x (j + 1)

  -- at any other vertex
  share-now : (y c : ℕ) → y < n → (y ≡ x → ⊥) → 1 ≤ c → row_share n w (set_pin Q e x b e) y c ≡ row_share n w (Q e) y c +ℤ delta a b fa fb w (Q e y) c
  share-now y c hy ny hc = rw (set_pin-here, place-off (Q e) x b y ny) (by (Q e y) refl)
    where
      by : (o : ℕ) → Q e y ≡ o → share_of (row_count n (place (Q e) x b)) w o c ≡ share_of (row_count n (Q e)) w o c +ℤ delta a b fa fb w o c
      by zero q = rw (share_of-none, share_of-none, delta-none) refl
      by (suc o) q = share-change n (Q e) x a b w hx own ne fa fb count-a count-b y (suc o) hy ny q (omega arith) c hc

  module _ {g' : List ℤ} (at_x : (j : ℕ) → j < k → at g' (16 * x + j) ≡ (at g (16 * x + j) -ℤ was j) +ℤ is j)
      (at_y : (y j : ℕ) → y < n → j < k → (y ≡ x → ⊥) → at g' (16 * y + j) ≡ at g (16 * y + j) +ℤ delta a b fa fb w (Q e y) (j + 1)) where
    stands_by : Stands (set_pin Q e x b) n m k weights cs' vs' g'
    stands_by = record { tally = t; gained = λ y j hy hj. by y j hy hj (ℕ_discrete y x) }
      where
        at_own : (j : ℕ) → j < k → at g' (16 * x + j) ≡ (at g (16 * x + j) -ℤ row_share n (get_or weights e 0) (Q e) x (j + 1)) +ℤ row_share n (get_or weights e 0) (set_pin Q e x b e) x (j + 1)
        at_own j hj = rw (← ew) (at_x j hj)

        change : (y j : ℕ) → (sum_z (λ d. row_share n (get_or weights d 0) (Q d) y (j + 1)) m -ℤ row_share n (get_or weights e 0) (Q e) y (j + 1)) +ℤ row_share n (get_or weights e 0) (set_pin Q e x b e) y (j + 1)
            ≡ sum_z (λ d. row_share n (get_or weights d 0) (set_pin Q e x b d) y (j + 1)) m
        change y j = sum_z-change (λ d. row_share n (get_or weights d 0) (Q d) y (j + 1)) (λ d. row_share n (get_or weights d 0) (set_pin Q e x b d) y (j + 1)) m e he
            (λ d u nd. ap (λ (r : ℕ → ℕ). row_share n (get_or weights d 0) r y (j + 1)) (sym (set_pin-there Q e x b d nd)))

        by : (y j : ℕ) → y < n → j < k → Dec (y ≡ x) → at g' (16 * y + j) ≡ sum_z (λ d. row_share n (get_or weights d 0) (set_pin Q e x b d) y (j + 1)) m
        by y j hy hj (yes q) = rw q (at_own j hj
            ∙ ap (λ (z : ℤ). (z -ℤ row_share n (get_or weights e 0) (Q e) x (j + 1)) +ℤ row_share n (get_or weights e 0) (set_pin Q e x b e) x (j + 1)) (s.gained x j hx hj) ∙ change x j)
        by y j hy hj (no q) =
            at_y y j hy hj q
            ∙ ap (λ (z : ℤ). z +ℤ delta a b fa fb w (Q e y) (j + 1)) (s.gained y j hy hj)
            ∙ sym (moved_by (sum_z (λ d. row_share n (get_or weights d 0) (Q d) y (j + 1)) m) (row_share n (get_or weights e 0) (Q e) y (j + 1)) (delta a b fa fb w (Q e y) (j + 1)))
            ∙ ap (λ (z : ℤ). (sum_z (λ d. row_share n (get_or weights d 0) (Q d) y (j + 1)) m -ℤ row_share n (get_or weights e 0) (Q e) y (j + 1)) +ℤ z)
            (sym (ap (λ (v : ℕ). row_share n v (set_pin Q e x b e) y (j + 1)) (sym ew) ∙ share-now y (j + 1) hy q (omega arith) ∙ ap (λ (v : ℕ). row_share n v (Q e) y (j + 1) +ℤ delta a b fa fb w (Q e y) (j + 1)) ew))
            ∙ change y j

  -- the row of shares taken before and put after
  module _ {g₁ g₂ g' : List ℤ} (l₁ : Laid (given true cs e w) (place (λ _. 0) x a) k g g₁) (l₂ : Laid (Delta a b fa fb w) (place R x 0) k g₁ g₂) (l₃ : Laid (given false cs' e w) (place (λ _. 0) x b) k g₂ g') where
    set-x : (j : ℕ) → j < k → at g' (16 * x + j) ≡ (at g (16 * x + j) -ℤ was j) +ℤ is j
    unfolding signed
    set-x j hj =
        l₃.inside x j hj
        ∙ cc (
          l₂.inside x j hj,
          l₁.inside x j hj,
          place_at (λ (_ : ℕ). 0) x a,
          place_at (λ (_ : ℕ). 0) x b,
          place_at R x 0,
          delta-none a b fa fb w (j + 1),
          +ℤ_idr (at g₁ (16 * x + j)),
          given_is s.tally e x j w a he hx hj own,
          given_is t e x j w b he hx hj own-now,
        )

    set-y : (y j : ℕ) → y < n → j < k → (y ≡ x → ⊥) → at g' (16 * y + j) ≡ at g (16 * y + j) +ℤ delta a b fa fb w (Q e y) (j + 1)
    set-y y j hy hj ny =
        laid_next (given-none false cs' e w) l₃ y (place-off (λ _. 0) x b y ny) j hj
        ∙ l₂.inside y j hj
        ∙ cc (place-off R x 0 y ny, place-off R x a y ny, seen y hy, laid_next (given-none true cs e w) l₁ y (place-off (λ _. 0) x a y ny) j hj)

    pub stands_set : Stands (set_pin Q e x b) n m k weights cs' vs' g'
    stands_set = stands_by set-x set-y

  -- the row raised by one number
  module _ (la : 1 ≤ a) (lb : 1 ≤ b) {g₁ g' : List ℤ} (l : Laid (Delta a b fa fb w) (place R x 0) k g g₁) (r : Raised (λ _. way_back fa fb w) (16 * x) k g₁ g') where
    own-moves : (j : ℕ) → is j ≡ was j +ℤ way_back fa fb w
    own-moves j = rw (own-now, own, set_pin-here) (own-change n (Q e) x a b w hx own ne fa fb count-a count-b la lb (j + 1) (omega arith))

    move-x : (j : ℕ) → j < k → at g' (16 * x + j) ≡ (at g (16 * x + j) -ℤ was j) +ℤ is j
    move-x j hj =
        r.inside j hj
        ∙ ap (λ (z : ℤ). z +ℤ way_back fa fb w) (laid_next (λ i. delta-none a b fa fb w (i + 1)) l x (place_at R x 0) j hj)
        ∙ sym (moved_by (at g (16 * x + j)) (was j) (way_back fa fb w))
        ∙ ap (λ (z : ℤ). (at g (16 * x + j) -ℤ was j) +ℤ z) (sym (own-moves j))

    move-y : (y j : ℕ) → y < n → j < k → (y ≡ x → ⊥) → at g' (16 * y + j) ≡ at g (16 * y + j) +ℤ delta a b fa fb w (Q e y) (j + 1)
    move-y y j hy hj ny =
        r.outside (16 * y + j) (clear16 k x y few (λ z. ny (sym z)) j hj)
        ∙ l.inside y j hj
        ∙ cc (place-off R x 0 y ny, place-off R x a y ny, seen y hy)

    pub stands-moved : Stands (set_pin Q e x b) n m k weights cs' vs' g'
    stands-moved = stands_by move-x move-y

-- ---- the steps of both
module _ {weights cs vs pins blocks : List ℕ} {g : List ℤ} {n m k first p e x a b : ℕ} (o : Sets weights cs vs pins blocks g n m k first p e x a b) where
  -- the block stays: nothing is done
  pub set_same : a ≡ b → Set weights pins blocks n m k first p e x a b cs cs vs vs g g
  set_same q = record {
    stands = λ Q s f. stands-ext (λ d y l u. set_pin-none Q e x b d y (f x o.x-in ∙ place_at (row pins blocks first p) x a ∙ q)) s;
    kept = kept-none cs vs g;
  }

  module _ {w fa fb : ℕ} (ew : w ≡ get_or weights e 0) (ne : a ≡ b → ⊥) (ca : CountAt cs e a 3 fa) (cb : CountAt cs e b 2 fb) where
    light : w ≤ 1000
    light = omega (arith, ew, o.frame.weight e o.e-in)

    small : (y j : ℕ) → y < n → j < k → nat_abs (at g (16 * y + j)) ≤ 1024000
    small = small_of o.stands o.frame.few-nets o.frame.weight

    some-a : (fa ≡ 3 → ⊥) → 1 ≤ a
    some-a f = by a refl
      where
        by : (z : ℕ) → a ≡ z → 1 ≤ a
        by zero q = absurd (f (ca.no q))
        by (suc z) q = omega arith

    some-b : (fb ≡ 2 → ⊥) → 1 ≤ b
    some-b f = by b refl
      where
        by : (z : ℕ) → b ≡ z → 1 ≤ b
        by zero q = absurd (f (cb.no q))
        by (suc z) q = omega arith

    -- the counts without `x` tell that a block has one other pin
    without : (y : ℕ) → y < n → place (o.Q e) x 0 y ≡ place (row pins blocks first p) x 0 y
    without y hy = place-ext (o.Q e) (row pins blocks first p) x 0 y (λ nx. o.seen y hy ∙ place-off (row pins blocks first p) x a y nx)

    sole : (c : ℕ) → 1 ≤ c → row_count n (place (o.Q e) x 0) c ≡ 1 → Sole (place (row pins blocks first p) x 0) n c
    sole c h q y z hy hz ey ez = row_count-one n (place (o.Q e) x 0) c y z q h hy hz (without y hy ∙ ey) (without z hz ∙ ez)

    left : (c : ℕ) → 1 ≤ c → row_count n (place (o.Q e) x 0) c + one (eqb a c) ≡ row_count n (o.Q e) c
    left c h = omega (
      arith,
      row_count-place n (o.Q e) x 0 c o.x-in,
      ap (λ (t : ℕ). one (eqb t c)) (o.seen x o.x-in ∙ place_at (row pins blocks first p) x a),
      ap one (ne_eqb 0 c (λ z. omega arith)),
    )

    sole-a : fa ≡ 2 → (1 ≤ a) × Sole (place (row pins blocks first p) x 0) n a
    sole-a q =
        let h : 1 ≤ a = some-a (λ z. omega arith) in
        (h, sole a h (omega (arith, left a h, ca.yes h, count_of o.stands.tally e x o.e-in o.x-in o.frame.few a h o.a_in, ap one (eq-eqb a a refl))))

    sole-b : fb ≡ 1 → (1 ≤ b) × Sole (place (row pins blocks first p) x 0) n b
    sole-b q =
        let h : 1 ≤ b = some-b (λ z. omega arith) in
        (h, sole b h (omega (arith, left b h, cb.yes h, count_of o.stands.tally e x o.e-in o.x-in o.frame.few b h o.b-in, ap one (ne_eqb a b ne))))

    pub set_own : OwnRow g cs x e a k w
    set_own = record {
      fit = omega (arith, o.frame.gains-fit, o.x-in);
      counts-fit = omega (arith, o.frame.counts-fit, o.e-in);
      few = o.frame.few;
      weight = light;
      a_in = o.a_in;
      small = λ j l. omega (arith, small x j o.x-in l);
    }

    others : {g₁ : List ℤ} → length g₁ ≡ length g → ((y j : ℕ) → y < n → j < k → nat_abs (at g₁ (16 * y + j)) ≤ 2000000) → Others g₁ pins blocks n k first p x a b fa fb w
    others len few-gains = record {
      net = o.net;
      blocks-fit = o.blocks-fit;
      gains-fit = omega (arith, o.frame.gains-fit, len);
      few = o.frame.few;
      weight = light;
      a_in = o.a_in;
      b-in = o.b-in;
      a-some = λ q. some-a (λ z. omega arith);
      b-some = λ q. some-b (λ z. omega arith);
      a-sole = sole-a;
      b-sole = sole-b;
      small = few-gains;
    }

    -- ---- `set_pin`
    module _ {g₁ : List ℤ} (l₁ : Laid (given true cs e w) (place (λ _. 0) x a) k g g₁) where
      small-1 : (y j : ℕ) → y < n → j < k → nat_abs (at g₁ (16 * y + j)) ≤ 2000000
      small-1 y j hy hj = let z = share_of (read cs (16 * e)) w (place (λ _. 0) x a y) (j + 1) in rw (l₁.inside y j hj) (omega (
        arith,
        nat_abs-add (at g (16 * y + j)) (signed true z),
        signed_le true z,
        share_of-le (read cs (16 * e)) w (place (λ _. 0) x a y) (j + 1),
        light,
        small y j hy hj,
      ))

      pub set-others : Others g₁ pins blocks n k first p x a b fa fb w
      set-others = others l₁.len small-1

      module _ {cs₁ vs₁ cs₂ vs₂ : List ℕ} (d : Step e a (get_or cs (16 * e + (a - 1)) 0 - 1) cs cs₁ vs vs₁) (u : Step e b (get_or cs₁ (16 * e + (b - 1)) 0 + 1) cs₁ cs₂ vs₁ vs₂)
          {g₂ : List ℤ} (l₂ : Laid (Delta a b fa fb w) (place (row pins blocks first p) x 0) k g₁ g₂) where
        pub set-own-2 : OwnRow g₂ cs₂ x e b k w
        set-own-2 = record {
          fit = omega (arith, o.frame.gains-fit, o.x-in, l₁.len, l₂.len);
          counts-fit = omega (arith, o.frame.counts-fit, o.e-in, d.counts-len, u.counts-len);
          few = o.frame.few;
          weight = light;
          a_in = o.b-in;
          small = λ j l. rw (laid_next (λ i. delta-none a b fa fb w (i + 1)) l₂ x (place_at (row pins blocks first p) x 0) j l) (small-1 x j o.x-in l);
        }

        pub set-done : {g₃ : List ℤ} → Laid (given false cs₂ e w) (place (λ _. 0) x b) k g₂ g₃ → Set weights pins blocks n m k first p e x a b cs cs₂ vs vs₂ g g₃
        set-done l₃ = record {
          stands = λ Q s f. stands_set (row pins blocks first p) e x a b w fa fb o.e-in o.x-in o.frame.few o.a_in o.b-in ew ne s f ca cb (come o d u Q s.tally f) l₁ l₂ l₃;
          kept = record {
            of-tally = kept-tally-trans (kept_step o.e-in o.a_in o.frame.few d) (kept_step o.e-in o.b-in o.frame.few u);
            of-gains = kept-gains-trans (kept-laid (given-none true cs e w) (λ y h. place-off (λ _. 0) x a y (λ q. omega (arith, o.x-in))) l₁)
                (kept-gains-trans (kept-laid (λ i. delta-none a b fa fb w (i + 1)) (past-none x 0 o.x-in o.net) l₂)
                (kept-laid (given-none false cs₂ e w) (λ y h. place-off (λ _. 0) x b y (λ q. omega (arith, o.x-in))) l₃));
          };
        }

    -- ---- `move_pin`
    pub move-others : Others g pins blocks n k first p x a b fa fb w
    move-others = others refl (λ y j hy hj. omega (arith, small y j hy hj))

    module _ {g₁ : List ℤ} (l : Laid (Delta a b fa fb w) (place (row pins blocks first p) x 0) k g g₁) where
      pub move-own : Room g₁ x k w
      move-own = record {
        fit = omega (arith, o.frame.gains-fit, o.x-in, l.len);
        few = o.frame.few;
        weight = light;
        small = λ j v. rw (laid_next (λ i. delta-none a b fa fb w (i + 1)) l x (place_at (row pins blocks first p) x 0) j v) (omega (arith, small x j o.x-in v));
      }

      pub move-done : {cs₁ vs₁ cs₂ vs₂ : List ℕ} {g₂ : List ℤ} → 1 ≤ a → 1 ≤ b → Step e a (get_or cs (16 * e + (a - 1)) 0 - 1) cs cs₁ vs vs₁ → Step e b (get_or cs₁ (16 * e + (b - 1)) 0 + 1) cs₁ cs₂ vs₁ vs₂ →
          Raised (λ _. way_back fa fb w) (16 * x) k g₁ g₂ → Set weights pins blocks n m k first p e x a b cs cs₂ vs vs₂ g g₂
      move-done la lb d u r = record {
        stands = λ Q s f. stands-moved (row pins blocks first p) e x a b w fa fb o.e-in o.x-in o.frame.few o.a_in o.b-in ew ne s f ca cb (come o d u Q s.tally f) la lb l r;
        kept = record {
          of-tally = kept-tally-trans (kept_step o.e-in o.a_in o.frame.few d) (kept_step o.e-in o.b-in o.frame.few u);
          of-gains = kept-gains-trans (kept-laid (λ i. delta-none a b fa fb w (i + 1)) (past-none x 0 o.x-in o.net) l) (kept_row o.x-in o.frame.few r);
        };
      }

    -- neither count is critical
    pub move-idle : {cs₁ vs₁ cs₂ vs₂ : List ℕ} → 1 ≤ a → 1 ≤ b → 2 < fa → 1 < fb → Step e a (get_or cs (16 * e + (a - 1)) 0 - 1) cs cs₁ vs vs₁ → Step e b (get_or cs₁ (16 * e + (b - 1)) 0 + 1) cs₁ cs₂ vs₁ vs₂ →
        Set weights pins blocks n m k first p e x a b cs cs₂ vs vs₂ g g
    move-idle la lb ha hb d u = move-done (others-idle move-others ha hb) la lb d u (raised-still g (λ j l. back-idle fa fb w ha hb))
