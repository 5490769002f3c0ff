-- Nets as rows of vertex bits after a split: only the nets of the vertex that comes back change their pins. Vertices and nets count from 0.
-- Rests on Rows and Tabled, and on guarantees' pins with a contraction more. Assumes nothing.
use Rattle.std.specs.Prelude.{ℕ, ◌+◌, ◌*◌, ◌<◌, ◌≤◌, ◌≡◌, refl, Bool, true, false, ◌&&◌, ◌||◌, cond, List, ◌∷◌, eqb, length}
use Rattle.std.proofs.Math.Decide.{ℕ_discrete, dec_lt}
use Rattle.std.proofs.Common.{arith, sym, ap, ap₂, ◌∙◌, eq-eqb, ne_eqb}
use Rattle.std.proofs.Math.Bool.{and-true, and-false, or-true, or-false}
use Rattle.laws.specs.Choice.{cond_yes, cond_no}
use Rattle.model.specs.Catalogue.{Hypergraph}
use Rattle.model.specs.Measure.{Contraction, pin}
use Rattle.guarantees.specs.Climbs.{pin-gone, pin-into, pin-other}
use Rattle.incidence.specs.On.{on, Changed, Next}
use Rattle.pins.specs.Board.{join}
use Rattle.levels.specs.Running.{net_at}
use Rattle.levels.specs.Reading.{has-pin}
use Rattle.operations.specs.Tables.{Tables, Sound}
use Rattle.operations.specs.Join.{u-below, v_below}
use Rattle.search_moves.specs.Tabled.{bit_is}
use Rattle.search_moves.specs.Rows.{RowsAre}

-- bit x of the row of a net of v once v has been split from u: v is a pin, and u is one still where its own row of incidence bits says so
abbrev pub parted_bit : (l bits : List ℕ) (u v e x : ℕ) → Bool
parted_bit l bits u v e x = cond (eqb x v) true (cond (eqb x u) (eqb (on l e x) 1 && eqb (on bits u e) 1) (eqb (on l e x) 1))

-- so it is in one row, and the others are as they were
pub record NetParted (l bits : List ℕ) (u v e : ℕ) (l' : List ℕ) : Type 0 where
  pub here : (x : ℕ) → x < 1024 → eqb (on l' e x) 1 ≡ parted_bit l bits u v e x
  pub beside : (d x : ℕ) → x < 1024 → (d ≡ e → ⊥) → on l' d x ≡ on l d x
  pub len : length l' ≡ length l

-- so it is in the rows of the nets of v below i
pub record PartedTo (l bits : List ℕ) (u v i : ℕ) (l' : List ℕ) : Type 0 where
  pub done : (e : ℕ) → e < i → on bits v e ≡ 1 → (x : ℕ) → x < 1024 → eqb (on l' e x) 1 ≡ parted_bit l bits u v e x
  pub rest : (e x : ℕ) → x < 1024 → (e < i → on bits v e ≡ 1 → ⊥) → on l' e x ≡ on l e x
  pub len : length l' ≡ length l

module _ {l l₁ : List ℕ} (bits : List ℕ) (u v e : ℕ) (apart : u ≡ v → ⊥) (p : Changed l l₁ e v 1) where
  -- u stays a pin
  pub parted-stays : eqb (on bits u e) 1 ≡ true → NetParted l bits u v e l₁
  parted-stays o = record {
    here = λ x h. go x h (ℕ_discrete x v) (ℕ_discrete x u);
    beside = λ d x h n. p.elsewhere d x h (λ z _. n z);
    len = p.len;
  }
    where
      go : (x : ℕ) → x < 1024 → Dec (x ≡ v) → Dec (x ≡ u) → eqb (on l₁ e x) 1 ≡ parted_bit l bits u v e x
      go x h (yes q) d = ap (λ (z : ℕ). eqb (on l₁ e z) 1) q ∙ ap (λ (z : ℕ). eqb z 1) p.here ∙ sym (cond_yes x v _ _ q)
      go x h (no q) (yes r) = ap (λ (z : ℕ). eqb z 1) (p.elsewhere e x h (λ _ z. q z)) ∙ sym (cond_no x v _ _ q ∙ cond_yes x u _ _ r ∙ ap (λ (b : Bool). eqb (on l e x) 1 && b) o ∙ and-true (eqb (on l e x) 1))
      go x h (no q) (no r) = ap (λ (z : ℕ). eqb z 1) (p.elsewhere e x h (λ _ z. q z)) ∙ sym (cond_no x v _ _ q ∙ cond_no x u _ _ r)

  -- u is a pin no longer
  pub parted-leaves : {l₂ : List ℕ} → eqb (on bits u e) 1 ≡ false → Changed l₁ l₂ e u 0 → NetParted l bits u v e l₂
  parted-leaves {l₂} o t = record {
    here = λ x h. go x h (ℕ_discrete x v) (ℕ_discrete x u);
    beside = λ d x h n. t.elsewhere d x h (λ z _. n z) ∙ p.elsewhere d x h (λ z _. n z);
    len = t.len ∙ p.len;
  }
    where
      go : (x : ℕ) → x < 1024 → Dec (x ≡ v) → Dec (x ≡ u) → eqb (on l₂ e x) 1 ≡ parted_bit l bits u v e x
      go x h (yes q) d = ap (λ (z : ℕ). eqb z 1) (t.elsewhere e x h (λ _ z. apart (sym z ∙ q)) ∙ ap (on l₁ e) q ∙ p.here) ∙ sym (cond_yes x v _ _ q)
      go x h (no q) (yes r) = ap (λ (z : ℕ). eqb (on l₂ e z) 1) r ∙ ap (λ (z : ℕ). eqb z 1) t.here ∙ sym (cond_no x v _ _ q ∙ cond_yes x u _ _ r ∙ ap (λ (b : Bool). eqb (on l e x) 1 && b) o ∙ and-false (eqb (on l e x) 1))
      go x h (no q) (no r) = ap (λ (z : ℕ). eqb z 1) (t.elsewhere e x h (λ _ z. r z) ∙ p.elsewhere e x h (λ _ z. q z)) ∙ sym (cond_no x v _ _ q ∙ cond_no x u _ _ r)

-- up to the first net of v none is one
pub parted-none : (l bits : List ℕ) (u v m r : ℕ) → Next bits v 0 m r → PartedTo l bits u v r l
parted-none l bits u v m r n = record {
  done = λ e h o. absurd (omega (arith, o, n.passed e (omega arith) h));
  rest = λ e x h k. refl;
  len = refl;
}

pub parted-more : {l l₁ l₂ bits : List ℕ} {u v : ℕ} (e m r : ℕ) → on bits v e ≡ 1 → PartedTo l bits u v e l₁ → NetParted l₁ bits u v e l₂ → Next bits v (e + 1) m r → PartedTo l bits u v r l₂
parted-more {l} {l₁} {l₂} {bits} {u} {v} e m r on-v k p n = record {
  done = λ d h o x kx. go d h o x kx (ℕ_discrete d e);
  rest = λ d x kx f. p.beside d x kx (λ z. f (omega (arith, n.low)) (ap (on bits v) z ∙ on-v)) ∙ k.rest d x kx (λ h o. f (omega (arith, n.low)) o);
  len = p.len ∙ k.len;
}
  where
    below : (d : ℕ) → d < r → on bits v d ≡ 1 → (d ≡ e → ⊥) → Dec (d < e) → d < e
    below d h o z (yes q) = q
    below d h o z (no q) = absurd (omega (arith, o, n.passed d (omega arith) h))

    old : (x : ℕ) → x < 1024 → on l₁ e x ≡ on l e x
    old x kx = k.rest e x kx (λ h _. omega arith)

    go : (d : ℕ) → d < r → on bits v d ≡ 1 → (x : ℕ) → x < 1024 → Dec (d ≡ e) → eqb (on l₂ d x) 1 ≡ parted_bit l bits u v d x
    go d h o x kx (yes z) = rw z (p.here x kx ∙ ap (λ (i : ℕ). cond (eqb x v) true (cond (eqb x u) (eqb i 1 && eqb (on bits u e) 1) (eqb i 1))) (old x kx))
    go d h o x kx (no z) = ap (λ (i : ℕ). eqb i 1) (p.beside d x kx z) ∙ k.done d (below d h o z (dec_lt d e)) o x kx

pub parted-all : {l l' bits : List ℕ} {u v : ℕ} (m e : ℕ) → e ≤ m → m ≤ e → PartedTo l bits u v e l' → PartedTo l bits u v m l'
parted-all m e p q k = let z : e ≡ m = omega arith in rw (sym z) k

-- what `part_rows` asks
pub record PartRowsOk (rows bits : List ℕ) (m u v : ℕ) : Type 0 where
  pub rows_fit : 16 * m ≤ length rows
  pub few : m ≤ 1024
  pub u-fit : 16 * u + 16 ≤ length bits
  pub v-fit : 16 * v + 16 ≤ length bits
  pub u-small : u < 1024
  pub v-small : v < 1024
  pub apart : u ≡ v → ⊥

-- the tables before and after the split of v from u
module _ {h : Hypergraph} {cs : List Contraction} {block block' : ℕ → ℕ} {T T' : Tables} (u v : ℕ) (s : Sound h (join u v ∷ cs) block T) (s' : Sound h cs block' T') (qn : T'.n ≡ T.n) (qm : T'.m ≡ T.m) where
  pub part-rows-ok : {rows : List ℕ} → RowsAre rows T.pins T.firsts T.sizes T.m → PartRowsOk rows T'.bits T.m u v
  part-rows-ok r =
      let u-in = u-below u v s in
      let v-in = v_below u v s in
      let few = s.follows.room.few-vertices in
      let long = s'.follows.room.bits_fit in
      record {
        rows_fit = r.fit;
        few = s.follows.room.few-nets;
        u-fit = omega (arith, qn, u-in, long);
        v-fit = omega (arith, qn, v-in, long);
        u-small = omega (arith, u-in, few);
        v-small = omega (arith, v-in, few);
        apart = λ z. s.follows.says.sound.0.two (ap (λ (y : ℕ). y + 1) z);
      }

  module _ (e : ℕ) (le : e < T.m) where
    le' : e < T'.m
    le' = omega arith

    u-bit : eqb (on T'.bits u e) 1 ≡ pin cs (net_at h e) (u + 1)
    u-bit = bit_is s' u e (omega (arith, qn, u-below u v s)) le' s.follows.says.sound.0.into-on

    v-bit : eqb (on T'.bits v e) 1 ≡ pin cs (net_at h e) (v + 1)
    v-bit = bit_is s' v e (omega (arith, qn, v_below u v s)) le' s.follows.says.sound.0.gone-on

    before : {rows : List ℕ} → RowsAre rows T.pins T.firsts T.sizes T.m → (x : ℕ) → x < 1024 → eqb (on rows e x) 1 ≡ pin (join u v ∷ cs) (net_at h e) (x + 1)
    before r x k = r.tells e le x k ∙ has-pin s.follows.says e le x

    into : pin (join u v ∷ cs) (net_at h e) (u + 1) ≡ (pin cs (net_at h e) (u + 1) || pin cs (net_at h e) (v + 1))
    into = pin-into cs (join u v) s.follows.says.sound (net_at h e)

    -- a net of v
    of-v : {rows : List ℕ} → RowsAre rows T.pins T.firsts T.sizes T.m → on T'.bits v e ≡ 1 → (x : ℕ) → x < 1024 → Dec (x ≡ v) → Dec (x ≡ u)
        → parted_bit rows T'.bits u v e x ≡ pin cs (net_at h e) (x + 1)
    of-v r o x k (yes q) d = cond_yes x v _ _ q ∙ sym (ap (λ (z : ℕ). pin cs (net_at h e) (z + 1)) q ∙ sym v-bit ∙ eq-eqb (on T'.bits v e) 1 o)
    of-v r o x k (no q) (yes z) =
        let there : pin cs (net_at h e) (v + 1) ≡ true = sym v-bit ∙ eq-eqb (on T'.bits v e) 1 o in
        cond_no x v _ _ q ∙ cond_yes x u _ _ z
        ∙ ap₂ (λ (a b : Bool). a && b)
        (before r x k ∙ ap (λ (y : ℕ). pin (join u v ∷ cs) (net_at h e) (y + 1)) z ∙ into ∙ ap (λ (b : Bool). pin cs (net_at h e) (u + 1) || b) there ∙ or-true (pin cs (net_at h e) (u + 1)))
        (u-bit ∙ ap (λ (y : ℕ). pin cs (net_at h e) (y + 1)) (sym z))
    of-v r o x k (no q) (no z) = cond_no x v _ _ q ∙ cond_no x u _ _ z ∙ before r x k ∙ pin-other cs (join u v) s.follows.says.sound (net_at h e) (x + 1) (λ y. q (omega arith)) (λ y. z (omega arith))

    -- a net that v is no pin of
    not-of-v : (on T'.bits v e ≡ 1 → ⊥) → (x : ℕ) → Dec (x ≡ v) → Dec (x ≡ u) → pin (join u v ∷ cs) (net_at h e) (x + 1) ≡ pin cs (net_at h e) (x + 1)
    not-of-v o x (yes q) d =
        ap (λ (y : ℕ). pin (join u v ∷ cs) (net_at h e) (y + 1)) q ∙ pin-gone cs (join u v) s.follows.says.sound (net_at h e)
        ∙ sym (ap (λ (y : ℕ). pin cs (net_at h e) (y + 1)) q ∙ sym v-bit ∙ ne_eqb (on T'.bits v e) 1 o)
    not-of-v o x (no q) (yes z) =
        ap (λ (y : ℕ). pin (join u v ∷ cs) (net_at h e) (y + 1)) z ∙ into
        ∙ ap (λ (b : Bool). pin cs (net_at h e) (u + 1) || b) (sym v-bit ∙ ne_eqb (on T'.bits v e) 1 o)
        ∙ or-false (pin cs (net_at h e) (u + 1)) ∙ ap (λ (y : ℕ). pin cs (net_at h e) (y + 1)) (sym z)
    not-of-v o x (no q) (no z) = pin-other cs (join u v) s.follows.says.sound (net_at h e) (x + 1) (λ y. q (omega arith)) (λ y. z (omega arith))

    after : {rows rows' : List ℕ} → RowsAre rows T.pins T.firsts T.sizes T.m → PartedTo rows T'.bits u v T.m rows' → (x : ℕ) → x < 1024 → Dec (on T'.bits v e ≡ 1)
        → eqb (on rows' e x) 1 ≡ pin cs (net_at h e) (x + 1)
    after r p x k (yes o) = p.done e le o x k ∙ of-v r o x k (ℕ_discrete x v) (ℕ_discrete x u)
    after r p x k (no o) = ap (λ (y : ℕ). eqb y 1) (p.rest e x k (λ _ y. o y)) ∙ before r x k ∙ not-of-v o x (ℕ_discrete x v) (ℕ_discrete x u)

  pub rows-parted : {rows rows' : List ℕ} → RowsAre rows T.pins T.firsts T.sizes T.m → PartedTo rows T'.bits u v T.m rows' → RowsAre rows' T'.pins T'.firsts T'.sizes T'.m
  rows-parted {rows} {rows'} r p = record {
    fit = omega (arith, r.fit, p.len, qm);
    tells = λ e l x k. let le : e < T.m = omega (arith, l, qm) in after e le r p x k (ℕ_discrete (on T'.bits v e) 1) ∙ sym (has-pin s'.follows.says e l x);
  }
