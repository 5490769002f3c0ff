-- Laws of bounds: how they begin, and how they are raised over the pins of a net and the nets of a vertex.
-- Rests on Bound and RatingLaw. Assumes nothing.
use Rattle.std.specs.Prelude.{◌≡◌, Bool, true, false, ◌&&◌, cond, List, ℕ, ◌+◌, ◌-◌, ◌*◌, ◌≤◌, ◌<◌, eqb, length, get_or, set}
use Rattle.std.proofs.Common.{sym, ap₂, ◌∙◌, subst, add-mul, one-mul, zero-mul, mul-zero, arith, eq-eqb, ne_eqb, lt-ltb, le-ltb, length-set, get_or-set_same, get_or-set_other}
use Rattle.std.proofs.Math.Path.{ap}
use Rattle.std.proofs.Math.Decide.{ℕ_discrete}
use Rattle.incidence.specs.On.{on, Next}
use Rattle.laws.specs.Occurrence.{at, same, occ, same-yes, same-no, occ-zero, occ-step}
use Rattle.best_contraction.specs.Rating.{own_sum, score_of, term_of, TablesOk, TakeOk}
use Rattle.best_contraction.specs.RatingLaw.{over_first, over-next, own_room}
use Rattle.best_contraction.specs.JoinLaw.{score-own}
use Rattle.best_contraction.specs.Bound.{Bounded, ceiling, earlier, near_rise, far_rise, rise_at, rise_of, Risen, Lifted, Ready, Planned}
use Rattle.best_contraction.specs.declared.join.Join.{Join}

-- ---- how they begin

-- the entries of 1 .. n are the sums of the vertices' own terms
pub record OwnSums (bits sizes net_weights : List ℕ) (m n : ℕ) (l : List ℕ) : Type 0 where
  pub len : length l ≡ 1025
  pub sums : (x : ℕ) → 1 ≤ x → x ≤ n → get_or l x 0 ≡ own_sum bits sizes net_weights x m

module _ (bits sizes net_weights : List ℕ) (m : ℕ) where
  pub sums_none : (l : List ℕ) → length l ≡ 1025 → OwnSums bits sizes net_weights m 0 l
  sums_none l h = record { len = h; sums = λ x a b. absurd (omega arith) }

  pub sums-more : (l : List ℕ) (i r : ℕ) → i < 1024 → OwnSums bits sizes net_weights m i l → r ≡ own_sum bits sizes net_weights (i + 1) m → OwnSums bits sizes net_weights m (i + 1) (set l (i + 1) r)
  sums-more l i r small h e = record { len = length-set l (i + 1) r ∙ h.len; sums = λ x a b. go x a b (ℕ_discrete x (i + 1)) }
    where
      go : (x : ℕ) → 1 ≤ x → x ≤ i + 1 → Dec (x ≡ i + 1) → get_or (set l (i + 1) r) x 0 ≡ own_sum bits sizes net_weights x m
      go x a b (yes q) = subst (λ (k : ℕ). get_or (set l (i + 1) r) k 0 ≡ own_sum bits sizes net_weights k m) (sym q) (get_or-set_same l (i + 1) r 0 (omega (arith, h.len)) ∙ e)
      go x a b (no q) = get_or-set_other l (i + 1) x r 0 q ∙ h.sums x a (omega arith)

module _ (bits pins firsts sizes net_weights blocks weights : List ℕ) (m n limit : ℕ) (ok : TablesOk bits pins firsts sizes net_weights blocks m n) where
  pub bounded-begin : (l : List ℕ) → OwnSums bits sizes net_weights m n l → Bounded (score_of bits pins firsts sizes net_weights blocks weights m limit) n l
  bounded-begin l h = record { len = h.len; above = λ u z ul uu zl zu. omega (arith, h.sums u ul uu, score-own bits pins firsts sizes net_weights blocks weights m n limit u ok z) }

  -- no rating passes the ceiling
  pub score-small : (u z : ℕ) → score_of bits pins firsts sizes net_weights blocks weights m limit u z ≤ ceiling
  score-small u z = omega (arith, score-own bits pins firsts sizes net_weights blocks weights m n limit u ok z, own_room bits sizes net_weights u m m (omega arith) ok.nets ok.light)

-- ---- raised

pub risen-none : (l : List ℕ) (d : ℕ → ℕ) → length l ≡ 1025 → ((z : ℕ) → d z ≡ 0) → Risen l l d
risen-none l d h k = record { len = h; above = λ x s a b. omega (arith, k x) }

pub risen-more : (l l' l'' : List ℕ) (d d' d'' : ℕ → ℕ) → Risen l l' d → Risen l' l'' d' → ((z : ℕ) → d'' z ≡ d z + d' z) → Risen l l'' d''
risen-more l l' l'' d d' d'' r q k = record { len = q.len; above = λ x s a b. q.above x s a (omega (arith, r.above x (s - d' x) (omega arith) (omega (arith, k x)))) }

-- one pin
pub risen-pin : (l : List ℕ) (y k r : ℕ) (f : ℕ → ℕ) → length l ≡ 1025 → y ≤ 1024 → k ≡ f y → ((s : ℕ) → s ≤ ceiling → s ≤ get_or l y 0 + k → s ≤ r) → Risen l (set l y r) (λ z. same y z * f z)
risen-pin l y k r f h small e up = record { len = length-set l y r ∙ h; above = λ x s a b. go x s a b (ℕ_discrete x y) }
  where
    go : (x s : ℕ) → s ≤ ceiling → s ≤ get_or l x 0 + same y x * f x → Dec (x ≡ y) → s ≤ get_or (set l y r) x 0
    go x s a b (yes q) =
        let one : same y x * f x ≡ k = ap₂ (λ (i j : ℕ). i * j) (same-yes y x (sym q)) (ap f q) ∙ one-mul (f y) ∙ sym e in
        omega (arith, up s a (omega (arith, ap (λ (k : ℕ). get_or l k 0) q)), ap (λ (k : ℕ). get_or (set l y r) k 0) q, get_or-set_same l y r 0 (omega arith))
    go x s a b (no q) =
        let none : same y x * f x ≡ 0 = ap (λ (i : ℕ). i * f x) (same-no y x (λ z. q (sym z))) ∙ zero-mul (f x) in
        omega (arith, get_or-set_other l y x r 0 q)

-- the pins of a net
module _ (pins : List ℕ) (f : ℕ) (g : ℕ → ℕ) where
  pub lift-none : (l : List ℕ) → length l ≡ 1025 → Risen l l (λ z. occ pins f 0 z * g z)
  lift-none l h = risen-none l _ h (λ z. ap (λ (k : ℕ). k * g z) (occ-zero pins f z) ∙ zero-mul (g z))

  pub lift-more : (l0 l : List ℕ) (i y k r : ℕ) → Risen l0 l (λ z. occ pins f i z * g z) → y ≡ at pins f i → y ≤ 1024 → k ≡ g y → ((s : ℕ) → s ≤ ceiling → s ≤ get_or l y 0 + k → s ≤ r)
      → Risen l0 (set l y r) (λ z. occ pins f (i + 1) z * g z)
  lift-more l0 l i y k r h e small ek up = risen-more l0 l (set l y r) _ _ _ h (risen-pin l y k r g h.len small ek up) (λ z.
      ap (λ (k : ℕ). k * g z) (occ-step pins f i z ∙ ap (λ (k : ℕ). occ pins f i z + same k z) (sym e)) ∙ add-mul (occ pins f i z) (same y z) (g z))

-- the nets of a vertex
module _ (bits pins firsts sizes net_weights blocks : List ℕ) (m n u v : ℕ) (ok : TablesOk bits pins firsts sizes net_weights blocks m n) where
  pub nets-none : (l : List ℕ) (e : ℕ) → length l ≡ 1025 → Next bits (v - 1) 0 m e → Risen l l (rise_of bits pins firsts sizes net_weights blocks e u v)
  unfolding rise_of
  nets-none l e h k = risen-none l _ h (λ z. over_first bits (v - 1) _ m e k)

  pub nets-take : (len e f s : ℕ) → e < m → len ≡ 1025 → f ≡ get_or firsts e 0 → s ≡ get_or sizes e 0 → TakeOk len pins (length blocks) f s
  nets-take len e f s h full ef es = subst (λ (k : ℕ). TakeOk len pins (length blocks) k s) (sym ef) (subst (λ (k : ℕ). TakeOk len pins (length blocks) (get_or firsts e 0) k) (sym es) (record {
    full = full;
    stretch = ok.stretch e h;
    pin = λ i k. ((ok.pin e h i k).0, omega (arith, (ok.pin e h i k).1, ok.vertices), omega (arith, (ok.pin e h i k).1, ok.in_blocks));
  }))

  pub nets-more : (l0 l l' : List ℕ) (e e' f s near far : ℕ) (both : Bool) → Risen l0 l (rise_of bits pins firsts sizes net_weights blocks e u v) → on bits (v - 1) e ≡ 1 → f ≡ get_or firsts e 0 → s ≡ get_or sizes e 0
      → both ≡ eqb (on bits (u - 1) e) 1 → near ≡ near_rise both (get_or net_weights e 0) (get_or sizes e 0) → far ≡ far_rise both (get_or net_weights e 0) (get_or sizes e 0)
      → Risen l l' (λ z. occ pins f s z * rise_at blocks u (get_or blocks (u - 1) 0) near far z) → Next bits (v - 1) (e + 1) m e' → Risen l0 l' (rise_of bits pins firsts sizes net_weights blocks e' u v)
  unfolding rise_of
  nets-more l0 l l' e e' f s near far both r here ef es eb en er h k = risen-more l0 l l' _ _ _ r h (λ z. over-next bits (v - 1) _ m e e' here k ∙ ap (λ (q : ℕ). rise_of bits pins firsts sizes net_weights blocks e u v z + q) (same-net z))
    where
      same-net : (z : ℕ) → occ pins (get_or firsts e 0) (get_or sizes e 0) z * rise_at blocks u (get_or blocks (u - 1) 0) (near_rise (eqb (on bits (u - 1) e) 1) (get_or net_weights e 0) (get_or sizes e 0)) (far_rise (eqb (on bits (u - 1) e) 1) (get_or net_weights e 0) (get_or sizes e 0)) z
          ≡ occ pins f s z * rise_at blocks u (get_or blocks (u - 1) 0) near far z
      same-net z = rw (ef, es, en, er, eb)

-- u and v set apart
pub lifted : (l l' : List ℕ) (d : ℕ → ℕ) (u v : ℕ) → Risen l l' d → u ≤ 1024 → Lifted l (set (set l' v 0) u 36028797018963968) d u v
lifted l l' d u v r small = record {
  len = length-set (set l' v 0) u _ ∙ length-set l' v 0 ∙ r.len;
  into = omega (arith, get_or-set_same (set l' v 0) u 36028797018963968 0 (omega (arith, length-set l' v 0, r.len)));
  other = λ x s nu nv a b. omega (arith, r.above x s a b, get_or-set_other (set l' v 0) u x 36028797018963968 0 nu, get_or-set_other l' v x 0 0 nv);
}

ready : (score : ℕ → ℕ → ℕ) (n : ℕ) (l l' : List ℕ) (d : ℕ → ℕ) (u v : ℕ) → Bounded score n l → Lifted l l' d u v → Ready score d n l' u v
ready score n l l' d u v b r = record {
  len = r.len;
  into = r.into;
  other = λ x z s xl xu zl zu nu nv a k. r.other x s nu nv a (omega (arith, b.above x z xl xu zl zu));
}

-- the two ways to end
pub planned-none : {score : ℕ → ℕ → ℕ} (d : ℕ → ℕ → ℕ → ℕ) {n : ℕ} {l : List ℕ} (r : Join) → r.rating ≡ 0 → Bounded score n l → Planned score d n l r
planned-none d r z b = record { none = λ _. b; some = λ l. absurd (omega arith) }

pub planned-some : {score : ℕ → ℕ → ℕ} (d : ℕ → ℕ → ℕ → ℕ) {n : ℕ} {l l' : List ℕ} (r : Join) → 1 ≤ r.rating → Bounded score n l → Lifted l l' (d r.into r.gone) r.into r.gone → Planned score d n l' r
planned-some {score} d {n} {l} {l'} r some b k = record { none = λ z. absurd (omega arith); some = λ _. ready score n l l' (d r.into r.gone) r.into r.gone b k }

-- ---- what is added for a pin
module _ (blocks : List ℕ) (u own near far y : ℕ) where
  pub share-late : u ≤ y → far ≡ rise_at blocks u own near far y
  share-late h = sym (ap (λ (b : Bool). cond (b && eqb (get_or blocks (y - 1) 0) own) near far) (le-ltb y u h))

  pub share-apart : y < u → (get_or blocks (y - 1) 0 ≡ own → ⊥) → far ≡ rise_at blocks u own near far y
  share-apart h q = sym (ap₂ (λ (a b : Bool). cond (a && b) near far) (lt-ltb y u h) (ne_eqb _ _ q))

  pub share-near : y < u → get_or blocks (y - 1) 0 ≡ own → near ≡ rise_at blocks u own near far y
  share-near h q = sym (ap₂ (λ (a b : Bool). cond (a && b) near far) (lt-ltb y u h) (eq-eqb _ _ q))

-- ---- what a net adds
pub rise-both : (both : Bool) (w n t f t' x : ℕ) → both ≡ true → t ≡ term_of w n → f ≡ n - 1 → t' ≡ term_of w f → t' ≤ 536870912 → x ≡ t' - t → ((x ≡ near_rise both w n) × (x ≡ far_rise both w n)) × ((x ≤ 536870912) × (x ≤ 536870912))
rise-both both w n t f t' x q et ef et' small ex =
    let e : x ≡ term_of w (n - 1) - term_of w n = ex ∙ ap₂ (λ (a b : ℕ). a - b) (et' ∙ ap (term_of w) ef) et in
    ((e ∙ sym (ap (λ (b : Bool). near_rise b w n) q), e ∙ sym (ap (λ (b : Bool). far_rise b w n) q)), (omega arith, omega arith))

pub rise_one : (both : Bool) (w n t : ℕ) → both ≡ false → t ≡ term_of w n → t ≤ 536870912 → ((t ≡ near_rise both w n) × (0 ≡ far_rise both w n)) × ((t ≤ 536870912) × (0 ≤ 536870912))
rise_one both w n t q et small = ((et ∙ sym (ap (λ (b : Bool). near_rise b w n) q), sym (ap (λ (b : Bool). far_rise b w n) q)), (small, omega arith))

pub share-small : (blocks : List ℕ) (u own near far y k : ℕ) → near ≤ 536870912 → far ≤ 536870912 → k ≡ rise_at blocks u own near far y → k ≤ 536870912
share-small blocks u own near far y k a b e = go (earlier blocks u own y) e
  where
    go : (t : Bool) → k ≡ cond t near far → k ≤ 536870912
    go true q = omega arith
    go false q = omega arith

-- ---- a net that adds nothing leaves all bounds as they are
pub share-none : (blocks : List ℕ) (u own near far y : ℕ) → near + far ≡ 0 → rise_at blocks u own near far y ≡ 0
share-none blocks u own near far y h = go (earlier blocks u own y)
  where
    go : (t : Bool) → cond t near far ≡ 0
    go true = omega arith
    go false = omega arith

pub lift-still : (pins blocks l : List ℕ) (f n u own near far : ℕ) → length l ≡ 1025 → near + far ≡ 0 → Risen l l (λ z. occ pins f n z * rise_at blocks u own near far z)
lift-still pins blocks l f n u own near far h e = risen-none l _ h (λ z. ap (λ (k : ℕ). occ pins f n z * k) (share-none blocks u own near far z e) ∙ mul-zero (occ pins f n z))
