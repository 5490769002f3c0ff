-- Bounds on ratings: for each vertex a number that no rating of it with a later one passes, the first of the highest, and by how much a
-- contraction may raise them. Rests on Rating. Assumes nothing.
use Rattle.std.specs.Prelude.{◌≡◌, Bool, ◌&&◌, cond, List, ℕ, ◌+◌, ◌-◌, ◌*◌, ◌≤◌, ◌<◌, eqb, ltb, length, get_or}
use Rattle.incidence.specs.On.{on}
use Rattle.laws.specs.Occurrence.{occ}
use Rattle.best_contraction.specs.Rating.{term_of, over}
use Rattle.best_contraction.specs.declared.join.Join.{Join}

-- no pair of u and another rates higher than u's entry
pub record Bounded (score : ℕ → ℕ → ℕ) (n : ℕ) (l : List ℕ) : Type 0 where
  pub len : length l ≡ 1025
  pub above : (u z : ℕ) → 1 ≤ u → u ≤ n → 1 ≤ z → z ≤ n → score u z ≤ get_or l u 0

-- u's entry is the highest of 1 .. n, and the first of those
pub record Highest (l : List ℕ) (n u : ℕ) : Type 0 where
  pub low : 1 ≤ u
  pub high : u ≤ n
  pub first : (x : ℕ) → 1 ≤ x → x < u → get_or l x 0 < get_or l u 0
  pub most : (x : ℕ) → 1 ≤ x → x ≤ n → get_or l x 0 ≤ get_or l u 0

-- ---- by how much a contraction of v into u raises the bounds

-- 2 to the 55th: no rating passes it
abbrev pub ceiling : ℕ
ceiling = 36028797018963968

-- a vertex that may be rated with u as its later partner
abbrev pub earlier : List ℕ → ℕ → ℕ → ℕ → Bool
earlier blocks u own z = ltb z u && eqb (get_or blocks (z - 1) 0) own

-- what a net of v of weight w and s pins adds for those: its term, if u was no pin of it; else what its term grows by, as it loses a pin
abbrev pub near_rise : Bool → ℕ → ℕ → ℕ
near_rise both w s = cond both (term_of w (s - 1) - term_of w s) (term_of w s)

-- and for all other pins
abbrev pub far_rise : Bool → ℕ → ℕ → ℕ
far_rise both w s = cond both (term_of w (s - 1) - term_of w s) 0

abbrev pub rise_at : List ℕ → ℕ → ℕ → ℕ → ℕ → ℕ → ℕ
rise_at blocks u own near far z = cond (earlier blocks u own z) near far

-- what the nets of v below m add for z
unfoldable pub rise_of : (bits pins firsts sizes net_weights blocks : List ℕ) (m u v : ℕ) → ℕ → ℕ
rise_of bits pins firsts sizes net_weights blocks m u v z =
    over bits (v - 1) m (λ e. occ pins (get_or firsts e 0) (get_or sizes e 0) z
    * rise_at blocks u (get_or blocks (u - 1) 0) (near_rise (eqb (on bits (u - 1) e) 1) (get_or net_weights e 0) (get_or sizes e 0)) (far_rise (eqb (on bits (u - 1) e) 1) (get_or net_weights e 0) (get_or sizes e 0)) z)

-- entries raised by d at least, as far as the ceiling
pub record Risen (l l' : List ℕ) (d : ℕ → ℕ) : Type 0 where
  pub len : length l' ≡ 1025
  pub above : (x s : ℕ) → s ≤ ceiling → s ≤ get_or l x 0 + d x → s ≤ get_or l' x 0

-- the same but for u, which has no bound below the ceiling, and for v, which has none at all
pub record Lifted (l l' : List ℕ) (d : ℕ → ℕ) (u v : ℕ) : Type 0 where
  pub len : length l' ≡ 1025
  pub into : ceiling ≤ get_or l' u 0
  pub other : (x s : ℕ) → (x ≡ u → ⊥) → (x ≡ v → ⊥) → s ≤ ceiling → s ≤ get_or l x 0 + d x → s ≤ get_or l' x 0

-- bounds as they are to be once v is contracted into u
pub record Ready (score : ℕ → ℕ → ℕ) (d : ℕ → ℕ) (n : ℕ) (l : List ℕ) (u v : ℕ) : Type 0 where
  pub len : length l ≡ 1025
  pub into : ceiling ≤ get_or l u 0
  pub other : (x z s : ℕ) → 1 ≤ x → x ≤ n → 1 ≤ z → z ≤ n → (x ≡ u → ⊥) → (x ≡ v → ⊥) → s ≤ ceiling → s ≤ score x z + d x → s ≤ get_or l x 0

-- bounds of the present state where there is no pair to contract, else as they are to be after its contraction
pub record Planned (score : ℕ → ℕ → ℕ) (d : ℕ → ℕ → ℕ → ℕ) (n : ℕ) (l : List ℕ) (r : Join) : Type 0 where
  pub none : r.rating ≡ 0 → Bounded score n l
  pub some : 1 ≤ r.rating → Ready score (d r.into r.gone) n l r.into r.gone
