-- When a vertex goes from block s to block t, another one has the gains that it had, unless a net of both has now at most one pin in s or at most two
-- in t. So all rows are right, if they were and the rows near the moved vertex were made right. Rests on Near and on search_moves' Falls, which is
-- used from before the move to after it and the other way round. Assumes nothing.
use Rattle.std.specs.Prelude.{ℕ, ◌+◌, ◌*◌, ◌-◌, ◌<◌, ◌≤◌, ◌≡◌, refl, true, false, List, eqb, length, get_or, ℤ}
use Rattle.std.proofs.Math.Decide.{ℕ_discrete}
use Rattle.std.proofs.Common.{arith, sym, ap, ◌∙◌, subst, eq-eqb, ne_eqb}
use Rattle.std.specs.Int.Signed.{lt_z}
use Rattle.laws.specs.Choice.{one}
use Rattle.laws.specs.Place.{place}
use Rattle.laws.specs.Integer.{eq-by}
use Rattle.model.specs.Catalogue.{Hypergraph}
use Rattle.model.specs.Measure.{Contraction}
use Rattle.guarantees.specs.Ranks.{ranked-ext}
use Rattle.incidence.specs.On.{on}
use Rattle.index.specs.Row.{gain_at, Holds, row_at}
use Rattle.index.specs.Indexed.{row_for, AllRight, KeepsRight}
use Rattle.connectivity.specs.Raised.{at}
use Rattle.connectivity.specs.Listed.{has}
use Rattle.levels.specs.World.{World, mat}
use Rattle.connectivity.specs.Row.{row-yes}
use Rattle.operations.specs.Tables.{Tables, tables, Sound}
use Rattle.operations.specs.Move.{Open}
use Rattle.search_moves.specs.Falls.{falls, less-not, moved-count, count-is, row_moved}
use Rattle.search_moves.specs.Tabled.{rows_ok}
use Rattle.search_moves.specs.Peaks.{own_in, own-after, block-kept, pin-marked}
use Rattle.near_rows.specs.Near.{NearOk, Right, NearRight}

-- neither of two integers is below the other
neither-less : (a b : ℤ) → lt_z a b ≡ false → lt_z b a ≡ false → a ≡ b
neither-less a b p q = eq-by a b (omega (arith, less-not a b p, less-not b a q))

-- the row that a vertex is to have goes by its block and its gains
row_same : (gains gains' : List ℤ) (blocks blocks' : List ℕ) (k x : ℕ) → get_or blocks' x 0 ≡ get_or blocks x 0 → ((j : ℕ) → j < k → at gains' (16 * x + j) ≡ at gains (16 * x + j))
    → row_for gains' blocks' k x ≡ row_for gains blocks k x
unfolding row_for
row_same gains gains' blocks blocks' k x e h = rw (e, ranked-ext (gain_at gains x) (gain_at gains' x) (get_or blocks x 0) k (λ b l u. h (b - 1) (omega arith)))

-- ---- by the tables of two worlds
module _ {weights counts counts' visited visited' pins blocks blocks' firsts sizes : List ℕ} {gains gains' : List ℤ} {n m k u s t : ℕ}
    (w : World weights counts visited pins blocks firsts sizes gains n m k)
    (w' : World weights counts' visited' pins blocks' firsts sizes gains' n m k)
    (u-in : u < n) (s-in : (1 ≤ s) × (s ≤ k)) (t-in : (1 ≤ t) × (t ≤ k)) (away : s ≡ t → ⊥)
    (from : get_or blocks u 0 ≡ s) (to : get_or blocks' u 0 ≡ t)
    (others : (y : ℕ) → y < n → (y ≡ u → ⊥) → get_or blocks' y 0 ≡ get_or blocks y 0) where
  -- how a net of u counts its pins in b, before and after
  count-moves : (e b : ℕ) → e < m → has pins (get_or firsts e 0) (get_or sizes e 0) u ≡ true → (1 ≤ b) × (b ≤ k)
      → get_or counts' (16 * e + (b - 1)) 0 + one (eqb s b) ≡ get_or counts (16 * e + (b - 1)) 0 + one (eqb t b)
  count-moves e b le q r =
      ap (λ (z : ℕ). z + one (eqb s b)) (count-is w w' u-in s-in t-in away from to others e b le r)
      ∙ moved-count n u s t (mat pins blocks firsts sizes e) (mat pins blocks' firsts sizes e) u-in away
      (row-yes pins blocks (get_or firsts e 0) (get_or sizes e 0) u q ∙ from) (row_moved w w' u-in s-in t-in away from to others e q) b
      ∙ ap (λ (z : ℕ). z + one (eqb t b)) (sym (count-is w' w u-in t-in s-in (λ z. away (sym z)) to from (λ y l ne. sym (others y l ne)) e b le r))

  -- one pin less in s, one more in t
  left_one : (e : ℕ) → e < m → has pins (get_or firsts e 0) (get_or sizes e 0) u ≡ true → get_or counts (16 * e + (s - 1)) 0 ≡ get_or counts' (16 * e + (s - 1)) 0 + 1
  left_one e le q = omega (arith, count-moves e s le q s-in, ap one (eq-eqb s s refl), ap one (ne_eqb t s (λ z. away (sym z))))

  reached-one : (e : ℕ) → e < m → has pins (get_or firsts e 0) (get_or sizes e 0) u ≡ true → get_or counts' (16 * e + (t - 1)) 0 ≡ get_or counts (16 * e + (t - 1)) 0 + 1
  reached-one e le q = omega (arith, count-moves e t le q t-in, ap one (eq-eqb t t refl), ap one (ne_eqb s t away))

  -- no net of u and x has at most one pin in s or at most two in t
  module _ (x : ℕ) (x-in : x < n) (other : x ≡ u → ⊥)
      (calm : (e : ℕ) → e < m → has pins (get_or firsts e 0) (get_or sizes e 0) u ≡ true → has pins (get_or firsts e 0) (get_or sizes e 0) x ≡ true
      → (get_or counts' (16 * e + (s - 1)) 0 ≤ 1 → ⊥) × (get_or counts' (16 * e + (t - 1)) 0 ≤ 2 → ⊥)) where
    gain-same : (j : ℕ) → j < k → at gains' (16 * x + j) ≡ at gains (16 * x + j)
    gain-same j lj = neither-less (at gains' (16 * x + j)) (at gains (16 * x + j))
        (falls w' w u-in t-in s-in (λ z. away (sym z)) to from (λ y l ne. sym (others y l ne)) x j x-in lj other (λ e le p q. (
          λ c _. (calm e le p q).1 (omega (arith, reached-one e le p)),
          λ c _. (calm e le p q).0 (omega (arith, left_one e le p)),
        )))
        (falls w w' u-in s-in t-in away from to others x j x-in lj other (λ e le p q. (
          λ c _. (calm e le p q).0 (omega arith),
          λ c _. (calm e le p q).1 (omega arith),
        )))

    row-still : row_for gains' blocks' k x ≡ row_for gains blocks k x
    row-still = row_same gains gains' blocks blocks' k x (others x x-in other) gain-same

  module _ {bits : List ℕ} (marked : (e : ℕ) → e < m → has pins (get_or firsts e 0) (get_or sizes e 0) u ≡ true → on bits u e ≡ 1)
      {index index' : List ℕ} (near : NearRight gains' counts' blocks' pins firsts sizes bits n m k u s t index index') where
    -- if a place of the row were not right, no net of u and x would be one for which rows were made right, and the row would be what it was
    right-other : (x : ℕ) → x < n → (x ≡ u → ⊥) → Right gains blocks k index x → Right gains' blocks' k index' x
    right-other x lx ne r j lj = go (ℕ_discrete (row_at index' x j) (get_or (row_for gains' blocks' k x) j 0))
      where
        go : Dec (row_at index' x j ≡ get_or (row_for gains' blocks' k x) j 0) → row_at index' x j ≡ get_or (row_for gains' blocks' k x) j 0
        go (yes q) = q
        go (no q) = near.mended.stays x (subst (Holds k index x) (sym still) r) j lj
          where
            still : row_for gains' blocks' k x ≡ row_for gains blocks k x
            still = row-still x lx ne (λ e le hu hx. (
              λ c. q (near.left e le (marked e le hu) c x hx j lj),
              λ c. q (near.reached e le (marked e le hu) c x hx j lj),
            ))

    pub near-world : KeepsRight gains blocks gains' blocks' n k index index'
    near-world = record { kept = near.mended.kept; right = λ r x lx. go r x lx (ℕ_discrete x u) }
      where
        go : AllRight gains blocks n k index → (x : ℕ) → x < n → Dec (x ≡ u) → Right gains' blocks' k index' x
        go r x lx (yes q) = subst (Right gains' blocks' k index') (sym q) near.own
        go r x lx (no q) = right-other x lx q (r x lx)

-- ---- by sound tables
module _ {h : Hypergraph} {cs : List Contraction} {block : ℕ → ℕ} {T : Tables} (s : Sound h cs block T) {u t : ℕ} (o : Open T.blocks T.n T.k u t)
    {counts visited blocks weights aboves loads loaded : List ℕ} {gains : List ℤ} {total : ℕ}
    (s' : Sound h cs (place block (u + 1) t) (tables counts visited gains T.pins T.sizes T.bits blocks weights aboves loads T.net_weights T.firsts loaded T.n T.m T.k total)) where
  -- what is asked after a move
  pub near-asks : {index : ℕ} → 16 * T.n ≤ index
      → NearOk index (length gains) (length counts) blocks T.bits T.pins T.firsts T.sizes T.n T.m T.k u (get_or T.blocks u 0) t
  near-asks {index} long =
      let f = s'.follows in
      let few : T.k ≤ 16 = f.world.frame.few in
      record {
        rows = rows_ok s' long;
        few-nets = f.room.few-nets;
        u-in = o.u-in;
        u-bits = omega (arith, o.u-in, f.room.bits_fit);
        firsts-fit = f.room.firsts-fit;
        sizes-fit = f.room.sizes-fit;
        counts-fit = f.world.frame.counts-fit;
        s-in = ((own_in s o s').0, omega (arith, (own_in s o s').1));
        t-in = (o.t-in.0, omega (arith, o.t-in.1));
        nets = λ e le. record { fit = (f.world.lists.nets e le).pins-fit; vertices = λ j lj. (f.world.lists.nets e le).in-range j lj };
      }

  -- and what the rows are when it is done
  pub near-keeps : {index index' : List ℕ} → NearRight gains counts blocks T.pins T.firsts T.sizes T.bits T.n T.m T.k u (get_or T.blocks u 0) t index index'
      → KeepsRight T.gains T.blocks gains blocks T.n T.k index index'
  near-keeps near = near-world s.follows.world s'.follows.world o.u-in (own_in s o s') o.t-in o.away refl (own-after s o s') (block-kept s o s') (pin-marked s o s') near
