-- Peaks, which no gain of their part of the vertices passes, stay so when a vertex goes from block s to block t, if they are lifted where a gain may have
-- risen. Rests on Falls and on operations's Sound. Assumes nothing.
use Rattle.std.specs.Prelude.{ℕ, ◌+◌, ◌*◌, ◌-◌, ◌/◌, ◌<◌, ◌≤◌, ◌≡◌, refl, Bool, true, false, List, get_or, ℤ, pos}
use Rattle.std.proofs.Math.Decide.{ℕ_discrete}
use Rattle.std.proofs.Common.{arith, sym, ◌∙◌, subst, true≢false, eqb-true}
use Rattle.std.specs.Int.Signed.{lt_z}
use Rattle.laws.specs.Place.{place, place_at, place-off}
use Rattle.model.specs.Catalogue.{Hypergraph}
use Rattle.model.specs.Measure.{Contraction, above}
use Rattle.incidence.specs.On.{on}
use Rattle.connectivity.specs.Listed.{has}
use Rattle.levels.specs.World.{World}
use Rattle.levels.specs.Reading.{has-pin}
use Rattle.best_move.specs.Peak.{UnderAt, Under, Peaked, Higher, not-below}
use Rattle.operations.specs.Tables.{Tables, tables, Sound}
use Rattle.operations.specs.Move.{Open, own_block, here-board, on-board, in-range}
use Rattle.search_moves.specs.Tabled.{bit_is}
use Rattle.search_moves.specs.Falls.{Quiet, falls}

-- what the lifting of peaks does after u has gone from block s to block t: the peaks of the parts of u, of the last pin in s of a net of u, and
-- of the pins of a net of u with its first pin in t cover the gains that may have risen
pub record Lifted (gains peaks peaks' : List ℤ) (counts blocks pins firsts sizes bits : List ℕ) (m k u s t : ℕ) : Type 0 where
  pub higher : Higher peaks peaks'
  pub own : (b : ℕ) → b < k → Under gains peaks' u b
  pub last : (e : ℕ) → e < m → on bits u e ≡ 1 → get_or counts (16 * e + (s - 1)) 0 ≡ 1 → (x : ℕ) → has pins (get_or firsts e 0) (get_or sizes e 0) x ≡ true → get_or blocks x 0 ≡ s → (b : ℕ) → b < k → Under gains peaks' x b
  pub first : (e : ℕ) → e < m → on bits u e ≡ 1 → get_or counts (16 * e + (t - 1)) 0 ≡ 1 → (x : ℕ) → has pins (get_or firsts e 0) (get_or sizes e 0) x ≡ true → Under gains peaks' x (t - 1)

-- ---- by the tables of two worlds
module _ {weights counts counts' visited visited' pins blocks blocks' firsts sizes : List ℕ} {gains gains' : List ℤ} {n m k u s t : ℕ}
    (w : World weights counts visited pins blocks firsts sizes gains n m k)
    (w' : World weights counts' visited' pins blocks' firsts sizes gains' n m k)
    (u-in : u < n) (s-in : (1 ≤ s) × (s ≤ k)) (t-in : (1 ≤ t) × (t ≤ k)) (away : s ≡ t → ⊥)
    (from : get_or blocks u 0 ≡ s) (to : get_or blocks' u 0 ≡ t)
    (others : (y : ℕ) → y < n → (y ≡ u → ⊥) → get_or blocks' y 0 ≡ get_or blocks y 0)
    {bits : List ℕ} (marked : (e : ℕ) → e < m → has pins (get_or firsts e 0) (get_or sizes e 0) u ≡ true → on bits u e ≡ 1)
    {peaks peaks' : List ℤ} (p : Peaked gains peaks n k) (l : Lifted gains' peaks peaks' counts' blocks' pins firsts sizes bits m k u s t) where
  -- if the gain of x passed a new peak, no net of u and x would be one for which the peaks were lifted
  quiet-over : (x b e : ℕ) → x < n → b < k → (x ≡ u → ⊥) → (Under gains' peaks' x b → ⊥) → e < m
      → has pins (get_or firsts e 0) (get_or sizes e 0) u ≡ true → has pins (get_or firsts e 0) (get_or sizes e 0) x ≡ true → Quiet counts' blocks s t x b e
  quiet-over x b e lx lb ne over le has-u has-x = (
    λ c q. over (l.last e le (marked e le has-u) c x has-x (others x lx ne ∙ q) b lb),
    λ c q.
        let z : t - 1 ≡ b = omega arith in
        over (subst (λ (i : ℕ). Under gains' peaks' x i) z (l.first e le (marked e le has-u) c x has-x)),
  )

  under-other : (x b : ℕ) → x < n → b < k → (x ≡ u → ⊥) → Under gains' peaks' x b
  under-other x b lx lb ne = (at (x / 64) (λ v. v.0) (p.under x b lx lb).0, at (16 + x) (λ v. v.1) (p.under x b lx lb).1)
    where
      at : (i : ℕ) → (Under gains' peaks' x b → UnderAt gains' peaks' i x b) → UnderAt gains peaks i x b → UnderAt gains' peaks' i x b
      at i part before = go (lt_z (get_or peaks' i (pos 0)) (get_or gains' (16 * x + b) (pos 0))) refl
        where
          go : (d : Bool) → lt_z (get_or peaks' i (pos 0)) (get_or gains' (16 * x + b) (pos 0)) ≡ d → UnderAt gains' peaks' i x b
          go false q = q
          go true q = l.higher.kept (get_or gains' (16 * x + b) (pos 0)) i
              (not-below (get_or peaks i (pos 0)) (get_or gains (16 * x + b) (pos 0)) (get_or gains' (16 * x + b) (pos 0)) before
              (falls w w' u-in s-in t-in away from to others x b lx lb ne (λ e le. quiet-over x b e lx lb ne (λ v. true≢false (sym q ∙ part v)) le)))

  pub peaked-world : Peaked gains' peaks' n k
  peaked-world = record { len = l.higher.len ∙ p.len; under = λ x b lx lb. go x b lx lb (ℕ_discrete x u) }
    where
      go : (x b : ℕ) → x < n → b < k → Dec (x ≡ u) → Under gains' peaks' x b
      go x b lx lb (yes q) = subst (λ (y : ℕ). Under gains' peaks' y b) (sym q) (l.own b lb)
      go x b lx lb (no q) = under-other x b lx lb q

-- ---- by sound tables
module _ {h : Hypergraph} {cs : List Contraction} {block : ℕ → ℕ} {T : Tables} (s : Sound h cs block T) {u t : ℕ} (o : Open T.blocks T.n T.k u t)
    {counts visited blocks weights aboves loads loaded : List ℕ} {gains : List ℤ} {total : ℕ}
    (s' : Sound h cs (place block (u + 1) t) (tables counts visited gains T.pins T.sizes T.bits blocks weights aboves loads T.net_weights T.firsts loaded T.n T.m T.k total)) where
  up-on : above cs (u + 1) ≡ 0
  up-on = on-board s u o.u-in o.on

  pub pin-marked : (e : ℕ) → e < T.m → has T.pins (get_or T.firsts e 0) (get_or T.sizes e 0) u ≡ true → on T.bits u e ≡ 1
  pin-marked e le q = eqb-true (on T.bits u e) 1 (bit_is s u e o.u-in le up-on ∙ sym (has-pin s.follows.says e le u) ∙ q)

  pub own_in : (1 ≤ get_or T.blocks u 0) × (get_or T.blocks u 0 ≤ T.k)
  own_in = (o.on, omega (arith, own_block s u o.u-in, (in-range s u o.u-in (here-board s u o.u-in o.on)).1))

  pub own-after : get_or blocks u 0 ≡ t
  own-after = own_block s' u o.u-in ∙ place_at block (u + 1) t

  pub block-kept : (y : ℕ) → y < T.n → (y ≡ u → ⊥) → get_or blocks y 0 ≡ get_or T.blocks y 0
  block-kept y l ne = own_block s' y l ∙ place-off block (u + 1) t (y + 1) (λ q. ne (omega arith)) ∙ sym (own_block s y l)

  pub peaked-move : {peaks peaks' : List ℤ} → Peaked T.gains peaks T.n T.k
      → Lifted gains peaks peaks' counts blocks T.pins T.firsts T.sizes T.bits T.m T.k u (get_or T.blocks u 0) t
      → Peaked gains peaks' T.n T.k
  peaked-move p l = peaked-world s.follows.world s'.follows.world o.u-in own_in o.t-in o.away refl own-after block-kept pin-marked p l
