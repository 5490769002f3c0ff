-- The incidence matrix `Q`: `Q e y` is the block, from 1, in which the net `e` counts its pin `y`, and 0 if `y` is no pin of `e`.
-- What the counts, the masks and the gains are for it. Nets and vertices are counted from 0. Assumes nothing.
use Rattle.std.specs.Prelude.{ℕ, ◌+◌, ◌*◌, ◌-◌, ◌<◌, ◌≤◌, ◌≡◌, cond, List, eqb, ltb, length, get_or, ℤ, pos, ◌-ℤ◌}
use Rattle.laws.specs.Choice.{one}
use Rattle.laws.specs.Sum.{count_below}
use Rattle.laws.specs.Place.{place}
use Rattle.laws.specs.IntegerSum.{sum_z}
use Rattle.laws.specs.Bit.{bit}
use Rattle.connectivity.specs.Share.{when}
use Rattle.connectivity.specs.Raised.{at}

-- how many of the `n` vertices a net, whose row is `r`, counts in the block `b`
unfoldable pub row_count : ℕ → (ℕ → ℕ) → ℕ → ℕ
row_count n r b = count_below n (λ y. eqb (r y) b)

-- what a net of weight `w` and of the counts `f` adds to the gain of a vertex that it counts in the block `a` (0: no pin) for the block `c`
unfoldable pub share_of : (ℕ → ℕ) → ℕ → ℕ → ℕ → ℤ
share_of f w a c = cond (eqb a 0) (pos 0) (cond (eqb c a) (pos 0) (pos (when (f a) 1 w) -ℤ pos (when (f c) 0 w)))

abbrev pub row_share : ℕ → ℕ → (ℕ → ℕ) → ℕ → ℕ → ℤ
row_share n w r y c = share_of (row_count n r) w (r y) c

-- the matrix with the pin `x` of the net `e` counted in `b`
unfoldable pub set_pin : (ℕ → ℕ → ℕ) → ℕ → ℕ → ℕ → ℕ → ℕ → ℕ
set_pin Q e x b d = cond (eqb d e) (place (Q e) x b) (Q d)

-- the matrix with the row `r` for the net `e`
unfoldable pub set_row : (ℕ → ℕ → ℕ) → ℕ → (ℕ → ℕ) → ℕ → ℕ → ℕ
set_row Q e r d = cond (eqb d e) r (Q d)

-- the counts and the masks of `m` nets over `n` vertices and `k` blocks
pub record Tally (Q : ℕ → ℕ → ℕ) (n m k : ℕ) (counts visited : List ℕ) : Type 0 where
  pub block-le : (e y : ℕ) → e < m → y < n → Q e y ≤ k
  pub counted : (e j : ℕ) → e < m → j < k → get_or counts (16 * e + j) 0 ≡ row_count n (Q e) (j + 1)
  pub shown : (e j : ℕ) → e < m → j < k → bit (get_or visited e 0) j ≡ one (ltb 0 (row_count n (Q e) (j + 1)))

-- and the gains
pub record Stands (Q : ℕ → ℕ → ℕ) (n m k : ℕ) (weights counts visited : List ℕ) (gains : List ℤ) : Type 0 where
  pub tally : Tally Q n m k counts visited
  pub gained : (y j : ℕ) → y < n → j < k → at gains (16 * y + j) ≡ sum_z (λ e. row_share n (get_or weights e 0) (Q e) y (j + 1)) m

-- no entry that is not in use has changed: blocks past `k`, nets past `m`, vertices past `n`
pub record KeptTally (m k : ℕ) (cs cs' vs vs' : List ℕ) : Type 0 where
  pub counts-len : length cs' ≡ length cs
  pub masks-len : length vs' ≡ length vs
  pub counts_past : (e j : ℕ) → k ≤ j → j < 16 → get_or cs' (16 * e + j) 0 ≡ get_or cs (16 * e + j) 0
  pub counts-over : (i : ℕ) → 16 * m ≤ i → get_or cs' i 0 ≡ get_or cs i 0
  pub masks-past : (e j : ℕ) → k ≤ j → bit (get_or vs' e 0) j ≡ bit (get_or vs e 0) j
  pub masks-over : (e : ℕ) → m ≤ e → get_or vs' e 0 ≡ get_or vs e 0

pub record KeptGains (n k : ℕ) (g g' : List ℤ) : Type 0 where
  pub gains-len : length g' ≡ length g
  pub gains-past : (y j : ℕ) → k ≤ j → j < 16 → at g' (16 * y + j) ≡ at g (16 * y + j)
  pub gains-over : (y j : ℕ) → n ≤ y → j < 16 → at g' (16 * y + j) ≡ at g (16 * y + j)

pub record Kept (n m k : ℕ) (cs cs' vs vs' : List ℕ) (g g' : List ℤ) : Type 0 where
  pub of-tally : KeptTally m k cs cs' vs vs'
  pub of-gains : KeptGains n k g g'
