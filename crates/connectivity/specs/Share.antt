-- What one net adds to the gain of a move, by the table of counts. Blocks count from 0 here. Assumes nothing.
use Rattle.std.specs.Prelude.{ℕ, zero, suc, ◌+◌, ◌-◌, ◌*◌, ◌/◌, ◌<◌, ◌≤◌, ◌≡◌, refl, Bool, true, false, cond, List, eqb, get_or, ℤ, pos, nat_abs, ◌-ℤ◌}
use Rattle.std.proofs.Common.{ap, arith, ne_eqb}
use Rattle.laws.specs.Integer.{nat_abs-diff}

-- the weight `w` if the count is `want`, else nothing
unfoldable pub when : ℕ → ℕ → ℕ → ℕ
when n want w = cond (eqb n want) w 0

-- what a net of weight `w`, whose counts start at `crow`, adds to the gain of a vertex of the block `own` for the block `x`
unfoldable pub share : List ℕ → ℕ → ℕ → ℕ → ℕ → ℤ
share counts crow own w x =
    cond (eqb x own) (pos 0) (pos (when (get_or counts (crow + own) 0) 1 w) -ℤ pos (when (get_or counts (crow + x) 0) 0 w))

-- the difference of the halves f and d, and 0 at the own block
pub share-is : (counts : List ℕ) (crow own w x f d : ℕ) (s r : ℤ) → f ≡ when (get_or counts (crow + own) 0) 1 w →
    d ≡ when (get_or counts (crow + x) 0) 0 w → s ≡ pos f -ℤ pos d → r ≡ cond (eqb x own) (pos 0) s → r ≡ share counts crow own w x
unfolding share
share-is counts crow own w x f d s r ef ed es er = rw (er, es, ef, ed) refl

pub when-le : (n want w : ℕ) → when n want w ≤ w
unfolding when
when-le n want w = by (eqb n want)
  where
    by : (t : Bool) → cond t w 0 ≤ w
    by true = omega arith
    by false = omega arith

-- `when` for the count 0, without a test
pub when-none : (n w : ℕ) → n < 65536 → (65536 - n) / 65536 * w ≡ when n 0 w
unfolding when
when-none zero w h = omega arith
when-none (suc n) w h = rw (ne_eqb (suc n) 0 (λ q. omega arith)) (omega (arith, ap (λ (t : ℕ). t * w) {x = (65536 - suc n) / 65536} {y = 0} (omega arith)))

pub share-le : (counts : List ℕ) (crow own w x : ℕ) → nat_abs (share counts crow own w x) ≤ w
unfolding share
share-le counts crow own w x = by (eqb x own)
  where
    by : (t : Bool) → nat_abs (cond t (pos 0) (pos (when (get_or counts (crow + own) 0) 1 w) -ℤ pos (when (get_or counts (crow + x) 0) 0 w))) ≤ w
    by true = omega arith
    by false = nat_abs-diff (when (get_or counts (crow + own) 0) 1 w) (when (get_or counts (crow + x) 0) 0 w) w (when-le (get_or counts (crow + own) 0) 1 w) (when-le (get_or counts (crow + x) 0) 0 w)
