-- The row of a pin that moves: raised by one number. Rests on Touch.
use Rattle.std.specs.Prelude.{ℕ, ◌+◌, ◌*◌, ◌^◌, ◌<◌, ◌≤◌, ◌≡◌, refl, List, ℤ, pos, nat_abs, ◌-ℤ◌}
use Rattle.std.proofs.Common.{sym, ◌∙◌, arith, to_z, of_z}
use Rattle.std.specs.Int.Signed.{mag}
use Rattle.std.specs.Int.{w32}
use Rattle.laws.specs.Integer.{eq-by, sub_is, pos-is, nat_abs-diff, read32}
use Rattle.connectivity.specs.Share.{when, when-le}
use Rattle.connectivity.specs.Raised.{Raised}
use Rattle.connectivity.specs.Matrix.{KeptGains}
use Rattle.connectivity.specs.Change.{when-no}
use Rattle.connectivity.specs.Touch.{Room}

-- what each gain of a pin changes by when it moves, where the block that it leaves counted `fa` and the other `fb`: the net's share in the gain of
-- the way back
abbrev pub way_back : (fa fb w : ℕ) → ℤ
way_back fa fb w = pos (when fb 0 w) -ℤ pos (when fa 1 w)

-- where as much is freed as drawn
pub back-even : (fa fb w : ℕ) {f d : ℕ} → f ≡ when fb 0 w → d ≡ when fa 1 w → f ≡ d → way_back fa fb w ≡ pos 0
back-even fa fb w {f} ef ed e = rw (← ef, ← ed, ← e) (eq-by _ _ (omega (arith, sub_is (pos f) (pos f), pos-is f, pos-is 0)))

-- where neither count is critical
pub back-idle : (fa fb w : ℕ) → 2 < fa → 1 < fb → way_back fa fb w ≡ pos 0
back-idle fa fb w ha hb = back-even fa fb w refl refl (when-no fb 0 w (λ z. omega arith) ∙ sym (when-no fa 1 w (λ z. omega arith)))

pub raised-level : {u v : ℤ} {row k : ℕ} {g g' : List ℤ} → u ≡ v → Raised (λ _. u) row k g g' → Raised (λ _. v) row k g g'
raised-level {row = row} {k = k} {g = g} {g' = g'} e r = rw (← e) r

-- `own_moved`: the difference `r` that is added, read back from its bits
module _ {f d : ℕ} (fa fb w : ℕ) (r : ℤ) (fr : mag r < 2 ^ 31) (er : r ≡ pos f -ℤ pos d) (ef : f ≡ when fb 0 w) (ed : d ≡ when fa 1 w) where
  pub room_back : {g : List ℤ} {x k : ℕ} → Room g x k w → Room g x k (nat_abs (to_z w32 (of_z w32 r)))
  room_back o = record {
    fit = o.fit;
    few = o.few;
    weight = rw (read32 r fr, er) (nat_abs-diff f d 1000 (omega (arith, ef, when-le fb 0 w, o.weight)) (omega (arith, ed, when-le fa 1 w, o.weight)));
    small = o.small;
  }

  pub raised-back : {row k : ℕ} {g g' : List ℤ} → Raised (λ _. to_z w32 (of_z w32 r)) row k g g' → Raised (λ _. way_back fa fb w) row k g g'
  raised-back u = raised-level (read32 r fr ∙ er ∙ cc (ef, ed)) u

-- a row in use
pub kept_row : {f : ℕ → ℤ} {n k x : ℕ} {g g' : List ℤ} → x < n → k ≤ 16 → Raised f (16 * x) k g g' → KeptGains n k g g'
kept_row {x = x} hx few r = record {
  gains-len = r.len;
  gains-past = λ y j l u. r.outside (16 * y + j) (λ h. omega arith);
  gains-over = λ y j l u. r.outside (16 * y + j) (λ h. omega arith);
}
