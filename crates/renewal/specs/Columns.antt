-- A table written entry by entry, from the front or from the back. Assumes nothing.
use Rattle.std.specs.Prelude.{ℕ, ◌+◌, ◌≤◌, ◌<◌, ◌≡◌, refl, List, length, get_or, set}
use Rattle.std.proofs.Math.Decide.{ℕ_discrete}
use Rattle.std.proofs.Common.{arith, ◌∙◌, length-set, get_or-set_same, get_or-set_other}

-- the entries from `low` to before `high` are told, and the others stand as they stood
pub record Wrote (low high : ℕ) (value : ℕ → ℕ) (old new : List ℕ) : Type 0 where
  pub len : length new ≡ length old
  pub told : (i : ℕ) → low ≤ i → i < high → get_or new i 0 ≡ value i
  pub before : (i : ℕ) → i < low → get_or new i 0 ≡ get_or old i 0
  pub behind : (i : ℕ) → high ≤ i → get_or new i 0 ≡ get_or old i 0

pub wrote_none : (n : ℕ) (value : ℕ → ℕ) (l : List ℕ) → Wrote n n value l l
wrote_none n value l = record { len = refl; told = λ i a b. absurd (omega arith); before = λ i a. refl; behind = λ i a. refl }

pub wrote-all : {low high high' : ℕ} {value : ℕ → ℕ} {old new : List ℕ} → high ≡ high' → Wrote low high value old new → Wrote low high' value old new
wrote-all q w = rw (← q) w

module _ {low high : ℕ} {value : ℕ → ℕ} {old new : List ℕ} (w : Wrote low high value old new) where
  -- one entry more at the end
  pub wrote-up : (x : ℕ) → low ≤ high → high < length old → x ≡ value high → Wrote low (high + 1) value old (set new high x)
  wrote-up x le l e = record {
    len = length-set new high x ∙ w.len;
    told = λ i a b. go i a b (ℕ_discrete i high);
    before = λ i a. get_or-set_other new high i x 0 (λ q. omega arith) ∙ w.before i a;
    behind = λ i a. get_or-set_other new high i x 0 (λ q. omega arith) ∙ w.behind i (omega arith);
  }
    where
      go : (i : ℕ) → low ≤ i → i < high + 1 → Dec (i ≡ high) → get_or (set new high x) i 0 ≡ value i
      go i a b (yes q) = rw q (get_or-set_same new high x 0 (omega (arith, w.len)) ∙ e)
      go i a b (no q) = get_or-set_other new high i x 0 q ∙ w.told i a (omega arith)

-- one entry more at the front
pub wrote-down : {low high : ℕ} {value : ℕ → ℕ} {old new : List ℕ} → Wrote (low + 1) high value old new → (x : ℕ) → low < high → low < length old → x ≡ value low → Wrote low high value old (set new low x)
wrote-down {low} {high} {value} {old} {new} w x le l e = record {
  len = length-set new low x ∙ w.len;
  told = λ i a b. go i a b (ℕ_discrete i low);
  before = λ i a. get_or-set_other new low i x 0 (λ q. omega arith) ∙ w.before i (omega arith);
  behind = λ i a. get_or-set_other new low i x 0 (λ q. omega arith) ∙ w.behind i a;
}
  where
    go : (i : ℕ) → low ≤ i → i < high → Dec (i ≡ low) → get_or (set new low x) i 0 ≡ value i
    go i a b (yes q) = rw q (get_or-set_same new low x 0 (omega (arith, w.len)) ∙ e)
    go i a b (no q) = get_or-set_other new low i x 0 q ∙ w.told i (omega arith) b
