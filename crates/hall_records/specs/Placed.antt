-- Records written each at a place of its own, one after another. Assumes nothing.
use Prim.Native.Nat.{ℕ, zero, suc, ◌<◌}
use Rattle.std.proofs.Common.{not-suc-le-zero, lt-suc_self, arith, sym, ap, ◌∙◌, length-set, get_or-set_same}
use Rattle.std.proofs.Math.Decide.{ℕ_discrete}
use Rattle.std.specs.Prelude.{◌≡◌, length, get_or, set}
use Rattle.std.proofs.Math.Path.{refl}
use mathlib.Core.List.{List}
use Rattle.std.proofs.Math.Seq.{get_or-set_other}
use Rattle.records.specs.declared.Lot.{Lot}
use Rattle.records.specs.Fields.{blank}

-- old once the first n records of new are written, each at its place
unfoldable pub placed : ℕ → List ℕ → List Lot → List Lot → List Lot
placed zero places new old = old
placed (suc i) places new old = set (placed i places new old) (get_or places i 0) (get_or new i blank)

pub placed-none : (places : List ℕ) (new old : List Lot) → placed zero places new old ≡ old
unfolding placed
placed-none places new old = refl

-- one more record
pub placed-more : (i : ℕ) (places : List ℕ) (new old : List Lot) → set (placed i places new old) (get_or places i 0) (get_or new i blank) ≡ placed (suc i) places new old
unfolding placed
placed-more i places new old = refl

pub length-placed : (n : ℕ) (places : List ℕ) (new old : List Lot) → length (placed n places new old) ≡ length old
unfolding placed
length-placed zero places new old = refl
length-placed (suc i) places new old = length-set (placed i places new old) (get_or places i 0) (get_or new i blank) ∙ length-placed i places new old

module _ (places : List ℕ) (new old : List Lot) (k : ℕ) where
  -- where each record is told by its place alone, a place that comes has its record
  pub placed-there : (value : ℕ → Lot) (n : ℕ) → ((j : ℕ) → j < n → get_or new j blank ≡ value (get_or places j 0)) → k < length old → (j : ℕ) → j < n → get_or places j 0 ≡ k
      → get_or (placed n places new old) k blank ≡ value k
  unfolding placed
  placed-there value zero told l j u e = absurd (not-suc-le-zero u)
  placed-there value (suc n) told l j u e = go (ℕ_discrete k (get_or places n 0)) (λ v. placed-there value n (λ i w. told i (omega (arith, w))) l j v e)
    where
      before : List Lot
      before = placed n places new old

      go : Dec (k ≡ get_or places n 0) → (j < n → get_or before k blank ≡ value k) → get_or (set before (get_or places n 0) (get_or new n blank)) k blank ≡ value k
      go (yes q) rest =
          ap (λ (i : ℕ). get_or (set before (get_or places n 0) (get_or new n blank)) i blank) q
          ∙ get_or-set_same before (get_or places n 0) (get_or new n blank) blank (omega (arith, l, q, length-placed n places new old))
          ∙ told n (lt-suc_self n)
          ∙ ap value (sym q)
      go (no q) rest =
          get_or-set_other before (get_or places n 0) k (get_or new n blank) blank q
          ∙ rest (below (ℕ_discrete j n))
        where
          below : Dec (j ≡ n) → j < n
          below (yes r) = absurd (q (sym e ∙ ap (λ (i : ℕ). get_or places i 0) r))
          below (no r) = omega (arith, u, r)

  -- a place that does not come keeps what it held
  pub placed-elsewhere : (n : ℕ) → ((j : ℕ) → j < n → k ≡ get_or places j 0 → ⊥) → get_or (placed n places new old) k blank ≡ get_or old k blank
  unfolding placed
  placed-elsewhere zero never = refl
  placed-elsewhere (suc n) never =
      get_or-set_other (placed n places new old) (get_or places n 0) k (get_or new n blank) blank (never n (lt-suc_self n)) ∙ placed-elsewhere n (λ j u. never j (omega (arith, u)))
