-- One desk of a hall and the others: a sum over all desks is its own part and theirs, and the desk is within what the others leave. Rests on
-- hall_guarantees' Limit and Beside. Assumes nothing.
use Rattle.std.specs.Prelude.{ℕ, zero, suc, ◌+◌, ◌-◌, ◌<◌, ◌≤◌, ◌≡◌, refl, List, [], ◌∷◌, ◌++◌, length, get_or, take, drop}
use Rattle.std.proofs.Common.{arith, ap, ◌∙◌}
use Rattle.laws.specs.Fold.{sum_over}
use Rattle.model.specs.Sale.{Sale, lots_in, marks_in}
use Rattle.model.specs.Hall.{no_desk, desk_of, desk_bales, bales, lots, marks, others, beside}
use Rattle.hall_guarantees.specs.Beside.{Settled}
use Rattle.hall_guarantees.specs.Limit.{HallFine}

pub sum_one : {A : Type 0} (l : List A) (i : ℕ) (d : A) (f : A → ℕ) → i < length l → sum_over l f ≡ f (get_or l i d) + sum_over (take i l ++ drop (suc i) l) f
unfolding sum_over
sum_one [] i d f h = absurd (omega arith)
sum_one (y ∷ l) zero d f h = refl
sum_one (y ∷ l) (suc i) d f h = omega (arith, sum_one l i d f (omega arith))

module _ (limit : ℕ) (ds : List Sale) (f : HallFine limit ds) (c : ℕ) (cl : 1 ≤ c) (ch : c ≤ length ds) where
  inside : c - 1 < length ds
  inside = omega arith

  parts : (m : Sale → ℕ) → sum_over ds m ≡ m (desk_of ds c) + sum_over (others ds c) m
  parts m = let e : suc (c - 1) ≡ c = omega arith in sum_one ds (c - 1) no_desk m inside ∙ ap (λ (n : ℕ). m (desk_of ds c) + sum_over (take (c - 1) ds ++ drop n ds) m) e

  pub desk-settled : Settled (beside limit ds c) (desk_of ds c)
  unfolding bales lots marks
  desk-settled = record {
    valid = f.valid (c - 1) inside;
    under = λ t tl tu. omega (arith, f.within t tl, parts (desk_bales t));
    lots-le = omega (arith, f.lots-few, parts (λ a. lots_in a.graph));
    marks-le = omega (arith, f.marks-few, parts (λ a. marks_in a.graph));
  }
