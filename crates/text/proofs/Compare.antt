-- Two lists of bytes compared: what `==` answers is model's `same`.
use Prim.Native.Nat.{ℕ, ◌+◌, ◌-◌, ◌≤◌}
use mathlib.Core.Path.{◌≡◌, refl, ap, sym, ◌∙◌}
use mathlib.Core.List.{List, [], ◌∷◌}
use mathlib.Core.Bool.{◌&&◌}
use native.Mathlib.Omega.{arith}
use lib.ListN.{take, drop}
use lib.Seq.{slice}
use lib.Dec.{eqb}
use lib.Pointwise.{pointwise}
use Rattle.model.specs.Grammar.{same}
use Rattle.text.proofs.Walk.{slice_is}

pointwise-same : (l w : List ℕ) → pointwise eqb l w ≡ same l w
unfolding same
pointwise-same [] [] = refl
pointwise-same [] (y ∷ ys) = refl
pointwise-same (x ∷ xs) [] = refl
pointwise-same (x ∷ xs) (y ∷ ys) = ap (λ b. eqb x y && b) (pointwise-same xs ys)

pub slice-same : (s w : List ℕ) (at end : ℕ) → at ≤ end → pointwise eqb (take (end - at) (drop at s)) w ≡ same (slice at end s) w
slice-same s w at end le =
    let e : at + (end - at) ≡ end = omega arith in
    pointwise-same (take (end - at) (drop at s)) w ∙ ap (λ (l : List ℕ). same l w) (sym (slice_is at (end - at) s) ∙ ap (λ (n : ℕ). slice at n s) e)
