-- A climb through the table of the vertices above is model's climb through the stack, step by step. Rests on guarantees' Climbs.
use Prim.Native.Nat.{ℕ, zero, suc, ◌+◌, ◌-◌, ◌<◌, ◌≤◌}
use native.Mathlib.Omega.{arith}
use mathlib.Core.Path.{◌≡◌, refl, sym, ap, ◌∙◌}
use mathlib.Core.List.{List}
use lib.ListN.{get_or}
use Rattle.laws.specs.Choice.{cond_no}
use Rattle.model.specs.Measure.{Contraction, above, climb}
use Rattle.guarantees.specs.Climbs.{climb-on}
use Rattle.climbs.specs.Above.{Aboves}

module _ {cs : List Contraction} {n : ℕ} {aboves : List ℕ} (t : Aboves cs n aboves) (v : ℕ) (low : 1 ≤ v) (high : v ≤ n) where
  hangs-at : get_or aboves (v - 1) 0 ≡ above cs v
  hangs-at = let e : v - 1 + 1 ≡ v = omega arith in t.is (v - 1) (omega arith) ∙ ap (above cs) e

  pub climb-top : (steps : ℕ) → get_or aboves (v - 1) 0 ≡ 0 → v ≡ climb steps cs v
  climb-top steps q = sym (climb-on steps cs v (sym hangs-at ∙ q))

  pub climb-more : (steps r : ℕ) → 0 < steps → (get_or aboves (v - 1) 0 ≡ 0 → ⊥) → r ≡ climb (steps - 1) cs (get_or aboves (v - 1) 0) → r ≡ climb steps cs v
  unfolding climb
  climb-more zero r l q e = absurd (omega arith)
  climb-more (suc steps) r l q e =
      let p : suc steps - 1 ≡ steps = omega arith in
      e ∙ ap (λ (k : ℕ). climb k cs (get_or aboves (v - 1) 0)) p ∙ ap (climb steps cs) hangs-at ∙ sym (cond_no (above cs v) 0 v (climb steps cs (above cs v)) (λ z. q (hangs-at ∙ z)))

pub climb-none : (steps : ℕ) (cs : List Contraction) (v : ℕ) → steps ≡ 0 → v ≡ climb steps cs v
unfolding climb
climb-none steps cs v q = rw q refl
