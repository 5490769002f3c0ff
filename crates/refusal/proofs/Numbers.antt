-- No refusal has the number 0, which stands for none. Rests on Number of specs.
use Rattle.std.specs.Prelude.{◌≡◌}
use Rattle.refusal.specs.declared.Refusal.{Refusal}
use Rattle.refusal.specs.Number.{number_of, number-some}

pub never-none : (e : Refusal) → number_of e ≡ 0 → ⊥
never-none = number-some
