-- The marks that joins took out of a net, as pins keeps them and as model says. Rests on pins' Stack. Assumes nothing.
use Rattle.std.specs.Prelude.{◌≡◌, refl, Bool, cond, ◌&&◌, List, [], ◌∷◌, ℕ}
use Rattle.std.proofs.Common.{ap, ap₂, ◌∙◌}
use Rattle.model.specs.Catalogue.{Net}
use Rattle.model.specs.Measure.{Contraction, pin}
use Rattle.model.specs.Memory.{taken_out}
use Rattle.guarantees.specs.Climbs.{Sound}
use Rattle.pins.specs.Stack.{loaded_pin, past, row-pin}

pub past-taken : (e : Net) (cs : List Contraction) → Sound cs → past (loaded_pin e) cs ≡ taken_out cs e
unfolding past taken_out
past-taken e [] s = refl
past-taken e (c ∷ cs) s =
    ap₂ (λ (a b : Bool). cond (a && b) (c.gone ∷ past (loaded_pin e) cs) (past (loaded_pin e) cs)) (row-pin e cs s.1 c.into s.0.into-on) (row-pin e cs s.1 c.gone s.0.gone-on)
    ∙ ap (λ (l : List ℕ). cond (pin cs e c.into && pin cs e c.gone) (c.gone ∷ l) l) (past-taken e cs s.1)
