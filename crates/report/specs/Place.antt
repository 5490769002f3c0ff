-- The place of a vertex's join on the stack, and that it bounds the climb from the vertex: each vertex above was joined later. Rests on
-- guarantees' Climbs. Assumes nothing.
use Rattle.std.specs.Prelude.{ℕ, suc, ◌≡◌, refl, cond, List, [], ◌∷◌, eqb}
use Rattle.std.proofs.Math.Decide.{ℕ_discrete}
use Rattle.std.proofs.Common.{sym, ap, ◌∙◌}
use Rattle.laws.specs.Choice.{cond_yes, cond_no}
use Rattle.model.specs.Measure.{Contraction, above, climb, representative}
use Rattle.guarantees.specs.Climbs.{Sound, climb-on, climb-join, representative-on, representative-join, representative-self}

-- counted from the top, where the latest join has place 1; for a vertex on the board it is how many joins stand
unfoldable pub join_place : List Contraction → ℕ → ℕ
join_place [] v = 0
join_place (c ∷ cs) v = cond (eqb c.gone v) 1 (suc (join_place cs v))

-- a climb of as many steps ends
pub place-enough : (cs : List Contraction) → Sound cs → (v : ℕ) → climb (join_place cs v) cs v ≡ representative cs v
unfolding join_place representative
place-enough [] s v = refl
place-enough (c ∷ cs) s v = by (place-enough cs s.1 v) (ℕ_discrete c.gone v)
  where
    step : (f : ℕ) → climb f cs v ≡ representative cs v → climb (suc f) (c ∷ cs) v ≡ representative (c ∷ cs) v
    step f e =
        climb-join cs c s.0 f v (ap (above cs) e ∙ representative-on cs s.1 v)
        ∙ ap (λ (r : ℕ). cond (eqb r c.gone) c.into r) e
        ∙ sym (representative-join cs c s v)

    by : climb (join_place cs v) cs v ≡ representative cs v → Dec (c.gone ≡ v) → climb (join_place (c ∷ cs) v) (c ∷ cs) v ≡ representative (c ∷ cs) v
    by ih (yes q) =
        let on : above cs v ≡ 0 = ap (above cs) (sym q) ∙ s.0.gone-on in
        ap (λ (f : ℕ). climb f (c ∷ cs) v) (cond_yes c.gone v 1 (suc (join_place cs v)) q) ∙ step 0 (climb-on 0 cs v on ∙ sym (representative-self cs v on))
    by ih (no n) = ap (λ (f : ℕ). climb f (c ∷ cs) v) (cond_no c.gone v 1 (suc (join_place cs v)) n) ∙ step (join_place cs v) ih
