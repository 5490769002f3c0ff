-- Tables that are sound for a loaded catalogue stand, with an empty stack and an empty journal, for a fresh machine: what the first call
-- of a list needs. Rests on Steps. Assumes nothing.
use Rattle.std.proofs.Common.{arith, ap, ◌∙◌}
use Rattle.std.specs.Prelude.{◌≡◌, []}
use Rattle.model.specs.Catalogue.{Hypergraph, drafted}
use Rattle.model.specs.Machine.{fresh}
use Rattle.model.specs.Lent.{stack_of, journal_of, Two}
use Rattle.guarantees.specs.Calls.{legal-fresh}
use Rattle.operations.specs.Pairs.{pairs-none}
use Rattle.operations.specs.Tables.{Tables, Sound}
use Rattle.edit_calls.specs.Steps.{Whole, Runs, Ready}

-- arrays of full length, with nothing on them
pub record Empty (S : Two) : Type 0 where
  pub whole : Whole S
  pub none : S.len ≡ 0

pub runs-fresh : {h : Hypergraph} {T : Tables} {S J : Two} → Sound h [] (drafted h) T → Empty S → Empty J → Runs h (fresh h) T S J
unfolding fresh
runs-fresh {h} {S = S} {J = J} s e f = record {
  legal = legal-fresh h s.placed;
  listed = tt;
  apart = tt;
  sound = s;
  stack_is = ap (stack_of S.xs S.ys) e.none ∙ pairs-none (λ u v. record { into = u; gone = v }) S.xs S.ys;
  journal-is = ap (journal_of J.xs J.ys) f.none ∙ pairs-none (λ v b. record { vertex = v; from = b }) J.xs J.ys;
  stack-whole = e.whole;
  journal-whole = f.whole;
}

pub ready-fresh : {h : Hypergraph} {T : Tables} {S J : Two} → Sound h [] (drafted h) T → Empty S → Empty J → Ready T S J
ready-fresh {h} s e f = record { h = h; s = fresh h; runs = runs-fresh s e f; stack-room = omega (arith, e.none); room = omega (arith, f.none) }
