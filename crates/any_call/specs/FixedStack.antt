-- Who is fixed with the contractions on a running sale's stack: what `fixed_in` needs, and a call that goes by what it makes. Rests on fixed's
-- Starting and on search_calls' Cycling. Assumes nothing.
use Rattle.std.specs.Prelude.{ℕ, zero, suc, ◌-◌, ◌<◌, ◌≤◌, ◌≡◌, refl, List, [], get_or}
use Rattle.std.proofs.Math.Decide.{ℕ_discrete}
use Rattle.std.proofs.Common.{arith, sym, subst}
use Rattle.model.specs.Catalogue.{Hypergraph, vertices}
use Rattle.model.specs.Machine.{Call, Answer, State}
use Rattle.model.specs.Lent.{Two, pairs, stack_of}
use Rattle.guarantees.specs.Climbs.{Sound}
use Rattle.guarantees.specs.Splits.{Inside, AllInside}
use Rattle.guarantees.specs.Caps.{CeilingIs}
use Rattle.fixed.specs.Starting.{FixedIs, StackFits, FixedIn}
use Rattle.operations.specs.Tables.{Tables}
use Rattle.edit_calls.specs.Steps.{Runs}
use Rattle.edit_calls.specs.Called.{Called}
use Rattle.search_calls.specs.Cycling.{ReadyA}

-- each pair of a stack of the catalogue's vertices is a contraction of two of them
pair_inside : (h : Hypergraph) (xs ys : List ℕ) (len : ℕ) → AllInside h (stack_of xs ys len) → (i : ℕ) → i < len → Inside h (record { into = get_or xs i 0; gone = get_or ys i 0 })
unfolding pairs
pair_inside h xs ys zero a i l = absurd (omega arith)
pair_inside h xs ys (suc len) a i l = go (ℕ_discrete i len) (pair_inside h xs ys len a.1 i)
  where
    go : Dec (i ≡ len) → (i < len → Inside h (record { into = get_or xs i 0; gone = get_or ys i 0 })) → Inside h (record { into = get_or xs i 0; gone = get_or ys i 0 })
    go (yes e) below = rw e a.0
    go (no e) below = below (omega (arith, e))

module _ {h : Hypergraph} {s : State} {T : Tables} {S J : Two} (r : Runs h s T S J) where
  inside : AllInside h (stack_of S.xs S.ys S.len)
  inside = subst (AllInside h) (sym r.stack_is) r.legal.inside

  few : vertices h ≤ 1024
  few = omega (arith, r.sound.follows.room.few-vertices, r.sound.follows.says.all-vertices)

  pub stack-fits : StackFits S.xs S.ys S.len
  stack-fits = record {
    few = r.stack-whole.short;
    into-in = λ i l. let c = pair_inside h S.xs S.ys S.len inside i l in (c.0, omega (arith, c.1, few));
    gone-in = λ i l. let c = pair_inside h S.xs S.ys S.len inside i l in (c.2, omega (arith, c.3, few));
  }

  pub fixed-stack : {marks marks' : List ℕ} → FixedIn marks S.xs S.ys S.len marks' → FixedIs marks h [] → FixedIs marks' h (stack_of S.xs S.ys S.len)
  fixed-stack f = f.is h few (subst Sound (sym r.stack_is) r.legal.sound) inside

-- a call that goes by the marks with the stack's contractions is told with the marks of the catalogue alone; that a refused one changes nothing holds
-- for each catalogue if it holds for the one that the sale runs with
pub called-stack : {T T' : Tables} {S J J' : Two} {c : Call} {a : Answer} {average : ℕ} {marks marks' : List ℕ} (ceilings : List ℕ) → ReadyA T S J average marks → FixedIn marks S.xs S.ys S.len marks'
    → ((h : Hypergraph) (ceiling : ℕ → ℕ) → CeilingIs ceilings h ceiling → FixedIs marks' h (stack_of S.xs S.ys S.len) → Called h ceiling T T' S S J J' c a)
    → (h : Hypergraph) (ceiling : ℕ → ℕ) → CeilingIs ceilings h ceiling → FixedIs marks h [] → Called h ceiling T T' S S J J' c a
called-stack ceilings g f call h ceiling q m = record {
  steps = λ s r. (call h ceiling q (fixed-stack r f m)).steps s r;
  keeps = λ s r. (call h ceiling q (fixed-stack r f m)).keeps s r;
  unchanged = (call g.ready.h (λ t. get_or ceilings (t - 1) 0) (λ _ _ _. refl) (fixed-stack g.ready.runs f g.fixed)).unchanged;
}
