-- A: what its function needs, and that its result is the machine's. Rests on edit_calls's Called and on cycle's contract. Assumes nothing.
use Rattle.std.specs.Prelude.{ℕ, ◌-◌, ◌*◌, ◌≤◌, ◌≡◌, refl, List, [], ◌∷◌, length, get_or}
use Rattle.std.proofs.Common.{arith, sym, ap, ◌∙◌, subst}
use Rattle.model.specs.Catalogue.{Hypergraph, average_weight}
use Rattle.model.specs.Measure.{Contraction}
use Rattle.model.specs.Machine.{call_a, says_a, says_no, State, settle}
use Rattle.model.specs.Report.{refusal}
use Rattle.model.specs.Search.{refuses_a, does_a, call_under}
use Rattle.model.specs.Lent.{stack_of, Two}
use Rattle.guarantees.specs.Caps.{CeilingIs}
use Rattle.operations.specs.Pairs.{pairs-none, pairs-some}
use Rattle.index.specs.Indexed.{TablesOk}
use Rattle.operations.specs.Tables.{Tables, Sound}
use Rattle.search_moves.specs.Tabled.{rows_ok}
use Rattle.operations.specs.Keeping.{keeps-none}
use Rattle.fixed.specs.Starting.{FixedIs}
use Rattle.cycle.specs.Whole.{CycleOk, Does}
use Rattle.edit_calls.specs.Steps.{Runs, Ready}
use Rattle.edit_calls.specs.Called.{Called, Cleared, stepped, refused, settle-no, settle-yes}
use Rattle.edit_calls.specs.Contracting.{above-none, emptied, cleared-whole}

-- the average weight of a block, ⌈W/k⌉, that A is told is the catalogue's
abbrev pub AverageIs : ℕ → Hypergraph → Type 0
AverageIs x h = x ≡ average_weight h

pub record ReadyA (T : Tables) (S J : Two) (average : ℕ) (fixedmarks : List ℕ) : Type 0 where
  pub ready : Ready T S J
  pub average-is : average ≡ average_weight ready.h
  pub fixed : FixedIs fixedmarks ready.h []

-- a contraction stands
pub refused-A : {h : Hypergraph} {ceiling : ℕ → ℕ} (T : Tables) {S J : Two} → (S.len ≡ 0 → ⊥) → Called h ceiling T T S S J J call_a (says_no 16)
unfolding call_under refuses_a
refused-A {h} {ceiling} T {S} n = record {
  steps = λ s r.
      let top : Contraction = record { into = get_or S.xs (S.len - 1) 0; gone = get_or S.ys (S.len - 1) 0 } in
      let some : s.stack ≡ top ∷ stack_of S.xs S.ys (S.len - 1) = sym r.stack_is ∙ pairs-some (λ u v. record { into = u; gone = v }) S.xs S.ys S.len (above-none S.len n) in
      refused call_a (ap (λ (l : List Contraction). settle (refuses_a h s l) s (does_a h ceiling s)) some ∙ settle-no 16 s (does_a h ceiling s) (says_no 16) (λ z. omega arith)) r;
  keeps = λ s r. keeps-none T;
  unchanged = λ _. (refl, refl, refl);
}

-- none does
module _ {h : Hypergraph} {s : State} {T : Tables} {S J : Two} (r : Runs h s T S J) (z : S.len ≡ 0) where
  stack-none : s.stack ≡ []
  stack-none = sym r.stack_is ∙ ap (stack_of S.xs S.ys) z ∙ pairs-none (λ u v. record { into = u; gone = v }) S.xs S.ys

  sound_none : Sound h [] s.block T
  sound_none = subst (λ (cs : List Contraction). Sound h cs s.block T) stack-none r.sound

pub cycle-asks : {T : Tables} {S J : Two} {average : ℕ} {fixedmarks : List ℕ} → ReadyA T S J average fixedmarks → S.len ≡ 0 → CycleOk T average fixedmarks
cycle-asks g z = record {
  h = g.ready.h;
  block = g.ready.s.block;
  sound = sound_none g.ready.runs z;
  average-is = g.average-is;
  fixed = g.fixed;
}

-- after it the rows of the index can be made right
pub cycle-rows : {T T' : Tables} {S J : Two} {average joins tried kept moves places : ℕ} {ceilings fixedmarks : List ℕ} → ReadyA T S J average fixedmarks → S.len ≡ 0 → Does T average ceilings fixedmarks T' joins tried kept moves
    → 16 * T'.n ≤ places → TablesOk places (length T'.gains) T'.blocks T'.n T'.k
cycle-rows {ceilings = ceilings} g z d l = rows_ok (d.is g.ready.h (λ b. get_or ceilings (b - 1) 0) g.ready.s g.average-is (λ b _ _. refl) g.fixed (sound_none g.ready.runs z)).sound l

pub accepted-A : (h : Hypergraph) (ceiling : ℕ → ℕ) (T T' : Tables) (S J J' : Two) (average : ℕ) (ceilings fixedmarks : List ℕ) {joins tried kept moves : ℕ} → average ≡ average_weight h → CeilingIs ceilings h ceiling → FixedIs fixedmarks h [] → S.len ≡ 0 → Does T average ceilings fixedmarks T' joins tried kept moves → Cleared J J'
    → Called h ceiling T T' S S J J' call_a (says_a joins tried kept moves T'.total)
unfolding call_under refuses_a does_a refusal
accepted-A h ceiling T T' S J J' average ceilings fixedmarks qa qc qf z d c = record {
  steps = λ s r.
      let e = d.is h ceiling s qa qc qf (sound_none r z) in
      stepped call_a (does_a h ceiling s) (settle-yes (refuses_a h s s.stack) s (does_a h ceiling s) (ap (refuses_a h s) (stack-none r z))) r (record {
        sound = e.sound;
        stack_is = r.stack_is ∙ stack-none r z;
        journal-is = emptied c;
        stack-whole = r.stack-whole;
        journal-whole = cleared-whole c r.journal-whole;
      }) (sym e.answer-is) (omega (arith, c.len_is));
  keeps = λ s r. d.keeps h ceiling s.block qa qc qf (sound_none r z);
  unchanged = λ l. absurd (omega arith);
}
