-- A running sale stands for a state of the machine, and what it means that a call steps it: the tables, the stack and the journal go
-- over to the machine's next state, the answer is the machine's, and what is not in use is untouched. Rests on Tables and Pairs. Assumes nothing.
use Rattle.std.specs.Prelude.{ℕ, zero, suc, ◌+◌, ◌<◌, ◌≤◌, ◌≡◌, refl, length}
use Rattle.model.specs.Catalogue.{Hypergraph}
use Rattle.model.specs.Machine.{Call, Answer, says_no, State}
use Rattle.model.specs.Search.{call_under}
use Rattle.model.specs.Lent.{Two, stack_of, journal_of}
use Rattle.guarantees.specs.Calls.{Legal, legal-call}
use Rattle.guarantees.specs.StateBounds.{Listed, listed-call}
use Rattle.guarantees.specs.Reversals.{Apart, apart-call}
use Rattle.operations.specs.Tables.{Tables, Sound}

-- the arrays' lengths, and that no more of them is in use
pub record Whole (S : Two) : Type 0 where
  pub xs-whole : length S.xs ≡ 512
  pub ys-whole : length S.ys ≡ 512
  pub short : S.len ≤ 512

-- the tables T, the stack S and the journal J stand for the state s
pub record Runs (h : Hypergraph) (s : State) (T : Tables) (S J : Two) : Type 0 where
  pub legal : Legal h s
  pub listed : Listed h s.journal
  pub apart : Apart s.block s.journal
  pub sound : Sound h s.stack s.block T
  pub stack_is : stack_of S.xs S.ys S.len ≡ s.stack
  pub journal-is : journal_of J.xs J.ys J.len ≡ s.journal
  pub stack-whole : Whole S
  pub journal-whole : Whole J

-- what a call's function needs: some state, and a place left on the stack and on the journal
pub record Ready (T : Tables) (S J : Two) : Type 0 where
  pub h : Hypergraph
  pub s : State
  pub runs : Runs h s T S J
  pub stack-room : S.len < 512
  pub room : J.len < 512

-- an answer, by the number of its refusal
abbrev pub told : ℕ → Answer → Answer
told zero a = a
told (suc q) a = says_no (suc q)

pub told_no : (q : ℕ) (a : Answer) → (q ≡ 0 → ⊥) → told q a ≡ says_no q
told_no zero a z = absurd (z refl)
told_no (suc q) a z = refl

-- what a call under a ceiling does, for whatever state the sale ran in
pub record Stepped (h : Hypergraph) (ceiling : ℕ → ℕ) (s : State) (c : Call) (T' : Tables) (S' J J' : Two) (a : Answer) : Type 0 where
  pub runs : Runs h (call_under h ceiling s c).state T' S' J'
  pub says : a ≡ (call_under h ceiling s c).answer
  pub longer : J'.len ≤ J.len + 1

-- the part of it that the tables, the stack and the journal decide
pub record Moves (h : Hypergraph) (s s' : State) (T' : Tables) (S' J' : Two) : Type 0 where
  pub sound : Sound h s'.stack s'.block T'
  pub stack_is : stack_of S'.xs S'.ys S'.len ≡ s'.stack
  pub journal-is : journal_of J'.xs J'.ys J'.len ≡ s'.journal
  pub stack-whole : Whole S'
  pub journal-whole : Whole J'

pub runs_call : {h : Hypergraph} {s : State} {T T' : Tables} {S S' J J' : Two} (ceiling : ℕ → ℕ) (c : Call) → Runs h s T S J → Moves h s (call_under h ceiling s c).state T' S' J' → Runs h (call_under h ceiling s c).state T' S' J'
runs_call {h} {s} ceiling c r m = record {
  legal = legal-call h ceiling s c r.legal;
  listed = listed-call h ceiling s c r.listed;
  apart = apart-call h ceiling s c r.apart;
  sound = m.sound;
  stack_is = m.stack_is;
  journal-is = m.journal-is;
  stack-whole = m.stack-whole;
  journal-whole = m.journal-whole;
}
