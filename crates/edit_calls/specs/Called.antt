-- What the functions of the calls J, S, M and B need and promise: each refines the machine's step. Rests on Steps. Assumes nothing.
use Rattle.std.specs.Prelude.{ℕ, zero, suc, ◌+◌, ◌*◌, ◌-◌, ◌<◌, ◌≤◌, ◌≡◌, refl, List, length, set}
use Rattle.std.proofs.Common.{arith, sym, ap, ◌∙◌, subst}
use Rattle.refusal.specs.Number.{number_of, number-some}
use Rattle.refusal.specs.declared.Refusal.{Refusal}
use Rattle.model.specs.Catalogue.{Hypergraph}
use Rattle.model.specs.Machine.{Call, Answer, says_no, State, Step, settle}
use Rattle.model.specs.Search.{call_under}
use Rattle.model.specs.Report.{refusal}
use Rattle.model.specs.Lent.{Two}
use Rattle.operations.specs.Pairs.{Pushed}
use Rattle.operations.specs.Tables.{Tables, Keeps}
use Rattle.edit_calls.specs.Steps.{Whole, Runs, Ready, told, told_no, Stepped, Moves, runs_call}

-- J has no use for the blocks' weights and the loaded sizes, S none for the former, M and B none for the vertices above, the loaded
-- sizes and the stack: whatever these are
pub record ReadyJ (T : List ℕ → List ℕ → Tables) (S J : Two) : Type 0 where
  pub loads : List ℕ
  pub loaded : List ℕ
  pub ready : Ready (T loads loaded) S J

pub record ReadyS (T : List ℕ → Tables) (S J : Two) : Type 0 where
  pub loads : List ℕ
  pub ready : Ready (T loads) S J

pub record ReadyM (T : List ℕ → List ℕ → Tables) (J : Two) : Type 0 where
  pub aboves : List ℕ
  pub loaded : List ℕ
  pub stack : Two
  pub ready : Ready (T aboves loaded) stack J

-- what a call under a ceiling does: whatever state of the catalogue h the sale ran in, it runs in the machine's next one, with the machine's answer, and
-- what is not in use is untouched; a refused call leaves every entry, the stack and the journal as they were
pub record Called (h : Hypergraph) (ceiling : ℕ → ℕ) (T T' : Tables) (S S' J J' : Two) (c : Call) (a : Answer) : Type 0 where
  pub steps : (s : State) → Runs h s T S J → Stepped h ceiling s c T' S' J J' a
  pub keeps : (s : State) → Runs h s T S J → Keeps T T'
  pub unchanged : 1 ≤ refusal a → (T' ≡ T) × (S' ≡ S) × (J' ≡ J)

-- one pair less, and none
pub record Popped (S S' : Two) : Type 0 where
  pub xs-same : S'.xs ≡ S.xs
  pub ys-same : S'.ys ≡ S.ys
  pub len_is : S'.len ≡ S.len - 1

pub record Cleared (J J' : Two) : Type 0 where
  pub xs-same : J'.xs ≡ J.xs
  pub ys-same : J'.ys ≡ J.ys
  pub len_is : J'.len ≡ 0

-- ---- a step of the machine, once it is known which
pub stepped : {h : Hypergraph} {ceiling : ℕ → ℕ} {s : State} {T T' : Tables} {S S' J J' : Two} {a : Answer} (c : Call) (to : Step) → call_under h ceiling s c ≡ to → Runs h s T S J → Moves h s to.state T' S' J' → a ≡ to.answer → J'.len ≤ J.len + 1
    → Stepped h ceiling s c T' S' J J' a
stepped {h} {ceiling} {s} {T' = T'} {S' = S'} {J' = J'} c to e r m q l = record {
  runs = runs_call ceiling c r (subst (λ (x : Step). Moves h s x.state T' S' J') (sym e) m);
  says = q ∙ sym (ap (λ (x : Step). x.answer) e);
  longer = l;
}

-- ---- a refused call
pub refused : {h : Hypergraph} {ceiling : ℕ → ℕ} {s : State} {T : Tables} {S J : Two} {a : Answer} (c : Call) → call_under h ceiling s c ≡ record { state = s; answer = a } → Runs h s T S J → Stepped h ceiling s c T S J J a
refused c e r = stepped c _ e r (record { sound = r.sound; stack_is = r.stack_is; journal-is = r.journal-is; stack-whole = r.stack-whole; journal-whole = r.journal-whole }) refl (omega arith)

-- by a refusal the answer is its number
pub told_refused : {h : Hypergraph} {ceiling : ℕ → ℕ} {T T' : Tables} {S S' J J' : Two} {c : Call} (e : Refusal) (a : Answer) → Called h ceiling T T' S S' J J' c (told (number_of e) a) → Called h ceiling T T' S S' J J' c (says_no (number_of e))
told_refused {h} {ceiling} {T} {T'} {S} {S'} {J} {J'} {c} e a = subst (λ (x : Answer). Called h ceiling T T' S S' J J' c x) (told_no (number_of e) a (number-some e))

pub settle-no : (q : ℕ) (s : State) (done : Step) (a : Answer) → (q ≡ 0 → ⊥) → settle q s done ≡ record { state = s; answer = told q a }
unfolding settle
settle-no zero s done a n = absurd (n refl)
settle-no (suc q) s done a n = refl

pub settle-yes : (q : ℕ) (s : State) (done : Step) → q ≡ 0 → settle q s done ≡ done
unfolding settle
settle-yes zero s done e = refl
settle-yes (suc q) s done e = absurd (omega arith)

-- what the code reads and writes lies within the tables, and the stack and the journal
pub record Roomy (T : Tables) (S J : Two) : Type 0 where
  pub blocks-fit : T.n ≤ length T.blocks
  pub weights-fit : T.n ≤ length T.weights
  pub gains-fit : 16 * T.n ≤ length T.gains
  pub loads-fit : length T.loads ≡ 16
  pub few-blocks : T.k ≤ 16
  pub few-vertices : T.n ≤ 1024
  pub stack-short : S.len < 512
  pub journal-short : J.len < 512
  pub stack-whole : Whole S
  pub journal-whole : Whole J

pub roomy : {T : Tables} {S J : Two} → Ready T S J → Roomy T S J
roomy g = record {
  blocks-fit = g.runs.sound.follows.world.lists.blocks-fit;
  weights-fit = g.runs.sound.weights-fit;
  gains-fit = g.runs.sound.follows.world.frame.gains-fit;
  loads-fit = g.runs.sound.loads-fit;
  few-blocks = g.runs.sound.follows.world.frame.few;
  few-vertices = g.runs.sound.follows.world.frame.few-vertices;
  stack-short = g.stack-room;
  journal-short = g.room;
  stack-whole = g.runs.stack-whole;
  journal-whole = g.runs.journal-whole;
}

-- a pushed pair, by what its numbers are
pub pushed-as : {xs ys xs' ys' : List ℕ} {len len' x y u v : ℕ} → Pushed xs ys len x y xs' ys' len' → x ≡ u → y ≡ v → Pushed xs ys len u v xs' ys' len'
pushed-as {xs} {ys} {len = len} p qx qy = record { xs-are = p.xs-are ∙ ap (set xs len) qx; ys-are = p.ys-are ∙ ap (set ys len) qy; len_is = p.len_is }
