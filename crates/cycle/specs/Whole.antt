-- A as a whole on sound tables without contractions: contractions, the way back, then P; equal to what model says that A does and answers.
-- Rests on coarsening's Coarsen, Refine and walk's Polished. Assumes nothing.
use Rattle.std.specs.Prelude.{ℕ, ◌-◌, ◌≤◌, ◌≡◌, refl, List, [], length, get_or}
use Rattle.std.proofs.Common.{arith, sym, ap, ◌∙◌, subst}
use Rattle.model.specs.Catalogue.{Hypergraph, vertices, average_weight}
use Rattle.model.specs.Measure.{Contraction}
use Rattle.model.specs.Machine.{State, Step, says_a}
use Rattle.model.specs.Search.{Coarse, Fine, board_size, coarsen, refine, does_a}
use Rattle.model.specs.Lent.{stack_of}
use Rattle.guarantees.specs.Caps.{CeilingIs}
use Rattle.guarantees.specs.Calls.{coarsened}
use Rattle.guarantees.specs.Ends.{Placed}
use Rattle.guarantees.specs.Fixed.{Free}
use Rattle.guarantees.specs.Fuel.{coarsen-enough}
use Rattle.guarantees.specs.StateBounds.{board-stack, lots-le}
use Rattle.fixed.specs.Starting.{FixedIs}
use Rattle.operations.specs.Pairs.{pairs-none, pairs-length}
use Rattle.operations.specs.Tables.{Tables, Sound, Keeps}
use Rattle.operations.specs.Keeping.{keeps-more}
use Rattle.polish.specs.Polished.{PolishOk, Polishes}
use Rattle.coarsening.specs.Coarsen.{Stands, CoarsenOk, Coarsens}
use Rattle.cycle.specs.Refine.{RefineOk, Fined, Refines}

-- what A asks: no contraction stands, and the marks say who is fixed
pub record CycleOk (T : Tables) (average : ℕ) (fixedmarks : List ℕ) : Type 0 where
  pub h : Hypergraph
  pub block : ℕ → ℕ
  pub sound : Sound h [] block T
  pub average-is : average ≡ average_weight h
  pub fixed : FixedIs fixedmarks h []

-- model's A after its contractions, and after its walks
abbrev pub coarse : Hypergraph → (ℕ → ℕ) → Coarse
coarse h block = coarsen h (vertices h) (record { stack = []; block = block })

abbrev pub fine : Hypergraph → (ceiling block : ℕ → ℕ) → Fine
fine h ceiling block = refine h ceiling (coarse h block).stack (record { block = (coarse h block).block; tried = 0; kept = 0 })

-- ---- down to the coarsest level and back
pub record Levelled (h : Hypergraph) (ceiling block : ℕ → ℕ) (T : Tables) (joins tried kept : ℕ) : Type 0 where
  pub joins-are : joins ≡ length (coarse h block).stack
  pub fined : Fined h (fine h ceiling block) T tried kept

pub record Levels (T : Tables) (average : ℕ) (ceilings fixedmarks : List ℕ) (T' : Tables) (joins tried kept : ℕ) : Type 0 where
  pub is : (h : Hypergraph) (ceiling block : ℕ → ℕ) → average ≡ average_weight h → CeilingIs ceilings h ceiling → FixedIs fixedmarks h [] → Sound h [] block T → Levelled h ceiling block T' joins tried kept
  pub keeps : (h : Hypergraph) (ceiling block : ℕ → ℕ) → average ≡ average_weight h → CeilingIs ceilings h ceiling → FixedIs fixedmarks h [] → Sound h [] block T → Keeps T T'

-- an empty stack
bare : {h : Hypergraph} {block : ℕ → ℕ} {T : Tables} {into gone : List ℕ} {len : ℕ} → Sound h [] block T → length into ≡ 1024 → length gone ≡ 1024 → len ≡ 0 → Stands h (record { stack = []; block = block }) T into gone len
bare {into = into} {gone = gone} s qi qg z = record {
  sound = s;
  stack_is = sym (ap (stack_of into gone) z ∙ pairs-none (λ u v. record { into = u; gone = v }) into gone);
  into-fit = qi;
  gone-fit = qg;
}

pub coarsen-asks : (T : List ℕ → List ℕ → Tables) (loads loaded : List ℕ) {average : ℕ} {fixedmarks into gone : List ℕ} {len : ℕ} → CycleOk (T loads loaded) average fixedmarks → length into ≡ 1024 → length gone ≡ 1024 → len ≡ 0 → CoarsenOk T fixedmarks into gone len average
coarsen-asks T loads loaded o qi qg z = record {
  loads = loads;
  loaded = loaded;
  h = o.h;
  c = record { stack = []; block = o.block };
  average-is = o.average-is;
  fixed = o.fixed;
  stands = bare o.sound qi qg z;
}

-- no fixed vertex is contracted
coarse-free : (h : Hypergraph) (n : ℕ) (block : ℕ → ℕ) → Placed h [] block → Free h (coarsen h n (record { stack = []; block = block })).stack
coarse-free h n block ok = (coarsened h n block (record { stack = []; block = block }) (record { sound = tt; inside = tt; placed = ok; same = refl; same-weights = λ b. refl; free = tt })).free

pub refine-asks : {T T' : Tables} {average : ℕ} {fixedmarks into gone into' gone' : List ℕ} {len len' : ℕ} → CycleOk T average fixedmarks → length into ≡ 1024 → length gone ≡ 1024 → len ≡ 0
    → Coarsens T fixedmarks into gone len average T' into' gone' len' → RefineOk T' fixedmarks into' gone' len'
refine-asks {T' = T'} o qi qg z k =
    let d = k.is o.h (record { stack = []; block = o.block }) o.average-is o.fixed (bare o.sound qi qg z) in
    let c : Coarse = coarsen o.h (board_size o.h []) (record { stack = []; block = o.block }) in
    record {
      h = o.h;
      block = c.block;
      sound = subst (λ (cs : List Contraction). Sound o.h cs c.block T') d.stack_is d.sound;
      fixed = o.fixed;
      free = subst (Free o.h) d.stack_is (coarse-free o.h (board_size o.h []) o.block o.sound.placed);
      into-fit = d.into-fit;
      gone-fit = d.gone-fit;
    }

full-board : (h : Hypergraph) → board_size h [] ≤ vertices h
full-board h = omega (arith, board-stack h [] tt tt, lots-le h)

pub levels : {T T' T'' : Tables} {average : ℕ} {ceilings fixedmarks into gone into' gone' : List ℕ} {len len' joins tried kept : ℕ} → T'.n ≡ T.n → T'.m ≡ T.m → T'.k ≡ T.k → T'.firsts ≡ T.firsts → T'.loaded ≡ T.loaded
    → length into ≡ 1024 → length gone ≡ 1024 → len ≡ 0 → Coarsens T fixedmarks into gone len average T' into' gone' len' → Refines T' ceilings fixedmarks into' gone' len' T'' tried kept → joins ≡ len'
    → Levels T average ceilings fixedmarks T'' joins tried kept
levels {T} {T'} {T''} {average} {into' = into'} {gone' = gone'} {len' = len'} {tried = tried} {kept = kept} qn qm qk qf ql qi qg z k r qj = record {
  is = λ h ceiling block qa qc qx s.
      let d = k.is h (record { stack = []; block = block }) qa qx (bare s qi qg z) in
      let c : Coarse = coarsen h (board_size h []) (record { stack = []; block = block }) in
      let e : c ≡ coarse h block = sym (coarsen-enough h (vertices h) (record { stack = []; block = block }) (full-board h)) in
      let f = r.is h ceiling c.block qc qx (subst (Free h) d.stack_is (coarse-free h (board_size h []) block s.placed)) (subst (λ (cs : List Contraction). Sound h cs c.block T') d.stack_is d.sound) in
      record {
        joins-are = qj ∙ sym (pairs-length {A = Contraction} (λ u v. record { into = u; gone = v }) into' gone' len') ∙ ap length (sym d.stack_is) ∙ ap (λ (x : Coarse). length x.stack) e;
        fined =
            subst (λ (x : Coarse). Fined h (refine h ceiling x.stack (record { block = x.block; tried = 0; kept = 0 })) T'' tried kept) e
            (subst (λ (cs : List Contraction). Fined h (refine h ceiling cs (record { block = c.block; tried = 0; kept = 0 })) T'' tried kept) (sym d.stack_is) f);
      };
  keeps = λ h ceiling block qa qc qx s. keeps-more qn qm qk qf ql (k.keeps h (record { stack = []; block = block }) qa qx (bare s qi qg z)) r.keeps;
}

-- ---- A
-- tables and numbers at its end are those of model's step
pub record Done (h : Hypergraph) (d : Step) (T : Tables) (joins tried kept moves : ℕ) : Type 0 where
  pub sound : Sound h d.state.stack d.state.block T
  pub answer-is : d.answer ≡ says_a joins tried kept moves T.total

-- what A does
pub record Does (T : Tables) (average : ℕ) (ceilings fixedmarks : List ℕ) (T' : Tables) (joins tried kept moves : ℕ) : Type 0 where
  pub is : (h : Hypergraph) (ceiling : ℕ → ℕ) (s : State) → average ≡ average_weight h → CeilingIs ceilings h ceiling → FixedIs fixedmarks h [] → Sound h [] s.block T → Done h (does_a h ceiling s) T' joins tried kept moves
  pub keeps : (h : Hypergraph) (ceiling block : ℕ → ℕ) → average ≡ average_weight h → CeilingIs ceilings h ceiling → FixedIs fixedmarks h [] → Sound h [] block T → Keeps T T'

pub polish-asks : {T : Tables} (T' : List ℕ → List ℕ → Tables) (aboves loaded : List ℕ) {average : ℕ} {ceilings fixedmarks : List ℕ} {joins tried kept : ℕ} → CycleOk T average fixedmarks → Levels T average ceilings fixedmarks (T' aboves loaded) joins tried kept → PolishOk T' fixedmarks
polish-asks T' aboves loaded {ceilings = ceilings} o l = record {
  aboves = aboves;
  loaded = loaded;
  h = o.h;
  cs = [];
  block = (fine o.h (λ b. get_or ceilings (b - 1) 0) o.block).block;
  sound = (l.is o.h (λ b. get_or ceilings (b - 1) 0) o.block o.average-is (λ b _ _. refl) o.fixed o.sound).fined.sound;
  fixed = o.fixed;
}

answers : (a b c d e a' b' c' d' e' : ℕ) → a ≡ a' → b ≡ b' → c ≡ c' → d ≡ d' → e ≡ e' → says_a a b c d e ≡ says_a a' b' c' d' e'
answers a b c d e a' b' c' d' e' p q r s t = cc

pub done : {T T' T'' : Tables} {average : ℕ} {ceilings fixedmarks : List ℕ} {joins tried kept moves : ℕ} → T'.n ≡ T.n → T'.m ≡ T.m → T'.k ≡ T.k → T'.firsts ≡ T.firsts → T'.loaded ≡ T.loaded
    → Levels T average ceilings fixedmarks T' joins tried kept → Polishes T' ceilings fixedmarks T'' moves → Does T average ceilings fixedmarks T'' joins tried kept moves
unfolding does_a
done {T'' = T''} {joins = joins} {tried = tried} {kept = kept} {moves = moves} qn qm qk qf ql l p = record {
  is = λ h ceiling s qa qc qx so.
      let a = l.is h ceiling s.block qa qc qx so in
      let b = p.is h ceiling [] (fine h ceiling s.block).block qc qx a.fined.sound in
      record {
        sound = b.sound;
        answer-is = sym (answers joins tried kept moves T''.total _ _ _ _ _ a.joins-are a.fined.tried-is a.fined.kept-is b.moves-is b.sound.total-is);
      };
  keeps = λ h ceiling block qa qc qx s. keeps-more qn qm qk qf ql (l.keeps h ceiling block qa qc qx s) p.keeps;
}
