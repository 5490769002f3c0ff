-- The way back of a walk: the moves that a journal holds can be reversed one by one, and what reversing some of them does to sound tables.
-- Rests on operations's Pairs and Move. Assumes nothing.
use Rattle.std.specs.Prelude.{ℕ, suc, ◌+◌, ◌-◌, ◌<◌, ◌≤◌, ◌≡◌, refl, true, length, get_or}
use Rattle.std.proofs.Common.{arith, sym, ◌∙◌}
use Rattle.std.proofs.Math.Path.{ap, subst}
use mathlib.Core.List.{List, [], ◌∷◌}
use Rattle.laws.specs.Place.{place, place_at, place-back}
use Rattle.model.specs.Catalogue.{Hypergraph, vertices}
use Rattle.model.specs.Measure.{Contraction, on_board}
use Rattle.model.specs.Machine.{Move}
use Rattle.model.specs.Search.{reversed}
use Rattle.model.specs.Lent.{journal_of}
use Rattle.guarantees.specs.Walks.{reversed-none}
use Rattle.operations.specs.Pairs.{pairs-some}
use Rattle.operations.specs.Tables.{Tables, Sound, Keeps}
use Rattle.operations.specs.Move.{CanGo, Went, own_block, in-range}
use Rattle.operations.specs.Keeping.{keeps-none, keeps-more}

-- a move that was made last: its vertex is on the board, and in another block than the one it left
pub record Latest (h : Hypergraph) (cs : List Contraction) (block : ℕ → ℕ) (v from : ℕ) : Type 0 where
  pub vertex-in : (1 ≤ v) × (v ≤ vertices h)
  pub on : on_board h cs v ≡ true
  pub from_in : (1 ≤ from) × (from ≤ h.blocks)
  pub away : block v ≡ from → ⊥

-- the moves of a journal, the latest first
unfoldable pub Backs : Hypergraph → List Contraction → (ℕ → ℕ) → List Move → Type 0
Backs h cs block [] = Unit
Backs h cs block (m ∷ ms) = Latest h cs block m.vertex m.from × Backs h cs (place block m.vertex m.from) ms

pub backs-none : (h : Hypergraph) (cs : List Contraction) (block : ℕ → ℕ) → Backs h cs block []
unfolding Backs
backs-none h cs block = tt

-- one move more
pub backs-more : (h : Hypergraph) (cs : List Contraction) (block : ℕ → ℕ) (ms : List Move) (v t : ℕ) → (1 ≤ v) × (v ≤ vertices h) → on_board h cs v ≡ true → (1 ≤ block v) × (block v ≤ h.blocks) → (block v ≡ t → ⊥)
    → Backs h cs block ms → Backs h cs (place block v t) (record { vertex = v; from = block v } ∷ ms)
unfolding Backs
backs-more h cs block ms v t i o f a b = (
  record { vertex-in = i; on = o; from_in = f; away = λ q. a (sym q ∙ place_at block v t) },
  subst (λ (p : ℕ → ℕ). Backs h cs p ms) (sym (place-back block v t)) b,
)

module _ (h : Hypergraph) (cs : List Contraction) (block : ℕ → ℕ) (vs bs : List ℕ) where
  backs-step : (i : ℕ) → 1 ≤ i → Backs h cs block (journal_of vs bs i)
      → Latest h cs block (get_or vs (i - 1) 0) (get_or bs (i - 1) 0) × Backs h cs (place block (get_or vs (i - 1) 0) (get_or bs (i - 1) 0)) (journal_of vs bs (i - 1))
  unfolding Backs
  backs-step i l b = subst (Backs h cs block) (pairs-some (λ v b. record { vertex = v; from = b }) vs bs i l) b

  reversed_step : (i d : ℕ) → 1 ≤ i → reversed (suc d) (journal_of vs bs i) block ≡ reversed d (journal_of vs bs (i - 1)) (place block (get_or vs (i - 1) 0) (get_or bs (i - 1) 0))
  unfolding reversed
  reversed_step i d l = ap (λ (ms : List Move). reversed (suc d) ms block) (pairs-some (λ v b. record { vertex = v; from = b }) vs bs i l)

-- what `rewind` asks. It has no use for the vertices above and for the loaded sizes: whatever these are
pub record RewindOk (T : List ℕ → List ℕ → Tables) (vs bs : List ℕ) (tried kept : ℕ) : Type 0 where
  pub aboves : List ℕ
  pub loaded : List ℕ
  pub h : Hypergraph
  pub cs : List Contraction
  pub block : ℕ → ℕ
  pub sound : Sound h cs block (T aboves loaded)
  pub backs : Backs h cs block (journal_of vs bs tried)
  pub kept-to : kept ≤ tried
  pub tried-to : tried ≤ 1024
  pub vs-fit : length vs ≡ 1024
  pub bs-fit : length bs ≡ 1024

-- what it does
pub record Rewinds (T : Tables) (vs bs : List ℕ) (tried kept : ℕ) (T' : Tables) : Type 0 where
  pub sound : (h : Hypergraph) (cs : List Contraction) (block : ℕ → ℕ) → Sound h cs block T → Sound h cs (reversed (tried - kept) (journal_of vs bs tried) block) T'
  pub keeps : Keeps T T'

-- on the way, with j moves left: what is left to reverse leads to the same partition
pub record Behind (h : Hypergraph) (cs : List Contraction) (block : ℕ → ℕ) (vs bs : List ℕ) (tried kept j : ℕ) (T : Tables) : Type 0 where
  pub there : ℕ → ℕ
  pub sound : Sound h cs there T
  pub same : reversed (tried - kept) (journal_of vs bs tried) block ≡ reversed (j - kept) (journal_of vs bs j) there
  pub backs : Backs h cs block (journal_of vs bs tried) → Backs h cs there (journal_of vs bs j)

pub record Rewinding (T : Tables) (vs bs : List ℕ) (tried kept j : ℕ) (T' : Tables) : Type 0 where
  pub behind : (h : Hypergraph) (cs : List Contraction) (block : ℕ → ℕ) → Sound h cs block T → Behind h cs block vs bs tried kept j T'
  pub keeps : Keeps T T'

pub rewind-none : (T : Tables) (vs bs : List ℕ) (tried kept : ℕ) → Rewinding T vs bs tried kept tried T
rewind-none T vs bs tried kept = record {
  behind = λ h cs block s. record { there = block; sound = s; same = refl; backs = λ b. b };
  keeps = keeps-none T;
}

-- the next move back can be made
pub rewind-asks : (T T' : List ℕ → List ℕ → Tables) (vs bs : List ℕ) (tried kept j v : ℕ) (ok : RewindOk T vs bs tried kept) → ((aboves loaded : List ℕ) → Rewinding (T aboves loaded) vs bs tried kept j (T' aboves loaded))
    → 1 ≤ j → v ≡ get_or vs (j - 1) 0 → CanGo T' (v - 1) (get_or bs (j - 1) 0)
rewind-asks T T' vs bs tried kept j v ok f l q =
    let b = (f ok.aboves ok.loaded).behind ok.h ok.cs ok.block ok.sound in
    let x = (backs-step ok.h ok.cs b.there vs bs j l (b.backs ok.backs)).0 in
    let i : v - 1 + 1 ≡ get_or vs (j - 1) 0 = omega (arith, x.vertex-in) in
    let u-in : v - 1 < (T' ok.aboves ok.loaded).n = omega (arith, x.vertex-in, b.sound.follows.says.all-vertices) in
    let o : on_board ok.h ok.cs (v - 1 + 1) ≡ true = ap (on_board ok.h ok.cs) i ∙ x.on in
    let own = own_block b.sound (v - 1) u-in in
    record {
      aboves = ok.aboves;
      loaded = ok.loaded;
      goes = record {
        h = ok.h;
        cs = ok.cs;
        block = b.there;
        sound = b.sound;
        open-pair = record {
          u-in = u-in;
          on = omega (arith, own, (in-range b.sound (v - 1) u-in o).0);
          t-in = (x.from_in.0, omega (arith, x.from_in.1, b.sound.follows.says.all_blocks));
          away = λ z. x.away (ap b.there (sym i) ∙ sym own ∙ z);
        };
      };
    }

pub rewind-from : (T T' : List ℕ → List ℕ → Tables) (vs bs : List ℕ) (tried kept j : ℕ) (ok : RewindOk T vs bs tried kept) → ((aboves loaded : List ℕ) → Rewinding (T aboves loaded) vs bs tried kept j (T' aboves loaded))
    → 1 ≤ j → 1 ≤ get_or vs (j - 1) 0
rewind-from T T' vs bs tried kept j ok f l =
    let b = (f ok.aboves ok.loaded).behind ok.h ok.cs ok.block ok.sound in
    (backs-step ok.h ok.cs b.there vs bs j l (b.backs ok.backs)).0.vertex-in.0

pub rewind-more : {T T' T'' : Tables} (vs bs : List ℕ) (tried kept j v : ℕ) → T'.n ≡ T.n → T'.m ≡ T.m → T'.k ≡ T.k → T'.firsts ≡ T.firsts → T'.loaded ≡ T.loaded
    → Rewinding T vs bs tried kept j T' → kept < j → v - 1 + 1 ≡ get_or vs (j - 1) 0 → Went T' T'' (v - 1) (get_or bs (j - 1) 0) → Rewinding T vs bs tried kept (j - 1) T''
rewind-more {T'' = T''} vs bs tried kept j v qn qm qk qf ql f l q w = record {
  behind = λ h cs block s.
      let b = f.behind h cs block s in
      let e : j - kept ≡ suc (j - 1 - kept) = omega arith in
      record {
        there = place b.there (get_or vs (j - 1) 0) (get_or bs (j - 1) 0);
        sound = subst (λ (x : ℕ). Sound h cs (place b.there x (get_or bs (j - 1) 0)) T'') q (w.sound h cs b.there b.sound);
        same = b.same ∙ ap (λ (d : ℕ). reversed d (journal_of vs bs j) b.there) e ∙ reversed_step h cs b.there vs bs j (j - 1 - kept) (omega arith);
        backs = λ x. (backs-step h cs b.there vs bs j (omega arith) (b.backs x)).1;
      };
  keeps = keeps-more qn qm qk qf ql f.keeps w.keeps;
}

pub rewind-done : {T T' : Tables} (vs bs : List ℕ) (tried kept j : ℕ) → Rewinding T vs bs tried kept j T' → kept ≤ j → j ≤ kept → Rewinds T vs bs tried kept T'
rewind-done {T' = T'} vs bs tried kept j f a z = record {
  sound = λ h cs block s.
      let b = f.behind h cs block s in
      let e : j - kept ≡ 0 = omega arith in
      subst (λ (p : ℕ → ℕ). Sound h cs p T') (sym (b.same ∙ ap (λ (d : ℕ). reversed d (journal_of vs bs j) b.there) e ∙ reversed-none (journal_of vs bs j) b.there)) b.sound;
  keeps = f.keeps;
}
