-- The walk as a whole: its start, its turns one after another, and what it leaves when the moves after the kept prefix are reversed.
-- Rests on Turning and Back. Assumes nothing.
use Rattle.std.specs.Prelude.{ℕ, ◌+◌, ◌-◌, ◌<◌, ◌≤◌, ◌≡◌, refl, Bool, true, false, ◌&&◌, ◌||◌, List, [], length, get_or}
use Rattle.std.proofs.Math.Decide.{ℕ_discrete}
use Rattle.std.proofs.Common.{arith, ◌∙◌, eq-eqb, ne_eqb, eqb-true}
use Rattle.std.proofs.Math.Path.{sym, ap, ap₂, subst}
use Rattle.std.proofs.Math.Bool.{not, and-true, and_assoc}
use Rattle.std.proofs.Math.Dec.{eqb}
use Rattle.laws.specs.Fold.{any}
use Rattle.model.specs.Catalogue.{Hypergraph, vertices}
use Rattle.model.specs.Measure.{Contraction, on_board, is_fixed, may_move}
use Rattle.model.specs.Machine.{Move}
use Rattle.model.specs.Search.{Walk, worth_of, walk_on, walk, walked, reversed}
use Rattle.model.specs.Lent.{journal_of}
use Rattle.fixed.specs.Starting.{FixedIs}
use Rattle.operations.specs.Pairs.{pairs-none}
use Rattle.operations.specs.Tables.{Tables, Sound}
use Rattle.operations.specs.Move.{here-board}
use Rattle.search_moves.specs.Marks.{candidate_bit, moved_bit, Marked, marked_more, SameNets, nets-then, covered_none}
use Rattle.operations.specs.Keeping.{keeps-none, keeps-more}
use Rattle.walk.specs.Back.{Backs, backs-none, RewindOk, Rewinds}
use Rattle.walk.specs.Kept.{worth, heaviest_in, heaviest-is}
use Rattle.walk.specs.Steps.{Locals, locals, At, TurnOk, Turned, WalkOk, Going, Ended, Walks}
use Rattle.walk.specs.Turning.{on_none}

-- ---- the start

-- model's walk before its first turn
abbrev begun : (h : Hypergraph) (cs : List Contraction) (block : ℕ → ℕ) (u v : ℕ) → Walk
begun h cs block u v = record { block = block; journal = []; candidate = λ x. eqb x u || eqb x v; tried = 0; kept = 0; worth = worth_of h cs block }

-- tables and variables are those of the walk from u and v before its first turn
pub record Started (T : Tables) (fixedmarks : List ℕ) (u v : ℕ) (L : Locals) : Type 0 where
  pub at : (h : Hypergraph) (cs : List Contraction) (block : ℕ → ℕ) → FixedIs fixedmarks h cs → Sound h cs block T → At h cs (begun h cs block (u + 1) (v + 1)) T L

-- u and v are candidates, and on the board
module _ {h : Hypergraph} {cs : List Contraction} {block : ℕ → ℕ} {T : Tables} (s : Sound h cs block T) (u v : ℕ) (u-in : u < T.n) (u-on : 1 ≤ get_or T.blocks u 0) (v-in : v < T.n) (v-on : 1 ≤ get_or T.blocks v 0) where
  two-on : (x : ℕ) (t : Bool) → (eqb (x + 1) (u + 1) || eqb (x + 1) (v + 1)) ≡ t → t ≡ (t && on_board h cs (x + 1))
  two-on x false q = refl
  two-on x true q = sym (go (eqb (x + 1) (u + 1)) refl q)
    where
      at : (y : ℕ) → y < T.n → 1 ≤ get_or T.blocks y 0 → eqb (x + 1) (y + 1) ≡ true → on_board h cs (x + 1) ≡ true
      at y ly oy r = let e : x + 1 ≡ y + 1 = eqb-true (x + 1) (y + 1) r in ap (on_board h cs) e ∙ here-board s y ly oy

      go : (b : Bool) → eqb (x + 1) (u + 1) ≡ b → (b || eqb (x + 1) (v + 1)) ≡ true → on_board h cs (x + 1) ≡ true
      go true r _ = at u u-in u-on r
      go false r z = at v v-in v-on z

eqb-up : (x y : ℕ) → eqb x y ≡ eqb (x + 1) (y + 1)
eqb-up x y = go (ℕ_discrete x y)
  where
    go : Dec (x ≡ y) → eqb x y ≡ eqb (x + 1) (y + 1)
    go (yes q) = eq-eqb x y q ∙ sym (eq-eqb (x + 1) (y + 1) (omega arith))
    go (no q) = ne_eqb x y q ∙ sym (ne_eqb (x + 1) (y + 1) (λ r. q (omega arith)))

-- the first marks: u and v are candidates, unless they are fixed; who is fixed counts as moved
module _ {fixedmarks l l' : List ℕ} (u v : ℕ) (a : Marked fixedmarks l (λ y. eqb y u)) (b : Marked l l' (λ y. eqb y v)) (na : SameNets fixedmarks l) (nb : SameNets l l') where
  module _ {h : Hypergraph} {cs : List Contraction} (f : FixedIs fixedmarks h cs) (few : vertices h ≤ 1024) where
    first_marks : (x : ℕ) → x < vertices h → candidate_bit l' x ≡ ((eqb (x + 1) (u + 1) || eqb (x + 1) (v + 1)) && not (is_fixed h cs (x + 1)))
    first_marks x k =
        (marked_more a b).marks x (omega arith)
        ∙ ap₂ (λ (c m : Bool). c || ((eqb x u || eqb x v) && not m)) (ap (λ (z : ℕ). eqb z 1) (f.no-candidate x (omega arith))) (f.fixed x k)
        ∙ ap₂ (λ (s t : Bool). (s || t) && not (is_fixed h cs (x + 1))) (eqb-up x u) (eqb-up x v)

    first-moved : (x : ℕ) → x < vertices h → moved_bit l' x ≡ is_fixed h cs (x + 1)
    first-moved x k = (marked_more a b).moved x (omega arith) ∙ f.fixed x k

  module _ (T : Tables) (u-in : u < T.n) (u-on : 1 ≤ get_or T.blocks u 0) (v-in : v < T.n) (v-on : 1 ≤ get_or T.blocks v 0) where
    pub started : {vs bs : List ℕ} {tried most : ℕ} → length vs ≡ 1024 → length bs ≡ 1024 → tried ≡ 0 → most ≡ heaviest_in T.loads T.k
        → Started T fixedmarks u v (locals l' vs bs tried 0 T.total most)
    unfolding any
    started {vs} {bs} lv lb q e = record {
      at = λ h cs block f s.
          let few : vertices h ≤ 1024 = omega (arith, s.follows.room.few-vertices, s.follows.says.all-vertices) in
          record {
            sound = s;
            chosen = λ x k.
                first_marks f few x (omega (arith, s.follows.says.all-vertices))
                ∙ ap (λ (t : Bool). t && not (is_fixed h cs (x + 1))) (two-on s u v u-in u-on v-in v-on x (eqb (x + 1) (u + 1) || eqb (x + 1) (v + 1)) refl)
                ∙ and_assoc (eqb (x + 1) (u + 1) || eqb (x + 1) (v + 1)) (on_board h cs (x + 1)) (not (is_fixed h cs (x + 1)))
                ∙ ap (λ (t : Bool). t && may_move h cs (x + 1)) (sym (and-true (eqb (x + 1) (u + 1) || eqb (x + 1) (v + 1))));
            spent = λ x k. first-moved f few x (omega (arith, s.follows.says.all-vertices));
            covered = covered_none (λ i k. (nets-then na nb).same i k ∙ f.no-net i k);
            journal-is = sym (ap (journal_of vs bs) q ∙ pairs-none (λ v b. record { vertex = v; from = b }) vs bs);
            tried-is = q;
            kept-is = refl;
            worth-is = ap₂ worth s.total-is (e ∙ heaviest-is s);
            kept-to = omega arith;
            backs = backs-none h cs block;
            marks-fit = (marked_more a b).len ∙ f.len;
            vertices-fit = lv;
            blocks-fit = lb;
          };
    }

-- ---- its turns
pub going-none : (T : Tables) (L : Locals) (ceilings : List ℕ) → Going T L ceilings 0 T L
going-none T L ceilings = record {
  is = λ h ceiling cs w q A. record { walk = w; at = A; same = ap (λ (i : ℕ). walk_on h ceiling cs i w) (let z : T.n ≡ T.n - 0 = omega arith in z) };
  keeps = keeps-none T;
}

pub going_more : {T T' T'' : Tables} {L L' L'' : Locals} {ceilings : List ℕ} {turn turn' : ℕ} → T'.n ≡ T.n → T'.m ≡ T.m → T'.k ≡ T.k → T'.firsts ≡ T.firsts → T'.loaded ≡ T.loaded
    → Going T L ceilings turn T' L' → Turned T' L' ceilings turn T'' L'' turn' → Going T L ceilings turn' T'' L''
going_more {turn = turn} {turn' = turn'} qn qm qk qf ql f k = record {
  is = λ h ceiling cs w q A.
      let o = f.is h ceiling cs w q A in
      let t = k.is h ceiling cs o.walk q o.at in
      record {
        walk = t.walk;
        at = t.at;
        same = o.same ∙ ap (λ (i : ℕ). walk_on h ceiling cs (i - turn) o.walk) (sym qn) ∙ t.same ∙ ap (λ (i : ℕ). walk_on h ceiling cs (i - turn') t.walk) qn;
      };
  keeps = keeps-more qn qm qk qf ql f.keeps k.keeps;
}

pub going-at : {T T' : Tables} {L L' : Locals} {ceilings : List ℕ} {turn turn' : ℕ} → turn ≡ turn' → Going T L ceilings turn T' L' → Going T L ceilings turn' T' L'
going-at {T} {T'} {L} {L'} {ceilings} e g = subst (λ (i : ℕ). Going T L ceilings i T' L') e g

-- there is a walk that tables and variables are those of
pub record HasWalk (T : List ℕ → List ℕ → Tables) (L : Locals) : Type 0 where
  pub aboves : List ℕ
  pub loaded : List ℕ
  pub h : Hypergraph
  pub cs : List Contraction
  pub walk : Walk
  pub at : At h cs walk (T aboves loaded) L

pub has_first : {T : List ℕ → List ℕ → Tables} {fixedmarks : List ℕ} {u v : ℕ} {L : Locals} (ok : WalkOk T fixedmarks u v) → Started (T ok.aboves ok.loaded) fixedmarks u v L → HasWalk T L
has_first {u = u} {v = v} ok start = record {
  aboves = ok.aboves;
  loaded = ok.loaded;
  h = ok.h;
  cs = ok.cs;
  walk = begun ok.h ok.cs ok.block (u + 1) (v + 1);
  at = start.at ok.h ok.cs ok.block ok.fixed ok.sound;
}

-- there is one after some turns, so that a turn, or the way back, has what it asks
module _ {T T' : List ℕ → List ℕ → Tables} {L L' : Locals} {ceilings : List ℕ} {turn : ℕ} (first : HasWalk T L)
    (f : (aboves loaded : List ℕ) → Going (T aboves loaded) L ceilings turn (T' aboves loaded) L') where
  has-later : HasWalk T' L'
  has-later =
      let o = (f first.aboves first.loaded).is first.h (λ b. get_or ceilings (b - 1) 0) first.cs first.walk (λ b _ _. refl) first.at in
      record { aboves = first.aboves; loaded = first.loaded; h = first.h; cs = first.cs; walk = o.walk; at = o.at }

  pub turn-asks : turn < (T' first.aboves first.loaded).n → L'.tried ≤ turn → TurnOk T' L' turn
  unfolding has-later
  turn-asks on to =
      let w = has-later in
      record { aboves = w.aboves; loaded = w.loaded; h = w.h; cs = w.cs; walk = w.walk; at = w.at; turn-to = on; tried-to = to }

  pub end-asks : turn ≤ (T' first.aboves first.loaded).n → L'.tried ≤ turn → RewindOk T' L'.vertices L'.blocks L'.tried L'.kept
  unfolding has-later
  end-asks on to =
      let w = has-later in
      record {
        aboves = w.aboves;
        loaded = w.loaded;
        h = w.h;
        cs = w.cs;
        block = w.walk.block;
        sound = w.at.sound;
        backs = subst (Backs w.h w.cs w.walk.block) w.at.journal-is w.at.backs;
        kept-to = w.at.kept-to;
        tried-to = omega (arith, w.at.sound.follows.room.few-vertices);
        vs-fit = w.at.vertices-fit;
        bs-fit = w.at.blocks-fit;
      }

-- ---- its end
ended : {h : Hypergraph} {cs : List Contraction} {w : Walk} {T T' : Tables} {L : Locals} → At h cs w T L → Rewinds T L.vertices L.blocks L.tried L.kept T' → Ended h cs w T' L.tried L.kept
unfolding walked
ended {h} {cs} {w} {T' = T'} {L = L} A r = record {
  sound =
      subst (λ (ms : List Move). Sound h cs (reversed (w.tried - w.kept) ms w.block) T') (sym A.journal-is)
      (subst (λ (d : ℕ). Sound h cs (reversed d (journal_of L.vertices L.blocks L.tried) w.block) T') (ap₂ (λ (i j : ℕ). i - j) A.tried-is A.kept-is) (r.sound h cs w.block A.sound));
  tried-is = A.tried-is;
  kept-is = A.kept-is;
}

pub walks-all : {T T' T'' : Tables} {fixedmarks : List ℕ} {u v : ℕ} {L L' : Locals} {ceilings : List ℕ} {turn : ℕ} → T'.n ≡ T.n → T'.m ≡ T.m → T'.k ≡ T.k → T'.firsts ≡ T.firsts → T'.loaded ≡ T.loaded
    → Started T fixedmarks u v L → Going T L ceilings turn T' L' → T.n ≤ turn → Rewinds T' L'.vertices L'.blocks L'.tried L'.kept T''
    → Walks T ceilings fixedmarks u v T'' L'.tried L'.kept
unfolding walk
walks-all {T} {T'' = T''} {u = u} {v = v} {L' = L'} {turn = turn} qn qm qk qf ql start f l r = record {
  is = λ h ceiling cs block q fixed s.
      let w : Walk = begun h cs block (u + 1) (v + 1) in
      let o = f.is h ceiling cs w q (start.at h cs block fixed s) in
      let e : T.n - turn ≡ 0 = omega arith in
      let n : T.n ≡ vertices h = omega (arith, s.follows.says.all-vertices) in
      subst (λ (w : Walk). Ended h cs w T'' L'.tried L'.kept)
      (sym (o.same ∙ ap (λ (i : ℕ). walk_on h ceiling cs i o.walk) e ∙ on_none h ceiling cs o.walk) ∙ ap (λ (i : ℕ). walk_on h ceiling cs i w) n)
      (ended o.at r);
  keeps = keeps-more qn qm qk qf ql f.keeps r.keeps;
}
