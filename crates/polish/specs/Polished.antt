-- P on its way and as a whole: one move leaves the rest of the polish the same, and what is left at the end is model's. Rests on Polishing.
-- Assumes nothing.
use Prim.Native.Nat.{ℕ, suc, ◌+◌, ◌-◌, ◌<◌, ◌≤◌, ◌^◌}
use Rattle.std.proofs.Common.{arith, sym, ap, ◌∙◌, subst, lt-ltb}
use Rattle.std.proofs.Math.Path.{◌≡◌, refl, ap₂}
use Rattle.std.specs.Prelude.{Option, None, Bool, not, ◌&&◌, ◌||◌, List, eqb, ltb, ℤ, pos, length, get_or}
use Rattle.std.proofs.Math.Bool.{true, false, cond}
use Rattle.std.specs.Int.Signed.{lt_z}
use Rattle.laws.specs.Place.{place}
use Rattle.model.specs.Catalogue.{Hypergraph}
use Rattle.laws.specs.Choice.{and_left}
use Rattle.model.specs.Measure.{Contraction, on_board, is_fixed, may_move}
use Rattle.model.specs.Search.{Best, none, best, Polish, polish_best, polish_turn, polish_on, polish}
use Rattle.guarantees.specs.Caps.{CeilingIs}
use Rattle.fixed.specs.Starting.{FixedIs}
use Rattle.operations.specs.Tables.{Tables, Sound, Keeps}
use Rattle.operations.specs.Move.{Open, CanGo, Went, board-test}
use Rattle.best_move.specs.declared.open.Move.{Move}
use Rattle.best_move.specs.Open.{step, best_of, gain_in, open_in, Chosen}
use Rattle.best_move.specs.OpenLink.{polish-is}
use Rattle.search_moves.specs.Marks.{candidate_bit, Marked}
use Rattle.search_moves.specs.Tabled.{holds, pair-open}
use Rattle.operations.specs.Keeping.{keeps-none, keeps-more}
use Rattle.polish.specs.Polishing.{sits, rise, rise_of, rise-open}

-- tables and variables are those of the polish q; the vertices that may move are marked
pub record PolishAt (h : Hypergraph) (cs : List Contraction) (q : Polish) (T : Tables) (marks : List ℕ) (moves : ℕ) : Type 0 where
  pub sound : Sound h cs q.block T
  pub made-is : moves ≡ q.made
  pub board : (x : ℕ) → x < T.n → candidate_bit marks x ≡ may_move h cs (x + 1)
  pub marks-fit : length marks ≡ 48

-- a candidate is on the board
pub candidate-on : {h : Hypergraph} {cs : List Contraction} {q : Polish} {T : Tables} {marks : List ℕ} {moves : ℕ} → PolishAt h cs q T marks moves → (x : ℕ) → x < T.n → candidate_bit marks x ≡ true → on_board h cs (x + 1) ≡ true
candidate-on {h} {cs} at x l q = and_left (on_board h cs (x + 1)) (not (is_fixed h cs (x + 1))) (sym (at.board x l) ∙ q)

-- what one pass asks: a polish on its way, with `left` passes left at most. It has no use for the vertices above and for the loaded sizes
pub record PassOk (T : List ℕ → List ℕ → Tables) (marks : List ℕ) (left moves : ℕ) : Type 0 where
  pub aboves : List ℕ
  pub loaded : List ℕ
  pub h : Hypergraph
  pub cs : List Contraction
  pub polish : Polish
  pub at : PolishAt h cs polish (T aboves loaded) marks moves
  pub some : 1 ≤ left
  pub small : moves + left < 2 ^ 32

-- `end` is what becomes, in at most `left` passes more, of the polish that tables and variables now are
pub record Further (h : Hypergraph) (ceiling : ℕ → ℕ) (cs : List Contraction) (end : Polish) (left : ℕ) (T : Tables) (marks : List ℕ) (moves : ℕ) : Type 0 where
  pub polish : Polish
  pub at : PolishAt h cs polish T marks moves
  pub same : end ≡ polish_on h ceiling cs left polish

-- what one pass does
pub record Passed (T : Tables) (marks ceilings : List ℕ) (left moves : ℕ) (T' : Tables) (left' moves' : ℕ) : Type 0 where
  pub is : (h : Hypergraph) (ceiling : ℕ → ℕ) (cs : List Contraction) (q : Polish) → CeilingIs ceilings h ceiling → PolishAt h cs q T marks moves → Further h ceiling cs (polish_on h ceiling cs left q) left' T' marks moves'
  pub less : left' < left
  pub small : moves' + left' ≤ moves + left
  pub keeps : Keeps T T'

-- what `polish` asks: sound tables, and the marks of who is fixed
pub record PolishOk (T : List ℕ → List ℕ → Tables) (fixedmarks : List ℕ) : Type 0 where
  pub aboves : List ℕ
  pub loaded : List ℕ
  pub h : Hypergraph
  pub cs : List Contraction
  pub block : ℕ → ℕ
  pub sound : Sound h cs block (T aboves loaded)
  pub fixed : FixedIs fixedmarks h cs

-- the polish after some passes, from its first tables on
pub record Passing (T : Tables) (marks ceilings : List ℕ) (T' : Tables) (left moves : ℕ) : Type 0 where
  pub is : (h : Hypergraph) (ceiling : ℕ → ℕ) (cs : List Contraction) (q : Polish) → CeilingIs ceilings h ceiling → PolishAt h cs q T marks 0
      → Further h ceiling cs (polish_on h ceiling cs T.total q) left T' marks moves
  pub keeps : Keeps T T'

-- tables and number at the end of P: the partition and the number of moves are those of model's polish
pub record Smooth (h : Hypergraph) (cs : List Contraction) (q : Polish) (T : Tables) (moves : ℕ) : Type 0 where
  pub sound : Sound h cs q.block T
  pub moves-is : moves ≡ q.made

-- what `polish` does
pub record Polishes (T : Tables) (ceilings fixedmarks : List ℕ) (T' : Tables) (moves : ℕ) : Type 0 where
  pub is : (h : Hypergraph) (ceiling : ℕ → ℕ) (cs : List Contraction) (block : ℕ → ℕ) → CeilingIs ceilings h ceiling → FixedIs fixedmarks h cs → Sound h cs block T
      → Smooth h cs (polish h ceiling cs block) T' moves
  pub keeps : Keeps T T'

-- ---- one turn of model's polish
module _ (h : Hypergraph) (cs : List Contraction) where
  turn-rest : (q : Polish) (next : Polish → Polish) (b : Best) → rise b ≡ none → polish_turn h cs q next b ≡ q
  unfolding polish_turn
  turn-rest q next none e = refl
  turn-rest q next (best v t g) e = go (lt_z (pos 0) g) e
    where
      go : (c : Bool) → cond c (best v t g) none ≡ none → cond c (next (record { block = place q.block v t; made = suc q.made })) q ≡ q
      go true e = let z : ◌≡◌ {A = ℕ} 0 1 = cc in absurd (omega arith)
      go false e = refl

  turn-go : (q : Polish) (next : Polish → Polish) (b : Best) (v t : ℕ) (g : ℤ) → rise b ≡ best v t g → polish_turn h cs q next b ≡ next (record { block = place q.block v t; made = suc q.made })
  unfolding polish_turn
  turn-go q next none v t g e = let z : ◌≡◌ {A = ℕ} 0 1 = cc in absurd (omega arith)
  turn-go q next (best x y f) v t g e = go (lt_z (pos 0) f) e
    where
      go : (c : Bool) → cond c (best x y f) none ≡ best v t g → cond c (next (record { block = place q.block x y; made = suc q.made })) q ≡ next (record { block = place q.block v t; made = suc q.made })
      go true e = let a : x ≡ v = cc in let b : y ≡ t = cc in ap₂ (λ (i j : ℕ). next (record { block = place q.block i j; made = suc q.made })) a b
      go false e = let z : ◌≡◌ {A = ℕ} 0 1 = cc in absurd (omega arith)

module _ (h : Hypergraph) (ceiling : ℕ → ℕ) (cs : List Contraction) where
  polish-step : (f : ℕ) (q : Polish) → polish_on h ceiling cs (suc f) q ≡ polish_turn h cs q (polish_on h ceiling cs f) (polish_best h ceiling cs q.block)
  unfolding polish_on
  polish-step f q = refl

  polish-none : (q : Polish) → polish_on h ceiling cs 0 q ≡ q
  unfolding polish_on
  polish-none q = refl

-- ---- one pass
abbrev rise_in : Tables → List ℕ → List ℕ → Best
rise_in T marks ceilings = rise_of T.gains T.blocks T.weights T.loads ceilings marks T.n T.k

module _ {h : Hypergraph} {cs : List Contraction} {q : Polish} {T : Tables} {marks : List ℕ} {moves : ℕ} (A : PolishAt h cs q T marks moves) where
  rise-is : (ceiling : ℕ → ℕ) (ceilings : List ℕ) → CeilingIs ceilings h ceiling → rise_in T marks ceilings ≡ rise (polish_best h ceiling cs q.block)
  rise-is ceiling ceilings e = ap rise (polish-is h ceiling cs q.block T.gains T.blocks T.weights T.loads ceilings marks T.n T.k (holds A.sound ceiling ceilings e) (λ v l u.
      let d : v - 1 + 1 ≡ v = omega arith in
      A.board (v - 1) (omega arith) ∙ ap (λ (z : ℕ). may_move h cs z) d))

module _ {T : List ℕ → List ℕ → Tables} {marks : List ℕ} {left moves : ℕ} (ok : PassOk T marks left moves) {r : Option Move} (ceilings : List ℕ) (v b : ℕ)
    (c : Chosen (gain_in (T ok.aboves ok.loaded).gains) (T ok.aboves ok.loaded).n (T ok.aboves ok.loaded).k r (rise_in (T ok.aboves ok.loaded) marks ceilings))
    (e : r ≡ step v b) where
  pub pass-in : (1 ≤ v) × (v ≤ (T ok.aboves ok.loaded).n) × (1 ≤ b) × (b ≤ (T ok.aboves ok.loaded).k)
  pass-in = rw e at c.within

  pub pass-open : Open (T ok.aboves ok.loaded).blocks (T ok.aboves ok.loaded).n (T ok.aboves ok.loaded).k (v - 1) b
  pass-open =
      let S = T ok.aboves ok.loaded in
      pair-open ok.at.sound marks ceilings v b (candidate-on ok.at) pass-in
      (rise-open (open_in marks S.blocks S.weights S.loads ceilings) (gain_in S.gains) v b c e)

  pub pass-goes : (x : ℕ) → x ≡ v - 1 → CanGo T x b
  pass-goes x d = record { aboves = ok.aboves; loaded = ok.loaded; goes = record { h = ok.h; cs = ok.cs; block = ok.polish.block; sound = ok.at.sound; open-pair = rw d pass-open } }

-- no pair is left whose gain is above 0
pub pass-none : (T : Tables) (marks ceilings : List ℕ) (left moves : ℕ) {r : Option Move} → 1 ≤ left → Chosen (gain_in T.gains) T.n T.k r (rise_in T marks ceilings) → r ≡ None → Passed T marks ceilings left moves T 0 moves
pass-none T marks ceilings left moves l c e = record {
  is = λ h ceiling cs q lim A.
      let d : left ≡ suc (left - 1) = omega arith in
      record {
        polish = q;
        at = A;
        same =
            ap (λ (i : ℕ). polish_on h ceiling cs i q) d
            ∙ polish-step h ceiling cs (left - 1) q
            ∙ turn-rest h cs q (polish_on h ceiling cs (left - 1)) (polish_best h ceiling cs q.block) (sym (ap (best_of (gain_in T.gains)) (sym e) ∙ c.same ∙ rise-is A ceiling ceilings lim))
            ∙ sym (polish-none h ceiling cs q);
      };
  less = l;
  small = omega arith;
  keeps = keeps-none T;
}

-- a move
pub pass-move : {T T' : Tables} (marks ceilings : List ℕ) (left moves x v b : ℕ) {r : Option Move} → 1 ≤ left → T'.n ≡ T.n → Chosen (gain_in T.gains) T.n T.k r (rise_in T marks ceilings) → r ≡ step v b → x + 1 ≡ v → Went T T' x b
    → Passed T marks ceilings left moves T' (left - 1) (moves + 1)
pass-move {T} {T'} marks ceilings left moves x v b l qn c e d w = record {
  is = λ h ceiling cs q lim A.
      let i : left ≡ suc (left - 1) = omega arith in
      record {
        polish = record { block = place q.block v b; made = suc q.made };
        at = record {
          sound = subst (λ (y : ℕ). Sound h cs (place q.block y b) T') d (w.sound h cs q.block A.sound);
          made-is = omega (arith, A.made-is);
          board = λ y k. A.board y (omega arith);
          marks-fit = A.marks-fit;
        };
        same =
            ap (λ (j : ℕ). polish_on h ceiling cs j q) i
            ∙ polish-step h ceiling cs (left - 1) q
            ∙ turn-go h cs q (polish_on h ceiling cs (left - 1)) (polish_best h ceiling cs q.block) v b (gain_in T.gains v b) (sym (ap (best_of (gain_in T.gains)) (sym e) ∙ c.same ∙ rise-is A ceiling ceilings lim));
      };
  less = omega arith;
  small = omega arith;
  keeps = w.keeps;
}

-- ---- the whole polish

-- the polish before its first pass
pub polish-first : {h : Hypergraph} {cs : List Contraction} {block : ℕ → ℕ} {T : Tables} {fixedmarks marks : List ℕ}
    → FixedIs fixedmarks h cs → Sound h cs block T → Marked fixedmarks marks (sits T.blocks T.n) → PolishAt h cs (record { block = block; made = 0 }) T marks 0
unfolding sits
polish-first {h} {cs} {T = T} f s m = record {
  sound = s;
  made-is = refl;
  board = λ x l.
      let few : x < 1024 = omega (arith, s.follows.room.few-vertices) in
      m.marks x few
      ∙ ap₂ (λ (c d : Bool). c || ((ltb x T.n && ltb 0 (get_or T.blocks x 0)) && not d)) (ap (λ (z : ℕ). eqb z 1) (f.no-candidate x few))
      (f.fixed x (omega (arith, s.follows.says.all-vertices)))
      ∙ ap₂ (λ (c d : Bool). c && d && not (is_fixed h cs (x + 1))) (lt-ltb x T.n l) (board-test s x l);
  marks-fit = m.len ∙ f.len;
}

pub passing-none : (T : Tables) (marks ceilings : List ℕ) → Passing T marks ceilings T T.total 0
passing-none T marks ceilings = record { is = λ h ceiling cs q lim A. record { polish = q; at = A; same = refl }; keeps = keeps-none T }

pub passing-at : {T T' : Tables} {marks ceilings : List ℕ} {left left' moves : ℕ} → left ≡ left' → Passing T marks ceilings T' left moves → Passing T marks ceilings T' left' moves
passing-at {T} {T'} {marks} {ceilings} {moves = moves} e f = subst (λ (i : ℕ). Passing T marks ceilings T' i moves) e f

pub pass-asks : {T T' : List ℕ → List ℕ → Tables} {fixedmarks marks ceilings : List ℕ} {left moves : ℕ} (ok : PolishOk T fixedmarks)
    → Marked fixedmarks marks (sits (T ok.aboves ok.loaded).blocks (T ok.aboves ok.loaded).n)
    → ((aboves loaded : List ℕ) → Passing (T aboves loaded) marks ceilings (T' aboves loaded) left moves) → 1 ≤ left → moves + left < 2 ^ 32 → PassOk T' marks left moves
pass-asks {ceilings = ceilings} ok m f l k =
    let o = (f ok.aboves ok.loaded).is ok.h (λ b. get_or ceilings (b - 1) 0) ok.cs (record { block = ok.block; made = 0 }) (λ b _ _. refl) (polish-first ok.fixed ok.sound m) in
    record { aboves = ok.aboves; loaded = ok.loaded; h = ok.h; cs = ok.cs; polish = o.polish; at = o.at; some = l; small = k }

pub passing-more : {T T' T'' : Tables} {marks ceilings : List ℕ} {left moves left' moves' : ℕ} → T'.n ≡ T.n → T'.m ≡ T.m → T'.k ≡ T.k → T'.firsts ≡ T.firsts → T'.loaded ≡ T.loaded
    → Passing T marks ceilings T' left moves → Passed T' marks ceilings left moves T'' left' moves' → Passing T marks ceilings T'' left' moves'
passing-more qn qm qk qf ql f k = record {
  is = λ h ceiling cs q lim A.
      let o = f.is h ceiling cs q lim A in
      let t = k.is h ceiling cs o.polish lim o.at in
      record { polish = t.polish; at = t.at; same = o.same ∙ t.same };
  keeps = keeps-more qn qm qk qf ql f.keeps k.keeps;
}

pub polishes-all : {T T' : Tables} {fixedmarks marks ceilings : List ℕ} {left moves : ℕ} → Marked fixedmarks marks (sits T.blocks T.n) → Passing T marks ceilings T' left moves → left ≤ 0
    → Polishes T ceilings fixedmarks T' moves
unfolding polish
polishes-all {T' = T'} {left = left} {moves = moves} m f l = record {
  is = λ h ceiling cs block lim fixed s.
      let q : Polish = record { block = block; made = 0 } in
      let o = f.is h ceiling cs q lim (polish-first fixed s m) in
      let e : left ≡ 0 = omega arith in
      subst (λ (p : Polish). Smooth h cs p T' moves)
      (sym (o.same ∙ ap (λ (i : ℕ). polish_on h ceiling cs i o.polish) e ∙ polish-none h ceiling cs o.polish) ∙ ap (λ (i : ℕ). polish_on h ceiling cs i q) s.total-is)
      (record { sound = o.at.sound; moves-is = o.at.made-is });
  keeps = f.keeps;
}
