-- A's contractions on sound tables: what one of them and the loop of them ask and do, with the laws that the proofs of the code cite. Rests on
-- Own and Linked, on operations's Join and on guarantees' Calls and Fuel. Assumes nothing.
use Rattle.std.specs.Prelude.{ℕ, suc, ◌+◌, ◌*◌, ◌-◌, ◌<◌, ◌≤◌, ◌≡◌, refl, Bool, true, false, cond, List, ◌∷◌, pos, eqb, ltb, length, get_or, set}
use Rattle.std.specs.Int.{from_bool}
use Rattle.std.proofs.Common.{arith, sym, ap, ap₂, ◌∙◌, subst, inl, inr, lt-ltb, le-ltb, length-set}
use Rattle.laws.specs.Choice.{one}
use Rattle.laws.specs.Sum.{count_below, sum-zero, sum_step, sum-sum_to, sum_to, count-le}
use Rattle.laws.specs.Place.{place}
use Rattle.model.specs.Catalogue.{Hypergraph, average_weight}
use Rattle.model.specs.Measure.{Contraction, on_board, is_fixed}
use Rattle.model.specs.Search.{best, Coarse, can_join, join_best, join_turn, board_size, coarsen}
use Rattle.model.specs.Lent.{stack_of}
use Rattle.guarantees.specs.Board.{board-is}
use Rattle.guarantees.specs.Climbs.{Joins}
use Rattle.guarantees.specs.Calls.{can-join, can-sale, can-free, board-join, Coarsest}
use Rattle.guarantees.specs.Fuel.{coarsest-rests}
use Rattle.guarantees.specs.StateBounds.{board-stack, lots-le}
use Rattle.incidence.specs.On.{on}
use Rattle.fixed.specs.Starting.{FixedIs}
use Rattle.operations.specs.Pairs.{Pushed, pairs-push, pairs-length}
use Rattle.operations.specs.Tables.{Tables, Sound, Keeps}
use Rattle.operations.specs.Move.{board-test}
use Rattle.operations.specs.Join.{Pair, Joined}
use Rattle.best_contraction.specs.Rating.{score_of}
use Rattle.best_contraction.specs.JoinPair.{BestJoin, join_of, join_of-none, join_of-some}
use Rattle.best_contraction.specs.JoinLink.{Linked, join_is, join-may}
use Rattle.best_contraction.specs.Bound.{Bounded, Planned, rise_of}
use Rattle.best_contraction.specs.BoundLink.{bounded-after}
use Rattle.best_contraction.specs.declared.join.Join.{Join}
use Rattle.operations.specs.Keeping.{keeps-none, keeps-more}
use Rattle.coarsening.specs.Own.{OwnBlocks, Own, own_fixed, own-join}
use Rattle.coarsening.specs.Linked.{linked, block_at, block-from}

-- tables and the stack's arrays are those of the state c
pub record Stands (h : Hypergraph) (c : Coarse) (T : Tables) (into gone : List ℕ) (len : ℕ) : Type 0 where
  pub sound : Sound h c.stack c.block T
  pub stack_is : c.stack ≡ stack_of into gone len
  pub into-fit : length into ≡ 1024
  pub gone-fit : length gone ≡ 1024

-- the code's variables beside the tables: the stack, how many vertices have still to leave the board, 0 too where no pair is left, and the
-- blocks by which vertices are paired
pub record Locals : Type 0 where
  pub into : List ℕ
  pub gone : List ℕ
  pub len : ℕ
  pub left : ℕ
  pub own : List ℕ

abbrev pub locals : List ℕ → List ℕ → ℕ → ℕ → List ℕ → Locals
locals into gone len left own = record { into = into; gone = gone; len = len; left = left; own = own }

-- tables and variables are those of the state c
pub record Here (h : Hypergraph) (c : Coarse) (T : Tables) (L : Locals) : Type 0 where
  pub stands : Stands h c T L.into L.gone L.len
  pub owned : Own h c.stack T.blocks T.n L.own
  pub goes : 1 ≤ L.left → L.left + 2 * T.k ≡ board_size h c.stack
  pub rests : L.left ≡ 0 → Coarsest h c

-- what is left to contract from c leads to the same end as from another state, which tables and variables now are. Each contraction takes a
-- vertex off the board, so that as many turns as there are vertices on it are enough
pub record Onward (h : Hypergraph) (c : Coarse) (T : Tables) (L : Locals) : Type 0 where
  pub there : Coarse
  pub here : Here h there T L
  pub same : coarsen h (board_size h c.stack) c ≡ coarsen h (board_size h there.stack) there

-- ---- one contraction
-- what `coarsen_once` asks. It has no use for the blocks' weights and the loaded sizes: whatever these are
pub record OnceOk (T : List ℕ → List ℕ → Tables) (L : Locals) (average : ℕ) : Type 0 where
  pub loads : List ℕ
  pub loaded : List ℕ
  pub h : Hypergraph
  pub c : Coarse
  pub average-is : average ≡ average_weight h
  pub here : Here h c (T loads loaded) L
  pub some : 1 ≤ L.left

-- what it does
pub record Once (T : Tables) (L : Locals) (average : ℕ) (T' : Tables) (L' : Locals) : Type 0 where
  pub is : (h : Hypergraph) (c : Coarse) → average ≡ average_weight h → Here h c T L → Onward h c T' L'
  pub less : L'.left < L.left
  pub keeps : (h : Hypergraph) (c : Coarse) → Here h c T L → Keeps T T'

-- ratings by the tables, and by the blocks by which vertices are paired
abbrev pub score_in : Tables → List ℕ → ℕ → ℕ → ℕ → ℕ
score_in T own average = score_of T.bits T.pins T.firsts T.sizes T.net_weights own T.weights T.m average

-- the pair that they give
abbrev pub Chosen : Tables → List ℕ → ℕ → Join → Type 0
Chosen T own average r = BestJoin (score_in T own average) T.n r

chosen_is : {h : Hypergraph} {cs : List Contraction} {block : ℕ → ℕ} {T : Tables} {own : List ℕ} (average : ℕ) (r : Join) → average ≡ average_weight h → Sound h cs block T → Own h cs T.blocks T.n own → Chosen T own average r
    → join_best h cs block ≡ join_of r
chosen_is {h} {cs} {block} {T} {own} average r e s o b =
    sym (join_is h cs block T.bits T.pins T.firsts T.sizes T.net_weights own T.weights T.m T.n average (linked s o average e)) ∙ sym b.same

-- there is none
pub once-none : (T : Tables) (L : Locals) (average : ℕ) (r : Join) → 1 ≤ L.left → Chosen T L.own average r → r.rating ≡ 0 → Once T L average T (locals L.into L.gone L.len 0 L.own)
once-none T L average r some b z = record {
  is = λ h c e H. record {
    there = c;
    here = record {
      stands = H.stands;
      owned = H.owned;
      goes = λ l. absurd (omega arith);
      rests = λ _. inr (chosen_is average r e H.stands.sound H.owned b ∙ join_of-none r z);
    };
    same = refl;
  };
  less = some;
  keeps = λ h c H. keeps-none T;
}

-- there is one
module _ {h : Hypergraph} {cs : List Contraction} {block : ℕ → ℕ} {T : Tables} {own : List ℕ} (average : ℕ) (r : Join) (e : average ≡ average_weight h) (s : Sound h cs block T) (o : Own h cs T.blocks T.n own) (b : Chosen T own average r) (l : 1 ≤ r.rating) where
  can : can_join h cs block r.into r.gone ≡ true
  can = join-may h cs block T.bits T.pins T.firsts T.sizes T.net_weights own T.weights T.m T.n average (linked s o average e) r b l

  may : Joins cs (record { into = r.into; gone = r.gone }) × (block r.into ≡ block r.gone)
  may = can-join h cs block r.into r.gone (b.within l).0 can

  pub gone-free : is_fixed h cs r.gone ≡ false
  gone-free = (can-free h cs block r.into r.gone can).1

  pub pair_ok : Pair T.blocks T.n (r.into - 1) (r.gone - 1)
  pair_ok =
      let i = b.within l in
      let u = block_at s r.into i.0 i.1 in
      let v = block_at s r.gone i.2 i.3 in
      record {
        u-in = omega (arith, i);
        v-in = omega (arith, i);
        two = λ q. may.0.two (omega (arith, i));
        on = omega (arith, v, block-from s r.gone i.2 i.3 (board-is h cs r.gone may.0.gone-on (can-sale h cs block r.into r.gone can).1));
        together = u ∙ may.1 ∙ sym v;
      }

  -- the stack has room
  pub fewer : board_size h (record { into = r.into; gone = r.gone } ∷ cs) + 1 ≡ board_size h cs
  fewer = let i = b.within l in board-join h cs (record { into = r.into; gone = r.gone }) may.0 (can-sale h cs block r.into r.gone can).1 i.2 (omega (arith, i, s.follows.says.all-vertices))

  joined-sound : {T' : Tables} → Joined T T' (r.into - 1) (r.gone - 1) → Sound h (record { into = r.into; gone = r.gone } ∷ cs) (place block r.gone 0) T'
  joined-sound {T'} j =
      let i = b.within l in
      let u : r.into - 1 + 1 ≡ r.into = omega (arith, i) in
      let v : r.gone - 1 + 1 ≡ r.gone = omega (arith, i) in
      subst (λ (y : ℕ). Sound h (record { into = r.into; gone = y } ∷ cs) (place block y 0) T') v
      (subst (λ (x : ℕ). Sound h (record { into = x; gone = r.gone - 1 + 1 } ∷ cs) (place block (r.gone - 1 + 1) 0) T') u (j.sound h cs block s))

  -- the vertex that goes is in no block
  joined-own : {T' : Tables} → T'.n ≡ T.n → Joined T T' (r.into - 1) (r.gone - 1) → Own h (record { into = r.into; gone = r.gone } ∷ cs) T'.blocks T'.n (set own (r.gone - 1) 0)
  joined-own qn j = let i = b.within l in own-join (record { into = r.into; gone = r.gone }) i.2 i.3 s.follows.room.few-vertices qn gone-free s (joined-sound j) o

-- what v's nets add to the bound of a vertex, by the same
abbrev pub rise_in : Tables → List ℕ → ℕ → ℕ → ℕ → ℕ
rise_in T own = rise_of T.bits T.pins T.firsts T.sizes T.net_weights own T.m

-- the bounds that the choice leaves are bounds after the contraction
pub once-bounds : {T : List ℕ → List ℕ → Tables} {L : Locals} {average : ℕ} (o : OnceOk T L average) (T' : Tables) (r : Join) (l : List ℕ)
    → T'.n ≡ (T o.loads o.loaded).n → T'.m ≡ (T o.loads o.loaded).m → Chosen (T o.loads o.loaded) L.own average r → 1 ≤ r.rating
    → Joined (T o.loads o.loaded) T' (r.into - 1) (r.gone - 1)
    → Planned (score_in (T o.loads o.loaded) L.own average) (rise_in (T o.loads o.loaded) L.own) (T o.loads o.loaded).n l r
    → Bounded (score_of T'.bits T'.pins T'.firsts T'.sizes T'.net_weights (set L.own (r.gone - 1) 0) T'.weights (T o.loads o.loaded).m average) (T o.loads o.loaded).n l
once-bounds {T} {L} {average} o T' r l qn qm b some j p =
    let S = T o.loads o.loaded in
    let h = o.h in
    let cs = o.c.stack in
    let block = o.c.block in
    let s = o.here.stands.sound in
    let i = b.within some in
    let c : Contraction = record { into = r.into; gone = r.gone } in
    let own' : List ℕ = set L.own (r.gone - 1) 0 in
    let s' : Sound h (c ∷ cs) (place block r.gone 0) T' = joined-sound average r o.average-is s o.here.owned b some j in
    let k' : Linked h (c ∷ cs) (place block r.gone 0) T'.bits T'.pins T'.firsts T'.sizes T'.net_weights own' T'.weights S.m S.n average =
    subst (λ (x : ℕ). Linked h (c ∷ cs) (place block r.gone 0) T'.bits T'.pins T'.firsts T'.sizes T'.net_weights own' T'.weights x S.n average) qm
    (subst (λ (x : ℕ). Linked h (c ∷ cs) (place block r.gone 0) T'.bits T'.pins T'.firsts T'.sizes T'.net_weights own' T'.weights T'.m x average) qn (linked s' (joined-own average r o.average-is s o.here.owned b some qn j) average o.average-is)) in
    bounded-after h cs block S.bits S.pins S.firsts S.sizes S.net_weights L.own S.weights S.m S.n average (linked s o.here.owned average o.average-is) c s'.follows.says.sound i.0 i.1 i.2 i.3
    T'.bits T'.pins T'.firsts T'.sizes T'.net_weights own' T'.weights k' (gone-free average r o.average-is s o.here.owned b some) l (p.some some)

coarsen-step : (h : Hypergraph) (c : Coarse) (u v f : ℕ) (q : ℕ) → 2 * h.blocks < board_size h c.stack → join_best h c.stack c.block ≡ best u v (pos q)
    → coarsen h (suc f) c ≡ coarsen h f (record { stack = record { into = u; gone = v } ∷ c.stack; block = place c.block v 0 })
unfolding coarsen join_turn
coarsen-step h c u v f q l e =
    ap (λ (t : Bool). cond t (join_turn h c (coarsen h f) (join_best h c.stack c.block)) c) (lt-ltb (2 * h.blocks) (board_size h c.stack) l)
    ∙ ap (join_turn h c (coarsen h f)) e

pub once_join : (T T' : Tables) (L : Locals) (average : ℕ) (r : Join) (into gone : List ℕ) (len x y : ℕ) → 1 ≤ L.left → L.len < 1024 → Chosen T L.own average r → 1 ≤ r.rating
    → T'.n ≡ T.n → T'.k ≡ T.k → Joined T T' (r.into - 1) (r.gone - 1) → x ≡ r.into → y ≡ r.gone → Pushed L.into L.gone L.len x y into gone len
    → Once T L average T' (locals into gone len (L.left - 1) (set L.own (r.gone - 1) 0))
once_join T T' L average r into gone len x y some room b l qn qk j qx qy p = record {
  is = λ h c e H.
      let s = H.stands.sound in
      let next : Coarse = record { stack = record { into = r.into; gone = r.gone } ∷ c.stack; block = place c.block r.gone 0 } in
      let less : board_size h next.stack + 1 ≡ board_size h c.stack = fewer average r e s H.owned b l in
      let up : board_size h c.stack ≡ suc (board_size h next.stack) = omega arith in
      let more : L.left + 2 * T.k ≡ board_size h c.stack = H.goes some in
      let k-is : T.k ≡ h.blocks = s.follows.says.all_blocks in
      record {
        there = next;
        here = record {
          stands = record {
            sound = joined-sound average r e s H.owned b l j;
            stack_is =
                ap₂ (λ (u v : ℕ). record { into = u; gone = v } ∷ c.stack) (sym qx) (sym qy)
                ∙ ap (λ (cs : List Contraction). record { into = x; gone = y } ∷ cs) H.stands.stack_is
                ∙ sym (pairs-push (λ u v. record { into = u; gone = v }) (omega (arith, H.stands.into-fit)) (omega (arith, H.stands.gone-fit)) p);
            into-fit = ap length p.xs-are ∙ length-set L.into L.len x ∙ H.stands.into-fit;
            gone-fit = ap length p.ys-are ∙ length-set L.gone L.len y ∙ H.stands.gone-fit;
          };
          owned = joined-own average r e s H.owned b l qn j;
          goes = λ z. omega (arith, qk);
          rests = λ z. inl (le-ltb (2 * h.blocks) (board_size h next.stack) (omega arith));
        };
        same = ap (λ (f : ℕ). coarsen h f c) up ∙ coarsen-step h c r.into r.gone (board_size h next.stack) r.rating (omega arith) (chosen_is average r e s H.owned b ∙ join_of-some r l);
      };
  less = omega arith;
  keeps = λ h c H. j.keeps h c.stack c.block H.stands.sound;
}

-- how many vertices are on the board, by the tables
unfoldable pub board_in : List ℕ → ℕ → ℕ
board_in blocks n = count_below n (λ x. ltb 0 (get_or blocks x 0))

pub board-in : {h : Hypergraph} {cs : List Contraction} {block : ℕ → ℕ} {T : Tables} → Sound h cs block T → board_in T.blocks T.n ≡ board_size h cs
unfolding board_size board_in
board-in {h} {cs} {T = T} s =
    sum-sum_to T.n (λ x. one (ltb 0 (get_or T.blocks x 0))) (λ v. one (on_board h cs v)) (λ i l. ap one (board-test s i l ∙ ap (on_board h cs) (let e : i + 1 ≡ suc i = omega arith in e)))
    ∙ ap (λ (n : ℕ). sum_to n (λ v. one (on_board h cs v))) s.follows.says.all-vertices

-- how long the stack is
pub len_is : {h : Hypergraph} {c : Coarse} {T : Tables} {into gone : List ℕ} {len : ℕ} → Stands h c T into gone len → board_size h c.stack + len ≤ T.n
len_is {h} {c} {into = into} {gone = gone} {len = len} st = omega (
  arith,
  board-stack h c.stack st.sound.follows.says.sound st.sound.inside,
  lots-le h,
  st.sound.follows.says.all-vertices,
  ap length st.stack_is,
  pairs-length {A = Contraction} (λ u v. record { into = u; gone = v }) into gone len,
)

pub once-room : {T : List ℕ → List ℕ → Tables} {L : Locals} {average : ℕ} (o : OnceOk T L average) → (L.len < (T o.loads o.loaded).n) × ((T o.loads o.loaded).n ≤ 1024)
once-room o = (omega (arith, o.here.goes o.some, len_is o.here.stands, o.some), o.here.stands.sound.follows.room.few-vertices)

-- ---- all of them
-- what `coarsen` asks
pub record CoarsenOk (T : List ℕ → List ℕ → Tables) (fixedmarks into gone : List ℕ) (len average : ℕ) : Type 0 where
  pub loads : List ℕ
  pub loaded : List ℕ
  pub h : Hypergraph
  pub c : Coarse
  pub average-is : average ≡ average_weight h
  pub fixed : FixedIs fixedmarks h c.stack
  pub stands : Stands h c (T loads loaded) into gone len

-- what it does
pub record Coarsens (T : Tables) (fixedmarks into gone : List ℕ) (len average : ℕ) (T' : Tables) (into' gone' : List ℕ) (len' : ℕ) : Type 0 where
  pub is : (h : Hypergraph) (c : Coarse) → average ≡ average_weight h → FixedIs fixedmarks h c.stack → Stands h c T into gone len → Stands h (coarsen h (board_size h c.stack) c) T' into' gone' len'
  pub keeps : (h : Hypergraph) (c : Coarse) → average ≡ average_weight h → FixedIs fixedmarks h c.stack → Stands h c T into gone len → Keeps T T'

-- after some of them; at first vertices were paired by the blocks `own`
pub record Going (T : Tables) (own into gone : List ℕ) (len average : ℕ) (T' : Tables) (L : Locals) : Type 0 where
  pub is : (h : Hypergraph) (c : Coarse) → average ≡ average_weight h → Own h c.stack T.blocks T.n own → Stands h c T into gone len → Onward h c T' L
  pub keeps : (h : Hypergraph) (c : Coarse) → average ≡ average_weight h → Own h c.stack T.blocks T.n own → Stands h c T into gone len → Keeps T T'

pub going-none : (T : Tables) (own into gone : List ℕ) (len average left : ℕ) → left ≡ board_in T.blocks T.n - 2 * T.k → Going T own into gone len average T (locals into gone len left own)
going-none T own into gone len average left q = record {
  is = λ h c e o st. record {
    there = c;
    here = record {
      stands = st;
      owned = o;
      goes = λ l. omega (arith, board-in st.sound);
      rests = λ z. inl (le-ltb (2 * h.blocks) (board_size h c.stack) (omega (arith, board-in st.sound, st.sound.follows.says.all_blocks)));
    };
    same = refl;
  };
  keeps = λ h c e o st. keeps-none T;
}

pub going_more : {T T' T'' : Tables} {own into gone : List ℕ} {len average : ℕ} {L L' : Locals} → T'.n ≡ T.n → T'.m ≡ T.m → T'.k ≡ T.k → T'.firsts ≡ T.firsts → T'.loaded ≡ T.loaded
    → Going T own into gone len average T' L → Once T' L average T'' L' → Going T own into gone len average T'' L'
going_more qn qm qk qf ql g o = record {
  is = λ h c e w st.
      let a = g.is h c e w st in
      let b = o.is h a.there e a.here in
      record { there = b.there; here = b.here; same = a.same ∙ b.same };
  keeps = λ h c e w st. keeps-more qn qm qk qf ql (g.keeps h c e w st) (o.keeps h (g.is h c e w st).there (g.is h c e w st).here);
}

-- what is left after a turn that contracted a pair, and after one that found none
module _ {T T' : Tables} {own into gone into' gone' own' : List ℕ} {len average len' : ℕ} {some : Bool} (rest : ℕ) (g : Going T own into gone len average T' (locals into' gone' len' (cond some rest 0) own')) where
  pub going_on : some ≡ true → (next : ℕ) → next ≡ rest → Going T own into gone len average T' (locals into' gone' len' next own')
  going_on e next q = subst (λ (x : ℕ). Going T own into gone len average T' (locals into' gone' len' x own')) (ap (λ (b : Bool). cond b rest 0) e ∙ sym q) g

  pub going_out : some ≡ false → Going T own into gone len average T' (locals into' gone' len' 0 own')
  going_out e = subst (λ (x : ℕ). Going T own into gone len average T' (locals into' gone' len' x own')) (ap (λ (b : Bool). cond b rest 0) e) g

-- the marks say who is fixed
owned-first : {h : Hypergraph} {c : Coarse} {T : Tables} {fixedmarks own into gone : List ℕ} {len : ℕ} → FixedIs fixedmarks h c.stack → Stands h c T into gone len → OwnBlocks (λ y. eqb (on fixedmarks 1 y) 1) T.blocks T.n own → Own h c.stack T.blocks T.n own
owned-first f st o = own_fixed f st.sound.follows.says.all-vertices o

pub once_asks : {T T' : List ℕ → List ℕ → Tables} {fixedmarks own into gone : List ℕ} {len average : ℕ} {L : Locals} (ok : CoarsenOk T fixedmarks into gone len average)
    → OwnBlocks (λ y. eqb (on fixedmarks 1 y) 1) (T ok.loads ok.loaded).blocks (T ok.loads ok.loaded).n own
    → ((loads loaded : List ℕ) → Going (T loads loaded) own into gone len average (T' loads loaded) L) → 1 ≤ L.left → OnceOk T' L average
once_asks ok o g l =
    let a = (g ok.loads ok.loaded).is ok.h ok.c ok.average-is (owned-first ok.fixed ok.stands o) ok.stands in
    record { loads = ok.loads; loaded = ok.loaded; h = ok.h; c = a.there; average-is = ok.average-is; here = a.here; some = l }

pub going_done : {T T' : Tables} {fixedmarks own into gone : List ℕ} {len average : ℕ} {L : Locals} → OwnBlocks (λ y. eqb (on fixedmarks 1 y) 1) T.blocks T.n own → Going T own into gone len average T' L → L.left ≡ 0
    → Coarsens T fixedmarks into gone len average T' L.into L.gone L.len
going_done {T' = T'} {L = L} o g z = record {
  is = λ h c e f st.
      let a = g.is h c e (owned-first f st o) st in
      let b : coarsen h (board_size h c.stack) c ≡ a.there = a.same ∙ coarsest-rests h a.there (a.here.rests z) (board_size h a.there.stack) in
      subst (λ (x : Coarse). Stands h x T' L.into L.gone L.len) (sym b) a.here.stands;
  keeps = λ h c e f st. g.keeps h c e (owned-first f st o) st;
}

-- counted vertex by vertex
pub board-none : (blocks : List ℕ) → 0 ≡ board_in blocks 0
unfolding board_in
board-none blocks = sym (sum-zero (λ x. one (ltb 0 (get_or blocks x 0))))

pub board-more : (blocks : List ℕ) (i c w : ℕ) → c ≡ board_in blocks i → w ≡ one (ltb 0 (get_or blocks i 0)) → c + w ≡ board_in blocks (i + 1)
unfolding board_in
board-more blocks i c w q r = ap₂ (λ (a b : ℕ). a + b) q r ∙ sym (sum_step i (λ x. one (ltb 0 (get_or blocks x 0))))

pub board-all : (blocks : List ℕ) (i n c : ℕ) → i ≡ n → n ≤ 1024 → c ≡ board_in blocks i → (c ≡ board_in blocks n) × (c ≤ 1024)
unfolding board_in
board-all blocks i n c e l q = (q ∙ ap (board_in blocks) e, omega (arith, count-le i (λ x. ltb 0 (get_or blocks x 0))))

-- a test as a number
pub placed-as : (b : Bool) {w : ℕ} → w ≡ from_bool b → (w ≡ one b) × (w ≤ 1)
placed-as true e = (e, omega (arith, e))
placed-as false e = (e, omega (arith, e))

pub placed-none : (b : ℕ) → b ≡ 0 → 0 ≡ one (ltb 0 b)
placed-none b e = sym (ap one (le-ltb 0 b (omega arith)))

pub placed-some : (b : ℕ) → (b ≡ 0 → ⊥) → 1 ≡ one (ltb 0 b)
placed-some b n = sym (ap one (lt-ltb 0 b (omega (arith, n))))
