-- A's way back on sound tables: contractions are undone, the last one first, each with a walk from the parted pair. What one of them and the
-- loop of them ask and do, with the laws that the proofs of the code cite. No fixed vertex left the board by them, so that the marks of who is
-- fixed hold all along, and the rows of the nets are made right after each undo. Rests on operations's Join, search_moves's Parted, walk's Steps and
-- guarantees' Fixed. Assumes nothing.
use Rattle.std.specs.Prelude.{ℕ, ◌+◌, ◌-◌, ◌<◌, ◌≤◌, ◌≡◌, refl, List, [], ◌∷◌, length, get_or}
use Rattle.std.proofs.Common.{arith, sym, ap, ap₂, ◌∙◌, subst}
use Rattle.model.specs.Catalogue.{Hypergraph}
use Rattle.model.specs.Measure.{Contraction}
use Rattle.model.specs.Machine.{uncontract}
use Rattle.model.specs.Search.{Fine, walk, walked, refine}
use Rattle.model.specs.Lent.{stack_of}
use Rattle.guarantees.specs.Board.{board-is}
use Rattle.guarantees.specs.Caps.{CeilingIs}
use Rattle.guarantees.specs.Climbs.{Sound as SoundStack}
use Rattle.guarantees.specs.Fixed.{Free, fixed-free}
use Rattle.guarantees.specs.Splits.{AllInside}
use Rattle.guarantees.specs.SearchBounds.{tried-le, walk-counts}
use Rattle.guarantees.specs.StateBounds.{stack-le}
use Rattle.fixed.specs.Starting.{FixedIs}
use Rattle.pins.specs.Board.{join}
use Rattle.operations.specs.Pairs.{pairs-none, pairs-some, pairs-length}
use Rattle.operations.specs.Tables.{Tables, Sound, Keeps}
use Rattle.operations.specs.Move.{own_block, in-range}
use Rattle.operations.specs.Join.{Split}
use Rattle.operations.specs.Keeping.{keeps-none, keeps-more}
use Rattle.search_moves.specs.Rows.{RowsAre}
use Rattle.search_moves.specs.Parted.{PartedTo, PartRowsOk, part-rows-ok, rows-parted}
use Rattle.walk.specs.Steps.{WalkOk, Walks, Ended}

-- ---- one of them
-- what `refine_once` asks: (u, v), counted from 0, is on top of the stack
pub record PartOk (T : Tables) (fixedmarks : List ℕ) (u v : ℕ) : Type 0 where
  pub h : Hypergraph
  pub cs : List Contraction
  pub block : ℕ → ℕ
  pub sound : Sound h (join u v ∷ cs) block T
  pub fixed : FixedIs fixedmarks h cs

-- what it does
pub record Parts (T : Tables) (ceilings fixedmarks : List ℕ) (u v : ℕ) (T' : Tables) (tried kept : ℕ) : Type 0 where
  pub is : (h : Hypergraph) (ceiling : ℕ → ℕ) (cs : List Contraction) (block : ℕ → ℕ) → CeilingIs ceilings h ceiling → FixedIs fixedmarks h cs → Sound h (join u v ∷ cs) block T
      → Ended h cs (walk h ceiling cs (uncontract block (join u v)) (u + 1) (v + 1)) T' tried kept
  pub keeps : Keeps T T'

-- the parted pair is on the board
pub walk-asks : {T : Tables} (T' : List ℕ → List ℕ → Tables) (aboves loaded : List ℕ) {fixedmarks : List ℕ} {u v : ℕ} → PartOk T fixedmarks u v → Split T (T' aboves loaded) u v → WalkOk T' fixedmarks u v
walk-asks T' aboves loaded {u = u} {v} o p =
    let s = p.sound o.h o.cs o.block o.sound in
    let all = s.follows.says.all-vertices in
    let u-in : u < (T' aboves loaded).n = omega (arith, o.sound.inside.0.1, all) in
    let v-in : v < (T' aboves loaded).n = omega (arith, o.sound.inside.0.3, all) in
    let j = o.sound.follows.says.sound.0 in
    record {
      aboves = aboves;
      loaded = loaded;
      h = o.h;
      cs = o.cs;
      block = uncontract o.block (join u v);
      sound = s;
      fixed = o.fixed;
      u-in = u-in;
      u-on = omega (arith, own_block s u u-in, (in-range s u u-in (board-is o.h o.cs (u + 1) j.into-on o.sound.inside.0.4)).0);
      v-in = v-in;
      v-on = omega (arith, own_block s v v-in, (in-range s v v-in (board-is o.h o.cs (v + 1) j.gone-on o.sound.inside.0.5)).0);
    }

pub parts : {T T' T'' : Tables} {ceilings fixedmarks : List ℕ} {u v tried kept : ℕ} → T'.n ≡ T.n → T'.m ≡ T.m → T'.k ≡ T.k → T'.firsts ≡ T.firsts → T'.loaded ≡ T.loaded
    → Split T T' u v → Walks T' ceilings fixedmarks u v T'' tried kept → Parts T ceilings fixedmarks u v T'' tried kept
parts {u = u} {v = v} qn qm qk qf ql p w = record {
  is = λ h ceiling cs block q f s. w.is h ceiling cs (uncontract block (join u v)) q f (p.sound h cs block s);
  keeps = keeps-more qn qm qk qf ql p.keeps w.keeps;
}

-- the rows of the nets, made right after the undo
module _ {T T' : Tables} {fixedmarks rows : List ℕ} {u v : ℕ} (qn : T'.n ≡ T.n) (qm : T'.m ≡ T.m) (o : PartOk T fixedmarks u v) (p : Split T T' u v) (r : RowsAre rows T.pins T.firsts T.sizes T.m) where
  undone : Sound o.h o.cs (uncontract o.block (join u v)) T'
  undone = p.sound o.h o.cs o.block o.sound

  pub rows-ask : PartRowsOk rows T'.bits T.m u v
  rows-ask = part-rows-ok u v o.sound undone qn qm r

  pub rows-hold : {rows' : List ℕ} → PartedTo rows T'.bits u v T.m rows' → RowsAre rows' T'.pins T'.firsts T'.sizes T'.m
  rows-hold q = rows-parted u v o.sound undone qn qm r q

-- a walk's numbers are small
pub parts-few : {T T' : Tables} {ceilings fixedmarks : List ℕ} {u v tried kept : ℕ} → PartOk T fixedmarks u v → Parts T ceilings fixedmarks u v T' tried kept → (tried ≤ 1024) × (kept ≤ tried)
parts-few {ceilings = ceilings} {u = u} {v = v} o p =
    let e = p.is o.h (λ b. get_or ceilings (b - 1) 0) o.cs o.block (λ b _ _. refl) o.fixed o.sound in
    let q : ℕ → ℕ = uncontract o.block (join u v) in (
      omega (arith, e.tried-is, tried-le o.h (λ b. get_or ceilings (b - 1) 0) o.cs q (u + 1) (v + 1), o.sound.follows.says.all-vertices, o.sound.follows.room.few-vertices),
      omega (arith, e.tried-is, e.kept-is, (walk-counts o.h (λ b. get_or ceilings (b - 1) 0) o.cs q (u + 1) (v + 1)).kept-le),
    )

-- ---- all of them
-- what `refine` asks
pub record RefineOk (T : Tables) (fixedmarks into gone : List ℕ) (len : ℕ) : Type 0 where
  pub h : Hypergraph
  pub block : ℕ → ℕ
  pub sound : Sound h (stack_of into gone len) block T
  pub fixed : FixedIs fixedmarks h []
  pub free : Free h (stack_of into gone len)
  pub into-fit : length into ≡ 1024
  pub gone-fit : length gone ≡ 1024

-- tables and numbers at its end are those of f
pub record Fined (h : Hypergraph) (f : Fine) (T : Tables) (tried kept : ℕ) : Type 0 where
  pub sound : Sound h [] f.block T
  pub tried-is : tried ≡ f.tried
  pub kept-is : kept ≡ f.kept

-- what it does
pub record Refines (T : Tables) (ceilings fixedmarks into gone : List ℕ) (len : ℕ) (T' : Tables) (tried kept : ℕ) : Type 0 where
  pub is : (h : Hypergraph) (ceiling block : ℕ → ℕ) → CeilingIs ceilings h ceiling → FixedIs fixedmarks h [] → Free h (stack_of into gone len) → Sound h (stack_of into gone len) block T
      → Fined h (refine h ceiling (stack_of into gone len) (record { block = block; tried = 0; kept = 0 })) T' tried kept
  pub keeps : Keeps T T'

-- with i contractions left, what is left to do leads to the same end
pub record Behind (h : Hypergraph) (ceiling : ℕ → ℕ) (end : Fine) (into gone : List ℕ) (i : ℕ) (T : Tables) (tried kept : ℕ) : Type 0 where
  pub there : ℕ → ℕ
  pub sound : Sound h (stack_of into gone i) there T
  pub free : Free h (stack_of into gone i)
  pub same : end ≡ refine h ceiling (stack_of into gone i) (record { block = there; tried = tried; kept = kept })

pub record Refining (T : Tables) (ceilings fixedmarks into gone : List ℕ) (len i : ℕ) (T' : Tables) (tried kept : ℕ) : Type 0 where
  pub is : (h : Hypergraph) (ceiling block : ℕ → ℕ) → CeilingIs ceilings h ceiling → FixedIs fixedmarks h [] → Free h (stack_of into gone len) → Sound h (stack_of into gone len) block T
      → Behind h ceiling (refine h ceiling (stack_of into gone len) (record { block = block; tried = 0; kept = 0 })) into gone i T' tried kept
  pub keeps : Keeps T T'

pub refining-none : (T : Tables) (ceilings fixedmarks into gone : List ℕ) (len : ℕ) → Refining T ceilings fixedmarks into gone len len T 0 0
refining-none T ceilings fixedmarks into gone len = record { is = λ h ceiling block q f r s. record { there = block; sound = s; free = r; same = refl }; keeps = keeps-none T }

-- the stack's length
pub stack-to : {T : Tables} {fixedmarks into gone : List ℕ} {len : ℕ} → RefineOk T fixedmarks into gone len → len ≤ 1024
stack-to {into = into} {gone = gone} {len = len} o = omega (
  arith,
  stack-le o.h (stack_of into gone len) o.sound.follows.says.sound o.sound.inside,
  pairs-length {A = Contraction} (λ u v. record { into = u; gone = v }) into gone len,
  o.sound.follows.says.all-vertices,
  o.sound.follows.room.few-vertices,
)

module _ {h : Hypergraph} {block : ℕ → ℕ} {T : Tables} (into gone : List ℕ) (i : ℕ) (l : 1 ≤ i) (s : Sound h (stack_of into gone i) block T) where
  -- its top is a pair of vertices
  pub top_from : (1 ≤ get_or into (i - 1) 0) × (1 ≤ get_or gone (i - 1) 0)
  top_from = let a = subst (AllInside h) (pairs-some (λ u v. record { into = u; gone = v }) into gone i l) s.inside in (a.0.0, a.0.2)

  top-is : (u v : ℕ) → u ≡ get_or into (i - 1) 0 - 1 → v ≡ get_or gone (i - 1) 0 - 1 → stack_of into gone i ≡ join u v ∷ stack_of into gone (i - 1)
  top-is u v qu qv =
      let a : get_or into (i - 1) 0 ≡ u + 1 = omega (arith, top_from) in
      let b : get_or gone (i - 1) 0 ≡ v + 1 = omega (arith, top_from) in
      pairs-some (λ u v. record { into = u; gone = v }) into gone i l
      ∙ ap₂ (λ (x y : ℕ). record { into = x; gone = y } ∷ stack_of into gone (i - 1)) a b

-- the marks hold while no fixed vertex has left the board
fixed-along : {h : Hypergraph} {fixedmarks : List ℕ} (cs : List Contraction) → SoundStack cs → Free h cs → FixedIs fixedmarks h [] → FixedIs fixedmarks h cs
fixed-along {h} cs s r f = record { len = f.len; fixed = λ x l. f.fixed x l ∙ sym (fixed-free h cs s r (x + 1)); no-candidate = f.no-candidate; no-net = f.no-net }

-- the stack below its top
module _ {h : Hypergraph} {ceiling : ℕ → ℕ} {end : Fine} {T : Tables} {into gone : List ℕ} {i tried kept u v : ℕ} (l : 1 ≤ i) (qu : u ≡ get_or into (i - 1) 0 - 1) (qv : v ≡ get_or gone (i - 1) 0 - 1) (b : Behind h ceiling end into gone i T tried kept) where
  below-sound : Sound h (join u v ∷ stack_of into gone (i - 1)) b.there T
  below-sound = subst (λ (cs : List Contraction). Sound h cs b.there T) (top-is into gone i l b.sound u v qu qv) b.sound

  below_free : Free h (stack_of into gone (i - 1))
  below_free = (subst (Free h) (top-is into gone i l b.sound u v qu qv) b.free).1

  below-fixed : {fixedmarks : List ℕ} → FixedIs fixedmarks h [] → FixedIs fixedmarks h (stack_of into gone (i - 1))
  below-fixed f = fixed-along (stack_of into gone (i - 1)) below-sound.follows.says.sound.1 below_free f

-- where the loop stands, by some ceiling
behind : {T T' : Tables} {ceilings fixedmarks into gone : List ℕ} {len i tried kept : ℕ} (o : RefineOk T fixedmarks into gone len) → Refining T ceilings fixedmarks into gone len i T' tried kept
    → Behind o.h (λ b. get_or ceilings (b - 1) 0) (refine o.h (λ b. get_or ceilings (b - 1) 0) (stack_of into gone len) (record { block = o.block; tried = 0; kept = 0 })) into gone i T' tried kept
behind {ceilings = ceilings} o r = r.is o.h (λ b. get_or ceilings (b - 1) 0) o.block (λ b _ _. refl) o.fixed o.free o.sound

pub part-asks : {T T' : Tables} {ceilings fixedmarks into gone : List ℕ} {len : ℕ} (i : ℕ) {tried kept u v : ℕ} → RefineOk T fixedmarks into gone len → Refining T ceilings fixedmarks into gone len i T' tried kept → 1 ≤ i
    → u ≡ get_or into (i - 1) 0 - 1 → v ≡ get_or gone (i - 1) 0 - 1 → PartOk T' fixedmarks u v
part-asks {into = into} {gone} i o r l qu qv =
    let b = behind o r in
    record { h = o.h; cs = stack_of into gone (i - 1); block = b.there; sound = below-sound l qu qv b; fixed = below-fixed l qu qv b o.fixed }

pub top-asks : {T T' : Tables} {ceilings fixedmarks into gone : List ℕ} {len : ℕ} (i : ℕ) {tried kept : ℕ} → RefineOk T fixedmarks into gone len → Refining T ceilings fixedmarks into gone len i T' tried kept → 1 ≤ i
    → (1 ≤ get_or into (i - 1) 0) × (1 ≤ get_or gone (i - 1) 0)
top-asks {into = into} {gone} i o r l = top_from into gone i l (behind o r).sound

refine-step : (h : Hypergraph) (ceiling : ℕ → ℕ) (u v : ℕ) (cs : List Contraction) (block : ℕ → ℕ) (tried kept a b : ℕ) → a ≡ (walk h ceiling cs (uncontract block (join u v)) (u + 1) (v + 1)).tried → b ≡ (walk h ceiling cs (uncontract block (join u v)) (u + 1) (v + 1)).kept
    → refine h ceiling (join u v ∷ cs) (record { block = block; tried = tried; kept = kept })
    ≡ refine h ceiling cs (record { block = walked h cs (walk h ceiling cs (uncontract block (join u v)) (u + 1) (v + 1)); tried = tried + a; kept = kept + b })
unfolding refine
refine-step h ceiling u v cs block tried kept a b qa qb =
    ap₂ (λ (x y : ℕ). refine h ceiling cs (record { block = walked h cs (walk h ceiling cs (uncontract block (join u v)) (u + 1) (v + 1)); tried = tried + x; kept = kept + y })) (sym qa) (sym qb)

pub refining-more : {T T' T'' : Tables} {ceilings fixedmarks into gone : List ℕ} {len : ℕ} (i : ℕ) {tried kept u v a b tried' kept' : ℕ} → T'.n ≡ T.n → T'.m ≡ T.m → T'.k ≡ T.k → T'.firsts ≡ T.firsts → T'.loaded ≡ T.loaded
    → Refining T ceilings fixedmarks into gone len i T' tried kept → 1 ≤ i → u ≡ get_or into (i - 1) 0 - 1 → v ≡ get_or gone (i - 1) 0 - 1 → Parts T' ceilings fixedmarks u v T'' a b → tried' ≡ tried + a → kept' ≡ kept + b
    → Refining T ceilings fixedmarks into gone len (i - 1) T'' tried' kept'
refining-more {T' = T'} {T'' = T''} {into = into} {gone = gone} i {tried} {kept} {u} {v} {a} {b} {tried'} {kept'} qn qm qk qf ql r l qu qv p qt qp = record {
  is = λ h ceiling block q f free s.
      let x = r.is h ceiling block q f free s in
      let top = top-is into gone i l x.sound u v qu qv in
      let e = p.is h ceiling (stack_of into gone (i - 1)) x.there q (below-fixed l qu qv x f) (below-sound l qu qv x) in
      let new : ℕ → ℕ = walked h (stack_of into gone (i - 1)) (walk h ceiling (stack_of into gone (i - 1)) (uncontract x.there (join u v)) (u + 1) (v + 1)) in
      record {
        there = new;
        sound = e.sound;
        free = below_free l qu qv x;
        same =
            x.same
            ∙ ap (λ (cs : List Contraction). refine h ceiling cs (record { block = x.there; tried = tried; kept = kept })) top
            ∙ refine-step h ceiling u v (stack_of into gone (i - 1)) x.there tried kept a b e.tried-is e.kept-is
            ∙ ap₂ (λ (y z : ℕ). refine h ceiling (stack_of into gone (i - 1)) (record { block = new; tried = y; kept = z })) (sym qt) (sym qp);
      };
  keeps = keeps-more qn qm qk qf ql r.keeps p.keeps;
}

refine-end : (h : Hypergraph) (ceiling : ℕ → ℕ) (f : Fine) → refine h ceiling [] f ≡ f
unfolding refine
refine-end h ceiling f = refl

pub refining-done : {T T' : Tables} {ceilings fixedmarks into gone : List ℕ} {len : ℕ} (i : ℕ) {tried kept : ℕ} → Refining T ceilings fixedmarks into gone len i T' tried kept → i ≡ 0 → Refines T ceilings fixedmarks into gone len T' tried kept
refining-done {T' = T'} {into = into} {gone = gone} i {tried} {kept} r z = record {
  is = λ h ceiling block q f free s.
      let x = r.is h ceiling block q f free s in
      let bare : stack_of into gone i ≡ [] = ap (stack_of into gone) z ∙ pairs-none (λ u v. record { into = u; gone = v }) into gone in
      let f : Fine = record { block = x.there; tried = tried; kept = kept } in
      let e = x.same ∙ ap (λ (cs : List Contraction). refine h ceiling cs f) bare ∙ refine-end h ceiling f in
      subst (λ (g : Fine). Fined h g T' tried kept) (sym e) (record {
        sound = subst (λ (cs : List Contraction). Sound h cs x.there T') bare x.sound;
        tried-is = refl;
        kept-is = refl;
      });
  keeps = r.keeps;
}
