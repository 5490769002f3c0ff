-- A vertex goes to another block: what `go` needs and promises, and the proof that sound tables stay sound. Rests on Tables. Assumes nothing.
use Rattle.std.specs.Prelude.{ℕ, ◌+◌, ◌*◌, ◌-◌, ◌<◌, ◌≤◌, ◌^◌, ◌≡◌, refl, Bool, true, false, ◌&&◌, ltb, set, ℤ, pos, nat_abs, neg_ℤ, ◌+ℤ◌, ◌-ℤ◌}
use Rattle.std.proofs.Math.Decide.{ℕ_discrete}
use native.Mathlib.Omega.{arith}
use Rattle.std.proofs.Math.Path.{sym, ap}
use Rattle.std.proofs.Common.{◌∙◌, eq-eqb, lt-ltb, le-ltb, get_or-set_same, get_or-set_other, of_z, to_z}
use Rattle.std.proofs.Math.Bool.{cond}
use mathlib.Core.List.{List}
use Rattle.std.proofs.Math.Dec.{eqb}
use Rattle.std.proofs.Math.ListN.{length, get_or, length-set}
use Rattle.std.specs.Int.{w32}
use Rattle.std.specs.Int.Signed.{mag}
use Rattle.laws.specs.Integer.{neg_is, abs_is, read32}
use Rattle.laws.specs.Choice.{cond_yes, cond_no}
use Rattle.laws.specs.Sum.{sum_to-term}
use Rattle.laws.specs.Place.{place}
use Rattle.model.specs.Catalogue.{Hypergraph, vertices}
use Rattle.model.specs.Measure.{Contraction, above, is_top, on_board, weight, block_weight, metric, gain}
use Rattle.model.specs.Memory.{weight_entry}
use Rattle.guarantees.specs.Board.{board-top}
use Rattle.guarantees.specs.Ends.{placed-move, placed_on}
use Rattle.guarantees.specs.Weights.{block_weight-move}
use Rattle.guarantees.specs.Moves.{metric-gain}
use Rattle.guarantees.specs.Bounds.{metric-le}
use Rattle.guarantees.specs.WeightBounds.{weight-le, block_weight-le, loaded-le}
use Rattle.connectivity.specs.Raised.{at}
use Rattle.connectivity.specs.Law.{small_of}
use Rattle.levels.specs.Running.{Running, running}
use Rattle.levels.specs.Operations.{MoveNeeds, MoveDoes}
use Rattle.levels.specs.Reading.{reads}
use Rattle.operations.specs.Tables.{Tables, tables, running_of, Sound, Past, Keeps}
use Rattle.operations.specs.Total.{Lowers, Raises}

-- a vertex's number from its place, which counts from 0
pub back : (v : ℕ) → 1 ≤ v → v - 1 + 1 ≡ v
back v l = omega arith

-- u, counted from 0, is on the board, and t is another block than its own
pub record Open (blocks : List ℕ) (n k u t : ℕ) : Type 0 where
  pub u-in : u < n
  pub on : 1 ≤ get_or blocks u 0
  pub t-in : (1 ≤ t) × (t ≤ k)
  pub away : get_or blocks u 0 ≡ t → ⊥

-- the same, on sound tables
pub record Goes (T : Tables) (u t : ℕ) : Type 0 where
  pub h : Hypergraph
  pub cs : List Contraction
  pub block : ℕ → ℕ
  pub sound : Sound h cs block T
  pub open-pair : Open T.blocks T.n T.k u t

-- ---- what sound tables tell of a vertex
module _ {h : Hypergraph} {cs : List Contraction} {block : ℕ → ℕ} {T : Tables} (s : Sound h cs block T) (u : ℕ) (u-in : u < T.n) where
  -- its entry names its block, 0 off the board
  pub own_block : get_or T.blocks u 0 ≡ block (u + 1)
  own_block = s.follows.says.sits u u-in

  -- it is on the board, where its entry is a block
  pub here-board : 1 ≤ get_or T.blocks u 0 → on_board h cs (u + 1) ≡ true
  here-board l = placed_on h cs block s.placed (u + 1) (omega arith) (omega (arith, s.follows.says.all-vertices)) (omega (arith, own_block))

  pub on-board : 1 ≤ get_or T.blocks u 0 → above cs (u + 1) ≡ 0
  on-board l = board-top h cs (u + 1) (here-board l)

  -- its weight
  pub own-weight : above cs (u + 1) ≡ 0 → get_or T.weights u 0 ≡ weight h cs (u + 1)
  unfolding weight_entry
  own-weight q = s.weighs u u-in ∙ cond_yes (above cs (u + 1)) 0 (weight h cs (u + 1)) _ q

  pub in-range : on_board h cs (u + 1) ≡ true → (1 ≤ block (u + 1)) × (block (u + 1) ≤ T.k)
  in-range q = let r = (s.placed (u + 1) (omega arith) (omega (arith, s.follows.says.all-vertices))).board q in (r.0, omega (arith, r.1, s.follows.says.all_blocks))

  -- whether it is on the board, as its entry says
  pub board-test : ltb 0 (get_or T.blocks u 0) ≡ on_board h cs (u + 1)
  board-test = go (on_board h cs (u + 1)) refl
    where
      go : (b : Bool) → on_board h cs (u + 1) ≡ b → ltb 0 (get_or T.blocks u 0) ≡ on_board h cs (u + 1)
      go true q = lt-ltb 0 (get_or T.blocks u 0) (omega (arith, own_block, (in-range q).0)) ∙ sym q
      go false q = le-ltb 0 (get_or T.blocks u 0) (omega (arith, own_block, (s.placed (u + 1) (omega arith) (omega (arith, s.follows.says.all-vertices))).off q)) ∙ sym q

  -- its block bears its weight
  pub own-load : above cs (u + 1) ≡ 0 → weight h cs (u + 1) ≤ block_weight h cs block (block (u + 1))
  unfolding block_weight
  own-load q = omega (
    arith,
    sum_to-term (vertices h) (u + 1) (λ x. cond (is_top cs x && eqb (block x) (block (u + 1))) (weight h cs x) 0) (omega arith) (omega (arith, s.follows.says.all-vertices)),
    ap (λ (b : Bool). cond (b && eqb (block (u + 1)) (block (u + 1))) (weight h cs (u + 1)) 0) (eq-eqb (above cs (u + 1)) 0 q),
    ap (λ (b : Bool). cond b (weight h cs (u + 1)) 0) (eq-eqb (block (u + 1)) (block (u + 1)) refl),
  )

pos_inj : {a b : ℕ} → pos a ≡ pos b → a ≡ b
pos_inj {a} {b} q = cc

-- ---- a move
-- the loads after a vertex of weight w went from block s to block t, both counted from 1
abbrev pub lessened : List ℕ → ℕ → ℕ → List ℕ
lessened loads s w = set loads (s - 1) (get_or loads (s - 1) 0 - w)

abbrev pub shifted : List ℕ → ℕ → ℕ → ℕ → List ℕ
shifted loads s t w = set (lessened loads s w) (t - 1) (get_or (lessened loads s w) (t - 1) 0 + w)

-- what a move does: whatever the tables were sound for, they are sound for with u in t; and what is not in use is untouched
pub record Went (T T' : Tables) (u t : ℕ) : Type 0 where
  pub sound : (h : Hypergraph) (cs : List Contraction) (block : ℕ → ℕ) → Sound h cs block T → Sound h cs (place block (u + 1) t) T'
  pub keeps : Keeps T T'

pub past_same : (n : ℕ) (l : List ℕ) → Past n l l
past_same n l = record { len = refl; past = λ i q. refl }

pub past-set : (n i x : ℕ) (l : List ℕ) → i < n → Past n l (set l i x)
past-set n i x l h = record { len = length-set l i x; past = λ j q. get_or-set_other l i j x 0 (λ r. omega arith) }

module _ {h : Hypergraph} {cs : List Contraction} {block : ℕ → ℕ} {T : Tables} (s : Sound h cs block T) (u t : ℕ) (o : Open T.blocks T.n T.k u t) where
  on : above cs (u + 1) ≡ 0
  on = on-board s u o.u-in o.on

  here : on_board h cs (u + 1) ≡ true
  here = here-board s u o.u-in o.on

  own : get_or T.blocks u 0 ≡ block (u + 1)
  own = own_block s u o.u-in

  elsewhere : block (u + 1) ≡ t → ⊥
  elsewhere q = o.away (own ∙ q)

  pub moves-ok : MoveNeeds (running_of T) T.n T.m T.k u t
  moves-ok = record { h = h; cs = cs; block = block; loaded = T.loaded; follows = s.follows; on-board = on; u-in = o.u-in; t-in = o.t-in }

  pub gain-read : at T.gains (16 * u + (t - 1)) ≡ gain h cs block (u + 1) t
  gain-read =
      let e : t - 1 + 1 ≡ t = omega arith in
      (reads s.follows).gained u (t - 1) o.u-in (omega (arith, o.t-in)) ∙ ap (gain h cs block (u + 1)) e

  after_is : pos (metric h cs (place block (u + 1) t)) ≡ pos T.total -ℤ at T.gains (16 * u + (t - 1))
  after_is =
      let r = in-range s u o.u-in here in
      metric-gain h cs block (u + 1) t (omega arith) (omega (arith, s.follows.says.all-vertices)) r.0 (omega (arith, r.1, s.follows.says.all_blocks)) o.t-in.0 (omega (arith, s.follows.says.all_blocks)) elsewhere
      ∙ sym (cc (s.total-is, gain-read))

  pub lower-ok : Lowers T.total (at T.gains (16 * u + (t - 1)))
  lower-ok = record {
    after = metric h cs (place block (u + 1) t);
    is = after_is;
    small = omega (arith, metric-le s.fit.limits s.fit.narrow h s.fit.ranges.loaded s.fit.ranges.nets-high cs (place block (u + 1) t));
  }

  abbrev own-entry : ℕ
  own-entry = get_or T.blocks u 0

  abbrev own-weight-entry : ℕ
  own-weight-entry = get_or T.weights u 0

  abbrev less : List ℕ
  less = set T.loads (own-entry - 1) (get_or T.loads (own-entry - 1) 0 - own-weight-entry)

  -- the loads stay the blocks' weights
  loads-move : (j : ℕ) → j < T.k → get_or (shifted T.loads (get_or T.blocks u 0) t (get_or T.weights u 0)) j 0 ≡ block_weight h cs (place block (u + 1) t) (j + 1)
  loads-move j lj = go (ℕ_discrete j (t - 1)) (ℕ_discrete j (get_or T.blocks u 0 - 1))
    where
      law : block_weight h cs (place block (u + 1) t) (j + 1) + cond (eqb (block (u + 1)) (j + 1)) (weight h cs (u + 1)) 0 ≡ block_weight h cs block (j + 1) + cond (eqb t (j + 1)) (weight h cs (u + 1)) 0
      law = block_weight-move h cs block (u + 1) t (omega arith) (omega (arith, s.follows.says.all-vertices)) on (j + 1)

      few : T.k ≤ 16
      few = s.follows.world.frame.few

      go : Dec (j ≡ t - 1) → Dec (j ≡ own-entry - 1) → get_or (set less (t - 1) (get_or less (t - 1) 0 + own-weight-entry)) j 0 ≡ block_weight h cs (place block (u + 1) t) (j + 1)
      go (yes p) (yes q) = absurd (o.away (omega (arith, o.t-in.0, o.on)))
      go (yes p) (no q) =
          ap (λ (i : ℕ). get_or (set less (t - 1) (get_or less (t - 1) 0 + own-weight-entry)) i 0) p
          ∙ get_or-set_same less (t - 1) (get_or less (t - 1) 0 + own-weight-entry) 0 (omega (arith, length-set T.loads (own-entry - 1) (get_or T.loads (own-entry - 1) 0 - own-weight-entry), s.loads-fit))
          ∙ omega (
            arith,
            get_or-set_other T.loads (own-entry - 1) (t - 1) (get_or T.loads (own-entry - 1) 0 - own-weight-entry) 0 (λ r. q (omega arith)),
            ap (λ (i : ℕ). get_or T.loads i 0) p,
            s.bears j lj,
            law,
            own-weight s u o.u-in on,
            cond_no (block (u + 1)) (j + 1) (weight h cs (u + 1)) 0 (λ r. elsewhere (omega arith)),
            cond_yes t (j + 1) (weight h cs (u + 1)) 0 (omega arith),
          )
      go (no p) (yes q) =
          get_or-set_other less (t - 1) j (get_or less (t - 1) 0 + own-weight-entry) 0 p
          ∙ ap (λ (i : ℕ). get_or less i 0) q
          ∙ get_or-set_same T.loads (own-entry - 1) (get_or T.loads (own-entry - 1) 0 - own-weight-entry) 0 (omega (arith, s.loads-fit))
          ∙ omega (
            arith,
            ap (λ (i : ℕ). get_or T.loads i 0) q,
            s.bears j lj,
            law,
            own,
            own-weight s u o.u-in on,
            own-load s u o.u-in on,
            ap (block_weight h cs block) (let z : block (u + 1) ≡ j + 1 = omega (arith, own, o.on) in z),
            cond_yes (block (u + 1)) (j + 1) (weight h cs (u + 1)) 0 (omega (arith, own, o.on)),
            cond_no t (j + 1) (weight h cs (u + 1)) 0 (λ r. p (omega arith)),
          )
      go (no p) (no q) =
          get_or-set_other less (t - 1) j (get_or less (t - 1) 0 + own-weight-entry) 0 p
          ∙ get_or-set_other T.loads (own-entry - 1) j (get_or T.loads (own-entry - 1) 0 - own-weight-entry) 0 q
          ∙ omega (
            arith,
            s.bears j lj,
            law,
            cond_no (block (u + 1)) (j + 1) (weight h cs (u + 1)) 0 (λ r. q (omega (arith, own))),
            cond_no t (j + 1) (weight h cs (u + 1)) 0 (λ r. p (omega arith)),
          )

  module _ {counts visited blocks loads : List ℕ} {gains : List ℤ} {total : ℕ}
      (q : MoveDoes (running_of T) (running counts visited gains T.pins T.sizes T.bits blocks T.net_weights T.firsts) T.n T.m T.k u t)
      (l : loads ≡ shifted T.loads (get_or T.blocks u 0) t (get_or T.weights u 0))
      (d : pos total ≡ pos T.total -ℤ at T.gains (16 * u + (t - 1))) where
    abbrev T' : Tables
    T' = tables counts visited gains T.pins T.sizes T.bits blocks T.weights T.aboves loads T.net_weights T.firsts T.loaded T.n T.m T.k total

    pub sound-move : Sound h cs (place block (u + 1) t) T'
    unfolding weight_entry
    sound-move = record {
      fit = s.fit;
      inside = s.inside;
      placed = placed-move h cs block (u + 1) t s.placed here o.t-in.0 (omega (arith, s.follows.says.all_blocks));
      follows = q.follows h cs block T.loaded s.follows;
      no-more-blocks = λ e j le lj. (q.untouched T.loaded).tables.of-tally.masks-past e j lj ∙ s.no-more-blocks e j le lj;
      weighs = s.weighs;
      hangs = s.hangs;
      bears = λ j lj. ap (λ (z : List ℕ). get_or z j 0) l ∙ loads-move j lj;
      total-is = pos_inj (d ∙ sym after_is);
      weights-fit = s.weights-fit;
      aboves-fit = s.aboves-fit;
      loads-fit = ap length l ∙ length-set less (t - 1) (get_or less (t - 1) 0 + own-weight-entry) ∙ length-set T.loads (own-entry - 1) (get_or T.loads (own-entry - 1) 0 - own-weight-entry) ∙ s.loads-fit;
    }

pub keeps-move : {T : Tables} {counts visited blocks loads : List ℕ} {gains : List ℤ} {total u t : ℕ}
    → MoveDoes (running_of T) (running counts visited gains T.pins T.sizes T.bits blocks T.net_weights T.firsts) T.n T.m T.k u t
    → Keeps T (tables counts visited gains T.pins T.sizes T.bits blocks T.weights T.aboves loads T.net_weights T.firsts T.loaded T.n T.m T.k total)
keeps-move {T} q = record { running = q.untouched T.loaded; weights = past_same T.n T.weights; aboves = past_same T.n T.aboves }

-- the loads are long enough for both blocks, and neither passes its range
pub record Shifts (loads : List ℕ) (s t w : ℕ) : Type 0 where
  pub len : length loads ≡ 16
  pub s-in : (1 ≤ s) × (s ≤ 16)
  pub t-in : (1 ≤ t) × (t ≤ 16)
  pub there : w ≤ get_or loads (s - 1) 0
  pub small : get_or (lessened loads s w) (t - 1) 0 + w < 2 ^ 64

-- what `carry` asks for its two calls: of the running tables, and of the loads
pub record Carries (R : Running) (loads weights : List ℕ) (n m k u t : ℕ) : Type 0 where
  pub moves : MoveNeeds R n m k u t
  pub shifts : Shifts loads (get_or R.blocks u 0) t (get_or weights u 0)
  pub in_blocks : u < length R.blocks
  pub in-weights : u < length weights

-- `transfer` and `take_back` have no use for the vertices above and for the loaded sizes: whatever these are
pub record CanGo (T : List ℕ → List ℕ → Tables) (u t : ℕ) : Type 0 where
  pub aboves : List ℕ
  pub loaded : List ℕ
  pub goes : Goes (T aboves loaded) u t

-- ---- what `carry` gives on to `shift_load`, and takes from it
module _ (loads : List ℕ) {a b w s t v : ℕ} (qa : a ≡ s) (qb : b ≡ t) (qw : w ≡ v) where
  pub shifts-as : Shifts loads s t v → Shifts loads a b w
  shifts-as h = rw (qa, qb, qw) h

  pub shifted_as : {l : List ℕ} → l ≡ shifted loads a b w → l ≡ shifted loads s t v
  shifted_as h = rw (← qa, ← qb, ← qw) h

-- ---- what the calls of `transfer` and `take_back` need, and what they return, in the code's own variables
module _ {h : Hypergraph} {cs : List Contraction} {block : ℕ → ℕ} {T : Tables} (s : Sound h cs block T) {u t : ℕ} (o : Open T.blocks T.n T.k u t) where
  up-on : above cs (u + 1) ≡ 0
  up-on = on-board s u o.u-in o.on

  gain-bound : nat_abs (at T.gains (16 * u + (t - 1))) ≤ 1024000
  gain-bound = small_of s.follows.world.stands s.follows.world.frame.few-nets s.follows.world.frame.weight u (t - 1) o.u-in (omega (arith, o.t-in))

  pub gain-small : mag (at T.gains (16 * u + (t - 1))) < 2 ^ 31
  gain-small = omega (arith, abs_is (at T.gains (16 * u + (t - 1))), gain-bound)

  pub lower-needs : (b : ℕ) → b ≡ t → Lowers T.total (to_z w32 (of_z w32 (at T.gains (16 * u + (b - 1)))))
  lower-needs b q = rw (q, read32 (at T.gains (16 * u + (t - 1))) gain-small) (lower-ok s u t o)

  pub lowered : {b total : ℕ} → b ≡ t → pos total ≡ pos T.total -ℤ to_z w32 (of_z w32 (at T.gains (16 * u + (b - 1)))) → pos total ≡ pos T.total -ℤ at T.gains (16 * u + (t - 1))
  lowered q d = rw (q, read32 (at T.gains (16 * u + (t - 1))) gain-small) at d

  pub negated-needs : (b : ℕ) → b ≡ t → nat_abs (to_z w32 (of_z w32 (at T.gains (16 * u + (b - 1))))) < 2 ^ 31
  negated-needs b q = rw (q, read32 (at T.gains (16 * u + (t - 1))) gain-small) (omega (arith, gain-bound))

  -- g is the negated gain of the way back
  module _ {b : ℕ} (g : ℤ) (q : b ≡ t) (e : g ≡ neg_ℤ (to_z w32 (of_z w32 (at T.gains (16 * u + (b - 1)))))) where
    is-negated : to_z w32 (of_z w32 g) ≡ neg_ℤ (at T.gains (16 * u + (t - 1)))
    is-negated =
        let z : g ≡ neg_ℤ (at T.gains (16 * u + (t - 1))) = rw (q, read32 (at T.gains (16 * u + (t - 1))) gain-small) at e in
        ap (λ (y : ℤ). to_z w32 (of_z w32 y)) z ∙ read32 (neg_ℤ (at T.gains (16 * u + (t - 1)))) (omega (arith, abs_is (neg_ℤ (at T.gains (16 * u + (t - 1)))), abs_is (at T.gains (16 * u + (t - 1))), neg_is (at T.gains (16 * u + (t - 1))), gain-bound))

    pub raise-needs : Raises T.total (to_z w32 (of_z w32 g))
    raise-needs = let l = lower-ok s u t o in rw is-negated (record { after = l.after; is = l.is; small = l.small })

    pub raised : {total : ℕ} → pos total ≡ pos T.total +ℤ to_z w32 (of_z w32 g) → pos total ≡ pos T.total -ℤ at T.gains (16 * u + (t - 1))
    raised d = rw is-negated at d

  pub carries : Carries (running_of T) T.loads T.weights T.n T.m T.k u t
  carries =
      let own_is : get_or T.blocks u 0 ≡ block (u + 1) = own_block s u o.u-in in
      let r = in-range s u o.u-in (here-board s u o.u-in o.on) in
      let heavy : get_or T.weights u 0 ≡ weight h cs (u + 1) = own-weight s u o.u-in up-on in
      let few : T.k ≤ 16 = s.follows.world.frame.few in
      record {
        moves = moves-ok s u t o;
        shifts = record {
          len = s.loads-fit;
          s-in = omega (arith, r.0, r.1);
          t-in = omega (arith, o.t-in.0, o.t-in.1);
          there = omega (arith, s.bears (get_or T.blocks u 0 - 1) (omega (arith, r.0, r.1)), ap (block_weight h cs block) (let z : get_or T.blocks u 0 - 1 + 1 ≡ block (u + 1) = omega (arith, r.0) in z), own-load s u o.u-in up-on);
          small = omega (
            arith,
            get_or-set_other T.loads (get_or T.blocks u 0 - 1) (t - 1) (get_or T.loads (get_or T.blocks u 0 - 1) 0 - get_or T.weights u 0) 0 (λ z. o.away (omega (arith, r.0, o.t-in.0))),
            s.bears (t - 1) (omega (arith, o.t-in.0, o.t-in.1)),
            block_weight-le h cs block (t - 1 + 1),
            weight-le h cs (u + 1),
            loaded-le s.fit.limits s.fit.short h s.fit.ranges,
          );
        };
        in_blocks = omega (arith, o.u-in, s.follows.world.lists.blocks-fit);
        in-weights = omega (arith, o.u-in, s.weights-fit);
      }

module _ (T : Tables) {u t : ℕ} (o : Open T.blocks T.n T.k u t) {counts visited blocks loads : List ℕ} {gains : List ℤ} {total : ℕ}
    (q : MoveDoes (running_of T) (running counts visited gains T.pins T.sizes T.bits blocks T.net_weights T.firsts) T.n T.m T.k u t)
    (l : loads ≡ shifted T.loads (get_or T.blocks u 0) t (get_or T.weights u 0))
    (d : pos total ≡ pos T.total -ℤ at T.gains (16 * u + (t - 1))) where
  pub went : Went T (tables counts visited gains T.pins T.sizes T.bits blocks T.weights T.aboves loads T.net_weights T.firsts T.loaded T.n T.m T.k total) u t
  went = record {
    sound = λ h cs block s. sound-move s u t o q l d;
    keeps = keeps-move q;
  }
