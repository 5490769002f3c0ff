-- A vertex contracted into another of its block, and the undo: what `join` and `split` need and promise, and the proof that sound tables
-- stay sound. Rests on Tables. Assumes nothing.
use Rattle.std.specs.Prelude.{ℕ, ◌+◌, ◌-◌, ◌<◌, ◌≤◌, ◌^◌, ◌≡◌, List, ◌∷◌, eqb, length, get_or, set, ℤ}
use Rattle.std.proofs.Math.Decide.{ℕ_discrete}
use Rattle.std.proofs.Common.{arith, sym, ◌∙◌, length-set, get_or-set_same, get_or-set_other}
use Rattle.std.proofs.Math.Path.{refl, ap, ap₂}
use Rattle.std.proofs.Math.Bool.{cond}
use Rattle.laws.specs.Choice.{cond_yes, cond_no}
use Rattle.laws.specs.Place.{place}
use Rattle.model.specs.Catalogue.{Hypergraph, vertices}
use Rattle.model.specs.Measure.{Contraction, above, weight}
use Rattle.model.specs.Machine.{uncontract}
use Rattle.model.specs.Memory.{weight_when_gone, weight_entry}
use Rattle.guarantees.specs.Board.{board-sale}
use Rattle.guarantees.specs.Climbs.{Joins, Sound as SoundStack, above-gone, above_other}
use Rattle.guarantees.specs.Weights.{weight-into, weight-other, block_weight-join}
use Rattle.guarantees.specs.Joins.{metric-join}
use Rattle.guarantees.specs.Splits.{placed-join, placed-split, metric-split, block_weight-split, into-on}
use Rattle.guarantees.specs.WeightBounds.{weight-le, loaded-le}
use Rattle.pins.specs.Board.{join}
use Rattle.levels.specs.Running.{running}
use Rattle.levels.specs.Operations.{ContractNeeds, ContractDoes, UncontractNeeds, UncontractDoes}
use Rattle.operations.specs.Tables.{Tables, tables, running_of, Sound, Keeps}
use Rattle.operations.specs.Move.{past-set, here-board, on-board, own_block, own-weight}

-- ---- a vertex's weight entry before and after
module _ (h : Hypergraph) (cs : List Contraction) (c : Contraction) (s : SoundStack (c ∷ cs)) (p q : ℕ → ℕ) where
  entry-board : (v : ℕ) → above cs v ≡ 0 → weight_entry h cs p v ≡ weight h cs v
  unfolding weight_entry
  entry-board v on = cond_yes (above cs v) 0 (weight h cs v) (weight_when_gone h cs v) on

  entry_gone : weight_entry h (c ∷ cs) p c.gone ≡ weight h cs c.gone
  unfolding weight_entry weight_when_gone
  entry_gone =
      cond_no (above (c ∷ cs) c.gone) 0 (weight h (c ∷ cs) c.gone) _ (λ z. omega (arith, above-gone cs c c.gone refl, s.0.real))
      ∙ cond_yes c.gone c.gone (weight h cs c.gone) (weight_when_gone h cs c.gone) refl

  entry-into : weight_entry h (c ∷ cs) p c.into ≡ weight h cs c.into + weight h cs c.gone
  unfolding weight_entry
  entry-into = cond_yes (above (c ∷ cs) c.into) 0 (weight h (c ∷ cs) c.into) _ (into-on h cs c s.0) ∙ weight-into h cs c s

  entry_other : (v : ℕ) → (v ≡ c.gone → ⊥) → (v ≡ c.into → ⊥) → weight_entry h (c ∷ cs) p v ≡ weight_entry h cs q v
  unfolding weight_entry weight_when_gone
  entry_other v ng ni =
      ap (λ (a : ℕ). cond (eqb a 0) (weight h (c ∷ cs) v) (cond (eqb c.gone v) (weight h cs v) (weight_when_gone h cs v))) (above_other cs c v (λ z. ng (sym z)))
      ∙ ap₂ (λ (x y : ℕ). cond (eqb (above cs v) 0) x y) (weight-other h cs c s v ng ni) (cond_no c.gone v (weight h cs v) (weight_when_gone h cs v) (λ z. ng (sym z)))

-- ---- a contraction
-- u and v, counted from 0, are two vertices on the board, of one block
pub record Pair (blocks : List ℕ) (n u v : ℕ) : Type 0 where
  pub u-in : u < n
  pub v-in : v < n
  pub two : u ≡ v → ⊥
  pub on : 1 ≤ get_or blocks v 0
  pub together : get_or blocks u 0 ≡ get_or blocks v 0

-- the weights with v's added to u's
abbrev pub heavier : List ℕ → ℕ → ℕ → List ℕ
heavier weights u v = set weights u (get_or weights u 0 + get_or weights v 0)

-- what a contraction does: whatever the tables were sound for, they are sound for with (u, v) on the stack and v off the board
pub record Joined (T T' : Tables) (u v : ℕ) : Type 0 where
  pub sound : (h : Hypergraph) (cs : List Contraction) (block : ℕ → ℕ) → Sound h cs block T → Sound h (join u v ∷ cs) (place block (v + 1) 0) T'
  pub keeps : (h : Hypergraph) (cs : List Contraction) (block : ℕ → ℕ) → Sound h cs block T → Keeps T T'

module _ {h : Hypergraph} {cs : List Contraction} {block : ℕ → ℕ} {T : Tables} (s : Sound h cs block T) {u v : ℕ} (o : Pair T.blocks T.n u v) where
  v-on : above cs (v + 1) ≡ 0
  v-on = on-board s v o.v-in o.on

  u-on : above cs (u + 1) ≡ 0
  u-on = on-board s u o.u-in (omega (arith, o.on, o.together))

  pub joins : Joins cs (join u v)
  joins = record { real = omega arith; into-on = u-on; gone-on = v-on; two = λ z. o.two (omega arith) }

  same_block : block (u + 1) ≡ block (v + 1)
  same_block = sym (own_block s u o.u-in) ∙ o.together ∙ own_block s v o.v-in

  pub contract-ok : ContractNeeds (running_of T) T.n T.m T.k u v
  contract-ok = record { h = h; cs = cs; block = block; loaded = T.loaded; follows = s.follows; joins = joins; together = same_block; u-in = o.u-in; v-in = o.v-in }

  pub sum-small : get_or T.weights u 0 + get_or T.weights v 0 < 2 ^ 32
  sum-small = omega (
    arith,
    own-weight s u o.u-in u-on,
    own-weight s v o.v-in v-on,
    weight-le h cs (u + 1),
    weight-le h cs (v + 1),
    loaded-le s.fit.limits s.fit.short h s.fit.ranges,
  )

  weighs-join : (y : ℕ) → y < T.n → get_or (heavier T.weights u v) y 0 ≡ weight_entry h (join u v ∷ cs) (place block (v + 1) 0) (y + 1)
  weighs-join y ly = go (ℕ_discrete y u) (ℕ_discrete y v)
    where
      st : SoundStack (join u v ∷ cs)
      st = (joins, s.follows.says.sound)

      go : Dec (y ≡ u) → Dec (y ≡ v) → get_or (heavier T.weights u v) y 0 ≡ weight_entry h (join u v ∷ cs) (place block (v + 1) 0) (y + 1)
      go (yes p) q = rw p (
          get_or-set_same T.weights u (get_or T.weights u 0 + get_or T.weights v 0) 0 (omega (arith, o.u-in, s.weights-fit))
          ∙ ap₂ (λ (a b : ℕ). a + b) (own-weight s u o.u-in u-on) (own-weight s v o.v-in v-on)
          ∙ sym (entry-into h cs (join u v) st (place block (v + 1) 0) block))
      go (no p) (yes q) = rw q (
          get_or-set_other T.weights u v (get_or T.weights u 0 + get_or T.weights v 0) 0 (λ z. o.two (sym z))
          ∙ own-weight s v o.v-in v-on
          ∙ sym (entry_gone h cs (join u v) st (place block (v + 1) 0) block))
      go (no p) (no q) =
          get_or-set_other T.weights u y (get_or T.weights u 0 + get_or T.weights v 0) 0 p
          ∙ s.weighs y ly
          ∙ sym (entry_other h cs (join u v) st (place block (v + 1) 0) block (y + 1) (λ z. q (omega arith)) (λ z. p (omega arith)))

  hangs-join : (y : ℕ) → y < T.n → get_or (set T.aboves v (u + 1)) y 0 ≡ above (join u v ∷ cs) (y + 1)
  hangs-join y ly = go (ℕ_discrete y v)
    where
      go : Dec (y ≡ v) → get_or (set T.aboves v (u + 1)) y 0 ≡ above (join u v ∷ cs) (y + 1)
      go (yes p) = rw p (get_or-set_same T.aboves v (u + 1) 0 (omega (arith, o.v-in, s.aboves-fit)) ∙ sym (above-gone cs (join u v) (v + 1) refl))
      go (no p) = get_or-set_other T.aboves v y (u + 1) 0 p ∙ s.hangs y ly ∙ sym (above_other cs (join u v) (y + 1) (λ z. p (omega arith)))

  module _ {counts visited pins sizes bits blocks : List ℕ} {gains : List ℤ}
      (q : ContractDoes (running_of T) (running counts visited gains pins sizes bits blocks T.net_weights T.firsts) T.n T.m T.k u v) where
    abbrev T' : Tables
    T' = tables counts visited gains pins sizes bits blocks (heavier T.weights u v) (set T.aboves v (u + 1)) T.loads T.net_weights T.firsts T.loaded T.n T.m T.k T.total

    pub sound-join : Sound h (join u v ∷ cs) (place block (v + 1) 0) T'
    sound-join =
        let all : T.n ≡ vertices h = s.follows.says.all-vertices in
        record {
          fit = s.fit;
          inside = ((omega arith, omega (arith, o.u-in), omega arith, omega (arith, o.v-in), board-sale h cs (u + 1) (here-board s u o.u-in (omega (arith, o.on, o.together))), board-sale h cs (v + 1) (here-board s v o.v-in o.on)), s.inside);
          placed = placed-join h cs (join u v) block joins s.placed;
          follows = q.follows h cs block T.loaded joins s.follows;
          no-more-blocks = λ e j le lj. (q.untouched h cs block T.loaded s.follows).tables.of-tally.masks-past e j lj ∙ s.no-more-blocks e j le lj;
          weighs = weighs-join;
          hangs = hangs-join;
          bears = λ j lj. s.bears j lj ∙ sym (block_weight-join h cs (join u v) (joins, s.follows.says.sound) block (omega arith) (omega (arith, o.u-in)) (omega arith) (omega (arith, o.v-in)) same_block (j + 1));
          total-is = s.total-is ∙ sym (metric-join h cs (join u v) (joins, s.follows.says.sound) block (omega arith) (omega (arith, o.u-in)) (omega arith) (omega (arith, o.v-in)) same_block);
          weights-fit = omega (arith, length-set T.weights u (get_or T.weights u 0 + get_or T.weights v 0), s.weights-fit);
          aboves-fit = omega (arith, length-set T.aboves v (u + 1), s.aboves-fit);
          loads-fit = s.loads-fit;
        }

    pub keeps-join : Keeps T T'
    keeps-join = record {
      running = q.untouched h cs block T.loaded s.follows;
      weights = past-set T.n u (get_or T.weights u 0 + get_or T.weights v 0) T.weights o.u-in;
      aboves = past-set T.n v (u + 1) T.aboves o.v-in;
    }

-- ---- its undo
-- the weights with v's taken from u's
abbrev pub lighter : List ℕ → ℕ → ℕ → List ℕ
lighter weights u v = set weights u (get_or weights u 0 - get_or weights v 0)

-- (u, v) is on top of the stack that the tables are sound for
pub record Splits (T : Tables) (u v : ℕ) : Type 0 where
  pub h : Hypergraph
  pub cs : List Contraction
  pub block : ℕ → ℕ
  pub sound : Sound h (join u v ∷ cs) block T

-- what the undo does: whatever the tables were sound for, they are sound for with (u, v) off the stack and v in u's block
pub record Split (T T' : Tables) (u v : ℕ) : Type 0 where
  pub sound : (h : Hypergraph) (cs : List Contraction) (block : ℕ → ℕ) → Sound h (join u v ∷ cs) block T → Sound h cs (uncontract block (join u v)) T'
  pub keeps : Keeps T T'

module _ {h : Hypergraph} {cs : List Contraction} {block : ℕ → ℕ} {T : Tables} (u v : ℕ) (s : Sound h (join u v ∷ cs) block T) where
  st : SoundStack (join u v ∷ cs)
  st = s.follows.says.sound

  apart : u ≡ v → ⊥
  apart z = st.0.two (ap (λ (y : ℕ). y + 1) z)

  pub u-below : u < T.n
  u-below = omega (arith, s.inside.0.1, s.follows.says.all-vertices)

  pub v_below : v < T.n
  v_below = omega (arith, s.inside.0.3, s.follows.says.all-vertices)

  pub uncontract-ok : UncontractNeeds T.loaded (running_of T) T.n T.m T.k u v
  uncontract-ok = record { h = h; cs = cs; block = block; follows = s.follows; u-in = u-below; v-in = v_below }

  weight-u : get_or T.weights u 0 ≡ weight h cs (u + 1) + weight h cs (v + 1)
  weight-u = s.weighs u u-below ∙ entry-into h cs (join u v) st block block

  weight-v : get_or T.weights v 0 ≡ weight h cs (v + 1)
  weight-v = s.weighs v v_below ∙ entry_gone h cs (join u v) st block block

  pub lighter-ok : get_or T.weights v 0 ≤ get_or T.weights u 0
  lighter-ok = omega (arith, weight-u, weight-v)

  weighs-split : (y : ℕ) → y < T.n → get_or (lighter T.weights u v) y 0 ≡ weight_entry h cs (uncontract block (join u v)) (y + 1)
  weighs-split y ly = go (ℕ_discrete y u) (ℕ_discrete y v)
    where
      go : Dec (y ≡ u) → Dec (y ≡ v) → get_or (lighter T.weights u v) y 0 ≡ weight_entry h cs (uncontract block (join u v)) (y + 1)
      go (yes p) q = rw p (
          get_or-set_same T.weights u (get_or T.weights u 0 - get_or T.weights v 0) 0 (omega (arith, u-below, s.weights-fit))
          ∙ (let z : get_or T.weights u 0 - get_or T.weights v 0 ≡ weight h cs (u + 1) = omega (arith, weight-u, weight-v) in z)
          ∙ sym (entry-board h cs (join u v) st (uncontract block (join u v)) block (u + 1) st.0.into-on))
      go (no p) (yes q) = rw q (
          get_or-set_other T.weights u v (get_or T.weights u 0 - get_or T.weights v 0) 0 (λ z. apart (sym z))
          ∙ weight-v
          ∙ sym (entry-board h cs (join u v) st (uncontract block (join u v)) block (v + 1) st.0.gone-on))
      go (no p) (no q) =
          get_or-set_other T.weights u y (get_or T.weights u 0 - get_or T.weights v 0) 0 p
          ∙ s.weighs y ly
          ∙ entry_other h cs (join u v) st block (uncontract block (join u v)) (y + 1) (λ z. q (omega arith)) (λ z. p (omega arith))

  hangs-split : (y : ℕ) → y < T.n → get_or (set T.aboves v 0) y 0 ≡ above cs (y + 1)
  hangs-split y ly = go (ℕ_discrete y v)
    where
      go : Dec (y ≡ v) → get_or (set T.aboves v 0) y 0 ≡ above cs (y + 1)
      go (yes p) = rw p (get_or-set_same T.aboves v 0 0 (omega (arith, v_below, s.aboves-fit)) ∙ sym st.0.gone-on)
      go (no p) = get_or-set_other T.aboves v y 0 0 p ∙ s.hangs y ly ∙ above_other cs (join u v) (y + 1) (λ z. p (omega arith))

  module _ {counts visited pins sizes bits blocks : List ℕ} {gains : List ℤ}
      (q : UncontractDoes T.loaded (running_of T) (running counts visited gains pins sizes bits blocks T.net_weights T.firsts) T.n T.m T.k u v) where
    abbrev T'' : Tables
    T'' = tables counts visited gains pins sizes bits blocks (lighter T.weights u v) (set T.aboves v 0) T.loads T.net_weights T.firsts T.loaded T.n T.m T.k T.total

    pub sound-split : Sound h cs (uncontract block (join u v)) T''
    sound-split = record {
      fit = s.fit;
      inside = s.inside.1;
      placed = placed-split h cs (join u v) block st.0 s.inside.0 s.placed;
      follows = q.follows h cs block s.follows;
      no-more-blocks = λ e j le lj. q.untouched.tables.of-tally.masks-past e j lj ∙ s.no-more-blocks e j le lj;
      weighs = weighs-split;
      hangs = hangs-split;
      bears = λ j lj. s.bears j lj ∙ sym (block_weight-split h cs (join u v) st s.inside.0 block s.placed (j + 1));
      total-is = s.total-is ∙ sym (metric-split h cs (join u v) st s.inside.0 block s.placed);
      weights-fit = omega (arith, length-set T.weights u (get_or T.weights u 0 - get_or T.weights v 0), s.weights-fit);
      aboves-fit = omega (arith, length-set T.aboves v 0, s.aboves-fit);
      loads-fit = s.loads-fit;
    }

-- `join` has no use for the blocks' weights and the loaded sizes, nor `split` for the former: whatever these are
pub record CanJoin (T : List ℕ → List ℕ → Tables) (u v : ℕ) : Type 0 where
  pub loads : List ℕ
  pub loaded : List ℕ
  pub h : Hypergraph
  pub cs : List Contraction
  pub block : ℕ → ℕ
  pub sound : Sound h cs block (T loads loaded)
  pub pair : Pair (T loads loaded).blocks (T loads loaded).n u v

pub record CanSplit (T : List ℕ → Tables) (u v : ℕ) : Type 0 where
  pub loads : List ℕ
  pub splits : Splits (T loads) u v

-- what `set_above` and `clear_above` need of the records
pub record SetsAbove (weights aboves : List ℕ) (u v : ℕ) : Type 0 where
  pub u-in : (u < length weights) × (u < 1024)
  pub v-in : (v < length weights) × (v < length aboves)
  pub small : get_or weights u 0 + get_or weights v 0 < 2 ^ 32

pub record ClearsAbove (weights aboves : List ℕ) (u v : ℕ) : Type 0 where
  pub u-in : u < length weights
  pub v-in : (v < length weights) × (v < length aboves)
  pub less : get_or weights v 0 ≤ get_or weights u 0

pub sets-above-ok : {h : Hypergraph} {cs : List Contraction} {block : ℕ → ℕ} {T : Tables} {u v : ℕ} → Sound h cs block T → Pair T.blocks T.n u v → SetsAbove T.weights T.aboves u v
sets-above-ok s o = record {
  u-in = omega (arith, o.u-in, s.weights-fit, s.follows.room.few-vertices);
  v-in = omega (arith, o.v-in, s.weights-fit, s.aboves-fit);
  small = sum-small s o;
}

pub clears-above-ok : {h : Hypergraph} {cs : List Contraction} {block : ℕ → ℕ} {T : Tables} (u v : ℕ) → Sound h (join u v ∷ cs) block T → ClearsAbove T.weights T.aboves u v
clears-above-ok u v s = record {
  u-in = omega (arith, u-below u v s, s.weights-fit);
  v-in = omega (arith, v_below u v s, s.weights-fit, s.aboves-fit);
  less = lighter-ok u v s;
}

-- the returns
pub joined : (T : Tables) {u v : ℕ} → Pair T.blocks T.n u v → {counts visited pins sizes bits blocks weights aboves : List ℕ} {gains : List ℤ} → weights ≡ heavier T.weights u v → aboves ≡ set T.aboves v (u + 1)
    → ContractDoes (running_of T) (running counts visited gains pins sizes bits blocks T.net_weights T.firsts) T.n T.m T.k u v
    → Joined T (tables counts visited gains pins sizes bits blocks weights aboves T.loads T.net_weights T.firsts T.loaded T.n T.m T.k T.total) u v
joined T o ew ea q = record {
  sound = λ h cs block s. rw (ew, ea) (sound-join s o q);
  keeps = λ h cs block s. rw (ew, ea) (keeps-join s o q);
}

pub split_done : (T : Tables) {u v : ℕ} → u < T.n → v < T.n → {counts visited pins sizes bits blocks weights aboves : List ℕ} {gains : List ℤ} → weights ≡ lighter T.weights u v → aboves ≡ set T.aboves v 0
    → UncontractDoes T.loaded (running_of T) (running counts visited gains pins sizes bits blocks T.net_weights T.firsts) T.n T.m T.k u v
    → Split T (tables counts visited gains pins sizes bits blocks weights aboves T.loads T.net_weights T.firsts T.loaded T.n T.m T.k T.total) u v
split_done T {u} {v} lu lv ew ea q = record {
  sound = λ h cs block s. rw (ew, ea) (sound-split u v s q);
  keeps = rw (ew, ea) (record {
    running = q.untouched;
    weights = past-set T.n u (get_or T.weights u 0 - get_or T.weights v 0) T.weights lu;
    aboves = past-set T.n v 0 T.aboves lv;
  });
}
