-- The contracts of the operations: each follows the machine's step, and leaves alone what is not in use. Rests on Running and on the loops' files.
use Rattle.std.specs.Prelude.{ℕ, ◌+◌, ◌<◌, ◌≤◌, ◌≡◌, refl, false, List, ◌∷◌, length, get_or, set, ℤ}
use Rattle.std.proofs.Common.{arith, sym, ◌∙◌, get_or-set_same}
use Rattle.std.proofs.Math.Decide.{ℕ_discrete}
use Rattle.std.proofs.Math.Path.{ap}
use Rattle.std.proofs.Math.ListN.{length-set}
use Rattle.std.proofs.Math.Seq.{get_or-set_other}
use Rattle.laws.specs.Choice.{one}
use Rattle.laws.specs.Place.{place, place_at, place-off}
use Rattle.model.specs.Catalogue.{Hypergraph}
use Rattle.model.specs.Measure.{Contraction, above}
use Rattle.model.specs.Machine.{uncontract}
use Rattle.guarantees.specs.Climbs.{Joins}
use Rattle.incidence.specs.On.{on}
use Rattle.connectivity.specs.Listed.{has, has_no, has-is}
use Rattle.connectivity.specs.Set.{kept-none}
use Rattle.pins.specs.Stack.{row as stack_row, present-on, present-gone, loaded_pin}
use Rattle.pins.specs.Board.{join, Board}
use Rattle.levels.specs.World.{world-set}
use Rattle.levels.specs.Running.{Running, running, Follows, Untouched, net_at}
use Rattle.levels.specs.Move.{Moves, Moved, half-none}
use Rattle.levels.specs.Contract.{ContractsAll, ContractedAll}
use Rattle.levels.specs.Uncontract.{UncontractsAll, UncontractedAll}

-- a block stored for one vertex
sits-set : (blocks : List ℕ) (block : ℕ → ℕ) {n : ℕ} (v t : ℕ) → v < length blocks → ((y : ℕ) → y < n → get_or blocks y 0 ≡ block (y + 1)) →
    (y : ℕ) → y < n → get_or (set blocks v t) y 0 ≡ place block (v + 1) t (y + 1)
sits-set blocks block v t fit s y l = go (ℕ_discrete y v)
  where
    go : Dec (y ≡ v) → get_or (set blocks v t) y 0 ≡ place block (v + 1) t (y + 1)
    go (yes q) = rw q (get_or-set_same blocks v t 0 fit ∙ sym (place_at block (v + 1) t))
    go (no q) = get_or-set_other blocks v y t 0 q ∙ s y l ∙ sym (place-off block (v + 1) t (y + 1) (λ z. q (omega arith)))

-- what is on a net's list is what is in its row of the bitset, on the board
pub marked-on : {h : Hypergraph} {cs : List Contraction} {block : ℕ → ℕ} {loaded : List ℕ} {T : Running} {n m k : ℕ} → Follows h cs block loaded T n m k → (u : ℕ) → u < n → above cs (u + 1) ≡ 0 →
    (e : ℕ) → e < m → on T.bits u e ≡ one (has T.pins (get_or T.firsts e 0) (get_or T.sizes e 0) u)
marked-on {h} {cs} {T = T} w u l q e le =
    w.says.board.marked u e l le
    ∙ ap one (sym (has-is T.pins (get_or T.firsts e 0) (get_or T.sizes e 0) u (stack_row (loaded_pin (net_at h e)) cs (u + 1)) ((w.says.board.nets e le).pins (u + 1) ∙ present-on (loaded_pin (net_at h e)) cs (u + 1) q)))

-- a vertex that has just left the board is on no list
gone-off : (h : Hypergraph) {cs : List Contraction} {pins firsts sizes loaded bits : List ℕ} {n m : ℕ} (u v : ℕ) → Joins cs (join u v) → Board (λ e. loaded_pin (net_at h e)) (λ _. join u v ∷ cs) pins firsts sizes loaded bits n m →
    (e : ℕ) → e < m → has pins (get_or firsts e 0) (get_or sizes e 0) v ≡ false
gone-off h {cs} {pins} {firsts} {sizes} u v j b e l = has_no pins (get_or firsts e 0) (get_or sizes e 0) v ((b.nets e l).pins (v + 1) ∙ present-gone (loaded_pin (net_at h e)) cs (join u v) j)

-- ---- a move: the machine's M, and B with the block that was left
-- what `move_vertex` needs: the tables follow some state of the machine in which u is on the board
pub record MoveNeeds (T : Running) (n m k u t : ℕ) : Type 0 where
  pub h : Hypergraph
  pub cs : List Contraction
  pub block : ℕ → ℕ
  pub loaded : List ℕ
  pub follows : Follows h cs block loaded T n m k
  pub on-board : above cs (u + 1) ≡ 0
  pub u-in : u < n
  pub t-in : (1 ≤ t) × (t ≤ k)

-- what it does: whatever state the tables followed, they follow it with u in the block t
pub record MoveDoes (T T' : Running) (n m k u t : ℕ) : Type 0 where
  pub follows : (h : Hypergraph) (cs : List Contraction) (block : ℕ → ℕ) (loaded : List ℕ) → Follows h cs block loaded T n m k → Follows h cs (place block (u + 1) t) loaded T' n m k
  pub untouched : (loaded : List ℕ) → Untouched loaded n m k T T'

-- no net has seen the move; s and b are the blocks as the loop has them
pub move_needs : {T : Running} {n m k u t s b : ℕ} → MoveNeeds T n m k u t → s ≡ get_or T.blocks u 0 → b ≡ t → (s ≡ b → ⊥) →
    Moves T.weights T.counts T.visited T.pins T.blocks T.firsts T.sizes T.bits T.gains n m k u s b 0
move_needs {T} {u = u} {b = b} o es eb ne = record {
  stands = half-none T.pins T.blocks T.firsts T.sizes u b o.follows.world.stands;
  frame = o.follows.world.frame;
  lists = o.follows.world.lists;
  marked = marked-on o.follows u o.u-in o.on-board;
  bits_fit = omega (arith, o.follows.room.bits_fit, o.u-in);
  u-in = o.u-in;
  t-in = rw eb o.t-in;
  s-is = es;
  other = ne;
}

pub move-does : {T : Running} {n m k u t b : ℕ} {cs vs : List ℕ} {g : List ℤ} → MoveNeeds T n m k u t → b ≡ t →
    Moved T.weights T.pins T.firsts T.sizes n m k (set T.blocks u b) T.counts cs T.visited vs T.gains g →
    MoveDoes T (running cs vs g T.pins T.sizes T.bits (set T.blocks u t) T.weights T.firsts) n m k u t
move-does {T} {u = u} {t = t} o eb d = record {
  follows = λ h cs block loaded w. record {
    says = record {
      sound = w.says.sound;
      board = w.says.board;
      all-vertices = w.says.all-vertices;
      all-nets = w.says.all-nets;
      all_blocks = w.says.all_blocks;
      weighs = w.says.weighs;
      sits = sits-set T.blocks block u t (omega (arith, o.u-in, o.follows.world.lists.blocks-fit)) w.says.sits;
    };
    world = rw (← eb) d.world;
    room = w.room;
  };
  untouched = λ loaded. record {
    tables = d.kept;
    lists = record { pins-len = refl; sizes-len = refl; pins-past = λ i h. refl; sizes-past = λ e l. refl };
    blocks-len = length-set T.blocks u t;
    blocks-past = λ y l. get_or-set_other T.blocks u y t 0 (λ q. omega (arith, o.u-in));
  };
}

-- to the block that it has
pub move-stays : {T : Running} {n m k u t : ℕ} → get_or T.blocks u 0 ≡ t → MoveDoes T T n m k u t
move-stays {T} {n} {u = u} {t = t} q = record {
  follows = λ h cs block loaded w. record {
    says = record {
      sound = w.says.sound;
      board = w.says.board;
      all-vertices = w.says.all-vertices;
      all-nets = w.says.all-nets;
      all_blocks = w.says.all_blocks;
      weighs = w.says.weighs;
      sits = λ y l. sits block y (w.says.sits y l) (ℕ_discrete y u);
    };
    world = w.world;
    room = w.room;
  };
  untouched = λ loaded. record {
    tables = kept-none T.counts T.visited T.gains;
    lists = record { pins-len = refl; sizes-len = refl; pins-past = λ i h. refl; sizes-past = λ e l. refl };
    blocks-len = refl;
    blocks-past = λ y l. refl;
  };
}
  where
    sits : (block : ℕ → ℕ) (y : ℕ) → get_or T.blocks y 0 ≡ block (y + 1) → Dec (y ≡ u) → get_or T.blocks y 0 ≡ place block (u + 1) t (y + 1)
    sits block y s (yes z) = rw z (q ∙ sym (place_at block (u + 1) t))
    sits block y s (no z) = s ∙ sym (place-off block (u + 1) t (y + 1) (λ v. z (omega arith)))

-- ---- a contraction: the machine's J
-- what `contract` needs: the tables follow some state in which u and v are on the board, in one block
pub record ContractNeeds (T : Running) (n m k u v : ℕ) : Type 0 where
  pub h : Hypergraph
  pub cs : List Contraction
  pub block : ℕ → ℕ
  pub loaded : List ℕ
  pub follows : Follows h cs block loaded T n m k
  pub joins : Joins cs (join u v)
  pub together : block (u + 1) ≡ block (v + 1)
  pub u-in : u < n
  pub v-in : v < n

-- what it does: whatever state the tables followed, they follow it with (u, v) on the stack and v in no block
pub record ContractDoes (T T' : Running) (n m k u v : ℕ) : Type 0 where
  pub follows : (h : Hypergraph) (cs : List Contraction) (block : ℕ → ℕ) (loaded : List ℕ) → Joins cs (join u v) → Follows h cs block loaded T n m k →
      Follows h (join u v ∷ cs) (place block (v + 1) 0) loaded T' n m k
  pub untouched : (h : Hypergraph) (cs : List Contraction) (block : ℕ → ℕ) (loaded : List ℕ) → Follows h cs block loaded T n m k → Untouched loaded n m k T T'

pub contract-needs : {T : Running} {n m k u v : ℕ} → ContractNeeds T n m k u v →
    ContractsAll T.weights T.counts T.visited T.pins T.blocks T.firsts T.sizes T.bits T.gains n m k u v
contract-needs {u = u} {v = v} o = record {
  world = o.follows.world;
  own = λ e. loaded_pin (net_at o.h e);
  cs = o.cs;
  loaded = o.loaded;
  sound = (o.joins, o.follows.says.sound);
  board = o.follows.says.board;
  room = o.follows.room;
  u-in = o.u-in;
  v-in = o.v-in;
  together = o.follows.says.sits u o.u-in ∙ o.together ∙ sym (o.follows.says.sits v o.v-in);
}

pub contract-does : {T : Running} {n m k u v : ℕ} {pins' sizes' bits' cs' vs' : List ℕ} {g' : List ℤ} → ContractNeeds T n m k u v →
    ContractedAll T.weights T.blocks T.firsts n m k u v T.pins pins' T.sizes sizes' T.bits bits' T.counts cs' T.visited vs' T.gains g' →
    ContractDoes T (running cs' vs' g' pins' sizes' bits' (set T.blocks v 0) T.weights T.firsts) n m k u v
contract-does {T} {u = u} {v = v} o t = record {
  follows = λ h cs block loaded j w. let b = t.board (λ e. loaded_pin (net_at h e)) cs loaded (j, w.says.sound) w.room w.says.board in record {
    says = record {
      sound = (j, w.says.sound);
      board = b;
      all-vertices = w.says.all-vertices;
      all-nets = w.says.all-nets;
      all_blocks = w.says.all_blocks;
      weighs = w.says.weighs;
      sits = sits-set T.blocks block v 0 fit w.says.sits;
    };
    world = world-set v 0 (gone-off h u v j b) t.world;
    room = t.room loaded w.room;
  };
  untouched = λ h cs block loaded w. record {
    tables = t.kept;
    lists = t.kept-lists (λ e. loaded_pin (net_at h e)) cs loaded w.says.board;
    blocks-len = length-set T.blocks v 0;
    blocks-past = λ y l. get_or-set_other T.blocks v y 0 0 (λ q. omega (arith, o.v-in));
  };
}
  where
    fit : v < length T.blocks
    fit = omega (arith, o.v-in, o.follows.world.lists.blocks-fit)

-- ---- its undo: the machine's S
-- what `uncontract` needs: the tables follow some state whose latest contraction is (u, v)
pub record UncontractNeeds (loaded : List ℕ) (T : Running) (n m k u v : ℕ) : Type 0 where
  pub h : Hypergraph
  pub cs : List Contraction
  pub block : ℕ → ℕ
  pub follows : Follows h (join u v ∷ cs) block loaded T n m k
  pub u-in : u < n
  pub v-in : v < n

-- what it does: whatever state the tables followed, they follow it with that contraction undone
pub record UncontractDoes (loaded : List ℕ) (T T' : Running) (n m k u v : ℕ) : Type 0 where
  pub follows : (h : Hypergraph) (cs : List Contraction) (block : ℕ → ℕ) → Follows h (join u v ∷ cs) block loaded T n m k → Follows h cs (uncontract block (join u v)) loaded T' n m k
  pub untouched : Untouched loaded n m k T T'

module _ {loaded : List ℕ} {T : Running} {n m k u v : ℕ} (o : UncontractNeeds loaded T n m k u v) (s : ℕ) (q : s ≡ get_or T.blocks u 0) where
  two : u ≡ v → ⊥
  two z = o.follows.says.sound.0.two (ap (λ (y : ℕ). y + 1) z)

  fit : v < length T.blocks
  fit = omega (arith, o.v-in, o.follows.world.lists.blocks-fit)

  -- v's block is stored first
  pub uncontract-needs : UncontractsAll T.weights T.counts T.visited T.pins (set T.blocks v s) T.firsts T.sizes loaded T.bits T.gains n m k u v
  uncontract-needs = record {
    world = world-set v s (gone-off o.h u v o.follows.says.sound.0 o.follows.says.board) o.follows.world;
    lists = record {
      own = λ e. loaded_pin (net_at o.h e);
      cs = o.cs;
      sound = o.follows.says.sound;
      board = o.follows.says.board;
      room = o.follows.room;
      u-in = o.u-in;
      v-in = o.v-in;
    };
    together = get_or-set_other T.blocks v u s 0 two ∙ sym q ∙ sym (get_or-set_same T.blocks v s 0 fit);
  }

  pub uncontract-does : {pins' sizes' bits' cs' vs' : List ℕ} {g' : List ℤ} →
      UncontractedAll T.weights (set T.blocks v s) T.firsts loaded n m k u v T.pins pins' T.sizes sizes' T.bits bits' T.counts cs' T.visited vs' T.gains g' →
      UncontractDoes loaded T (running cs' vs' g' pins' sizes' bits' (set T.blocks v s) T.weights T.firsts) n m k u v
  unfolding uncontract
  uncontract-does t = record {
    follows = λ h cs block w. record {
      says = record {
        sound = w.says.sound.1;
        board = t.lists.board (λ e. loaded_pin (net_at h e)) cs w.says.sound w.says.board;
        all-vertices = w.says.all-vertices;
        all-nets = w.says.all-nets;
        all_blocks = w.says.all_blocks;
        weighs = w.says.weighs;
        sits = λ y l. sits-set T.blocks block v s fit w.says.sits y l ∙ ap (λ (z : ℕ). place block (v + 1) z (y + 1)) (q ∙ w.says.sits u o.u-in);
      };
      world = t.world;
      room = t.lists.room w.room;
    };
    untouched = record {
      tables = t.kept;
      lists = t.lists.kept;
      blocks-len = length-set T.blocks v s;
      blocks-past = λ y l. get_or-set_other T.blocks v y s 0 (λ z. omega (arith, o.v-in));
    };
  }
