-- A walk on its way: what the code's variables are for model's walk (At), and what one turn and one move of it ask and do. Rests on Tabled and
-- Back, and on Kept for a prefix's worth. Assumes nothing.
use Rattle.std.specs.Prelude.{ℕ, ◌+◌, ◌-◌, ◌<◌, ◌≤◌, ◌≡◌, not, ◌&&◌, ◌||◌, cond, List, leb, ℤ, length, get_or}
use Rattle.laws.specs.Place.{place}
use Rattle.model.specs.Catalogue.{Hypergraph}
use Rattle.model.specs.Measure.{Contraction, is_fixed, may_move}
use Rattle.model.specs.Search.{Best, none, Worth, Walk, worth_of, best_pair, walk_move, walk_on, walk, walked, patience}
use Rattle.model.specs.Lent.{journal_of}
use Rattle.guarantees.specs.Caps.{CeilingIs}
use Rattle.fixed.specs.Starting.{FixedIs}
use Rattle.guarantees.specs.Walks.{moved}
use Rattle.operations.specs.Tables.{Tables, Sound, Keeps}
use Rattle.operations.specs.Move.{Open}
use Rattle.best_move.specs.Open.{gain_in, open_in}
use Rattle.search_moves.specs.Marks.{candidate_bit, moved_bit, Covered}
use Rattle.walk.specs.Back.{Backs}
use Rattle.walk.specs.Kept.{worth}

-- the code's variables beside the tables: the candidates, the journal, how many moves were tried, the length of the kept prefix, its worth
pub record Locals : Type 0 where
  pub marks : List ℕ
  pub vertices : List ℕ
  pub blocks : List ℕ
  pub tried : ℕ
  pub kept : ℕ
  pub worth : Worth

abbrev pub locals : List ℕ → List ℕ → List ℕ → ℕ → ℕ → ℕ → ℕ → Locals
locals marks vertices blocks tried kept low heaviest = record { marks = marks; vertices = vertices; blocks = blocks; tried = tried; kept = kept; worth = worth low heaviest }

-- tables and variables are those of the walk w. A candidate that has moved, or may not move, is not marked; one that is fixed is marked as if it
-- had moved
pub record At (h : Hypergraph) (cs : List Contraction) (w : Walk) (T : Tables) (L : Locals) : Type 0 where
  pub sound : Sound h cs w.block T
  pub chosen : (x : ℕ) → x < T.n → candidate_bit L.marks x ≡ (w.candidate (x + 1) && not (moved h cs w (x + 1)) && may_move h cs (x + 1))
  pub spent : (x : ℕ) → x < T.n → moved_bit L.marks x ≡ (moved h cs w (x + 1) || is_fixed h cs (x + 1))
  pub covered : Covered L.marks T.pins T.firsts T.sizes
  pub journal-is : w.journal ≡ journal_of L.vertices L.blocks L.tried
  pub tried-is : L.tried ≡ w.tried
  pub kept-is : L.kept ≡ w.kept
  pub worth-is : L.worth ≡ w.worth
  pub kept-to : L.kept ≤ L.tried
  pub backs : Backs h cs w.block w.journal
  pub marks-fit : length L.marks ≡ 48
  pub vertices-fit : length L.vertices ≡ 1024
  pub blocks-fit : length L.blocks ≡ 1024

-- the next move: none once so many have been made since the kept prefix, else the best open pair
abbrev pub next_of : (gains : List ℤ) (blocks weights loads ceilings marks : List ℕ) (n k tried kept : ℕ) → Best
next_of gains blocks weights loads ceilings marks n k tried kept = cond (leb (kept + patience) tried) none (best_pair n k (open_in marks blocks weights loads ceilings) (gain_in gains))

-- ---- one move

-- what `take` asks: a walk on its way, and an open pair. It has no use for the vertices above and for the loaded sizes
pub record TakeOk (T : List ℕ → List ℕ → Tables) (L : Locals) (turn v b : ℕ) : Type 0 where
  pub aboves : List ℕ
  pub loaded : List ℕ
  pub h : Hypergraph
  pub cs : List Contraction
  pub walk : Walk
  pub at : At h cs walk (T aboves loaded) L
  pub turn-to : turn < (T aboves loaded).n
  pub tried-to : L.tried ≤ turn
  pub v-from : 1 ≤ v
  pub open-pair : Open (T aboves loaded).blocks (T aboves loaded).n (T aboves loaded).k (v - 1) b

-- what it does: one move of the walk
pub record Took (T : Tables) (L : Locals) (turn v b : ℕ) (T' : Tables) (L' : Locals) (turn' : ℕ) : Type 0 where
  pub is : (h : Hypergraph) (cs : List Contraction) (w : Walk) → At h cs w T L → At h cs (walk_move h cs w v b (worth_of h cs (place w.block v b))) T' L'
  pub turn_is : turn' ≡ turn + 1
  pub tried-is : L'.tried ≡ L.tried + 1
  pub keeps : Keeps T T'

-- ---- one turn

-- what `advance` asks: a walk on its way, with at least one turn left
pub record TurnOk (T : List ℕ → List ℕ → Tables) (L : Locals) (turn : ℕ) : Type 0 where
  pub aboves : List ℕ
  pub loaded : List ℕ
  pub h : Hypergraph
  pub cs : List Contraction
  pub walk : Walk
  pub at : At h cs walk (T aboves loaded) L
  pub turn-to : turn < (T aboves loaded).n
  pub tried-to : L.tried ≤ turn

-- `end` is what becomes, in so many turns more, of the walk that tables and variables now are
pub record Onward (h : Hypergraph) (ceiling : ℕ → ℕ) (cs : List Contraction) (end : Walk) (turns : ℕ) (T : Tables) (L : Locals) : Type 0 where
  pub walk : Walk
  pub at : At h cs walk T L
  pub same : end ≡ walk_on h ceiling cs turns walk

-- what a turn does
pub record Turned (T : Tables) (L : Locals) (ceilings : List ℕ) (turn : ℕ) (T' : Tables) (L' : Locals) (turn' : ℕ) : Type 0 where
  pub is : (h : Hypergraph) (ceiling : ℕ → ℕ) (cs : List Contraction) (w : Walk) → CeilingIs ceilings h ceiling → At h cs w T L → Onward h ceiling cs (walk_on h ceiling cs (T.n - turn) w) (T.n - turn') T' L'
  pub on : turn < turn'
  pub to : turn' ≤ T.n
  pub tried-to : L'.tried ≤ turn'
  pub keeps : Keeps T T'

-- ---- the whole walk

-- what `walk` asks: sound tables, the marks of who is fixed, and two vertices on the board, counted from 0
pub record WalkOk (T : List ℕ → List ℕ → Tables) (fixedmarks : List ℕ) (u v : ℕ) : Type 0 where
  pub aboves : List ℕ
  pub loaded : List ℕ
  pub h : Hypergraph
  pub cs : List Contraction
  pub block : ℕ → ℕ
  pub sound : Sound h cs block (T aboves loaded)
  pub fixed : FixedIs fixedmarks h cs
  pub u-in : u < (T aboves loaded).n
  pub u-on : 1 ≤ get_or (T aboves loaded).blocks u 0
  pub v-in : v < (T aboves loaded).n
  pub v-on : 1 ≤ get_or (T aboves loaded).blocks v 0

-- the walk after some turns, from its first tables and variables on
pub record Going (T : Tables) (L : Locals) (ceilings : List ℕ) (turn : ℕ) (T' : Tables) (L' : Locals) : Type 0 where
  pub is : (h : Hypergraph) (ceiling : ℕ → ℕ) (cs : List Contraction) (w : Walk) → CeilingIs ceilings h ceiling → At h cs w T L
      → Onward h ceiling cs (walk_on h ceiling cs T.n w) (T.n - turn) T' L'
  pub keeps : Keeps T T'

-- tables and numbers at the end of W: the partition, tried and kept are those of model's walk
pub record Ended (h : Hypergraph) (cs : List Contraction) (w : Walk) (T : Tables) (tried kept : ℕ) : Type 0 where
  pub sound : Sound h cs (walked h cs w) T
  pub tried-is : tried ≡ w.tried
  pub kept-is : kept ≡ w.kept

-- what `walk` does
pub record Walks (T : Tables) (ceilings fixedmarks : List ℕ) (u v : ℕ) (T' : Tables) (tried kept : ℕ) : Type 0 where
  pub is : (h : Hypergraph) (ceiling : ℕ → ℕ) (cs : List Contraction) (block : ℕ → ℕ) → CeilingIs ceilings h ceiling → FixedIs fixedmarks h cs → Sound h cs block T
      → Ended h cs (walk h ceiling cs block (u + 1) (v + 1)) T' tried kept
  pub keeps : Keeps T T'
