-- Document 01, "The plain machine behind the calls": the best open pair, walks, polish, ratings, the calls W, P and A; and what
-- every call does, under a ceiling for each session. Rests on Machine. Assumes nothing.
use Rattle.std.specs.Prelude.{ℕ, zero, suc, ◌+◌, ◌-◌, ◌*◌, ◌/◌, ◌≤◌, ◌≡◌, Bool, true, not, ◌&&◌, ◌||◌, cond, List, [], ◌∷◌, eqb, leb, ltb, ℤ, pos, length}
use Rattle.std.specs.Int.Signed.{lt_z}
use Rattle.laws.specs.Choice.{one}
use Rattle.laws.specs.Sum.{count_to, fold_to}
use Rattle.laws.specs.Fold.{sum_over, any}
use Rattle.laws.specs.Place.{place}
use Rattle.model.specs.Catalogue.{Hypergraph, vertices, is_vertex, average_weight, capacities}
use Rattle.model.specs.Measure.{Contraction, on_board, may_move, pin, size, weight, block_weight, heaviest, metric, gain, has_room, adjacent}
use Rattle.model.specs.Machine.{Call, call_j, call_s, call_m, call_b, call_w, call_p, call_a, says_w, says_p, says_a, Move, State, Step, settle, refuses_j, does_j, refuses_m, does_m, uncontract, does_s, does_b}

-- the best pair so far: two numbers and what they are valued at
pub data Best : Type 0 where
  none : Best
  best : ℕ → ℕ → ℤ → Best

-- a later pair must be worth more: so ties go to the lowest first number, then to the lowest second one
unfoldable pub better : Best → ℕ → ℕ → ℤ → Best
better none x y g = best x y g
better (best a b f) x y g = cond (lt_z f g) (best x y g) (best a b f)

-- one more pair, where it is open
unfoldable pub consider : (ℕ → ℕ → Bool) → (ℕ → ℕ → ℤ) → ℕ → Best → ℕ → Best
consider may worth x b y =
    let more : Best = better b x y (worth x y) in
    cond (may x y) more b

-- the best open pair of 1..n and 1..m
unfoldable pub best_pair : ℕ → ℕ → (ℕ → ℕ → Bool) → (ℕ → ℕ → ℤ) → Best
best_pair n m may worth = fold_to n (λ b x. fold_to m (consider may worth x) b) none

-- moves reversed, the latest first, as many as told
unfoldable pub reversed : ℕ → List Move → (ℕ → ℕ) → ℕ → ℕ
reversed zero ms block = block
reversed (suc n) [] block = block
reversed (suc n) (m ∷ ms) block = reversed n ms (place block m.vertex m.from)

-- what a walk values a prefix at: its total, and its heaviest session in bales
pub record Worth : Type 0 where
  pub total : ℕ
  pub heaviest : ℕ

-- a walk (localized FM search) on its way: the partition, the moves made (the latest first), who is a candidate, how many moves
-- were tried, the length of the kept prefix, and its worth
pub record Walk : Type 0 where
  pub block : ℕ → ℕ
  pub journal : List Move
  pub candidate : ℕ → Bool
  pub tried : ℕ
  pub kept : ℕ
  pub worth : Worth

-- P (greedy polish) on its way: the partition, and how many moves were made
pub record Polish : Type 0 where
  pub block : ℕ → ℕ
  pub made : ℕ

-- W keeps the prefix of lowest total, then of lowest heaviest session, then the first: so a later one is kept in place of another if its total
-- is lower, or is the same with a lighter heaviest session (M-105)
unfoldable pub is_kept : Worth → Worth → Bool
is_kept now kept = ltb now.total kept.total || (eqb now.total kept.total && ltb now.heaviest kept.heaviest)

-- a walk stops when so many moves have been made since the kept prefix
abbrev pub patience : ℕ
patience = 25

module _ (h : Hypergraph) (cs : List Contraction) where
  -- a partition's worth
  abbrev pub worth_of : (ℕ → ℕ) → Worth
  worth_of block = record { total = metric h cs block; heaviest = heaviest h cs block }

  -- one move of a walk, to a partition whose worth is `now`
  unfoldable pub walk_move : Walk → ℕ → ℕ → Worth → Walk
  walk_move w v t now = record {
    block = place w.block v t;
    journal = record { vertex = v; from = w.block v } ∷ w.journal;
    candidate = λ x. w.candidate x || adjacent h cs v x;
    tried = suc w.tried;
    kept = cond (is_kept now w.worth) (suc w.tried) w.kept;
    worth = cond (is_kept now w.worth) now w.worth;
  }

  -- one turn of a walk, by the best open pair; `on` is the turns after it
  unfoldable pub walk_turn : Walk → (Walk → Walk) → Best → Walk
  walk_turn w on none = w
  walk_turn w on (best v t g) = on (walk_move w v t (worth_of (place w.block v t)))

  -- the partition that a walk leaves
  unfoldable pub walked : Walk → ℕ → ℕ
  walked w = reversed (w.tried - w.kept) w.journal w.block

  -- one turn of P: a move whose gain is at least 1, so above 0
  unfoldable pub polish_turn : Polish → (Polish → Polish) → Best → Polish
  polish_turn p on none = p
  polish_turn p on (best v t g) =
      let longer : Polish = on (record { block = place p.block v t; made = suc p.made }) in
      cond (lt_z (pos 0) g) longer p

-- the same, and the ceiling of each session
module _ (h : Hypergraph) (ceiling : ℕ → ℕ) (cs : List Contraction) where
  -- a lot may go to a session: not its own, and with space for it
  unfoldable pub can_go : (ℕ → ℕ) → ℕ → ℕ → Bool
  can_go block v t = may_move h cs v && not (eqb (block v) t) && has_room h ceiling cs block v t

  -- W: the pair is open
  unfoldable pub is_open : Walk → ℕ → ℕ → Bool
  is_open w v t = w.candidate v && not (any w.journal (λ m. eqb m.vertex v)) && can_go w.block v t

  -- the open pair that a walk takes
  unfoldable pub walk_best : Walk → Best
  walk_best w = best_pair (vertices h) h.blocks (is_open w) (gain h cs w.block)

  -- a walk to its end: no lot moves twice, so `fuel` is the number of lots
  unfoldable pub walk_on : ℕ → Walk → Walk
  walk_on zero w = w
  walk_on (suc fuel) w =
      let longer : Walk = walk_turn h cs w (walk_on fuel) (walk_best w) in
      cond (leb (w.kept + patience) w.tried) w longer

  -- W: a walk from candidates u and v
  unfoldable pub walk : (ℕ → ℕ) → ℕ → ℕ → Walk
  walk block u v = walk_on (vertices h) (record {
    block = block;
    journal = [];
    candidate = λ x. eqb x u || eqb x v;
    tried = 0;
    kept = 0;
    worth = worth_of h cs block;
  })

  -- the pair that P takes
  unfoldable pub polish_best : (ℕ → ℕ) → Best
  polish_best block = best_pair (vertices h) h.blocks (can_go block) (gain h cs block)

  -- P: each move lowers the total, so `fuel` is the total
  unfoldable pub polish_on : ℕ → Polish → Polish
  polish_on zero p = p
  polish_on (suc fuel) p = polish_turn h cs p (polish_on fuel) (polish_best p.block)

  -- P from a partition
  unfoldable pub polish : (ℕ → ℕ) → Polish
  polish block = polish_on (metric h cs block) (record { block = block; made = 0 })

module _ (h : Hypergraph) (cs : List Contraction) where
  -- rating of a pair
  unfoldable pub rating : ℕ → ℕ → ℕ
  rating u v = sum_over h.nets (λ e. cond (pin cs e u && pin cs e v) (5040 * e.weight / (size h cs e - 1)) 0)

  -- A: the pair may be joined
  unfoldable pub can_join : (ℕ → ℕ) → ℕ → ℕ → Bool
  can_join block u v =
      ltb u v && may_move h cs u && may_move h cs v && eqb (block u) (block v)
      && adjacent h cs u v
      && leb (weight h cs u + weight h cs v) (average_weight h)

  -- the pair that A joins
  unfoldable pub join_best : (ℕ → ℕ) → Best
  join_best block = best_pair (vertices h) (vertices h) (can_join block) (λ u v. pos (rating u v))

  -- lots on the board
  unfoldable pub board_size : ℕ
  board_size = count_to (vertices h) (λ v. on_board h cs v)

-- what A has after its joins
pub record Coarse : Type 0 where
  pub stack : List Contraction
  pub block : ℕ → ℕ

-- what A has after its walks
pub record Fine : Type 0 where
  pub block : ℕ → ℕ
  pub tried : ℕ
  pub kept : ℕ

module _ (h : Hypergraph) where
  -- one turn of A's joins
  unfoldable pub join_turn : Coarse → (Coarse → Coarse) → Best → Coarse
  join_turn c on none = c
  join_turn c on (best u v g) = on (record { stack = record { into = u; gone = v } ∷ c.stack; block = place c.block v 0 })

  -- A's joins while more than 2 × k lots are on the board: each takes a lot off it, so `fuel` is the number of lots
  unfoldable pub coarsen : ℕ → Coarse → Coarse
  coarsen zero c = c
  coarsen (suc fuel) c =
      let longer : Coarse = join_turn c (coarsen fuel) (join_best h c.stack c.block) in
      cond (ltb (2 * h.blocks) (board_size h c.stack)) longer c

-- W: 9, 10
unfoldable pub refuses_w : Hypergraph → State → ℕ → ℕ → ℕ
refuses_w h s u v =
    cond (not (is_vertex h u && is_vertex h v)) 9
    (cond (not (on_board h s.stack u && on_board h s.stack v)) 10 0)

-- A while a join stands: 16
unfoldable pub refuses_a : Hypergraph → State → List Contraction → ℕ
refuses_a h s [] = 0
refuses_a h s (c ∷ cs) = 16

module _ (h : Hypergraph) (ceiling : ℕ → ℕ) where
  -- A's splits, each with a walk from the parted pair
  unfoldable pub refine : List Contraction → Fine → Fine
  refine [] f = f
  refine (c ∷ cs) f =
      let w : Walk = walk h ceiling cs (uncontract f.block c) c.into c.gone in
      refine cs (record { block = walked h cs w; tried = f.tried + w.tried; kept = f.kept + w.kept })

  module _ (s : State) where
    -- W accepted
    unfoldable pub does_w : ℕ → ℕ → Step
    does_w u v =
        let w : Walk = walk h ceiling s.stack s.block u v in
        record {
          state = record { stack = s.stack; block = walked h s.stack w; journal = [] };
          answer = says_w w.tried w.kept (metric h s.stack (walked h s.stack w));
        }

    -- P
    unfoldable pub does_p : Step
    does_p =
        let p : Polish = polish h ceiling s.stack s.block in
        record {
          state = record { stack = s.stack; block = p.block; journal = [] };
          answer = says_p p.made (metric h s.stack p.block);
        }

    -- A accepted
    unfoldable pub does_a : Step
    does_a =
        let c : Coarse = coarsen h (vertices h) (record { stack = []; block = s.block }) in
        let f : Fine = refine c.stack (record { block = c.block; tried = 0; kept = 0 }) in
        let p : Polish = polish h ceiling [] f.block in
        record {
          state = record { stack = []; block = p.block; journal = [] };
          answer = says_a (length c.stack) f.tried f.kept p.made (metric h [] p.block);
        }

-- what a call does under a ceiling
unfoldable pub call_under : Hypergraph → (ℕ → ℕ) → State → Call → Step
call_under h ceiling s (call_j u v) = settle (refuses_j h s u v) s (does_j h s u v)
call_under h ceiling s call_s = does_s s s.stack
call_under h ceiling s (call_m v t) = settle (refuses_m h ceiling s v t) s (does_m h s v t)
call_under h ceiling s call_b = does_b h s s.journal
call_under h ceiling s (call_w u v) = settle (refuses_w h s u v) s (does_w h ceiling s u v)
call_under h ceiling s call_p = does_p h ceiling s
call_under h ceiling s call_a = settle (refuses_a h s s.stack) s (does_a h ceiling s)

-- what a call of a sale by itself does
abbrev pub call : Hypergraph → State → Call → Step
call h s c = call_under h (capacities h) s c

-- no session is above its ceiling
abbrev pub WithinCeiling : Hypergraph → (ℕ → ℕ) → State → Type 0
WithinCeiling h ceiling s = (b : ℕ) → 1 ≤ b → b ≤ h.blocks → block_weight h s.stack s.block b ≤ ceiling b

-- no single move with space lowers the total, of lots not kept
abbrev pub LocallyBest : Hypergraph → (ℕ → ℕ) → State → Type 0
LocallyBest h ceiling s =
    (v t : ℕ) → 1 ≤ v → v ≤ vertices h → may_move h s.stack v ≡ true → 1 ≤ t → t ≤ h.blocks → (s.block v ≡ t → ⊥)
    → has_room h ceiling s.stack s.block v t ≡ true → metric h s.stack s.block ≤ metric h s.stack (place s.block v t)
