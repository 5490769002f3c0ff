-- Request M-110, the order of moves, as theorems over model alone: two calls of the list's entry whose lists end in accepted moves and leave
-- each lot in the same session leave the same tables, joins and total (order-of-moves); two moves of different vertices, accepted in either
-- order, are such lists (either_order). Beneath both: two sales that moves led to from one, each vertex in the same block, have the same stack, partition and
-- tables (same_tables). Rests on Reached and Ranges. Assumes nothing.
use Rattle.std.specs.Prelude.{ℕ, zero, suc, ◌+◌, ◌-◌, ◌*◌, ◌≤◌, ◌<◌, ◌≡◌, refl, Bool, true, false, not, cond, ◌&&◌, List, [], ◌∷◌, ◌++◌, leb, ltb, length, get_or}
use Rattle.std.proofs.Math.Decide.{ℕ_discrete, dec_lt}
use Rattle.std.proofs.Common.{arith, sym, ap, ap₂, ◌∙◌, subst, true≢false, lt-ltb, leb-true, length-append, ext_get_or}
use Rattle.std.proofs.lemmas.Bool.{not-false}
use Rattle.std.proofs.Math.ListN.{get_or-eq_default}
use Rattle.laws.specs.Choice.{one, and_left, and_right, cond-zero}
use Rattle.laws.specs.Occurrence.{occ}
use Rattle.laws.specs.Place.{place, place-off, place-swap}
use Rattle.model.specs.Catalogue.{Limits, Hypergraph, vertices, is_vertex, is_block, capacities}
use Rattle.model.specs.Measure.{Contraction, above, representative, pin, size, metric}
use Rattle.model.specs.Machine.{Call, call_j, call_s, call_m, call_b, call_w, call_p, call_a, State, settle, refuses_m, does_m}
use Rattle.model.specs.Search.{call_under}
use Rattle.model.specs.Sale.{Request, runs, call_x, call_n, Sale, opened, ran, turn_under, turn, total_of}
use Rattle.model.specs.Grammar.{Reading, Book, reading, parse}
use Rattle.model.specs.Report.{refusal}
use Rattle.model.specs.Engine.{after}
use Rattle.model.specs.Memory.{Tables, Memory, long_memory, HoldsFor, Holds, Served, Serves}
use Rattle.model.specs.Lent.{stack_of}
use Rattle.model.specs.Demand.{Accepted, reached_by}
use Rattle.model.specs.Promises.{Demand3}
use Rattle.model.specs.ListEntry.{list_refusal, list_calls, Returned, Listed, ListServed, ListServes}
use Rattle.model.specs.Order.{is_move, asks_move, AcceptedMoves, session_of, SameSessions, SameLeft, OrderOfMoves, OrderInFiles, OrderOfTables, EitherOrder}
use Rattle.guarantees.specs.Climbs.{representative-self}
use Rattle.guarantees.specs.Reading.{vertex-range}
use Rattle.guarantees.specs.Ends.{Placed}
use Rattle.guarantees.specs.Reached.{reached}
use Rattle.guarantees.specs.Ranges.{Few}
use Rattle.guarantees.specs.Board.{board-under}
use Rattle.guarantees.specs.Determined.{holds_same}

-- ---- accepted moves
-- an accepted M places one vertex
pub record Places (h : Hypergraph) (s s' : State) (v t : ℕ) : Type 0 where
  pub low : 1 ≤ v
  pub high : v ≤ vertices h
  pub stack_same : s'.stack ≡ s.stack
  pub placed : s'.block ≡ place s.block v t

-- under any ceiling
pub places-M : (h : Hypergraph) (ceiling : ℕ → ℕ) (s : State) (v t : ℕ) → refuses_m h ceiling s v t ≡ 0 → Places h s (does_m h s v t).state v t
unfolding does_m refuses_m
places-M h ceiling s v t e =
    let r = vertex-range h v (and_left (is_vertex h v) (is_block h t) (not-false _ (cond-zero (not (is_vertex h v && is_block h t)) 9 _ (omega arith) e).0)) in
    record { low = r.0; high = r.1; stack_same = refl; placed = refl }

places : (limits : Limits) (a : Sale) (v t : ℕ) → refusal (turn limits a (runs (call_m v t))).answer ≡ 0 → Places a.graph a.state (turn limits a (runs (call_m v t))).sale.state v t
unfolding turn_under ran call_under settle refusal
places limits a v t q = go (refuses_m h (capacities h) s v t) refl q
  where
    h : Hypergraph
    h = a.graph

    s : State
    s = a.state

    go : (n : ℕ) → refuses_m h (capacities h) s v t ≡ n → refusal (settle n s (does_m h s v t)).answer ≡ 0 → Places h s (settle n s (does_m h s v t)).state v t
    go (suc n) e q = absurd (omega arith)
    go zero e q = places-M h (capacities h) s v t e

-- moves leave the catalogue, the stack, and the blocks of what is no vertex
pub record OnlyMoved (a a' : Sale) : Type 0 where
  pub graph_same : a'.graph ≡ a.graph
  pub changed-same : a'.changed ≡ a.changed
  pub stack_same : a'.state.stack ≡ a.state.stack
  pub others : (x : ℕ) → ((1 ≤ x) × (x ≤ vertices a.graph) → ⊥) → a'.state.block x ≡ a.state.block x

pub none-moved : (a : Sale) → OnlyMoved a a
none-moved a = record { graph_same = refl; changed-same = refl; stack_same = refl; others = λ x q. refl }

pub moved_on : {a b c : Sale} → OnlyMoved a b → OnlyMoved b c → OnlyMoved a c
moved_on p q = record {
  graph_same = q.graph_same ∙ p.graph_same;
  changed-same = q.changed-same ∙ p.changed-same;
  stack_same = q.stack_same ∙ p.stack_same;
  others = λ x n. q.others x (λ r. n (subst (λ (h : Hypergraph). (1 ≤ x) × (x ≤ vertices h)) p.graph_same r)) ∙ p.others x n;
}

pub one-moved : (a a' : Sale) (v t : ℕ) → a'.graph ≡ a.graph → a'.changed ≡ a.changed → Places a.graph a.state a'.state v t → OnlyMoved a a'
one-moved a a' v t g c p = record {
  graph_same = g;
  changed-same = c;
  stack_same = p.stack_same;
  others = λ x n. ap (λ (f : ℕ → ℕ). f x) p.placed ∙ place-off a.state.block v t x (λ e. n (omega (arith, p.low), omega (arith, p.high)));
}

-- a call of the machine leaves the catalogue
graph-runs : (limits : Limits) (a : Sale) (c : Call) → ((turn limits a (runs c)).sale.graph ≡ a.graph) × ((turn limits a (runs c)).sale.changed ≡ a.changed)
unfolding turn_under ran
graph-runs limits a c = (refl, refl)

moved : (limits : Limits) (a : Sale) (ms : List Request) → AcceptedMoves limits a ms → OnlyMoved a (after limits a ms)
unfolding AcceptedMoves after is_move asks_move
moved limits a [] q = none-moved a
moved limits a (runs (call_m v t) ∷ ms) q =
    let g = graph-runs limits a (call_m v t) in
    let s : Sale = (turn limits a (runs (call_m v t))).sale in
    moved_on (one-moved a s v t g.0 g.1 (places limits a v t q.1)) (moved limits s ms q.2)
moved limits a (runs (call_j u v) ∷ ms) q = absurd (true≢false (sym q.0))
moved limits a (runs call_s ∷ ms) q = absurd (true≢false (sym q.0))
moved limits a (runs call_b ∷ ms) q = absurd (true≢false (sym q.0))
moved limits a (runs (call_w u v) ∷ ms) q = absurd (true≢false (sym q.0))
moved limits a (runs call_p ∷ ms) q = absurd (true≢false (sym q.0))
moved limits a (runs call_a ∷ ms) q = absurd (true≢false (sym q.0))
moved limits a (call_x v ∷ ms) q = absurd (true≢false (sym q.0))
moved limits a (call_n bales session buyers ∷ ms) q = absurd (true≢false (sym q.0))

after-append : (limits : Limits) (a : Sale) (before ms : List Request) → after limits a (before ++ ms) ≡ after limits (after limits a before) ms
unfolding after
after-append limits a [] ms = refl
after-append limits a (c ∷ before) ms = after-append limits (turn limits a c).sale before ms

moved-behind : (limits : Limits) (h : Hypergraph) (before ms : List Request) → AcceptedMoves limits (reached_by limits h before) ms → OnlyMoved (reached_by limits h before) (reached_by limits h (before ++ ms))
moved-behind limits h before ms a = subst (OnlyMoved (reached_by limits h before)) (sym (after-append limits (opened h) before ms)) (moved limits (reached_by limits h before) ms a)

-- ---- what lent memory holds
-- a state's stack and partition decide it
holds_as : {changed : Bool} {h : Hypergraph} {s s' : State} {old t : Tables} → s'.stack ≡ s.stack → s'.block ≡ s.block → HoldsFor changed h s' old t → HoldsFor changed h s old t
holds_as {changed} {h} {s} {s'} {old} {t} e f x =
    let y : HoldsFor changed h (record { stack = s.stack; block = s.block; journal = s'.journal }) old t = subst (λ (z : State). HoldsFor changed h z old t) (λ i. record { stack = e i; block = f i; journal = s'.journal }) x in
    record {
      weights = y.weights;
      blocks = y.blocks;
      aboves = y.aboves;
      fixed = y.fixed;
      loaded_pins = y.loaded_pins;
      present_pins = y.present_pins;
      firsts = y.firsts;
      loaded_sizes = y.loaded_sizes;
      present_sizes = y.present_sizes;
      counts = y.counts;
      gains = y.gains;
      index = y.index;
      visited = y.visited;
    }

-- ---- the same stack and the same partition
-- of two sales that moves led to from one, each vertex in the same block
module _ (a b b' : Sale) (moved : OnlyMoved a b) (moved' : OnlyMoved a b') (placed : Placed b.graph b.state.stack b.state.block) (placed' : Placed b'.graph b'.state.stack b'.state.block)
    (sessions : (v : ℕ) → 1 ≤ v → v ≤ vertices a.graph → session_of b'.state v ≡ session_of b.state v) where
  -- the catalogue there
  abbrev g : Hypergraph
  g = a.graph

  abbrev one_end : State
  one_end = b.state

  abbrev other-end : State
  other-end = b'.state

  pub same_graph : b'.graph ≡ b.graph
  same_graph = moved'.graph_same ∙ sym moved.graph_same

  pub same-stack : other-end.stack ≡ one_end.stack
  same-stack = moved'.stack_same ∙ sym moved.stack_same

  one_placed : Placed g one_end.stack one_end.block
  one_placed = subst (λ (z : Hypergraph). Placed z one_end.stack one_end.block) moved.graph_same placed

  other-placed : Placed g other-end.stack other-end.block
  other-placed = subst (λ (z : Hypergraph). Placed z other-end.stack other-end.block) moved'.graph_same placed'

  -- a vertex under no other stands for itself, and one under another has block 0
  same_at : (x : ℕ) → 1 ≤ x → x ≤ vertices g → other-end.block x ≡ one_end.block x
  same_at x l u = go (ℕ_discrete (above one_end.stack x) 0)
    where
      above_same : above other-end.stack x ≡ above one_end.stack x
      above_same = ap (λ (cs : List Contraction). above cs x) same-stack

      go : Dec (above one_end.stack x ≡ 0) → other-end.block x ≡ one_end.block x
      go (yes e) =
          ap other-end.block (sym (representative-self other-end.stack x (above_same ∙ e)))
          ∙ sessions x l u
          ∙ ap one_end.block (representative-self one_end.stack x e)
      go (no n) =
          (other-placed x l u).off (board-under g other-end.stack x (λ e. n (sym above_same ∙ e)))
          ∙ sym ((one_placed x l u).off (board-under g one_end.stack x n))

  pub same_block : other-end.block ≡ one_end.block
  same_block = λ i x. go x (dec_lt 0 x) (dec_lt (vertices g) x) i
    where
      outside : (x : ℕ) → ((1 ≤ x) × (x ≤ vertices g) → ⊥) → other-end.block x ≡ one_end.block x
      outside x q = moved'.others x q ∙ sym (moved.others x q)

      go : (x : ℕ) → Dec (0 < x) → Dec (vertices g < x) → other-end.block x ≡ one_end.block x
      go x (no n) d = outside x (λ r. n (omega (arith, r.0)))
      go x (yes l) (yes u) = outside x (λ r. absurd (omega (arith, r.1)))
      go x (yes l) (no u) = same_at x (omega arith) (omega arith)

  pub same_total : total_of b' ≡ total_of b
  same_total = ap₂ (λ (z : Hypergraph) (p : ℕ → ℕ). metric z other-end.stack p) same_graph same_block
      ∙ ap (λ (cs : List Contraction). metric b.graph cs one_end.block) same-stack

  -- what the tables hold at either end, over the catalogue there
  pub one_holds : {old t : Tables} → Holds b old t → HoldsFor a.changed g one_end old t
  one_holds {old} {t} x = subst (λ (z : Hypergraph). HoldsFor a.changed z one_end old t) moved.graph_same (subst (λ (c : Bool). HoldsFor c b.graph one_end old t) moved.changed-same x)

  pub other-holds : {old t : Tables} → Holds b' old t → HoldsFor a.changed g other-end old t
  other-holds {old} {t} x = subst (λ (z : Hypergraph). HoldsFor a.changed z other-end old t) moved'.graph_same (subst (λ (c : Bool). HoldsFor c b'.graph other-end old t) moved'.changed-same x)

  pub same_tables : {old t t' : Tables} → Holds b old t → Holds b' old t' → t' ≡ t
  same_tables x y = holds_same (holds_as same-stack same_block (other-holds y)) (one_holds x)

-- two lists of moves behind one list from loading
module _ (limits : Limits) (few : Few limits) (h : Hypergraph) (ok : Accepted limits h) (before moves moves' : List Request) (s : SameSessions limits h before moves moves') where
  abbrev start : Sale
  start = reached_by limits h before

  abbrev one-sale : Sale
  one-sale = reached_by limits h (before ++ moves)

  abbrev other-sale : Sale
  other-sale = reached_by limits h (before ++ moves')

  one-led : OnlyMoved start one-sale
  one-led = moved-behind limits h before moves s.accepted

  other-led : OnlyMoved start other-sale
  other-led = moved-behind limits h before moves' s.accepted'

  one-legal : Placed one-sale.graph one-sale.state.stack one-sale.state.block
  one-legal = (reached limits few h ok (before ++ moves)).held.legal.placed

  other-legal : Placed other-sale.graph other-sale.state.stack other-sale.state.block
  other-legal = (reached limits few h ok (before ++ moves')).held.legal.placed

  pub ends-tables : {old t t' : Tables} → Holds one-sale old t → Holds other-sale old t' → t' ≡ t
  ends-tables = same_tables start one-sale other-sale one-led other-led one-legal other-legal s.sessions

  pub ends-stack : other-sale.state.stack ≡ one-sale.state.stack
  ends-stack = same-stack start one-sale other-sale one-led other-led one-legal other-legal s.sessions

  pub ends-block : other-sale.state.block ≡ one-sale.state.block
  ends-block = same_block start one-sale other-sale one-led other-led one-legal other-legal s.sessions

  pub ends-total : total_of other-sale ≡ total_of one-sale
  ends-total = same_total start one-sale other-sale one-led other-led one-legal other-legal s.sessions

-- ---- two calls of the list's entry
-- an accepted catalogue, and a list that is not refused, in memory that is long enough
pub listed_in : (limits : Limits) (file list operands : List ℕ) (k : Book) (old new : Memory) (r : Returned) (calls : List Request) → parse limits file ≡ reading k → long_memory limits old ≡ true → list_refusal list operands ≡ 0 → list_calls list operands ≡ calls
    → ListServes limits file list operands old new r → Listed limits k.graph calls old new r
listed_in limits file list operands k old new r calls p l z q s =
    subst (λ (cs : List Request). Listed limits k.graph cs old new r) q
    (subst (λ (x : Reading). ListServed true 0 limits x (list_calls list operands) old new r) p
    (subst (λ (n : ℕ). ListServed true n limits (parse limits file) (list_calls list operands) old new r) z
    (subst (λ (b : Bool). ListServed b (list_refusal list operands) limits (parse limits file) (list_calls list operands) old new r) l s)))

pub order-of-tables : (limits : Limits) → Few limits → OrderOfTables limits
order-of-tables limits few h before moves moves' old t t' ok s x y = ends-tables limits few h ok before moves moves' s x y

-- what an entry for files leaves of an accepted file, in memory that is long enough
held_in : (limits : Limits) (file : List ℕ) (k : Book) (h : Hypergraph) (calls : List Request) (old new : Memory) (code written : ℕ) → parse limits file ≡ reading k → long_memory limits old ≡ true → k.graph ≡ h → k.calls ≡ calls
    → Serves limits file old new code written → Holds (reached_by limits h calls) old.tables new.tables
held_in limits file k h calls old new code written p l g q s =
    subst (λ (cs : List Request). Holds (reached_by limits h cs) old.tables new.tables) q
    (subst (λ (x : Hypergraph). Holds (reached_by limits x k.calls) old.tables new.tables) g
    (subst (λ (x : Reading). Served limits true x old new code written) p
    (subst (λ (b : Bool). Served limits b (parse limits file) old new code written) l s)).tables)

pub order-in-files : (limits : Limits) → Few limits → OrderInFiles limits
order-in-files limits few file file' k k' old new new' code written code' written' before moves moves' p p' g l q q' s a b =
    order-of-tables limits few k.graph before moves moves' old.tables new.tables new'.tables (record { file = file; book = k; loads = p; graph_is = refl }) s
    (held_in limits file k k.graph (before ++ moves) old new code written p l refl q a)
    (held_in limits file' k' k.graph (before ++ moves') old new' code' written' p' l g q' b)

pub order-of-moves : (limits : Limits) → Few limits → OrderOfMoves limits
order-of-moves limits few file list list' operands operands' k old new new' r r' before moves moves' p l z q z' q' s a b =
    let x = listed_in limits file list operands k old new r (before ++ moves) p l z q a in
    let y = listed_in limits file list' operands' k old new' r' (before ++ moves') p l z' q' b in
    let ok = x.demand.accepted in
    let h = k.graph in
    record {
      tables = order-of-tables limits few h before moves moves' old.tables new.tables new'.tables ok s x.demand.stands.tables y.demand.stands.tables;
      joins = y.demand.stands.joins ∙ ends-stack limits few h ok before moves moves' s ∙ sym x.demand.stands.joins;
      totals = y.demand.total-is ∙ ends-total limits few h ok before moves moves' s ∙ sym x.demand.total-is;
    }

-- ---- two moves
pub either_order : (limits : Limits) → EitherOrder limits
unfolding AcceptedMoves after
either_order limits h before u a v b ok few ne x y =
    let s : Sale = reached_by limits h before in
    let uv : List Request = runs (call_m u a) ∷ runs (call_m v b) ∷ [] in
    let vu : List Request = runs (call_m v b) ∷ runs (call_m u a) ∷ [] in
    let p = places limits s u a x.1 in
    let q = places limits (turn limits s (runs (call_m u a))).sale v b x.2.1 in
    let p' = places limits s v b y.1 in
    let q' = places limits (turn limits s (runs (call_m v b))).sale u a y.2.1 in
    let one = after-append limits (opened h) before uv in
    let other = after-append limits (opened h) before vu in
    let blocks : (after limits s vu).state.block ≡ (after limits s uv).state.block =
    q'.placed ∙ ap (λ (f : ℕ → ℕ). place f u a) p'.placed ∙ place-swap s.state.block v b u a ne ∙ sym (q.placed ∙ ap (λ (f : ℕ → ℕ). place f v b) p.placed) in
    let stacks : (after limits s vu).state.stack ≡ (after limits s uv).state.stack =
    q'.stack_same ∙ p'.stack_same ∙ sym (q.stack_same ∙ p.stack_same) in
    record {
      accepted = x;
      accepted' = y;
      few = omega (arith, length-append before uv);
      few' = omega (arith, length-append before vu);
      sessions = λ w _ _.
          ap (λ (z : Sale). session_of z.state w) other
          ∙ ap₂ (λ (f : ℕ → ℕ) (cs : List Contraction). f (representative cs w)) blocks stacks
          ∙ sym (ap (λ (z : Sale). session_of z.state w) one);
    }
