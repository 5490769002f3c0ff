-- How large the machine's state gets: the stack is at most one less than the vertices (stack-le), and a call adds at most one to it (stack-call);
-- a call adds at most one move to the journal (journal-call), whose moves are of vertices that there are (listed-call). Rests on Calls.
-- Assumes nothing.
use Prim.Native.Nat.{ℕ, zero, suc, ◌+◌, ◌-◌, ◌≤◌}
use native.Mathlib.Omega.{arith}
use Rattle.std.specs.Prelude.{◌≡◌, not, ◌&&◌}
use Rattle.std.proofs.Math.Path.{refl, ap}
use Rattle.std.proofs.Common.{subst, eq-eqb}
use mathlib.Core.List.{List, [], ◌∷◌}
use Rattle.std.proofs.lemmas.Bool.{not-false}
use Rattle.std.proofs.Math.ListN.{length}
use Rattle.laws.specs.Choice.{one, and_left, cond-zero}
use Rattle.laws.specs.Fold.{All}
use Rattle.laws.specs.Sum.{sum_to-term, count_to-le}
use Rattle.model.specs.Catalogue.{Hypergraph, vertices, in_sale, is_vertex, is_block}
use Rattle.model.specs.Measure.{Contraction, above, on_board}
use Rattle.model.specs.Machine.{Call, call_j, call_s, call_m, call_b, call_w, call_p, call_a, Move, State, Step, settle, refuses_j, contract, does_j, refuses_m, does_m, does_s, does_b}
use Rattle.model.specs.Search.{board_size, refuses_w, does_w, does_p, refuses_a, does_a, call_under}
use Rattle.model.specs.Sale.{lots_in}
use Rattle.guarantees.specs.Board.{board-is}
use Rattle.guarantees.specs.Climbs.{Sound}
use Rattle.guarantees.specs.Calls.{Inside, AllInside, into-on, board-join, vertex-range}

module _ (h : Hypergraph) where
  -- every contraction takes one vertex off the board, on which all vertices in the sale were
  pub board-stack : (cs : List Contraction) → Sound cs → AllInside h cs → board_size h cs + length cs ≡ lots_in h
  unfolding board_size above lots_in
  board-stack [] s a = omega arith
  board-stack (c ∷ cs) s a = omega (arith, board-stack cs s.1 a.1, board-join h cs c s.0 a.0.5 a.0.2 a.0.3)

  pub lots-le : lots_in h ≤ vertices h
  unfolding lots_in
  lots-le = count_to-le (vertices h) (λ v. in_sale h v)

  -- and leaves one there
  board-some : (cs : List Contraction) (c : Contraction) → Sound (c ∷ cs) → Inside h c → 1 ≤ board_size h (c ∷ cs)
  unfolding board_size
  board-some cs c s r = omega (arith, sum_to-term (vertices h) c.into (λ x. one (on_board h (c ∷ cs) x)) r.0 r.1, ap one (board-is h (c ∷ cs) c.into (into-on h cs c s.0) r.4))

  pub stack-le : (cs : List Contraction) → Sound cs → AllInside h cs → length cs ≤ vertices h - 1
  stack-le [] s a = omega arith
  stack-le (c ∷ cs) s a = omega (arith, board-stack (c ∷ cs) s a, board-some cs c s a.0, lots-le)

  -- ---- one call

  stack-settled : (q : ℕ) (s : State) (done : Step) → length done.state.stack ≤ length s.stack + 1 → length (settle q s done).state.stack ≤ length s.stack + 1
  unfolding settle
  stack-settled zero s done l = l
  stack-settled (suc q) s done l = omega arith

  stack-S : (s : State) (cs : List Contraction) → s.stack ≡ cs → length (does_s s cs).state.stack ≤ length s.stack + 1
  unfolding does_s
  stack-S s [] q = omega arith
  stack-S s (c ∷ cs) q = omega (arith, ap length q)

  stack-B : (s : State) (ms : List Move) → length (does_b h s ms).state.stack ≤ length s.stack + 1
  unfolding does_b
  stack-B s [] = omega arith
  stack-B s (m ∷ ms) = omega arith

  pub stack-call : (ceiling : ℕ → ℕ) (s : State) (c : Call) → length (call_under h ceiling s c).state.stack ≤ length s.stack + 1
  unfolding call_under does_j contract does_m does_w does_p does_a
  stack-call ceiling s (call_j u v) = stack-settled (refuses_j h s u v) s (does_j h s u v) (omega arith)
  stack-call ceiling s call_s = stack-S s s.stack refl
  stack-call ceiling s (call_m v t) = stack-settled (refuses_m h ceiling s v t) s (does_m h s v t) (omega arith)
  stack-call ceiling s call_b = stack-B s s.journal
  stack-call ceiling s (call_w u v) = stack-settled (refuses_w h s u v) s (does_w h ceiling s u v) (omega arith)
  stack-call ceiling s call_p = omega arith
  stack-call ceiling s call_a = stack-settled (refuses_a h s s.stack) s (does_a h ceiling s) (omega arith)

  -- ---- the journal: what holds of an empty one, is kept by an accepted M and by dropping the last move, holds after each call
  module _ (Q : ℕ → List Move → Type 0) (empty : (n : ℕ) → Q n []) (later : (n : ℕ) (ms : List Move) → Q n ms → Q (suc n) ms)
      (more : (n : ℕ) (ceiling : ℕ → ℕ) (s : State) (v t : ℕ) → refuses_m h ceiling s v t ≡ 0 → Q n s.journal → Q (suc n) (record { vertex = v; from = s.block v } ∷ s.journal))
      (fewer : (n : ℕ) (m : Move) (ms : List Move) → Q n (m ∷ ms) → Q n ms) where
    settled : (n q : ℕ) (s : State) (done : Step) → Q n s.journal → (q ≡ 0 → Q (suc n) done.state.journal) → Q (suc n) (settle q s done).state.journal
    unfolding settle
    settled n zero s done k f = f refl
    settled n (suc q) s done k f = later n s.journal k

    after-S : (n : ℕ) (s : State) (cs : List Contraction) → Q n s.journal → Q (suc n) (does_s s cs).state.journal
    unfolding does_s
    after-S n s [] k = later n s.journal k
    after-S n s (c ∷ cs) k = empty (suc n)

    after-B : (n : ℕ) (s : State) (ms : List Move) → s.journal ≡ ms → Q n s.journal → Q (suc n) (does_b h s ms).state.journal
    unfolding does_b
    after-B n s [] q k = later n s.journal k
    after-B n s (m ∷ ms) q k = later n ms (fewer n m ms (subst (Q n) q k))

    after_call : (n : ℕ) (ceiling : ℕ → ℕ) (s : State) (c : Call) → Q n s.journal → Q (suc n) (call_under h ceiling s c).state.journal
    unfolding call_under does_j contract does_m does_w does_p does_a
    after_call n ceiling s (call_j u v) k = settled n (refuses_j h s u v) s (does_j h s u v) k (λ _. empty (suc n))
    after_call n ceiling s call_s k = after-S n s s.stack k
    after_call n ceiling s (call_m v t) k = settled n (refuses_m h ceiling s v t) s (does_m h s v t) k (λ q. more n ceiling s v t q k)
    after_call n ceiling s call_b k = after-B n s s.journal refl k
    after_call n ceiling s (call_w u v) k = settled n (refuses_w h s u v) s (does_w h ceiling s u v) k (λ _. empty (suc n))
    after_call n ceiling s call_p k = empty (suc n)
    after_call n ceiling s call_a k = settled n (refuses_a h s s.stack) s (does_a h ceiling s) k (λ _. empty (suc n))

  pub journal-call : (n : ℕ) (ceiling : ℕ → ℕ) (s : State) (c : Call) → length s.journal ≤ n → length (call_under h ceiling s c).state.journal ≤ suc n
  journal-call n ceiling s c k = after_call (λ n ms. length ms ≤ n) (λ n. omega arith) (λ n ms l. omega arith) (λ n ceiling s v t _ l. omega arith) (λ n m ms l. omega arith) n ceiling s c k

  -- the moves of a journal are of vertices that there are
  abbrev pub Listed : List Move → Type 0
  Listed ms = All ms (λ m. (1 ≤ m.vertex) × (m.vertex ≤ vertices h))

  listed_more : (ceiling : ℕ → ℕ) (s : State) (v t : ℕ) → refuses_m h ceiling s v t ≡ 0 → Listed s.journal → Listed (record { vertex = v; from = s.block v } ∷ s.journal)
  unfolding refuses_m
  listed_more ceiling s v t q k = (vertex-range h v (and_left _ _ (not-false _ (cond-zero (not (is_vertex h v && is_block h t)) 9 _ (omega arith) q).0)), k)

  pub listed-call : (ceiling : ℕ → ℕ) (s : State) (c : Call) → Listed s.journal → Listed (call_under h ceiling s c).state.journal
  listed-call ceiling s c k = after_call (λ n ms. Listed ms) (λ n. tt) (λ n ms k. k) (λ n. listed_more) (λ n m ms k. k.1) 0 ceiling s c k
