-- Document 01, "The plain machine behind the calls": its state, the calls J, S, M, B, and their refusals in order. Rests on Measure. Assumes nothing.
use Rattle.std.specs.Prelude.{ℕ, zero, suc, not, ◌&&◌, cond, List, [], ◌∷◌, eqb}
use Rattle.laws.specs.Place.{place}
use Rattle.model.specs.Catalogue.{Hypergraph, drafted, is_vertex, is_block}
use Rattle.model.specs.Measure.{Contraction, on_board, weight, is_fixed, metric, freed, drawn, has_room}

-- a call of the machine: seven of the nine call lines. X and N change the catalogue that it runs on (Sale)
pub data Call : Type 0 where
  call_j : ℕ → ℕ → Call
  call_s : Call
  call_m : ℕ → ℕ → Call
  call_b : Call
  call_w : ℕ → ℕ → Call
  call_p : Call
  call_a : Call

-- an answer: the fields that its line prints after the call's letter; `says_no q` is the refusal `NO,q`
pub data Answer : Type 0 where
  says_j : ℕ → Answer
  says_s : ℕ → ℕ → Answer
  says_m : ℕ → ℕ → ℕ → Answer
  says_b : ℕ → ℕ → ℕ → Answer
  says_w : ℕ → ℕ → ℕ → Answer
  says_p : ℕ → ℕ → Answer
  says_a : ℕ → ℕ → ℕ → ℕ → ℕ → Answer
  says_x : ℕ → Answer
  says_n : ℕ → ℕ → Answer
  says_no : ℕ → Answer

-- a move on the record of moves: the lot, and the session that it left
pub record Move : Type 0 where
  pub vertex : ℕ
  pub from : ℕ

-- the state beside the catalogue: the stack of joins, the session of each lot (0 off the board), and the journal, which is the
-- record of moves. The stack and the journal have their latest first
pub record State : Type 0 where
  pub stack : List Contraction
  pub block : ℕ → ℕ
  pub journal : List Move

-- what a call leaves and answers
pub record Step : Type 0 where
  pub state : State
  pub answer : Answer

-- a fresh machine
unfoldable pub fresh : Hypergraph → State
fresh h = record { stack = []; block = drafted h; journal = [] }

-- the step of a call: by a refusal's number the state as it was, and by 0 what the accepted call does
unfoldable pub settle : ℕ → State → Step → Step
settle zero s done = done
settle (suc q) s done = record { state = s; answer = says_no (suc q) }

module _ (h : Hypergraph) (s : State) where
  -- J: 9, 11, 10, 13
  unfoldable pub refuses_j : ℕ → ℕ → ℕ
  refuses_j u v =
      cond (not (is_vertex h u && is_vertex h v)) 9
      (cond (eqb u v) 11
      (cond (not (on_board h s.stack u && on_board h s.stack v)) 10
      (cond (not (eqb (s.block u) (s.block v))) 13 0)))

  -- a join: v leaves the board, and (u,v) goes on the stack
  unfoldable pub contract : ℕ → ℕ → State
  contract u v = record { stack = record { into = u; gone = v } ∷ s.stack; block = place s.block v 0; journal = [] }

  -- J accepted
  unfoldable pub does_j : ℕ → ℕ → Step
  does_j u v = record { state = contract u v; answer = says_j (weight h (contract u v).stack u) }

-- M: 9, 10, 12, 20, 14
unfoldable pub refuses_m : Hypergraph → (ℕ → ℕ) → State → ℕ → ℕ → ℕ
refuses_m h ceiling s v t =
    cond (not (is_vertex h v && is_block h t)) 9
    (cond (not (on_board h s.stack v)) 10
    (cond (eqb (s.block v) t) 12
    (cond (is_fixed h s.stack v) 20
    (cond (not (has_room h ceiling s.stack s.block v t)) 14 0))))

-- M accepted: the weights freed and newly drawn in are those before the move
unfoldable pub does_m : Hypergraph → State → ℕ → ℕ → Step
does_m h s v t = record {
  state = record { stack = s.stack; block = place s.block v t; journal = record { vertex = v; from = s.block v } ∷ s.journal };
  answer = says_m (freed h s.stack s.block v) (drawn h s.stack s.block v t) (metric h s.stack (place s.block v t));
}

-- S: the parted lot returns in its partner's present session
unfoldable pub uncontract : (ℕ → ℕ) → Contraction → ℕ → ℕ
uncontract block c = place block c.gone (block c.into)

-- S: 15, or the top join comes off
unfoldable pub does_s : State → List Contraction → Step
does_s s [] = record { state = s; answer = says_no 15 }
does_s s (c ∷ cs) = record { state = record { stack = cs; block = uncontract s.block c; journal = [] }; answer = says_s c.into c.gone }

-- B: 15, or the last move on the record is reversed
unfoldable pub does_b : Hypergraph → State → List Move → Step
does_b h s [] = record { state = s; answer = says_no 15 }
does_b h s (m ∷ ms) = record {
  state = record { stack = s.stack; block = place s.block m.vertex m.from; journal = ms };
  answer = says_b m.vertex m.from (metric h s.stack (place s.block m.vertex m.from));
}
