-- The starred cases of document 01, one table proved by computing, and worked cases of the requests. Rests on Search, Clump and Order. Assumes nothing.
use Rattle.std.specs.Prelude.{ℕ, ◌≡◌, refl, true, false, List, [], ◌∷◌, map, pos, negsuc}
use Rattle.laws.specs.Sum.{sum, sum_to}
use Rattle.laws.specs.Fold.{sum_over, any}
use Rattle.laws.specs.Place.{place}
use Rattle.model.specs.Catalogue.{Hypergraph, main_limits, average_weight, nearest, capacity, drafted}
use Rattle.model.specs.Measure.{Contraction, above, climb, representative, pin, size, pin_count, weight, is_fixed, may_move, block_weight, connectivity, metric, freed, drawn, gain, has_room}
use Rattle.model.specs.Index.{ahead, insert, ranked}
use Rattle.model.specs.Memory.{index_entry}
use Rattle.model.specs.Machine.{call_m, fresh, settle, refuses_m, does_m}
use Rattle.model.specs.Search.{rating, call_under}
use Rattle.model.specs.Sale.{runs, opened, ran, turn_under, turn}
use Rattle.model.specs.Report.{refusal}
use Rattle.model.specs.Clump.{unjoined_total, in_clumps, clump_to}
use Rattle.model.specs.Order.{is_move, asks_move, AcceptedMoves, session_of}

-- the worked sale's catalogue
abbrev pub five : Hypergraph
five = record {
  blocks = 2;
  imbalance = 200;
  total_weight = 50;
  lows = 10 ∷ 10 ∷ 10 ∷ 10 ∷ 10 ∷ [];
  weights = 10 ∷ 10 ∷ 10 ∷ 10 ∷ 10 ∷ [];
  draft = 1 ∷ 1 ∷ 2 ∷ 2 ∷ 1 ∷ [];
  fixed = 0 ∷ 0 ∷ 0 ∷ 0 ∷ 0 ∷ [];
  nets = record { weight = 3; pins = 1 ∷ 3 ∷ [] } ∷ record { weight = 2; pins = 2 ∷ 5 ∷ [] } ∷ record { weight = 1; pins = 3 ∷ 4 ∷ [] } ∷ [];
}

-- 5 joined into 2
abbrev pub joined : List Contraction
joined = record { into = 2; gone = 5 } ∷ []

-- W 51, k 2, slack 100
abbrev pub fifty_one : Hypergraph
fifty_one = record { blocks = 2; imbalance = 100; total_weight = 51; lows = 50 ∷ 1 ∷ []; weights = 50 ∷ 1 ∷ []; draft = 1 ∷ 2 ∷ []; fixed = 0 ∷ 0 ∷ []; nets = [] }

-- one lot of w bales in two sessions, and a slack
abbrev pub lot_of : ℕ → ℕ → Hypergraph
lot_of w slack = record { blocks = 2; imbalance = slack; total_weight = w; lows = w ∷ []; weights = w ∷ []; draft = 1 ∷ []; fixed = 0 ∷ []; nets = [] }

-- a buyer with one mark
abbrev pub one_mark : Hypergraph
one_mark = record { blocks = 2; imbalance = 0; total_weight = 1; lows = 1 ∷ []; weights = 1 ∷ []; draft = 1 ∷ []; fixed = 0 ∷ []; nets = record { weight = 7; pins = 1 ∷ [] } ∷ [] }

-- lot i in session i, and a buyer of weight 1,000 with a mark at each
abbrev sixteen : List ℕ
sixteen = 1 ∷ 2 ∷ 3 ∷ 4 ∷ 5 ∷ 6 ∷ 7 ∷ 8 ∷ 9 ∷ 10 ∷ 11 ∷ 12 ∷ 13 ∷ 14 ∷ 15 ∷ 16 ∷ []

abbrev pub spread : Hypergraph
spread = record { blocks = 16; imbalance = 0; total_weight = 136; lows = sixteen; weights = sixteen; draft = sixteen; fixed = map (λ v. 0) sixteen; nets = record { weight = 1000; pins = sixteen } ∷ [] }

-- the starred cases in document 01's order
pub table :
    (metric five [] (drafted five) ≡ 3)
    × (capacity five ≡ 30)
    × (gain five [] (drafted five) 1 2 ≡ pos 3)
    × (gain five [] (drafted five) 3 1 ≡ pos 2)
    × (gain five [] (drafted five) 2 2 ≡ negsuc 1)
    × (gain five joined (place (drafted five) 5 0) 2 2 ≡ pos 0)
    × (rating five [] 2 5 ≡ 10080)
    × (capacity fifty_one ≡ 29)
    × (metric one_mark [] (drafted one_mark) ≡ 0)
    × (metric spread [] (drafted spread) ≡ 15000)
unfolding sum sum_to sum_over any average_weight nearest capacity above climb representative pin size pin_count connectivity metric freed drawn gain place rating
table = (refl, refl, refl, refl, refl, refl, refl, refl, refl, refl)

-- ---- M-103: the starred gains in their two halves, freed and newly drawn in: 3 − 0, 3 − 1, 0 − 2, and 2 − 2 while 5 is joined into 2, where
-- the buyer of 2 and 5 has the one mark 2: leaving session 1 frees it, and session 2 is newly drawn in
pub halves-table :
    (freed five [] (drafted five) 1 ≡ 3)
    × (drawn five [] (drafted five) 1 2 ≡ 0)
    × (freed five [] (drafted five) 3 ≡ 3)
    × (drawn five [] (drafted five) 3 1 ≡ 1)
    × (freed five [] (drafted five) 2 ≡ 0)
    × (drawn five [] (drafted five) 2 2 ≡ 2)
    × (freed five joined (place (drafted five) 5 0) 2 ≡ 2)
    × (drawn five joined (place (drafted five) 5 0) 2 2 ≡ 2)
unfolding sum sum_to sum_over any above climb representative pin pin_count freed drawn place
halves-table = (refl, refl, refl, refl, refl, refl, refl, refl)

-- ---- M-107: rows of the index. Lot 1 gains 5 in sessions 2 and 3 and nothing in 4, so its row is 2, 3, 4 and 0; with weight 6 for its second buyer it
-- gains 6 in session 3, which then goes first; lot 4, joined into 1, has zeros
abbrev four_sessions : ℕ → Hypergraph
four_sessions weight = record {
  blocks = 4;
  imbalance = 1000;
  total_weight = 4;
  lows = 1 ∷ 1 ∷ 1 ∷ 1 ∷ [];
  weights = 1 ∷ 1 ∷ 1 ∷ 1 ∷ [];
  draft = 1 ∷ 2 ∷ 3 ∷ 1 ∷ [];
  fixed = 0 ∷ 0 ∷ 0 ∷ 0 ∷ [];
  nets = record { weight = 5; pins = 1 ∷ 2 ∷ [] } ∷ record { weight = weight; pins = 1 ∷ 3 ∷ [] } ∷ [];
}

abbrev four_joined : List Contraction
four_joined = record { into = 1; gone = 4 } ∷ []

pub index-table :
    (ranked (gain (four_sessions 5) [] (drafted (four_sessions 5))) 1 1 4 ≡ 2 ∷ 3 ∷ 4 ∷ [])
    × (ranked (gain (four_sessions 6) [] (drafted (four_sessions 6))) 1 1 4 ≡ 3 ∷ 2 ∷ 4 ∷ [])
    × (ranked (gain (four_sessions 5) [] (drafted (four_sessions 5))) 2 2 4 ≡ 1 ∷ 3 ∷ 4 ∷ [])
    × (index_entry (four_sessions 5) [] (drafted (four_sessions 5)) 1 4 ≡ 0)
    × (index_entry (four_sessions 5) four_joined (place (drafted (four_sessions 5)) 4 0) 1 1 ≡ 2)
    × (index_entry (four_sessions 5) four_joined (place (drafted (four_sessions 5)) 4 0) 4 1 ≡ 0)
unfolding sum sum_to sum_over any above climb representative pin pin_count freed drawn gain place ahead insert ranked index_entry
index-table = (refl, refl, refl, refl, refl, refl)

-- ---- M-106: the cap to the nearest bale: 28.6 is 29, 28.4 is 28, 32.5 is 32, 33.5 is 34; and slack 1,000 is twice ⌈W/k⌉
pub caps :
    (capacity (lot_of 51 100) ≡ 29)
    × (capacity (lot_of 40 420) ≡ 28)
    × (capacity (lot_of 50 300) ≡ 32)
    × (capacity (lot_of 50 340) ≡ 34)
    × (capacity (lot_of 51 1000) ≡ 52)
unfolding average_weight nearest capacity
caps = (refl, refl, refl, refl, refl)

-- ---- M-108: a clump's gain, and the unjoined catalogue's totals before and after the clump goes
-- a clump of three, 2 and 3 joined into 1, with a buyer inside it
abbrev pub clumped : Hypergraph
clumped = record {
  blocks = 2;
  imbalance = 1000;
  total_weight = 5;
  lows = 1 ∷ 1 ∷ 1 ∷ 1 ∷ 1 ∷ [];
  weights = 1 ∷ 1 ∷ 1 ∷ 1 ∷ 1 ∷ [];
  draft = 1 ∷ 1 ∷ 1 ∷ 2 ∷ 1 ∷ [];
  fixed = 0 ∷ 0 ∷ 0 ∷ 0 ∷ 0 ∷ [];
  nets = record { weight = 4; pins = 1 ∷ 2 ∷ 3 ∷ [] } ∷ record { weight = 2; pins = 3 ∷ 4 ∷ [] } ∷ record { weight = 3; pins = 2 ∷ 5 ∷ [] } ∷ [];
}

abbrev three : List Contraction
three = record { into = 1; gone = 3 } ∷ record { into = 1; gone = 2 } ∷ []

abbrev three_in : ℕ → ℕ
three_in = place (place (drafted clumped) 2 0) 3 0

-- the worked sale's 5 joined into 2, to session 2; then the clump of three to session 2
pub clump-table :
    (gain five joined (place (drafted five) 5 0) 2 2 ≡ pos 0)
    × (unjoined_total five (in_clumps joined (place (drafted five) 5 0)) ≡ 3)
    × (unjoined_total five (clump_to joined (place (drafted five) 5 0) 2 2) ≡ 3)
    × (gain clumped three three_in 1 2 ≡ negsuc 0)
    × (unjoined_total clumped (in_clumps three three_in) ≡ 2)
    × (unjoined_total clumped (clump_to three three_in 1 2) ≡ 3)
unfolding sum sum_to sum_over any above climb representative pin pin_count connectivity metric freed drawn gain place
clump-table = (refl, refl, refl, refl, refl, refl)

-- ---- M-110: lists of moves
-- a joined lot's session is its clump's; a move is tested on the state that the one before it left, so that a lot can go and return; and in
-- the worked sale 1 and 3 change places if 1 goes first, and not if 3 does
pub order-table :
    (session_of (record { stack = three; block = three_in; journal = [] }) 3 ≡ 1)
    × AcceptedMoves main_limits (opened five) (runs (call_m 1 2) ∷ runs (call_m 1 1) ∷ [])
    × AcceptedMoves main_limits (opened five) (runs (call_m 1 2) ∷ runs (call_m 3 1) ∷ [])
    × (refusal (turn main_limits (opened five) (runs (call_m 3 1))).answer ≡ 14)
unfolding sum sum_to sum_over any average_weight nearest capacity above climb representative pin pin_count weight is_fixed block_weight connectivity metric freed drawn gain has_room place
    fresh settle refuses_m does_m call_under ran turn_under refusal is_move asks_move AcceptedMoves
order-table = (refl, (refl, refl, (refl, refl, tt)), (refl, refl, (refl, refl, tt)), refl)

-- stand climbs: 3 was joined into 2, then 2 into 1
pub climbs : representative (record { into = 1; gone = 2 } ∷ record { into = 2; gone = 3 } ∷ []) 3 ≡ 1
unfolding above climb representative
climbs = refl

-- ---- M-104: lots that a grower has tied to a session
-- the worked sale with lot 5 kept
abbrev pub five_kept : Hypergraph
five_kept = record {
  blocks = five.blocks;
  imbalance = five.imbalance;
  total_weight = five.total_weight;
  lows = five.lows;
  weights = five.weights;
  draft = five.draft;
  fixed = 0 ∷ 0 ∷ 0 ∷ 0 ∷ 1 ∷ [];
  nets = five.nets;
}

-- 5 is kept by itself and 2 is not; joined, 2 is kept by the 5 that it stands for, and 5, off the board, stands for none
pub fixed-table :
    (is_fixed five_kept [] 5 ≡ true)
    × (is_fixed five_kept [] 2 ≡ false)
    × (is_fixed five_kept joined 2 ≡ true)
    × (is_fixed five_kept joined 5 ≡ false)
    × (may_move five_kept [] 2 ≡ true)
    × (may_move five_kept joined 2 ≡ false)
    × (may_move five_kept joined 5 ≡ false)
unfolding sum sum_to above climb representative is_fixed
fixed-table = (refl, refl, refl, refl, refl, refl, refl)
