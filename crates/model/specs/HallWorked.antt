-- Whole halls from bytes to bytes, proved by computing: refusals by the cap and by the limit, withdrawn and late lots, estimates, kept lots, searches under
-- both limits, files that are turned down; what 23 counts; accepted moves, and a list without its refused call lines. Rests on HallText and HallOrder. Assumes
-- nothing.
use Rattle.std.specs.Prelude.{ℕ, ◌≡◌, refl, List, [], ◌∷◌, ◌++◌, map}
use Prim.Native.String.{String}
use Rattle.laws.specs.Sum.{sum, sum_to, fold_to}
use Rattle.laws.specs.Fold.{sum_over, any, all}
use Rattle.laws.specs.Place.{place}
use Rattle.model.specs.Measure.{above, climb, representative, pin, size, weight, is_fixed, block_weight, heaviest, pin_count, connectivity, metric, freed, drawn, gain, has_room, adjacent}
use Rattle.model.specs.Machine.{call_m, fresh, settle, refuses_j, contract, does_j, refuses_m, does_m, uncontract, does_s, does_b}
use Rattle.model.specs.Search.{better, consider, best_pair, reversed, is_kept, can_go, is_open, walk_best, walk_move, walk_turn, walk_on, walk, walked, polish_best, polish_turn, polish_on, polish, rating, can_join, join_best, board_size, join_turn, coarsen, refine, refuses_w, does_w, does_p, refuses_a, does_a, call_under}
use Rattle.model.specs.Sale.{runs, lots_in, marks_in, put, sessions, unmarked, nets_without, nets_with, changed_at, withdrawn, added, number_for, named_twice, refuses_x, refuses_n, turned, does_x, does_n, ran}
use Rattle.model.specs.Grammar.{bytes, same, parts, is_number, onward, value, fields, is_line, sale_line, overfull, grown, with_lot, ends_in_k, before_k, lot_line, mark, marking, with_net, net_read, buy_line, values, asked, with_call, call_line, line, ending, lines, parse}
use Rattle.model.specs.Report.{digits_of, digits, tail, row, refusal, answer_row, lot_rows, buy_rows, closing}
use Rattle.model.specs.Catalogue.{Hypergraph, average_weight, nearest, capacity}
use Rattle.model.specs.Order.{is_move, asks_move}
use Rattle.model.specs.Hall.{ceiling_beside, over_limit, refuses_beside_m, refuses_beside_b, refuses_beside_n, call_beside, turn_beside, Led, bales, lots, marks, led_turn, led_to, hall_after, hall_answers, fresh_desks, closings, hall_run}
use Rattle.model.specs.Edges.{many, nine_marks}
use Rattle.model.specs.HallText.{HallReading, hall_unread, in_catalogue, in_calls, hall_stopped, graphs, hall_head, limits_left, drafts_over, with_book, taken, with_led, led_line, hall_line, hall_ending, hall_lines, parse_hall, hall_outcome, hall_engine}
use Rattle.model.specs.HallDemand.{led}
use Rattle.model.specs.HallRefused.{unless_led, accepted_led_from, accepted_led}
use Rattle.model.specs.HallOrder.{AcceptedLedMoves}

-- an accepted hall and its report
abbrev pub Sells : String → String → Type 0
Sells file report = hall_engine (bytes file) ≡ record { code = 0; report = bytes report }

-- a file that is turned down
abbrev pub Refuses : String → ℕ → String → Type 0
Refuses file code report = hall_engine (bytes file) ≡ record { code = code; report = bytes report }

pub halls :
    -- 14 goes by the cap and 25 by the limit after it; searches go by both
    Sells "HALL,2,20\nSALE,2,1,2,1000\nLOT,10,1\nLOT,10,2\nBUY,4,1,2\nSALE,2,1,3,1000\nLOT,10,1\nLOT,10,3\nBUY,5,1,2\n1,M,1,2\n2,M,1,2\n2,M,2,1\n2,M,2,2\n1,M,1,3\n2,P\n2,W,1,1\n2,A\n1,B\n2,M,1,1\n2,M,2,3\n1,J,1,2\n2,J,1,2\n" "1,M,4,0,0\n2,NO,25\n2,NO,14\n2,NO,25\n1,NO,9\n2,P,0,5\n2,W,0,0,5\n2,A,0,0,0,0,5\n1,B,1,1,4\n2,NO,12\n2,NO,12\n1,NO,13\n2,NO,13\nTOTAL,4,4\nLOT,1,1\nLOT,2,2\nBUY,1,2\nTOTAL,5,5\nLOT,1,1\nLOT,2,3\nBUY,1,2\n"
    -- what one catalogue frees another takes; then B is 25 and keeps its record
    × Sells "HALL,2,12\nSALE,3,2,3,1000\nLOT,5,1\nLOT,5,2\nLOT,5,3\nBUY,5,1,2\nBUY,1,1,3\nSALE,2,1,2,1000\nLOT,3,2\nLOT,3,1\nBUY,7,1,2\n1,P\n2,M,1,1\n1,P\n1,W,1,1\n2,B\n2,B\n1,A\n2,A\n1,B\n" "1,P,1,5\n2,M,7,0,0\n1,P,1,1\n1,W,3,0,1\n2,NO,25\n2,NO,25\n1,A,0,0,0,0,1\n2,A,0,0,0,0,0\n1,NO,15\nTOTAL,6,1\nLOT,1,2\nLOT,2,2\nLOT,3,3\nBUY,1,1\nBUY,2,2\nTOTAL,7,0\nLOT,1,1\nLOT,2,1\nBUY,1,1\n"
    -- 25 after 14 for M and N; what one catalogue frees another takes, then B is 25 and keeps its record; 22 and 9 before 25
    × Sells "HALL,2,20\nSALE,2,1,2,1000\nLOT,10,1\nLOT,10,2\nBUY,4,1,2\nSALE,2,1,2,1000\nLOT,10,1\nLOT,5,2\nBUY,5,1,2\n2,N,5,2,1\n2,N,1,2\n1,N,11,2\n1,M,1,2\n1,X,2\n1,M,1,2\n2,N,7,1\n2,N,6,1\n1,B\n2,X,1\n1,B\n1,N,4,1,1,1\n1,N,4,1,2\n1,N,4,3\n1,N,10,2,1\n" "2,N,3,5\n2,NO,25\n1,NO,14\n1,NO,25\n1,X,0\n1,M,4,4,0\n2,NO,14\n2,N,4,5\n1,NO,25\n2,X,0\n1,B,1,1,0\n1,NO,22\n1,NO,9\n1,NO,9\n1,N,2,4\nTOTAL,4,4\nLOT,1,1\nLOT,2,2\nBUY,1,2\nTOTAL,5,0\nLOT,2,2\nLOT,3,2\nLOT,4,1\nBUY,1,1\n"
    -- 16 goes by a catalogue's own joins; free numbers are a stack for each catalogue; X of a joined lot, of a free number, of an unknown one
    × Sells "HALL,2,60\nSALE,3,2,2,1000\nLOT,4,1\nLOT,4,1\nLOT,4,2\nBUY,3,1,3\nBUY,2,2\nSALE,3,1,3,1000\nLOT,5,1\nLOT,5,2\nLOT,5,3\nBUY,7,1,2,3\n1,J,1,2\n1,X,2\n1,N,1,1\n2,X,1\n2,X,3\n2,X,3\n2,X,4\n2,N,6,3,1\n1,S\n1,X,3\n1,N,2,2,2,1\n1,N,2,2\n1,M,4,1\n2,N,3,1,1\n2,N,3,1\n1,N,1,3\n2,M,4,3\n2,J,4,3\n2,A\n2,B\n" "1,J,8\n1,NO,16\n1,NO,16\n2,X,7\n2,X,0\n2,NO,10\n2,NO,9\n2,N,3,7\n1,S,1,2\n1,X,0\n1,N,3,5\n1,N,4,5\n1,M,0,0,5\n2,N,1,14\n2,N,4,14\n1,NO,9\n2,M,0,0,14\n2,J,9\n2,NO,16\n2,NO,15\nTOTAL,3,5\nLOT,1,1\nLOT,2,1\nLOT,3,2\nLOT,4,1\nBUY,1,2\nBUY,2,2\nTOTAL,14,14\nLOT,1,1\nLOT,2,2\nLOT,3,3\nLOT,4,3\nBUY,1,3\n"
    -- an estimate and kept lots: highs against the limit, a late lot is not kept, X of a kept one
    × Sells "HALL,2,22\nEST,3,1,2,1000\nLOT,3,6,1,K\nLOT,4,5,2\nLOT,5,5,1\nBUY,9,1,2\nSALE,2,1,2,1000\nLOT,8,1\nLOT,9,2,K\nBUY,2,1,2\n1,M,1,2\n1,M,2,1\n1,M,3,2\n2,M,2,1\n2,X,2\n1,M,2,1\n1,M,3,2\n2,N,9,2,1\n2,M,2,1\n1,X,1\n2,M,2,1\n1,N,6,1,1\n1,A\n1,P\n2,W,1,2\n2,B\n" "1,NO,20\n1,NO,14\n1,M,0,0,9\n2,NO,20\n2,X,0\n1,M,9,0,0\n1,NO,12\n2,N,2,2\n2,NO,25\n1,X,0\n2,M,2,0,0\n1,NO,25\n1,A,0,0,0,0,0\n1,P,0,0\n2,W,2,0,0\n2,NO,15\nTOTAL,9,0\nLOT,2,1\nLOT,3,2\nBUY,1,1\nTOTAL,2,0\nLOT,1,1\nLOT,2,1\nBUY,1,1\n"
    -- searches over changed catalogues under both limits
    × Sells "HALL,3,14\nSALE,5,3,2,1000\nLOT,2,1\nLOT,2,1\nLOT,3,2\nLOT,1,2\nLOT,2,2\nBUY,4,1,3\nBUY,3,2,4,5\nBUY,1,1,2,3\nSALE,2,1,2,1000\nLOT,5,1\nLOT,4,2\nBUY,6,1,2\nSALE,1,0,3,1000\nLOT,4,3\n1,X,3\n1,N,2,1,1,2\n1,W,1,2\n1,A\n2,P\n2,A\n3,M,1,2\n2,W,1,1\n3,X,1\n3,A\n2,P\n3,N,7,2\n3,N,1,2\n1,P\n1,A\n3,P\n" "1,X,3\n1,N,3,3\n1,W,5,0,3\n1,A,1,5,3,0,0\n2,P,1,0\n2,A,0,0,0,0,0\n3,M,0,0,0\n2,W,0,0,0\n3,X,0\n3,A,0,0,0,0,0\n2,P,0,0\n3,NO,14\n3,N,1,0\n1,P,0,0\n1,A,1,3,0,0,0\n3,P,0,0\nTOTAL,8,0\nLOT,1,2\nLOT,2,2\nLOT,3,2\nLOT,4,2\nLOT,5,2\nBUY,1,1\nBUY,2,1\nBUY,3,1\nTOTAL,6,0\nLOT,1,1\nLOT,2,1\nBUY,1,1\nTOTAL,0,0\nLOT,1,2\n"
    -- a sale without lots, a buyer without marks, the cap of loading; a session past the own count is 9
    × Sells "HALL,2,12\nSALE,1,1,2,1000\nLOT,6,1\nBUY,7,1\nSALE,2,0,3,1000\nLOT,3,3\nLOT,3,2\n1,X,1\n1,N,6,3,1\n1,A\n1,P\n1,W,1,1\n1,N,7,2,1\n2,N,2,1\n1,N,6,2,1\n2,M,1,2\n2,N,1,2\n2,N,3,2\n1,X,1\n2,B\n" "1,X,0\n1,NO,9\n1,A,0,0,0,0,0\n1,P,0,0\n1,NO,10\n1,NO,14\n2,N,3,0\n1,N,1,0\n2,NO,14\n2,N,4,0\n2,NO,14\n1,X,0\n2,NO,15\nTOTAL,0,0\nBUY,1,0\nTOTAL,0,0\nLOT,1,3\nLOT,2,2\nLOT,3,1\nLOT,4,2\n"
    -- with joins, searches, X and N of two to four catalogues
    × Sells "HALL,2,15\nSALE,3,0,2,1000\nLOT,3,1\nLOT,3,2\nLOT,9,1\nEST,3,3,3,1000\nLOT,6,8,2\nLOT,1,1,1\nLOT,4,6,3\nBUY,7,2,1\nBUY,1,1,2\nBUY,7,1\n2,X,3\n2,M,3,2\n2,N,6,2\n1,M,3,2\n1,W,1,3\n1,X,2\n1,N,2,1\n1,S\n1,X,4\n2,M,4,1\n1,M,1,1\n" "2,X,8\n2,NO,10\n2,NO,14\n1,NO,25\n1,W,1,1,0\n1,X,0\n1,N,2,0\n1,NO,15\n1,NO,9\n2,NO,9\n1,M,0,0,0\nTOTAL,0,0\nLOT,1,1\nLOT,2,1\nLOT,3,1\nTOTAL,8,8\nLOT,1,2\nLOT,2,1\nBUY,1,2\nBUY,2,2\nBUY,3,1\n"
    × Sells "HALL,2,22\nSALE,5,0,2,1000\nLOT,7,1\nLOT,2,2\nLOT,8,2,K\nLOT,8,2,K\nLOT,3,1\nSALE,3,3,3,1000\nLOT,6,1\nLOT,1,2,K\nLOT,3,3\nBUY,5,2,1\nBUY,5,1,2\nBUY,2,1\n2,P\n2,M,1,2\n2,B\n1,M,5,1\n2,J,1,2\n1,X,4\n2,N,2,1,3,2,1\n2,S\n1,B\n2,X,1\n1,W,1,1\n1,N,1,2\n1,A\n1,N,6,2\n1,M,5,2\n1,M,3,2\n" "2,P,0,10\n2,NO,25\n2,NO,15\n1,NO,12\n2,NO,13\n1,X,0\n2,N,4,10\n2,NO,15\n1,NO,15\n2,X,10\n1,W,1,0,0\n1,N,4,0\n1,A,0,0,0,0,0\n1,N,6,0\n1,M,0,0,0\n1,NO,12\nTOTAL,0,0\nLOT,1,1\nLOT,2,2\nLOT,3,2\nLOT,4,2\nLOT,5,2\nLOT,6,2\nTOTAL,10,10\nLOT,2,2\nLOT,3,3\nLOT,4,1\nBUY,1,2\nBUY,2,2\nBUY,3,1\n"
    × Sells "HALL,2,25\nSALE,4,2,2,1000\nLOT,6,1\nLOT,7,2,K\nLOT,7,1\nLOT,4,2\nBUY,3,3\nBUY,5,3,2,4\nSALE,4,1,2,1000\nLOT,1,1\nLOT,6,2\nLOT,9,1\nLOT,8,2\nBUY,4,3,2,1\n1,M,1,1\n2,J,1,4\n1,N,6,2,2\n2,X,3\n2,B\n1,M,3,1\n2,W,4,1\n2,N,4,2\n1,M,4,2\n1,N,8,2,1\n" "1,NO,12\n2,NO,13\n1,NO,25\n2,X,4\n2,NO,15\n1,NO,12\n2,W,2,2,0\n2,N,3,0\n1,NO,12\n1,NO,25\nTOTAL,5,5\nLOT,1,1\nLOT,2,2\nLOT,3,1\nLOT,4,2\nBUY,1,1\nBUY,2,2\nTOTAL,4,0\nLOT,1,2\nLOT,2,2\nLOT,3,2\nLOT,4,1\nBUY,1,1\n"
    × Sells "HALL,3,22\nSALE,3,1,3,1000\nLOT,6,1,K\nLOT,8,3,K\nLOT,8,3\nBUY,8,1\nSALE,5,0,2,1000\nLOT,4,1\nLOT,1,1\nLOT,2,2\nLOT,4,2\nLOT,5,2\nSALE,2,1,3,1000\nLOT,7,1\nLOT,5,2\nBUY,3,2\n1,M,1,1\n2,M,3,1\n1,W,3,1\n3,J,1,1\n1,N,7,2,1\n3,N,3,1\n2,N,2,1\n2,B\n2,X,3\n3,N,8,2\n2,M,4,1\n" "1,NO,12\n2,M,0,0,0\n1,W,1,1,0\n3,NO,11\n1,NO,25\n3,NO,14\n2,N,6,0\n2,NO,15\n2,X,0\n3,NO,14\n2,NO,25\nTOTAL,0,0\nLOT,1,1\nLOT,2,3\nLOT,3,2\nBUY,1,1\nTOTAL,0,0\nLOT,1,1\nLOT,2,1\nLOT,4,2\nLOT,5,2\nLOT,6,1\nTOTAL,0,0\nLOT,1,1\nLOT,2,2\nBUY,1,1\n"
    × Sells "HALL,2,36\nSALE,5,2,2,1000\nLOT,8,1\nLOT,9,1\nLOT,1,1\nLOT,3,2,K\nLOT,5,1\nBUY,8,3,1\nBUY,5,1,5\nEST,3,2,2,1000\nLOT,4,5,1\nLOT,2,2,2\nLOT,6,6,1\nBUY,9,2,3\nBUY,7,2\n1,N,3,1\n1,M,1,1\n2,N,7,2,2,1\n2,J,1,1\n2,W,1,3\n1,B\n2,P\n1,A\n1,M,4,1\n1,X,1\n2,W,3,3\n2,M,3,2\n1,W,4,4\n2,M,3,2\n1,M,2,1\n1,B\n" "1,NO,25\n1,NO,12\n2,N,4,9\n2,NO,11\n2,W,0,0,9\n1,NO,15\n2,P,0,9\n1,A,1,3,3,0,0\n1,NO,20\n1,X,0\n2,W,0,0,9\n2,NO,14\n1,W,0,0,0\n2,NO,14\n1,NO,12\n1,NO,15\nTOTAL,0,0\nLOT,2,1\nLOT,3,2\nLOT,4,2\nLOT,5,2\nBUY,1,1\nBUY,2,1\nTOTAL,9,9\nLOT,1,1\nLOT,2,2\nLOT,3,1\nLOT,4,2\nBUY,1,2\nBUY,2,1\n"
    -- 24 on the last line of the last catalogue, before the call lines
    × Refuses "HALL,2,19\nSALE,2,1,2,1000\nLOT,10,1\nLOT,10,2\nBUY,4,1,2\nSALE,2,1,3,1000\nLOT,10,1\nLOT,10,3\nBUY,5,1,2\n1,Q\n" 24 "NO,24,9\n"
    -- a catalogue's 6 before the next catalogue's first line, and before 24
    × Refuses "HALL,2,19\nSALE,2,1,2,0\nLOT,10,1\nLOT,10,1\nBUY,4,1,2\nSOLD,1000\nLOT,10,1\nLOT,10,3\nBUY,5,1,2\n" 6 "NO,6,5\n"
    -- the last catalogue's 6 before 24
    × Refuses "HALL,2,19\nSALE,2,1,2,1000\nLOT,10,1\nLOT,10,2\nBUY,4,1,2\nSALE,2,1,3,0\nLOT,10,1\nLOT,10,3\nBUY,5,1,2\n" 6 "NO,6,9\n"
    -- 24 goes by the highs
    × Refuses "HALL,2,18\nSALE,2,0,2,1000\nLOT,10,1\nLOT,10,2\nEST,2,0,2,1000\nLOT,5,9,1\nLOT,5,5,2\n" 24 "NO,24,7\n"
    -- five catalogues, a limit of 0, of ten digits, a field missing
    × Refuses "HALL,5,20\nSALE,2,1,2,1000\nLOT,10,1\nLOT,10,2\nBUY,4,1,2\nSALE,2,1,3,1000\nLOT,10,1\nLOT,10,3\nBUY,5,1,2\n" 3 "NO,3,1\n"
    × Refuses "HALL,2,0\nSALE,2,1,2,1000\nLOT,10,1\nLOT,10,2\nBUY,4,1,2\nSALE,2,1,3,1000\nLOT,10,1\nLOT,10,3\nBUY,5,1,2\n" 3 "NO,3,1\n"
    × Refuses "HALL,2,1000000000\nSALE,2,1,2,1000\nLOT,10,1\nLOT,10,2\nBUY,4,1,2\nSALE,2,1,3,1000\nLOT,10,1\nLOT,10,3\nBUY,5,1,2\n" 2 "NO,2,1\n"
    × Refuses "HALL,2\nSALE,2,1,2,1000\nLOT,10,1\nLOT,10,2\nBUY,4,1,2\nSALE,2,1,3,1000\nLOT,10,1\nLOT,10,3\nBUY,5,1,2\n" 2 "NO,2,1\n"
    -- a catalogue is missing
    × Refuses "HALL,3,20\nSALE,2,1,2,1000\nLOT,10,1\nLOT,10,2\nBUY,4,1,2\nSALE,2,1,3,1000\nLOT,10,1\nLOT,10,3\nBUY,5,1,2\n" 2 "NO,2,10\n"
    × Refuses "HALL,3,20\nSALE,2,1,2,1000\nLOT,10,1\nLOT,10,2\nBUY,4,1,2\nSALE,2,1,3,1000\nLOT,10,1\nLOT,10,3\nBUY,5,1,2\n1,A\n" 2 "NO,2,10\n"
    -- leads: 3 for one that names no catalogue, after the form of its line; 2 for no number
    × Refuses "HALL,2,20\nSALE,2,1,2,1000\nLOT,10,1\nLOT,10,2\nBUY,4,1,2\nSALE,2,1,3,1000\nLOT,10,1\nLOT,10,3\nBUY,5,1,2\n3,M,1,2\n" 3 "NO,3,10\n"
    × Refuses "HALL,2,20\nSALE,2,1,2,1000\nLOT,10,1\nLOT,10,2\nBUY,4,1,2\nSALE,2,1,3,1000\nLOT,10,1\nLOT,10,3\nBUY,5,1,2\n0,A\n" 3 "NO,3,10\n"
    × Refuses "HALL,2,20\nSALE,2,1,2,1000\nLOT,10,1\nLOT,10,2\nBUY,4,1,2\nSALE,2,1,3,1000\nLOT,10,1\nLOT,10,3\nBUY,5,1,2\n3,Q\n" 2 "NO,2,10\n"
    × Refuses "HALL,2,20\nSALE,2,1,2,1000\nLOT,10,1\nLOT,10,2\nBUY,4,1,2\nSALE,2,1,3,1000\nLOT,10,1\nLOT,10,3\nBUY,5,1,2\nA\n" 2 "NO,2,10\n"
    × Refuses "HALL,2,20\nSALE,2,1,2,1000\nLOT,10,1\nLOT,10,2\nBUY,4,1,2\nSALE,2,1,3,1000\nLOT,10,1\nLOT,10,3\nBUY,5,1,2\n01,A\n" 2 "NO,2,10\n"
    × Refuses "HALL,2,20\nSALE,2,1,2,1000\nLOT,10,1\nLOT,10,2\nBUY,4,1,2\nSALE,2,1,3,1000\nLOT,10,1\nLOT,10,3\nBUY,5,1,2\n1\n" 2 "NO,2,10\n"
    × Refuses "HALL,2,20\nSALE,2,1,2,1000\nLOT,10,1\nLOT,10,2\nBUY,4,1,2\nSALE,2,1,3,1000\nLOT,10,1\nLOT,10,3\nBUY,5,1,2\n1,\n" 2 "NO,2,10\n"
    -- an unended call line
    × Refuses "HALL,2,20\nSALE,2,1,2,1000\nLOT,10,1\nLOT,10,2\nBUY,4,1,2\nSALE,2,1,3,1000\nLOT,10,1\nLOT,10,3\nBUY,5,1,2\n1,P" 2 "NO,2,10\n"
    -- a sale by itself
    × Refuses "SALE,1,0,2,1000\nLOT,7,1\n" 2 "NO,2,1\n"
    -- no line
    × Refuses "" 2 "NO,2,1\n"
    -- X and N with their leads
    × Refuses "HALL,2,20\nSALE,2,1,2,1000\nLOT,10,1\nLOT,10,2\nBUY,4,1,2\nSALE,2,1,3,1000\nLOT,10,1\nLOT,10,3\nBUY,5,1,2\n1,X\n" 2 "NO,2,10\n"
    × Refuses "HALL,2,20\nSALE,2,1,2,1000\nLOT,10,1\nLOT,10,2\nBUY,4,1,2\nSALE,2,1,3,1000\nLOT,10,1\nLOT,10,3\nBUY,5,1,2\n1,X,1,2\n" 2 "NO,2,10\n"
    × Refuses "HALL,2,20\nSALE,2,1,2,1000\nLOT,10,1\nLOT,10,2\nBUY,4,1,2\nSALE,2,1,3,1000\nLOT,10,1\nLOT,10,3\nBUY,5,1,2\n1,N,1\n" 2 "NO,2,10\n"
    × Refuses "HALL,2,20\nSALE,2,1,2,1000\nLOT,10,1\nLOT,10,2\nBUY,4,1,2\nSALE,2,1,3,1000\nLOT,10,1\nLOT,10,3\nBUY,5,1,2\n2,N,1,1,\n" 2 "NO,2,10\n"
    × Refuses "HALL,2,20\nSALE,2,1,2,1000\nLOT,10,1\nLOT,10,2\nBUY,4,1,2\nSALE,2,1,3,1000\nLOT,10,1\nLOT,10,3\nBUY,5,1,2\n3,X,1\n" 3 "NO,3,10\n"
    × Refuses "HALL,2,20\nSALE,2,1,2,1000\nLOT,10,1\nLOT,10,2\nBUY,4,1,2\nSALE,2,1,3,1000\nLOT,10,1\nLOT,10,3\nBUY,5,1,2\n3,N,1\n" 2 "NO,2,10\n"
    × Refuses "HALL,2,20\nSALE,2,1,2,1000\nLOT,10,1\nLOT,10,2\nBUY,4,1,2\nSALE,2,1,3,1000\nLOT,10,1\nLOT,10,3\nBUY,5,1,2\nX,1\n" 2 "NO,2,10\n"
unfolding sum sum_to fold_to sum_over any all average_weight nearest capacity above climb representative weight is_fixed block_weight heaviest bytes same parts is_number onward value fields is_line sale_line overfull grown with_lot ends_in_k before_k lot_line mark marking with_net net_read buy_line values asked with_call call_line line ending lines parse pin size pin_count connectivity metric freed drawn gain has_room adjacent place fresh settle refuses_j contract does_j refuses_m does_m uncontract does_s does_b better consider best_pair reversed is_kept can_go is_open walk_best walk_move walk_turn walk_on walk walked polish_best polish_turn polish_on polish rating can_join join_best board_size join_turn coarsen refine refuses_w does_w does_p refuses_a does_a call_under lots_in marks_in put sessions unmarked nets_without nets_with changed_at withdrawn added number_for named_twice refuses_x refuses_n turned does_x does_n ran digits_of digits tail row answer_row lot_rows buy_rows closing ceiling_beside over_limit refuses_beside_m refuses_beside_b refuses_beside_n call_beside turn_beside bales lots marks led_to hall_after hall_answers fresh_desks closings hall_run hall_head limits_left drafts_over with_book taken with_led led_line hall_line hall_ending hall_lines parse_hall hall_outcome hall_engine
halls = (refl, refl, refl, refl, refl, refl, refl, refl, refl, refl, refl, refl, refl, refl, refl, refl, refl, refl, refl, refl, refl, refl, refl, refl, refl, refl, refl, refl, refl, refl, refl, refl, refl, refl, refl, refl, refl, refl, refl)

-- ---- 23 counts over the hall
-- N's refusal in a sale of two lots and two marks with a cap of 2, where the limit leaves so many bales and the others have so many lots and marks
abbrev pub two_lots : Hypergraph
two_lots = record { blocks = 2; imbalance = 1000; total_weight = 2; lows = 1 ∷ 1 ∷ []; weights = 1 ∷ 1 ∷ []; draft = 1 ∷ 2 ∷ []; fixed = 0 ∷ 0 ∷ []; nets = record { weight = 1; pins = 1 ∷ 2 ∷ [] } ∷ [] }

abbrev pub late_beside : ℕ → ℕ → ℕ → ℕ → List ℕ → ℕ
late_beside left lots marks bales buyers = refuses_beside_n (record { limit = left; bales = λ t. 0; lots = lots; marks = marks }) two_lots (fresh two_lots) bales 1 buyers

-- a hall of 8,192 marks, of which the first catalogue has 8,190
abbrev pub brim : List ℕ
brim = bytes "HALL,2,99\nSALE,9,910,2,1000\n" ++ many 9 (bytes "LOT,1,1\n") ++ many 910 nine_marks ++ bytes "SALE,2,1,2,1000\nLOT,1,1\nLOT,1,1\nBUY,1,1,2\n"

abbrev pub answers_to : HallReading → List ℕ
answers_to (in_calls K) = hall_answers K.limit (fresh_desks (graphs K)) K.calls
answers_to (hall_stopped q n) = []
answers_to (in_catalogue K r) = []
answers_to hall_unread = []

pub counted-over :
    -- the 1,024th lot, and one more
    (late_beside 9 1021 0 1 [] ≡ 0)
    × (late_beside 9 1022 0 1 [] ≡ 23)
    -- the 8,192nd mark, and one more; no mark is never one too many
    × (late_beside 9 0 8189 1 (1 ∷ []) ≡ 0)
    × (late_beside 9 0 8190 1 (1 ∷ []) ≡ 23)
    × (late_beside 9 0 8190 1 [] ≡ 0)
    -- 9, 22, 23, 14, 25 in this order
    × (late_beside 1 1022 8190 2 (1 ∷ 2 ∷ 1 ∷ []) ≡ 9)
    × (late_beside 1 1022 8190 2 (1 ∷ 1 ∷ []) ≡ 22)
    × (late_beside 1 1022 8190 2 (1 ∷ []) ≡ 23)
    × (late_beside 1 0 0 2 [] ≡ 14)
    × (late_beside 1 0 0 1 [] ≡ 25)
    -- what one catalogue frees another may use
    × (answers_to (parse_hall (brim ++ bytes "2,N,1,1,1\n2,N,1,1\n2,X,1\n1,N,1,2,1\n2,N,1,1,1\n1,X,1\n2,N,1,1,1\n")) ≡ bytes "2,NO,23\n2,NO,14\n2,X,0\n1,N,10,1\n2,NO,23\n1,X,1\n2,N,1,0\n")
unfolding many sum sum_to fold_to sum_over any all average_weight nearest capacity above climb representative weight is_fixed block_weight heaviest bytes same parts is_number onward value fields is_line sale_line overfull grown with_lot ends_in_k before_k lot_line mark marking with_net net_read buy_line values asked with_call call_line line ending lines parse pin size pin_count connectivity metric freed drawn gain has_room adjacent place fresh settle refuses_j contract does_j refuses_m does_m uncontract does_s does_b better consider best_pair reversed is_kept can_go is_open walk_best walk_move walk_turn walk_on walk walked polish_best polish_turn polish_on polish rating can_join join_best board_size join_turn coarsen refine refuses_w does_w does_p refuses_a does_a call_under lots_in marks_in put sessions unmarked nets_without nets_with changed_at withdrawn added number_for named_twice refuses_x refuses_n turned does_x does_n ran digits_of digits tail row answer_row lot_rows buy_rows closing ceiling_beside over_limit refuses_beside_m refuses_beside_b refuses_beside_n call_beside turn_beside bales lots marks led_to hall_after hall_answers fresh_desks closings hall_run hall_head limits_left drafts_over with_book taken with_led led_line hall_line hall_ending hall_lines parse_hall hall_outcome hall_engine
counted-over = (refl, refl, refl, refl, refl, refl, refl, refl, refl, refl, refl)

-- ---- lists of call lines of two catalogues
-- lots of ten and of five bales in two sessions, with a cap of 16
abbrev pub ten_and_five : Hypergraph
ten_and_five = record { blocks = 2; imbalance = 1000; total_weight = 15; lows = 10 ∷ 5 ∷ []; weights = 10 ∷ 5 ∷ []; draft = 1 ∷ 2 ∷ []; fixed = 0 ∷ 0 ∷ []; nets = [] }

abbrev pub two_brokers : List Hypergraph
two_brokers = ten_and_five ∷ ten_and_five ∷ []

-- the first broker's ten bales leave session 1, and the second broker's five come
abbrev pub leave : Led
leave = led 1 (runs (call_m 1 2))

abbrev pub come : Led
come = led 2 (runs (call_m 2 1))

-- under a limit of 20 they come only after the others have left: each call line goes by what the one before it left, of whichever catalogue
pub hall-order-table :
    AcceptedLedMoves 20 (fresh_desks two_brokers) (leave ∷ come ∷ [])
    × (refusal (led_turn 20 (fresh_desks two_brokers) come).answer ≡ 25)
    -- without those that are refused: 25 for the first, 12 for the third
    × (accepted_led 20 two_brokers (come ∷ leave ∷ leave ∷ come ∷ []) ≡ leave ∷ come ∷ [])
unfolding sum sum_to sum_over any average_weight nearest capacity above climb representative pin pin_count weight is_fixed block_weight connectivity metric freed drawn gain has_room place
    fresh settle refuses_m does_m ran refusal is_move asks_move over_limit refuses_beside_m call_beside turn_beside bales lots marks led_to fresh_desks unless_led accepted_led_from AcceptedLedMoves
hall-order-table = ((refl, refl, (refl, refl, tt)), refl, refl)
