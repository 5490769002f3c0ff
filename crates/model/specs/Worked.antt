-- Whole sales from bytes to bytes, proved by computing: the worked sale of document 01, every refusal of a call with their order, and
-- sales whose walks keep some moves and reverse others. Rests on Engine. Assumes nothing.
use Prim.Native.String.{String}
use Rattle.std.specs.Prelude.{◌≡◌, refl}
use Rattle.laws.specs.Sum.{sum, sum_to, fold_to}
use Rattle.laws.specs.Fold.{sum_over, any, all}
use Rattle.laws.specs.Place.{place}
use Rattle.model.specs.Catalogue.{main_limits, average_weight, nearest, capacity}
use Rattle.model.specs.Measure.{above, climb, representative, pin, size, weight, is_fixed, block_weight, heaviest, pin_count, connectivity, metric, freed, drawn, gain, has_room, adjacent}
use Rattle.model.specs.Machine.{fresh, settle, refuses_j, contract, does_j, refuses_m, does_m, uncontract, does_s, does_b}
use Rattle.model.specs.Search.{better, consider, best_pair, reversed, is_kept, can_go, is_open, walk_best, walk_move, walk_turn, walk_on, walk, walked, polish_best, polish_turn, polish_on, polish, rating, can_join, join_best, board_size, join_turn, coarsen, refine, refuses_w, does_w, does_p, refuses_a, does_a, call_under}
use Rattle.model.specs.Sale.{lots_in, marks_in, put, sessions, unmarked, nets_without, nets_with, changed_at, withdrawn, added, number_for, named_twice, refuses_x, refuses_n, turned, does_x, does_n, ran, turn_under}
use Rattle.model.specs.Grammar.{bytes, same, parts, is_number, onward, value, fields, is_line, sale_line, overfull, grown, with_lot, ends_in_k, before_k, lot_line, mark, marking, with_net, net_read, buy_line, values, asked, with_call, call_line, line, ending, lines, parse}
use Rattle.model.specs.Report.{digits_of, digits, tail, row, answer_row, lot_rows, buy_rows, closing}
use Rattle.model.specs.Engine.{after, answers, run, outcome, engine}

-- an accepted sale and its report
abbrev pub Gives : String → String → Type 0
Gives sale report = engine main_limits (bytes sale) ≡ record { code = 0; report = bytes report }

-- the worked sale of document 01
abbrev pub worked_sale : String
worked_sale = "SALE,5,3,2,200\nLOT,10,1\nLOT,10,1\nLOT,10,2\nLOT,10,2\nLOT,10,1\nBUY,3,1,3\nBUY,2,2,5\nBUY,1,3,4\nJ,2,5\nM,2,2\nS\nB\nA\n"

abbrev pub worked_report : String
worked_report = "J,20\nNO,14\nS,2,5\nNO,15\nA,1,1,0,1,0\nTOTAL,3,0\nLOT,1,2\nLOT,2,1\nLOT,3,2\nLOT,4,2\nLOT,5,1\nBUY,1,1\nBUY,2,1\nBUY,3,1\n"

pub sales :
    Gives worked_sale worked_report
    -- a file that is turned down writes its refusal alone
    × (engine main_limits (bytes "SALE,1,0,2,0\nLOT,7,1\nP\n") ≡ record { code = 6; report = bytes "NO,6,2\n" })
    -- every refusal of a call, and their order: J 9, 11, 10, 13; M 9, 10, 12, 14; W 9, 10; S and B 15; A 16
    × Gives "SALE,5,3,2,200\nLOT,10,1\nLOT,10,1\nLOT,10,2\nLOT,10,2\nLOT,10,1\nBUY,3,1,3\nBUY,2,2,5\nBUY,1,3,4\nJ,9,9\nJ,0,0\nJ,2,2\nS\nB\nJ,2,5\nJ,5,5\nJ,5,3\nJ,2,3\nM,6,1\nM,5,3\nM,5,1\nM,2,1\nM,2,2\nM,3,1\nM,1,2\nB\nB\nA\nW,0,2\nW,6,5\nW,5,2\nW,2,2\nP\nB\nS\nS\n" "NO,9\nNO,9\nNO,11\nNO,15\nNO,15\nJ,20\nNO,11\nNO,10\nNO,13\nNO,9\nNO,9\nNO,10\nNO,12\nNO,14\nNO,14\nM,3,0,0\nB,1,1,3\nNO,15\nNO,16\nNO,9\nNO,9\nNO,10\nW,0,0,3\nP,1,0\nNO,15\nS,2,5\nNO,15\nTOTAL,3,0\nLOT,1,2\nLOT,2,1\nLOT,3,2\nLOT,4,2\nLOT,5,1\nBUY,1,1\nBUY,2,1\nBUY,3,1\n"
    -- walks and polishes of seven lots
    × Gives "SALE,7,7,2,700\nLOT,4,1\nLOT,6,2\nLOT,2,2\nLOT,5,2\nLOT,5,1\nLOT,1,2\nLOT,5,1\nBUY,3,2,6\nBUY,1,6,4,5,7\nBUY,1,5,4,1\nBUY,6,2\nBUY,2,7\nBUY,1,2,5,3,4\nBUY,8,2,6\nJ,1,7\nJ,6,7\nP\nB\nW,5,7\nM,2,1\nB\nM,3,2\nS\nS\nS\nS\nS\nS\nS\nS\nA\nW,1,2\n" "J,9\nNO,10\nP,1,2\nNO,15\nNO,10\nNO,14\nNO,15\nNO,12\nS,1,7\nNO,15\nNO,15\nNO,15\nNO,15\nNO,15\nNO,15\nNO,15\nA,3,18,2,0,1\nW,7,0,1\nTOTAL,3,1\nLOT,1,2\nLOT,2,2\nLOT,3,2\nLOT,4,2\nLOT,5,2\nLOT,6,2\nLOT,7,1\nBUY,1,1\nBUY,2,2\nBUY,3,1\nBUY,4,1\nBUY,5,1\nBUY,6,1\nBUY,7,1\n"
    × Gives "SALE,7,7,2,700\nLOT,4,1\nLOT,4,2\nLOT,1,1\nLOT,6,2\nLOT,4,1\nLOT,1,2\nLOT,6,1\nBUY,6,2\nBUY,3,7,3,6\nBUY,5,1,2\nBUY,2,7,4\nBUY,6,6,1\nBUY,9,4,2\nBUY,1,4,5,7\nW,2,5\nJ,6,4\nJ,5,6\nS\nJ,1,7\nM,6,1\nW,3,6\nB\nS\nS\nS\nS\nS\nS\nS\nS\nA\nW,1,2\n" "W,7,6,6\nJ,7\nNO,13\nS,6,4\nNO,13\nNO,12\nW,7,2,1\nNO,15\nNO,15\nNO,15\nNO,15\nNO,15\nNO,15\nNO,15\nNO,15\nNO,15\nA,3,18,0,0,1\nW,7,0,1\nTOTAL,17,1\nLOT,1,1\nLOT,2,1\nLOT,3,1\nLOT,4,1\nLOT,5,2\nLOT,6,1\nLOT,7,1\nBUY,1,1\nBUY,2,1\nBUY,3,1\nBUY,4,1\nBUY,5,1\nBUY,6,1\nBUY,7,2\n"
    × Gives "SALE,7,7,2,700\nLOT,4,1\nLOT,2,2\nLOT,2,2\nLOT,4,2\nLOT,4,1\nLOT,5,2\nLOT,2,1\nBUY,1,6,2,1,3\nBUY,6,7,5\nBUY,7,6,4,2\nBUY,3,1,4\nBUY,2,1,6\nBUY,8,1,7\nBUY,5,3,5\nM,4,1\nB\nJ,2,6\nW,1,7\nJ,4,7\nB\nJ,6,5\nM,6,2\nS\nS\nS\nS\nS\nS\nS\nS\nA\nW,1,2\n" "M,3,7,15\nB,4,2,11\nJ,7\nW,6,3,7\nJ,6\nNO,15\nNO,10\nNO,10\nS,4,7\nS,2,6\nNO,15\nNO,15\nNO,15\nNO,15\nNO,15\nNO,15\nA,3,18,2,0,6\nW,7,0,6\nTOTAL,11,6\nLOT,1,1\nLOT,2,2\nLOT,3,1\nLOT,4,2\nLOT,5,1\nLOT,6,2\nLOT,7,1\nBUY,1,2\nBUY,2,1\nBUY,3,1\nBUY,4,2\nBUY,5,2\nBUY,6,1\nBUY,7,1\n"
    × Gives "SALE,7,7,2,700\nLOT,3,1\nLOT,3,2\nLOT,5,1\nLOT,5,2\nLOT,5,1\nLOT,5,2\nLOT,6,1\nBUY,9,1,5\nBUY,6,3,1\nBUY,6,1,7,6,4\nBUY,9,6\nBUY,8,5,7,4,6\nBUY,2,1,7\nBUY,7,2\nS\nW,4,4\nP\nJ,2,6\nW,4,3\nW,4,6\nW,7,5\nW,4,4\nS\nS\nS\nS\nS\nS\nS\nS\nA\nW,1,2\n" "NO,15\nW,6,0,14\nP,0,14\nJ,8\nW,6,0,14\nNO,10\nW,6,0,14\nW,6,0,14\nS,2,6\nNO,15\nNO,15\nNO,15\nNO,15\nNO,15\nNO,15\nNO,15\nA,3,15,8,0,6\nW,7,0,6\nTOTAL,14,6\nLOT,1,1\nLOT,2,2\nLOT,3,2\nLOT,4,1\nLOT,5,1\nLOT,6,1\nLOT,7,1\nBUY,1,1\nBUY,2,2\nBUY,3,1\nBUY,4,1\nBUY,5,1\nBUY,6,1\nBUY,7,1\n"
    -- M-105: a walk of the same total is kept if its heaviest session is lighter, and not if that is equal or heavier
    × Gives "SALE,3,0,2,1000\nLOT,10,1\nLOT,10,1\nLOT,5,1\nW,1,1\nW,3,3\nW,1,1\n" "W,1,1,0\nW,1,0,0\nW,1,0,0\nTOTAL,0,0\nLOT,1,2\nLOT,2,1\nLOT,3,1\n"
    -- M-104: the worked sale with lot 1 kept: M on it is 20 after 12, P and A leave it, W on it moves nothing; 2 is kept while 1 is joined into it
    × Gives "SALE,5,3,2,200\nLOT,10,1,K\nLOT,10,1\nLOT,10,2\nLOT,10,2\nLOT,10,1\nBUY,3,1,3\nBUY,2,2,5\nBUY,1,3,4\nM,1,1\nM,1,2\nP\nW,1,1\nJ,2,1\nM,2,1\nM,2,2\nS\nM,2,2\nM,1,2\nB\nA\n" "NO,12\nNO,20\nP,0,3\nW,0,0,3\nJ,20\nNO,12\nNO,20\nS,2,1\nM,0,2,5\nNO,20\nB,2,1,3\nA,1,1,0,0,3\nTOTAL,3,3\nLOT,1,1\nLOT,2,1\nLOT,3,2\nLOT,4,2\nLOT,5,1\nBUY,1,2\nBUY,2,1\nBUY,3,1\n"
    -- M-109: three lots of a buyer; by the lows ⌈W/k⌉ is 12, so that A joins no pair of highs 14
    × Gives "EST,5,1,2,1000\nLOT,4,7,1\nLOT,4,7,1\nLOT,4,7,1\nLOT,6,6,2\nLOT,6,6,2\nBUY,1,1,2,3\nJ,1,2\nS\nM,1,2\nM,2,2\nB\nB\nA\n" "J,14\nS,1,2\nM,0,1,1\nNO,14\nB,1,1,0\nNO,15\nA,0,0,0,0,0\nTOTAL,0,0\nLOT,1,1\nLOT,2,1\nLOT,3,1\nLOT,4,2\nLOT,5,2\nBUY,1,1\n"
    -- M-111: refusals of X and N in order; a joined lot can't go; numbers come back, the latest withdrawn first
    × Gives "SALE,3,2,2,1000\nLOT,10,1\nLOT,10,1\nLOT,10,2\nBUY,3,1,3\nBUY,2,2\nX,4\nX,0\nJ,1,2\nX,1\nX,2\nX,4\nN,1,1\nN,1,1,1,1\nN,0,1\nS\nM,1,2\nX,1\nB\nX,1\nM,1,2\nW,1,2\nJ,1,1\nJ,1,2\nX,3\nN,10,1,2,1\nN,20,2,1\nN,5,2\nN,6,2\nN,6,2,1,1\nN,6,2,3\nN,65536,1\nN,1,3\nN,31,1,1,2,1\nX,2\n" "NO,9\nNO,9\nJ,20\nNO,16\nNO,16\nNO,9\nNO,16\nNO,16\nNO,9\nS,1,2\nM,3,0,0\nX,0\nNO,15\nNO,10\nNO,10\nNO,10\nNO,11\nNO,10\nX,0\nN,3,0\nN,1,3\nN,4,3\nNO,14\nNO,22\nNO,9\nNO,9\nNO,9\nNO,22\nX,3\nTOTAL,3,3\nLOT,1,2\nLOT,3,1\nLOT,4,2\nBUY,1,2\nBUY,2,1\n"
    × Gives "SALE,5,1,2,1000\nLOT,1,1\nLOT,1,1\nLOT,1,2\nLOT,1,2\nLOT,1,1\nBUY,9,1,2,3,4,5\nX,3\nX,5\nN,1,1\nX,4\nN,1,2,1\nN,1,1\nN,1,2\nX,6\nM,6,1\nX,6\nX,7\nJ,6,6\nJ,1,6\nW,1,6\nN,1,1,1\n" "X,9\nX,9\nN,5,9\nX,0\nN,4,9\nN,3,9\nN,6,9\nX,9\nNO,10\nNO,10\nNO,9\nNO,11\nNO,10\nNO,10\nN,6,9\nTOTAL,9,9\nLOT,1,1\nLOT,2,1\nLOT,3,1\nLOT,4,2\nLOT,5,1\nLOT,6,1\nBUY,1,2\n"
    -- the cap is that of loading; a sale without lots, and a buyer without marks; kept lots come back free
    × Gives "SALE,2,0,2,0\nLOT,10,1\nLOT,10,2\nX,1\nM,2,1\nN,11,2\nN,10,2\nN,10,1\n" "X,0\nM,0,0,0\nNO,14\nN,1,0\nNO,14\nTOTAL,0,0\nLOT,1,2\nLOT,2,1\n"
    × Gives "SALE,1,1,2,1000\nLOT,10,1\nBUY,7,1\nX,1\nA\nP\nN,11,2,1\nN,10,2,1\nX,1\n" "X,0\nA,0,0,0,0,0\nP,0,0\nNO,14\nN,1,0\nX,0\nTOTAL,0,0\nBUY,1,0\n"
    × Gives "SALE,2,1,2,1000\nLOT,10,1,K\nLOT,10,2\nBUY,5,1,2\nM,1,2\nX,1\nN,10,1,1\nM,1,2\n" "NO,20\nX,0\nN,1,5\nM,5,0,0\nTOTAL,5,0\nLOT,1,2\nLOT,2,2\nBUY,1,1\n"
    -- walks, polishes and joins over a catalogue less two lots plus one
    × Gives "SALE,7,7,2,700\nLOT,4,1\nLOT,6,2\nLOT,2,2\nLOT,5,2\nLOT,5,1\nLOT,1,2\nLOT,5,1\nBUY,3,2,6\nBUY,1,6,4,5,7\nBUY,1,5,4,1\nBUY,6,2\nBUY,2,7\nBUY,1,2,5,3,4\nBUY,8,2,6\nM,1,2\nX,6\nB\nP\nJ,1,7\nX,2\nS\nX,2\nW,5,7\nA\nN,6,1,1,4,7\nP\nW,2,3\nN,3,2,3,2,1\nA\nX,5\nA\n" "M,0,0,3\nX,3\nNO,15\nP,1,1\nNO,13\nX,1\nNO,15\nNO,10\nW,5,1,0\nA,1,5,0,0,0\nN,2,0\nP,0,0\nW,6,0,0\nN,6,3\nA,3,18,2,0,2\nX,2\nA,2,11,2,0,1\nTOTAL,3,1\nLOT,1,1\nLOT,2,1\nLOT,3,1\nLOT,4,1\nLOT,6,1\nLOT,7,2\nBUY,1,1\nBUY,2,2\nBUY,3,1\nBUY,4,1\nBUY,5,1\nBUY,6,1\nBUY,7,1\n"
    -- an estimate: a late lot's bales are low and high alike
    × Gives "EST,5,1,2,1000\nLOT,4,7,1\nLOT,4,7,1\nLOT,4,7,1\nLOT,6,6,2\nLOT,6,6,2\nBUY,1,1,2,3\nX,4\nN,7,2,1\nM,1,2\nN,5,1\nJ,1,2\nA\nS\nA\n" "X,0\nN,4,1\nM,0,0,1\nN,6,1\nNO,13\nA,0,0,0,0,1\nNO,15\nA,0,0,0,0,1\nTOTAL,0,1\nLOT,1,2\nLOT,2,1\nLOT,3,1\nLOT,4,2\nLOT,5,2\nLOT,6,1\nBUY,1,2\n"
unfolding sum sum_to fold_to sum_over any all average_weight nearest capacity above climb representative weight is_fixed block_weight heaviest bytes same parts is_number onward value fields is_line sale_line overfull grown with_lot ends_in_k before_k lot_line mark marking with_net net_read buy_line values asked with_call call_line line ending lines parse pin size pin_count connectivity metric freed drawn gain has_room adjacent place fresh settle refuses_j contract does_j refuses_m does_m uncontract does_s does_b better consider best_pair reversed is_kept can_go is_open walk_best walk_move walk_turn walk_on walk walked polish_best polish_turn polish_on polish rating can_join join_best board_size join_turn coarsen refine refuses_w does_w does_p refuses_a does_a call_under lots_in marks_in put sessions unmarked nets_without nets_with changed_at withdrawn added number_for named_twice refuses_x refuses_n turned does_x does_n ran turn_under digits_of digits tail row answer_row lot_rows buy_rows closing after answers run outcome engine
sales = (refl, refl, refl, refl, refl, refl, refl, refl, refl, refl, refl, refl, refl, refl, refl, refl, refl)
