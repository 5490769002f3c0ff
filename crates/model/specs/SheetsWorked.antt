-- Buyers' sheets of whole sales and halls from bytes to bytes, proved by computing. Rests on Sheets. Assumes nothing.
use Rattle.std.specs.Prelude.{◌≡◌, refl, map}
use Rattle.laws.specs.Sum.{sum, sum_to, fold_to}
use Rattle.laws.specs.Fold.{sum_over, any, all}
use Rattle.laws.specs.Place.{place}
use Rattle.model.specs.Measure.{above, climb, representative, pin, size, weight, is_fixed, block_weight, heaviest, pin_count, connectivity, metric, freed, drawn, gain, has_room, adjacent}
use Rattle.model.specs.Machine.{fresh, settle, refuses_j, contract, does_j, refuses_m, does_m, uncontract, does_s, does_b}
use Rattle.model.specs.Search.{better, consider, best_pair, reversed, is_kept, can_go, is_open, walk_best, walk_move, walk_turn, walk_on, walk, walked, polish_best, polish_turn, polish_on, polish, rating, can_join, join_best, board_size, join_turn, coarsen, refine, refuses_w, does_w, does_p, refuses_a, does_a, call_under}
use Rattle.model.specs.Sale.{lots_in, marks_in, put, sessions, unmarked, nets_without, nets_with, changed_at, withdrawn, added, number_for, named_twice, refuses_x, refuses_n, turned, does_x, does_n, ran, turn_under}
use Rattle.model.specs.Grammar.{bytes, same, parts, is_number, onward, value, fields, is_line, sale_line, overfull, grown, with_lot, ends_in_k, before_k, lot_line, mark, marking, with_net, net_read, buy_line, values, asked, with_call, call_line, line, ending, lines, parse}
use Rattle.model.specs.Report.{digits_of, digits, tail, row, answer_row, lot_rows, buy_rows, closing}
use Rattle.model.specs.Catalogue.{main_limits, average_weight, nearest, capacity}
use Rattle.model.specs.Hall.{ceiling_beside, over_limit, refuses_beside_m, refuses_beside_b, refuses_beside_n, call_beside, turn_beside, bales, lots, marks, led_to, hall_after, hall_answers, fresh_desks, closings, hall_run}
use Rattle.model.specs.HallText.{hall_head, limits_left, drafts_over, with_book, taken, with_led, led_line, hall_line, hall_ending, hall_lines, parse_hall, hall_outcome, hall_engine}
use Rattle.model.specs.Engine.{after, outcome}
use Rattle.model.specs.Sheets.{ats_in, ats, at_rows, sheet_rows, sheets, hall_sheets, sheets_outcome, hall_sheets_outcome, sheets_of, sheets_of_hall}

pub printed :
    -- the worked sale of document 01
    (sheets_of main_limits (bytes "SALE,5,3,2,200\nLOT,10,1\nLOT,10,1\nLOT,10,2\nLOT,10,2\nLOT,10,1\nBUY,3,1,3\nBUY,2,2,5\nBUY,1,3,4\nJ,2,5\nM,2,2\nS\nB\nA\n") ≡ record { code = 0; report = bytes "SHEET,1,1\nAT,2,1\nAT,2,3\nSHEET,2,1\nAT,1,2\nAT,1,5\nSHEET,3,1\nAT,2,3\nAT,2,4\n" })
    -- joined lots by their own numbers in their stand's session; marks in any order of the file
    × (sheets_of main_limits (bytes "SALE,6,4,3,1000\nLOT,2,1\nLOT,2,1\nLOT,2,2\nLOT,2,3\nLOT,2,1\nLOT,2,2\nBUY,3,6,1,4,2\nBUY,1,5\nBUY,2,2,5,1\nBUY,9,4,3,2,1\nJ,2,5\nM,2,3\nJ,3,6\n") ≡ record { code = 0; report = bytes "SHEET,1,3\nAT,1,1\nAT,2,6\nAT,3,2\nAT,3,4\nSHEET,2,1\nAT,3,5\nSHEET,3,2\nAT,1,1\nAT,3,2\nAT,3,5\nSHEET,4,3\nAT,1,1\nAT,2,3\nAT,3,2\nAT,3,4\n" })
    -- withdrawn lots are not printed, late ones are; a buyer without marks; numbers that come back
    × (sheets_of main_limits (bytes "SALE,4,3,2,1000\nLOT,3,1\nLOT,3,2\nLOT,3,1,K\nLOT,3,2\nBUY,5,1,4,2\nBUY,2,3\nBUY,4,2,4\nX,3\nX,1\nN,2,2,1,3\nN,4,1,3\nN,1,1\nM,4,1\nJ,5,4\n") ≡ record { code = 0; report = bytes "SHEET,1,2\nAT,1,4\nAT,2,1\nAT,2,2\nSHEET,2,0\nSHEET,3,2\nAT,1,3\nAT,1,4\nAT,2,1\nAT,2,2\n" })
    -- an estimate
    × (sheets_of main_limits (bytes "EST,3,1,2,1000\nLOT,4,7,1\nLOT,4,7,2\nLOT,4,7,1\nBUY,1,3,2,1\nP\n") ≡ record { code = 6; report = bytes "NO,6,5\n" })
    -- no buyer
    × (sheets_of main_limits (bytes "SALE,1,0,2,1000\nLOT,7,1\n") ≡ record { code = 0; report = bytes "" })
    -- turned down: the engine's line only
    × (sheets_of main_limits (bytes "SALE,1,0,2,0\nLOT,7,1\nP\n") ≡ record { code = 6; report = bytes "NO,6,2\n" })
    × (sheets_of main_limits (bytes "") ≡ record { code = 2; report = bytes "NO,2,1\n" })
    -- halls, led by the number of the catalogue
    × (sheets_of_hall (bytes "HALL,2,20\nSALE,2,1,2,1000\nLOT,10,1\nLOT,10,2\nBUY,4,1,2\nSALE,2,1,2,1000\nLOT,10,1\nLOT,5,2\nBUY,5,1,2\n2,N,5,2,1\n2,N,1,2\n1,N,11,2\n1,M,1,2\n1,X,2\n1,M,1,2\n2,N,7,1\n2,N,6,1\n1,B\n2,X,1\n1,B\n1,N,4,1,1,1\n1,N,4,1,2\n1,N,4,3\n1,N,10,2,1\n") ≡ record { code = 0; report = bytes "1,SHEET,1,2\n1,AT,1,1\n1,AT,2,2\n2,SHEET,1,1\n2,AT,2,2\n2,AT,2,3\n" })
    × (sheets_of_hall (bytes "HALL,2,60\nSALE,3,2,2,1000\nLOT,4,1\nLOT,4,1\nLOT,4,2\nBUY,3,1,3\nBUY,2,2\nSALE,3,1,3,1000\nLOT,5,1\nLOT,5,2\nLOT,5,3\nBUY,7,1,2,3\n1,J,1,2\n1,X,2\n1,N,1,1\n2,X,1\n2,X,3\n2,X,3\n2,X,4\n2,N,6,3,1\n1,S\n1,X,3\n1,N,2,2,2,1\n1,N,2,2\n1,M,4,1\n2,N,3,1,1\n2,N,3,1\n1,N,1,3\n2,M,4,3\n2,J,4,3\n2,A\n2,B\n") ≡ record { code = 0; report = bytes "1,SHEET,1,2\n1,AT,1,1\n1,AT,2,3\n1,SHEET,2,2\n1,AT,1,2\n1,AT,2,3\n2,SHEET,1,3\n2,AT,1,1\n2,AT,2,2\n2,AT,3,3\n" })
    × (sheets_of_hall (bytes "HALL,2,22\nEST,3,1,2,1000\nLOT,3,6,1,K\nLOT,4,5,2\nLOT,5,5,1\nBUY,9,1,2\nSALE,2,1,2,1000\nLOT,8,1\nLOT,9,2,K\nBUY,2,1,2\n1,M,1,2\n1,M,2,1\n1,M,3,2\n2,M,2,1\n2,X,2\n1,M,2,1\n1,M,3,2\n2,N,9,2,1\n2,M,2,1\n1,X,1\n2,M,2,1\n1,N,6,1,1\n1,A\n1,P\n2,W,1,2\n2,B\n") ≡ record { code = 0; report = bytes "1,SHEET,1,1\n1,AT,1,2\n2,SHEET,1,1\n2,AT,1,1\n2,AT,1,2\n" })
    × (sheets_of_hall (bytes "HALL,2,19\nSALE,2,1,2,1000\nLOT,10,1\nLOT,10,2\nBUY,4,1,2\nSALE,2,1,3,1000\nLOT,10,1\nLOT,10,3\nBUY,5,1,2\n1,Q\n") ≡ record { code = 24; report = bytes "NO,24,9\n" })
unfolding sum sum_to fold_to sum_over any all average_weight nearest capacity above climb representative weight is_fixed block_weight heaviest bytes same parts is_number onward value fields is_line sale_line overfull grown with_lot ends_in_k before_k lot_line mark marking with_net net_read buy_line values asked with_call call_line line ending lines parse pin size pin_count connectivity metric freed drawn gain has_room adjacent place fresh settle refuses_j contract does_j refuses_m does_m uncontract does_s does_b better consider best_pair reversed is_kept can_go is_open walk_best walk_move walk_turn walk_on walk walked polish_best polish_turn polish_on polish rating can_join join_best board_size join_turn coarsen refine refuses_w does_w does_p refuses_a does_a call_under lots_in marks_in put sessions unmarked nets_without nets_with changed_at withdrawn added number_for named_twice refuses_x refuses_n turned does_x does_n ran digits_of digits tail row answer_row lot_rows buy_rows closing ceiling_beside over_limit refuses_beside_m refuses_beside_b refuses_beside_n call_beside turn_beside bales lots marks led_to hall_after hall_answers fresh_desks closings hall_run hall_head limits_left drafts_over with_book taken with_led led_line hall_line hall_ending hall_lines parse_hall hall_outcome hall_engine turn_under after outcome ats_in ats at_rows sheet_rows sheets hall_sheets sheets_outcome hall_sheets_outcome sheets_of sheets_of_hall
printed = (refl, refl, refl, refl, refl, refl, refl, refl, refl, refl, refl)
