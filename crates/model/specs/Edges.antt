-- The files that document 01 turns down, with the refusal's number and line, and files just inside its ranges: one table proved by
-- computing, by refusal. Rests on Grammar and Report. Assumes nothing.
use Rattle.std.specs.Prelude.{ℕ, zero, suc, ◌≡◌, refl, true, false, List, [], ◌∷◌, ◌++◌}
use Rattle.laws.specs.Sum.{sum, sum_to, fold_to}
use Rattle.laws.specs.Fold.{sum_over, any, all}
use Rattle.model.specs.Catalogue.{Hypergraph, main_limits, fine_limits, average_weight, nearest, capacity}
use Rattle.model.specs.Measure.{above, climb, representative, weight, block_weight}
use Rattle.model.specs.Machine.{call_m, call_w}
use Rattle.model.specs.Sale.{runs}
use Rattle.model.specs.Report.{digits_of, digits}
use Rattle.model.specs.Grammar.{Reading, reading, stopped, marked, wrong, bytes, same, parts, is_number, onward, value, fields, is_line, sale_line, overfull, grown, with_lot, ends_in_k, before_k, lot_line, mark, marking, with_net, net_read, buy_line, values, asked, with_call, call_line, line, ending, lines, parse}

-- a text, so many times
unfoldable pub many : ℕ → List ℕ → List ℕ
many zero l = []
many (suc n) l = l ++ many n l

-- what the file says under the main entry's limits
abbrev pub says : List ℕ → Reading
says file = parse main_limits file

-- one lot in a catalogue of two sessions with the widest slack
abbrev pub lone : List ℕ
lone = bytes "SALE,1,0,2,1000\nLOT,7,1\n"

-- nine lots, and so many buyers announced
abbrev pub nine : ℕ → List ℕ
nine buyers = bytes "SALE,9," ++ digits buyers ++ bytes ",2,1000\n" ++ many 9 (bytes "LOT,1,1\n")

-- a buyer with a mark at each of them
abbrev pub nine_marks : List ℕ
nine_marks = bytes "BUY,1,1,2,3,4,5,6,7,8,9\n"

-- a catalogue of one lot
abbrev pub one_lot : Hypergraph
one_lot = record { blocks = 2; imbalance = 0; total_weight = 1; lows = 1 ∷ []; weights = 1 ∷ []; draft = 1 ∷ []; fixed = 0 ∷ []; nets = [] }

pub edges :
    -- 1: 60,001 bytes on line 0; 60,000 are read
    (says (many 60001 (bytes "S")) ≡ stopped 1 0)
    × (says (many 60000 (bytes "S")) ≡ stopped 2 1)
    -- 2: form, a missing line, a missing line feed
    × (says (bytes "") ≡ stopped 2 1)
    × (says (bytes "SALE,1,0,2,0\nLOT,07,1\n") ≡ stopped 2 2)
    × (says (bytes "SALE,1,1,2,1000\nLOT,7,1\nBUY,1\n") ≡ stopped 2 3)
    × (says (bytes "SALE,1,0,2\n") ≡ stopped 2 1)
    × (says (bytes "SALE,1,0,2,0,\n") ≡ stopped 2 1)
    × (says (bytes "SALE,1,0,2,1234567890\n") ≡ stopped 2 1)
    × (says (bytes "sale,1,0,2,0\n") ≡ stopped 2 1)
    × (says (bytes "SALE,1,0,2,1000\n") ≡ stopped 2 2)
    × (says (bytes "SALE,1,0,2,1000\nLOT,7,1") ≡ stopped 2 2)
    × (says (bytes "SALE,1,1,2,1000\nLOT,7,1\n") ≡ stopped 2 3)
    × (says (bytes "SALE,1,0,2,1000\nLOT,7,1\n\n") ≡ stopped 2 3)
    × (says (bytes "SALE,1,0,2,1000\nLOT,7,1\nJ,1\n") ≡ stopped 2 3)
    × (says (bytes "SALE,1,0,2,1000\nLOT,7,1\nS,\n") ≡ stopped 2 3)
    × (says (bytes "SALE,1,0,2,1000\nLOT,7,1\nB") ≡ stopped 2 3)
    -- 3: a catalogue field outside its range
    × (says (bytes "SALE,0,0,2,0\n") ≡ stopped 3 1)
    × (says (bytes "SALE,1025,0,2,0\n") ≡ stopped 3 1)
    × (says (bytes "SALE,1,1025,2,0\n") ≡ stopped 3 1)
    × (says (bytes "SALE,1,0,1,0\n") ≡ stopped 3 1)
    × (says (bytes "SALE,1,0,17,0\n") ≡ stopped 3 1)
    × (says (bytes "SALE,1,0,2,1001\n") ≡ stopped 3 1)
    × (says (bytes "SALE,1,0,2,1000\nLOT,0,1\n") ≡ stopped 3 2)
    × (says (bytes "SALE,1,0,2,1000\nLOT,65536,1\n") ≡ stopped 3 2)
    × (says (bytes "SALE,1,0,2,1000\nLOT,7,0\n") ≡ stopped 3 2)
    × (says (bytes "SALE,1,0,2,1000\nLOT,7,3\n") ≡ stopped 3 2)
    × (says (bytes "SALE,1,1,2,1000\nLOT,7,1\nBUY,0,1\n") ≡ stopped 3 3)
    × (says (bytes "SALE,1,1,2,1000\nLOT,7,1\nBUY,1001,1\n") ≡ stopped 3 3)
    × (says (bytes "SALE,1,1,2,1000\nLOT,7,1\nBUY,1,2\n") ≡ stopped 3 3)
    × (says (bytes "SALE,1,1,2,1000\nLOT,7,1\nBUY,1,0\n") ≡ stopped 3 3)
    -- 4: a lot twice with one buyer
    × (says (bytes "SALE,1,1,2,1000\nLOT,7,1\nBUY,1,1,1\n") ≡ stopped 4 3)
    -- 5: the 8,193rd mark; of one mark 3 and 4 come before 5
    × (says (nine 912 ++ many 910 nine_marks ++ bytes "BUY,1,1,2\nBUY,1,3\n") ≡ stopped 5 922)
    × (mark main_limits one_lot (marked [] 8191) 1 ≡ marked (1 ∷ []) 8192)
    × (mark main_limits one_lot (marked [] 8192) 1 ≡ wrong 5)
    × (mark main_limits one_lot (marked (1 ∷ []) 8192) 1 ≡ wrong 4)
    × (mark main_limits one_lot (marked [] 8192) 2 ≡ wrong 3)
    -- 6: on the last catalogue line, a lot's or a buyer's, and before the calls
    × (says (bytes "SALE,1,0,2,0\nLOT,7,1\nP\n") ≡ stopped 6 2)
    × (says (bytes "SALE,1,1,2,0\nLOT,7,1\nBUY,1,1\nP\n") ≡ stopped 6 3)
    -- 7: the 513th call line, before its form and before its missing line feed
    × (says (lone ++ many 512 (bytes "S\n") ++ bytes "x\n") ≡ stopped 7 515)
    × (says (lone ++ many 512 (bytes "S\n") ++ bytes "S") ≡ stopped 7 515)
    × (says (lone ++ many 511 (bytes "S\n") ++ bytes "x\n") ≡ stopped 2 514)
    -- two faults in one file: the earlier line, the form of a line before its fields, fields from left to right, each mark by 3, 4
    × (says (bytes "SALE,1,0,2,1001\nLOT,07,1\n") ≡ stopped 3 1)
    × (says (bytes "SALE,1,0,2,0\nLOT,0,x\n") ≡ stopped 2 2)
    × (says (bytes "SALE,1,0,2,0\nLOT,0,1") ≡ stopped 2 2)
    × (says (bytes "SALE,2,1,2,1000\nLOT,7,1\nLOT,7,1\nBUY,1,1,1,3\n") ≡ stopped 4 4)
    × (says (bytes "SALE,2,1,2,1000\nLOT,7,1\nLOT,7,1\nBUY,1,1,3,1\n") ≡ stopped 3 4)
    × (says (bytes "SALE,2,1,2,1000\nLOT,7,1\nLOT,7,1\nBUY,0,1,1\n") ≡ stopped 3 4)
    × (says (bytes "SALE,1,1,2,0\nLOT,7,1\nBUY,1,1,1\n") ≡ stopped 4 3)
    × (says (bytes "SALE,1,0,2,0\nLOT,7,1\nx\n") ≡ stopped 6 2)
    -- accepted: slack 1,000; the greatest numbers of the lines; no buyer, no call
    × (says (bytes "SALE,1,0,2,1000\nLOT,65535,1\n") ≡ reading (record {
      estimated = false;
      lots = 1;
      buyers = 0;
      graph = record { blocks = 2; imbalance = 1000; total_weight = 65535; lows = 65535 ∷ []; weights = 65535 ∷ []; draft = 1 ∷ []; fixed = 0 ∷ []; nets = [] };
      marks = 0;
      calls = [];
    }))
    × (says (bytes "SALE,1,1,16,1000\nLOT,1,16\nBUY,1000,1\nM,999999999,0\nW,1,1\n") ≡ reading (record {
      estimated = false;
      lots = 1;
      buyers = 1;
      graph = record { blocks = 16; imbalance = 1000; total_weight = 1; lows = 1 ∷ []; weights = 1 ∷ []; draft = 16 ∷ []; fixed = 0 ∷ []; nets = record { weight = 1000; pins = 1 ∷ [] } ∷ [] };
      marks = 1;
      calls = runs (call_m 999999999 0) ∷ runs (call_w 1 1) ∷ [];
    }))
unfolding many digits_of digits sum sum_to fold_to sum_over any all average_weight nearest capacity above climb representative weight block_weight bytes same parts is_number onward value fields is_line sale_line overfull grown with_lot ends_in_k before_k lot_line mark marking with_net net_read buy_line values asked with_call call_line line ending lines parse
edges = (refl, refl, refl, refl, refl, refl, refl, refl, refl, refl, refl, refl, refl, refl, refl, refl, refl, refl, refl, refl, refl, refl, refl, refl, refl, refl, refl, refl, refl, refl, refl, refl, refl, refl, refl, refl, refl, refl, refl, refl, refl, refl, refl, refl, refl, refl, refl, refl, refl, refl, refl)

-- M-104: a LOT line may end in `,K`. Any other end is 2, and so is `,K` on another line; the form of the whole line comes before its ranges
pub kept-edges :
    (says (bytes "SALE,2,0,2,1000\nLOT,7,1,K\nLOT,6,2\n") ≡ reading (record {
      estimated = false;
      lots = 2;
      buyers = 0;
      graph = record { blocks = 2; imbalance = 1000; total_weight = 13; lows = 7 ∷ 6 ∷ []; weights = 7 ∷ 6 ∷ []; draft = 1 ∷ 2 ∷ []; fixed = 1 ∷ 0 ∷ []; nets = [] };
      marks = 0;
      calls = [];
    }))
    × (says (bytes "SALE,1,0,2,1000\nLOT,7,1,k\n") ≡ stopped 2 2)
    × (says (bytes "SALE,1,0,2,1000\nLOT,7,1,K,\n") ≡ stopped 2 2)
    × (says (bytes "SALE,1,0,2,1000\nLOT,7,1,KK\n") ≡ stopped 2 2)
    × (says (bytes "SALE,1,0,2,1000\nLOT,7,1,K,K\n") ≡ stopped 2 2)
    × (says (bytes "SALE,1,0,2,1000\nLOT,7,1,1\n") ≡ stopped 2 2)
    × (says (bytes "SALE,1,0,2,1000\nLOT,7,1,1,K\n") ≡ stopped 2 2)
    × (says (bytes "SALE,1,0,2,1000\nLOT,7,K\n") ≡ stopped 2 2)
    × (says (bytes "SALE,1,0,2,1000\nLOT,7,1K\n") ≡ stopped 2 2)
    × (says (bytes "SALE,1,0,2,1000\nLOT,K,7,1\n") ≡ stopped 2 2)
    × (says (bytes "SALE,1,0,2,1000\n,K\n") ≡ stopped 2 2)
    × (says (bytes "SALE,1,0,2,1000,K\n") ≡ stopped 2 1)
    × (says (bytes "SALE,1,1,2,1000\nLOT,7,1,K\nBUY,1,1,K\n") ≡ stopped 2 3)
    × (says (bytes "SALE,1,0,2,1000\nLOT,7,1,K\nP,K\n") ≡ stopped 2 3)
    × (says (bytes "SALE,1,0,2,1000\nLOT,0,1,k\n") ≡ stopped 2 2)
    × (says (bytes "SALE,1,0,2,1000\nLOT,0,1,K\n") ≡ stopped 3 2)
    × (says (bytes "SALE,1,0,2,1000\nLOT,7,3,K\n") ≡ stopped 3 2)
    × (says (bytes "SALE,1,0,2,0\nLOT,7,1,K\n") ≡ stopped 6 2)
unfolding sum sum_to fold_to sum_over any all average_weight nearest capacity above climb representative weight block_weight bytes same parts is_number onward value fields is_line sale_line overfull grown with_lot ends_in_k before_k lot_line mark marking with_net net_read buy_line values asked with_call call_line line ending lines parse
kept-edges = (refl, refl, refl, refl, refl, refl, refl, refl, refl, refl, refl, refl, refl, refl, refl, refl, refl, refl)

-- M-109, an estimate: low and high, then 21, then the session; `,K` behind them as in a sale. W is the sum of the lows
pub estimate-edges :
    (says (bytes "EST,2,0,2,1000\nLOT,5,7,1,K\nLOT,6,6,2\n") ≡ reading (record {
      estimated = true;
      lots = 2;
      buyers = 0;
      graph = record { blocks = 2; imbalance = 1000; total_weight = 11; lows = 5 ∷ 6 ∷ []; weights = 7 ∷ 6 ∷ []; draft = 1 ∷ 2 ∷ []; fixed = 1 ∷ 0 ∷ []; nets = [] };
      marks = 0;
      calls = [];
    }))
    -- form: three numbers in an estimate, two in a sale
    × (says (bytes "EST,1,0,2,1000\nLOT,7,1\n") ≡ stopped 2 2)
    × (says (bytes "EST,1,0,2,1000\nLOT,7,1,K\n") ≡ stopped 2 2)
    × (says (bytes "EST,1,0,2,1000\nLOT,7,7,1,1\n") ≡ stopped 2 2)
    × (says (bytes "SALE,1,0,2,1000\nLOT,7,7,1\n") ≡ stopped 2 2)
    × (says (bytes "ESTI,1,0,2,1000\n") ≡ stopped 2 1)
    -- low 3, high 3, 21, session 3, in this order
    × (says (bytes "EST,1,0,2,1000\nLOT,0,7,1\n") ≡ stopped 3 2)
    × (says (bytes "EST,1,0,2,1000\nLOT,7,0,1\n") ≡ stopped 3 2)
    × (says (bytes "EST,1,0,2,1000\nLOT,65536,7,1\n") ≡ stopped 3 2)
    × (says (bytes "EST,1,0,2,1000\nLOT,7,65536,1\n") ≡ stopped 3 2)
    × (says (bytes "EST,1,0,2,1000\nLOT,8,7,1\n") ≡ stopped 21 2)
    × (says (bytes "EST,1,0,2,1000\nLOT,8,7,3\n") ≡ stopped 21 2)
    × (says (bytes "EST,1,0,2,1000\nLOT,7,8,3\n") ≡ stopped 3 2)
    × (says (bytes "EST,1,0,2,1000\nLOT,8,7,x\n") ≡ stopped 2 2)
    -- 6: the highs of a session against the cap of the lows
    × (says (bytes "EST,2,0,2,0\nLOT,5,6,1\nLOT,5,5,2\n") ≡ stopped 6 3)
    × (says (bytes "SALE,2,0,2,0\nLOT,6,1\nLOT,5,2\nx\n") ≡ stopped 2 4)
unfolding sum sum_to fold_to sum_over any all average_weight nearest capacity above climb representative weight block_weight bytes same parts is_number onward value fields is_line sale_line overfull grown with_lot ends_in_k before_k lot_line mark marking with_net net_read buy_line values asked with_call call_line line ending lines parse
estimate-edges = (refl, refl, refl, refl, refl, refl, refl, refl, refl, refl, refl, refl, refl, refl, refl, refl)

-- M-102, the superfine desk's entry: 257 lots and 9 sessions are out of range; 256 and 8 are read, so that the first LOT line is missing
pub fine-edges :
    (parse fine_limits (bytes "SALE,257,0,8,0\n") ≡ stopped 3 1)
    × (parse fine_limits (bytes "SALE,256,0,9,0\n") ≡ stopped 3 1)
    × (parse fine_limits (bytes "SALE,256,1024,8,1000\n") ≡ stopped 2 2)
    × (says (bytes "SALE,257,0,9,0\n") ≡ stopped 2 2)
    -- sessions of the draft go by the file's own count, not by the limit
    × (parse fine_limits (bytes "SALE,1,0,2,1000\nLOT,7,3\n") ≡ stopped 3 2)
unfolding digits_of digits sum sum_to fold_to sum_over any all average_weight nearest capacity above climb representative weight block_weight bytes same parts is_number onward value fields is_line sale_line overfull grown with_lot ends_in_k before_k lot_line mark marking with_net net_read buy_line values asked with_call call_line line ending lines parse
fine-edges = (refl, refl, refl, refl, refl)
