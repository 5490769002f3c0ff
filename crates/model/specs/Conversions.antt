-- Inputs of the converter, M-100: the worked sale as an hMETIS file with its text and its metric, each weight code, and the refusals with
-- pairs that show their order; proved by computing. Rests on Convert. Assumes nothing.
use Rattle.std.specs.Prelude.{ℕ, ◌≡◌, refl, List, [], ◌∷◌, ◌++◌}
use Rattle.laws.specs.Sum.{sum, sum_to, fold_to}
use Rattle.laws.specs.Fold.{sum_over, any, all}
use Rattle.model.specs.Catalogue.{average_weight, nearest, capacity}
use Rattle.model.specs.Measure.{above, climb, representative, weight, block_weight}
use Rattle.model.specs.Grammar.{bytes, same, parts, is_number, onward, value, fields, is_line, overfull}
use Rattle.model.specs.Report.{digits_of, digits, tail, row}
use Rattle.model.specs.Hmetis.{all_but_last, lines_of, sections, later, words, numbers_in, is_header, code_in, is_edge, edge_of, first_line, body, header, code, edge_count, vertex_count, weight_count, edge_lines, weight_lines, well_written, said, spans, cost}
use Rattle.model.specs.CatalogueText.{lot_text, buy_text, catalogue_text}
use Rattle.model.specs.Convert.{named, is_carried, carried, listed, catalogue_of, fits, refusal, converted}

-- the worked sale
abbrev pub worked_input : List ℕ
worked_input = bytes "HGR,2,200\n% the worked sale\n3 5 11\n3 1 3\n2 2  5\n% one comment more\n1 3 4\n10\n10\n10\n10\n10\nPART\n0\n0\n1\n1\n0\n"

pub worked-text : converted worked_input ≡ bytes "SALE,5,3,2,200\nLOT,10,1\nLOT,10,1\nLOT,10,2\nLOT,10,2\nLOT,10,1\nBUY,3,1,3\nBUY,2,2,5\nBUY,1,3,4\n"
unfolding converted refusal fits catalogue_of listed carried is_carried named said well_written weight_lines edge_lines weight_count vertex_count edge_count code header body first_line edge_of is_edge code_in is_header numbers_in words later sections lines_of all_but_last catalogue_text buy_text lot_text row tail digits digits_of overfull is_line fields value onward is_number parts same bytes block_weight weight representative climb above capacity nearest average_weight sum_over any all fold_to sum_to sum
worked-text = refl

pub worked-metric : cost (said worked_input) ≡ 3
unfolding cost spans said weight_lines edge_lines weight_count vertex_count edge_count code header body first_line edge_of code_in numbers_in words later sections lines_of all_but_last fields value onward is_number parts same bytes sum_over any all sum_to sum
worked-metric = refl

-- three vertices, one edge: with the weight code or none, the edge's line and the weights' lines
abbrev pub small : List ℕ → List ℕ
small rest = bytes "HGR,2,1000\n" ++ rest ++ bytes "PART\n0\n1\n1\n"

-- each weight code: none, 1, 10, 11; a missing weight is 1
pub codes :
    (converted (small (bytes "1 3\n3 1\n")) ≡ bytes "SALE,3,1,2,1000\nLOT,1,1\nLOT,1,2\nLOT,1,2\nBUY,1,3,1\n")
    × (converted (small (bytes "1 3 1\n3 1\n")) ≡ bytes "SALE,3,1,2,1000\nLOT,1,1\nLOT,1,2\nLOT,1,2\nBUY,3,1\n")
    × (converted (small (bytes "1 3 10\n3 1\n7\n6\n5\n")) ≡ bytes "SALE,3,1,2,1000\nLOT,7,1\nLOT,6,2\nLOT,5,2\nBUY,1,3,1\n")
    × (converted (small (bytes "1 3 11\n3 1\n7\n6\n5\n")) ≡ bytes "SALE,3,1,2,1000\nLOT,7,1\nLOT,6,2\nLOT,5,2\nBUY,3,1\n")
unfolding converted refusal fits catalogue_of listed carried is_carried named said well_written weight_lines edge_lines weight_count vertex_count edge_count code header body first_line edge_of is_edge code_in is_header numbers_in words later sections lines_of all_but_last catalogue_text buy_text lot_text row tail digits digits_of overfull is_line fields value onward is_number parts same bytes block_weight weight representative climb above capacity nearest average_weight sum_over any all fold_to sum_to sum
codes = (refl, refl, refl, refl)

-- badly written (17): another weight code, an edge without vertices, a line missing, a space at a line's end
-- not to be carried over (18): weight 0, a vertex twice, an unknown vertex, an overfull block
-- a listing of the wrong length, and an unknown block (19); the three of them in their order
pub refusals :
    (refusal (small (bytes "1 3 2\n3 1\n")) ≡ 17)
    × (refusal (small (bytes "1 3 1\n3\n")) ≡ 17)
    × (refusal (small (bytes "2 3\n3 1\n")) ≡ 17)
    × (refusal (small (bytes "1 3\n3 1 \n")) ≡ 17)
    × (refusal (small (bytes "1 3 1\n0 1\n")) ≡ 18)
    × (refusal (small (bytes "1 3\n1 1\n")) ≡ 18)
    × (refusal (small (bytes "1 3\n4\n")) ≡ 18)
    × (refusal (bytes "HGR,2,0\n0 3 10\n1\n5\n5\nPART\n0\n1\n1\n") ≡ 18)
    × (refusal (bytes "HGR,2,1000\n0 2\nPART\n0\n") ≡ 19)
    × (refusal (bytes "HGR,2,1000\n0 2\nPART\n0\n2\n") ≡ 19)
    × (refusal (bytes "HGR,1,1000\n0 2\nPART\n0\n2 \n") ≡ 17)
    × (refusal (bytes "HGR,1,1000\n0 2\nPART\n0\n2\n") ≡ 18)
unfolding refusal fits catalogue_of listed carried is_carried named said well_written weight_lines edge_lines weight_count vertex_count edge_count code header body first_line edge_of is_edge code_in is_header numbers_in words later sections lines_of all_but_last catalogue_text buy_text lot_text row tail digits digits_of overfull is_line fields value onward is_number parts same bytes block_weight weight representative climb above capacity nearest average_weight sum_over any all fold_to sum_to sum
refusals = (refl, refl, refl, refl, refl, refl, refl, refl, refl, refl, refl, refl)
