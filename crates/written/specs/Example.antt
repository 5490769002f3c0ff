-- A catalogue of two lots and two buyers: its text, and the book that the text loads, by computing. Rests on model alone and not on the
-- theorem. Assumes nothing.
use Rattle.std.specs.Prelude.{◌≡◌, refl, false, [], ◌∷◌}
use Rattle.laws.specs.Sum.{sum, sum_to, fold_to}
use Rattle.laws.specs.Fold.{sum_over, any, all}
use Rattle.model.specs.Catalogue.{Hypergraph, main_limits, average_weight, nearest, capacity}
use Rattle.model.specs.Measure.{above, climb, representative, weight, block_weight}
use Rattle.model.specs.Report.{digits_of, digits, tail, row}
use Rattle.model.specs.Grammar.{reading, bytes, same, parts, is_number, onward, value, fields, is_line, sale_line, overfull, grown, with_lot, ends_in_k, before_k, lot_line, mark, marking, with_net, net_read, buy_line, line, ending, lines, parse}
use Rattle.model.specs.CatalogueText.{lot_text, buy_text, catalogue_text}

abbrev small : Hypergraph
small = record { blocks = 2; imbalance = 1000; total_weight = 37; lows = 30 ∷ 7 ∷ []; weights = 30 ∷ 7 ∷ []; draft = 1 ∷ 2 ∷ []; fixed = 0 ∷ 0 ∷ []; nets = record { weight = 5; pins = 2 ∷ 1 ∷ [] } ∷ record { weight = 1000; pins = 1 ∷ [] } ∷ [] }

its-text : catalogue_text small ≡ bytes "SALE,2,2,2,1000\nLOT,30,1\nLOT,7,2\nBUY,5,2,1\nBUY,1000,1\n"
unfolding catalogue_text lot_text buy_text row tail digits digits_of bytes
its-text = refl

its-book : parse main_limits (bytes "SALE,2,2,2,1000\nLOT,30,1\nLOT,7,2\nBUY,5,2,1\nBUY,1000,1\n") ≡ reading (record { estimated = false; lots = 2; buyers = 2; graph = small; marks = 3; calls = [] })
unfolding parse lines line ending sale_line lot_line ends_in_k before_k buy_line net_read with_lot with_net mark marking grown overfull is_line fields value onward is_number parts same bytes block_weight weight representative climb above capacity nearest average_weight sum_over any all fold_to sum_to sum
its-book = refl
