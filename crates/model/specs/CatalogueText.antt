-- A catalogue as a sale file without calls: the text that a converter has to write. Rests on Report. Assumes nothing.
use Rattle.std.specs.Prelude.{ℕ, List, [], ◌∷◌, ◌++◌, length}
use Rattle.model.specs.Catalogue.{Net, Hypergraph, vertices}
use Rattle.model.specs.Report.{digits, row}

-- numbers as the fields of a line
abbrev pub numbers : List ℕ → List (List ℕ)
numbers [] = []
numbers (x ∷ xs) = digits x ∷ numbers xs

-- LOT,bales,session: a line for each lot
unfoldable pub lot_text : List ℕ → List ℕ → List ℕ
lot_text [] ds = []
lot_text (w ∷ ws) [] = []
lot_text (w ∷ ws) (b ∷ ds) = row "LOT" (numbers (w ∷ b ∷ [])) ++ lot_text ws ds

-- BUY,weight,lot,..: a line for each buyer
unfoldable pub buy_text : List Net → List ℕ
buy_text [] = []
buy_text (e ∷ es) = row "BUY" (numbers (e.weight ∷ e.pins)) ++ buy_text es

-- SALE,lots,buyers,sessions,slack and the lines of lots and buyers
unfoldable pub catalogue_text : Hypergraph → List ℕ
catalogue_text h = row "SALE" (numbers (vertices h ∷ length h.nets ∷ h.blocks ∷ h.imbalance ∷ [])) ++ (lot_text h.weights h.draft ++ buy_text h.nets)
