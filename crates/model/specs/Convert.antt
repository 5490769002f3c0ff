-- Which inputs a converter carries over to our catalogue, the catalogue and its text, and what the converter leaves in lent memory; M-100.
-- Rests on Hmetis, CatalogueText and Memory. Assumes nothing.
use Rattle.std.specs.Prelude.{ℕ, suc, ◌≤◌, ◌<◌, ◌≡◌, Bool, true, false, not, ◌&&◌, cond, List, [], ◌∷◌, ◌++◌, map, eqb, leb, ltb, length, drop}
use Rattle.laws.specs.Fold.{sum_over, any, all}
use Rattle.model.specs.Catalogue.{Net, Hypergraph, main_limits, drafted}
use Rattle.model.specs.Measure.{metric}
use Rattle.model.specs.Grammar.{within, overfull, Book, reading, parse}
use Rattle.model.specs.Report.{digits, row}
use Rattle.model.specs.Memory.{Written}
use Rattle.model.specs.CatalogueText.{catalogue_text}
use Rattle.model.specs.Hmetis.{Edge, Hmetis, well_written, said, cost}

-- ---- what can be carried over (18)
-- the vertices of an edge, from left to right: each is known and was not named before
unfoldable pub named : ℕ → List ℕ → List ℕ → Bool
named n before [] = true
named n before (v ∷ vs) = within 1 n v && not (any before (λ x. eqb x v)) && named n (before ++ (v ∷ [])) vs

unfoldable pub is_carried : ℕ → Edge → Bool
is_carried n e = within 1 1000 e.weight && named n [] e.pins

unfoldable pub carried : Hmetis → Bool
carried f =
    within 2 16 f.blocks && within 0 1000 f.imbalance && within 1 1024 f.vertices && leb (length f.edges) 1024
    && all f.edges (is_carried f.vertices) && leb (sum_over f.edges (λ e. length e.pins)) 8192
    && all f.weights (within 1 65535)

-- ---- the listing (19): a line for each vertex, with a block that there is
unfoldable pub listed : Hmetis → Bool
listed f = eqb (length f.listing) f.vertices && all f.listing (λ b. ltb b f.blocks)

-- ---- the catalogue
abbrev pub net_of : Edge → Net
net_of e = record { weight = e.weight; pins = e.pins }

-- lots, buyers and marks in the input's order, and block b as session b + 1
unfoldable pub catalogue_of : Hmetis → Hypergraph
catalogue_of f = record { blocks = f.blocks; imbalance = f.imbalance; total_weight = sum_over f.weights (λ w. w); lows = f.weights; weights = f.weights; draft = map suc f.listing; fixed = map (λ b. 0) f.listing; nets = map net_of f.edges }

-- no session is overfull, and the text has its length (18 again)
unfoldable pub fits : Hypergraph → Bool
fits h = not (overfull h) && leb (length (catalogue_text h)) 60000

-- ---- the outcome
-- the refusal's number, or 0: the input's length, 17, 18, 19, then an overfull session and the output's length
unfoldable pub refusal : List ℕ → ℕ
refusal s =
    cond (ltb 60000 (length s)) 18
    (cond (not (well_written s)) 17
    (cond (not (carried (said s))) 18
    (cond (not (listed (said s))) 19
    (cond (not (fits (catalogue_of (said s)))) 18 0))))

-- NO,number alone, or the catalogue
unfoldable pub converted : List ℕ → List ℕ
converted s = cond (eqb (refusal s) 0) (catalogue_text (catalogue_of (said s))) (row "NO" (digits (refusal s) ∷ []))

-- the text loads as the input's hypergraph, with its partition for a draft and no calls, and its total is the metric of that partition
pub record LoadsAs (f : Hmetis) (text : List ℕ) : Type 0 where
  pub book : Book
  pub loads : parse main_limits text ≡ reading book
  pub blocks : book.graph.blocks ≡ f.blocks
  pub imbalance : book.graph.imbalance ≡ f.imbalance
  pub weights : book.graph.weights ≡ f.weights
  pub draft : book.graph.draft ≡ map suc f.listing
  pub marks : map (λ e. e.pins) book.graph.nets ≡ map (λ e. e.pins) f.edges
  pub costs : map (λ e. e.weight) book.graph.nets ≡ map (λ e. e.weight) f.edges
  pub calls : book.calls ≡ []
  pub total : metric book.graph [] (drafted book.graph) ≡ cost f

-- ---- lent memory
-- 8 touches nothing and reports 0 bytes written
pub record Kept (old new : List ℕ) (code written : ℕ) : Type 0 where
  pub code_is : code ≡ 8
  pub nothing : written ≡ 0
  pub kept : new ≡ old

-- the number or the text, with what the output held past it; and an accepted input's text loads
pub record Answered (s old new : List ℕ) (code written : ℕ) : Type 0 where
  pub code_is : code ≡ refusal s
  pub output : Written (converted s) old new written
  pub loads : code ≡ 0 → LoadsAs (said s) (converted s)

-- the converter on an input and a lent output: its return and the output at exit, by whether that is long enough (8 is tested first)
pub record Converts (s old new : List ℕ) (code written : ℕ) : Type 0 where
  pub short : length old < 60000 → Kept old new code written
  pub long : 60000 ≤ length old → Answered s old new code written
