-- What is carried over, the tables that hold it, and its text. Rests on Form and on Convert. Assumes nothing.
use Rattle.std.specs.Prelude.{ℕ, suc, ◌≤◌, ◌≡◌, Bool, true, not, ◌&&◌, cond, List, [], ◌∷◌, map, leb, length, take, replicate}
use Rattle.laws.specs.Fold.{all}
use Rattle.model.specs.Grammar.{is_number, value, within}
use Rattle.model.specs.Report.{row}
use Rattle.model.specs.CatalogueText.{numbers, buy_text}
use Rattle.model.specs.Hmetis.{vertices_weighted, said}
use Rattle.model.specs.Convert.{carried, listed, net_of, catalogue_of, fits}
use Rattle.conversion.specs.Well.{Well}
use Rattle.passes.specs.Rows.{rows_at, RowsPassed}
use Rattle.hgr.specs.Form.{Sound}
use Rattle.hgr.specs.declared.Plan.{Plan}

-- the numbers of the first two lines are in their ranges
unfoldable pub in_range : ℕ → ℕ → ℕ → ℕ → Bool
in_range blocks imbalance vertices edges = within 2 16 blocks && within 0 1000 imbalance && within 1 1024 vertices && leb edges 1024

-- the weights of n vertices: a row each, or 1
abbrev pub weights_from : ℕ → List ℕ → ℕ → ℕ → List ℕ
weights_from code s at n = cond (vertices_weighted code) (map value (take n (rows_at s at))) (replicate n 1)

-- the rows of the vertices' weights are passed over: whether all are within the range, and the table that has them
pub record Weighed (code : ℕ) (s : List ℕ) (at n next : ℕ) (r : Bool) (table : List ℕ) : Type 0 where
  pub len : length table ≡ 1024
  pub passed : RowsPassed is_number s at (cond (vertices_weighted code) n 0) next
  pub says : r ≡ all (weights_from code s at n) (within 1 65535)
  pub are : n ≤ 1024 → take n table ≡ weights_from code s at n

-- what a pass over a well-written input has kept: whether it can be carried over (18), whether its listing is one of its blocks (19), the
-- length of its buyers' lines, and two tables, which have its vertices' weights and blocks where they have a place for each
pub record Seen (s : List ℕ) (carries lists : Bool) (size : ℕ) (weights draft : List ℕ) : Type 0 where
  pub well : Well s
  pub carried-is : carries ≡ carried (said s)
  pub listed-is : lists ≡ listed (said s)
  pub size_is : size ≡ length (buy_text (map net_of (said s).edges))
  pub small : size ≤ 1560000
  pub weights-len : length weights ≡ 1024
  pub draft-len : length draft ≡ 1024
  pub weights-are : (said s).vertices ≤ 1024 → take (said s).vertices weights ≡ (said s).weights
  pub draft-is : lists ≡ true → (said s).blocks ≤ 16 → (said s).vertices ≤ 1024 → take (said s).vertices draft ≡ map suc (said s).listing

pub record Planned (s : List ℕ) (p : Plan) (weights draft : List ℕ) : Type 0 where
  pub seen : Seen s p.carried p.listed p.size weights draft
  pub sound : Sound s p

-- the ranges of an input that is carried over
pub record Within (p : Plan) : Type 0 where
  pub blocks-low : 2 ≤ p.blocks
  pub blocks-high : p.blocks ≤ 16
  pub imbalance-high : p.imbalance ≤ 1000
  pub vertices-high : p.vertices ≤ 1024

-- the refusal of a well-written input, or 0
unfoldable pub verdict : List ℕ → ℕ
verdict s = cond (not (carried (said s))) 18 (cond (not (listed (said s))) 19 (cond (not (fits (catalogue_of (said s)))) 18 0))

-- the tables of an input that is not refused
pub record Tabled (s : List ℕ) (p : Plan) (weights draft : List ℕ) : Type 0 where
  pub few : p.vertices ≤ 1024
  pub weights-len : length weights ≡ 1024
  pub draft-len : length draft ≡ 1024
  pub weights-are : take p.vertices weights ≡ (said s).weights
  pub draft-is : take p.vertices draft ≡ map suc (said s).listing

-- the first line of the catalogue
abbrev pub sale_row : Plan → List ℕ
sale_row p = row "SALE" (numbers (p.vertices ∷ p.edges ∷ p.blocks ∷ p.imbalance ∷ []))
