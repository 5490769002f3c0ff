-- Rows read into tables, checked, and written. Rests on Rows and on Convert. Assumes nothing.
use Rattle.std.specs.Prelude.{ℕ, suc, ◌≤◌, ◌≡◌, Bool, true, List, map, ltb, length, take}
use Rattle.laws.specs.Fold.{sum_over, all}
use Rattle.model.specs.Grammar.{is_number, value, within}
use Rattle.model.specs.CatalogueText.{buy_text}
use Rattle.model.specs.Hmetis.{Edge, is_edge, edge_of}
use Rattle.model.specs.Convert.{is_carried, net_of}
use Rattle.passes.specs.Rows.{rows_at, lines_at, RowsPassed}

-- n numbers, a row each, are passed over: whether all are within the range, and the table that has them, if it has a place for each
pub record WeightsRead (s : List ℕ) (at n next : ℕ) (r : Bool) (table : List ℕ) : Type 0 where
  pub len : length table ≡ 1024
  pub passed : RowsPassed is_number s at n next
  pub says : r ≡ all (map value (take n (rows_at s at))) (within 1 65535)
  pub are : n ≤ 1024 → take n table ≡ map value (take n (rows_at s at))

-- a listing is passed over: how many lines it has, whether each names a block, and the table that has them, counted from 1
pub record BlocksRead (s : List ℕ) (at blocks lines : ℕ) (r : Bool) (table : List ℕ) : Type 0 where
  pub len : length table ≡ 1024
  pub well : all (lines_at s at) is_number ≡ true
  pub lines_are : lines ≡ length (lines_at s at)
  pub says : r ≡ all (map value (lines_at s at)) (λ b. ltb b blocks)
  pub are : r ≡ true → blocks ≤ 16 → length (lines_at s at) ≤ 1024 → take (length (lines_at s at)) table ≡ map suc (map value (lines_at s at))

-- the first n edges from `at` on
abbrev pub edges_at : Bool → List ℕ → ℕ → ℕ → List Edge
edges_at weighted s at n = map (edge_of weighted) (take n (rows_at s at))

-- n edges are passed over: whether all can be carried over, how many vertices they name together, and the length of their text
pub record EdgesRead (weighted : Bool) (s : List ℕ) (at n v next : ℕ) (r : Bool) (pins size : ℕ) : Type 0 where
  pub passed : RowsPassed (is_edge weighted) s at n next
  pub says : r ≡ all (edges_at weighted s at n) (is_carried v)
  pub pins-are : pins ≡ sum_over (edges_at weighted s at n) (λ e. length e.pins)
  pub size_is : size ≡ length (buy_text (map net_of (edges_at weighted s at n)))
  pub small : size ≤ 1560000
