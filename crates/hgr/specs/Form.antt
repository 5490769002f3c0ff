-- The form of an input: its first line, its header, its numbers, and where its edges start. Rests on passes' Rows. Assumes nothing.
use Rattle.std.specs.Prelude.{ℕ, suc, ◌≤◌, ◌≡◌, true, List, [], ◌∷◌, length, get_or, drop}
use Rattle.model.specs.Grammar.{at, is_line_of}
use Rattle.model.specs.Hmetis.{is_ended, lines_of, is_header, code_in, words, first_line, body, header, code, edge_count, vertex_count}
use Rattle.conversion.specs.Well.{Well}
use Rattle.passes.specs.Rows.{lines_at, sections_at, rows_at}
use Rattle.hgr.specs.Number.{code_of}
use Rattle.hgr.specs.declared.Plan.{Plan}

-- the first line, of an input that may be well written: the next one starts at `next`
pub record FirstRead (s : List ℕ) (next blocks imbalance : ℕ) : Type 0 where
  pub low : 1 ≤ next
  pub high : next ≤ length s
  pub ended : is_ended s ≡ true
  pub first : is_line_of "HGR" 2 (first_line s) ≡ true
  pub blocks_is : blocks ≡ at (first_line s) 1
  pub imbalance-is : imbalance ≡ at (first_line s) 2
  pub lines : lines_at s next ≡ drop 1 (lines_of s)

-- the first row from `start` on is no header, or there is no PART
pub record NoHeader (s : List ℕ) (start : ℕ) : Type 0 where
  pub none : (sections_at s start).found ≡ true → is_header (get_or (rows_at s start) 0 []) ≡ true → ⊥

-- the header, the first row from `start` on: the next line starts at `next`
pub record HeaderRead (s : List ℕ) (start next code edges vertices : ℕ) : Type 0 where
  pub low : 1 ≤ next
  pub high : next ≤ length s
  pub head : is_header (get_or (rows_at s start) 0 []) ≡ true
  pub code_is : code ≡ code_in (get_or (rows_at s start) 0 [])
  pub edges-is : edges ≡ at (words (get_or (rows_at s start) 0 [])) 0
  pub vertices-is : vertices ≡ at (words (get_or (rows_at s start) 0 [])) 1
  pub rows : rows_at s start ≡ get_or (rows_at s start) 0 [] ∷ rows_at s next
  pub found : (sections_at s next).found ≡ (sections_at s start).found
  pub listing : (sections_at s next).listing ≡ (sections_at s start).listing

-- the first line and the header are read, and the rows behind them start at `at`
pub record Begun (s : List ℕ) (start codes edges vertices blocks imbalance : ℕ) : Type 0 where
  pub low : 1 ≤ start
  pub high : start ≤ length s
  pub ended : is_ended s ≡ true
  pub first : is_line_of "HGR" 2 (first_line s) ≡ true
  pub head : is_header (header s) ≡ true
  pub blocks_is : blocks ≡ at (first_line s) 1
  pub imbalance-is : imbalance ≡ at (first_line s) 2
  pub code_is : codes ≡ code s
  pub edges-is : edges ≡ edge_count s
  pub vertices-is : vertices ≡ vertex_count s
  pub rows : rows_at s start ≡ drop 1 (body s).graph
  pub count : length (body s).graph ≡ suc (length (rows_at s start))
  pub found : (sections_at s start).found ≡ (body s).found
  pub listing : (sections_at s start).listing ≡ (body s).listing

-- the numbers of a well-written input, and where its edges start
pub record Sound (s : List ℕ) (p : Plan) : Type 0 where
  pub well : Well s
  pub blocks_is : p.blocks ≡ at (first_line s) 1
  pub imbalance-is : p.imbalance ≡ at (first_line s) 2
  pub edges-is : p.edges ≡ edge_count s
  pub vertices-is : p.vertices ≡ vertex_count s
  pub code_is : code_of p.code ≡ code s
  pub first-high : p.first ≤ length s
  pub first-is : rows_at s p.first ≡ drop 1 (body s).graph
