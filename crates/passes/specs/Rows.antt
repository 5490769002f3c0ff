-- The lines and rows of an input from a cursor on, and what is said of a run of them. A row is a line of the hypergraph file that is no
-- comment. Rests on Hmetis. Assumes nothing.
use Rattle.std.specs.Prelude.{ℕ, ◌+◌, ◌≤◌, ◌<◌, ◌≡◌, Bool, true, false, ◌&&◌, cond, List, [], eqb, leb, length, take, drop}
use Rattle.std.proofs.Math.Seq.{slice}
use Rattle.laws.specs.Fold.{all}
use Rattle.model.specs.Hmetis.{lines_of, is_part, Sections, with_line, sections}

-- the lines from i on
unfoldable pub lines_at : List ℕ → ℕ → List (List ℕ)
lines_at s i = lines_of (slice i (length s) s)

abbrev pub sections_at : List ℕ → ℕ → Sections
sections_at s i = sections (lines_at s i)

-- the rows from i on
abbrev pub rows_at : List ℕ → ℕ → List (List ℕ)
rows_at s i = (sections_at s i).graph

-- nothing, and the listing behind PART
abbrev pub no_sections : Sections
no_sections = record { graph = []; found = false; listing = [] }

abbrev pub at_part : List (List ℕ) → Sections
at_part ls = record { graph = []; found = true; listing = ls }

-- what a line that is no comment, and the lines behind it, say
unfoldable pub line_then : List ℕ → List (List ℕ) → Sections
line_then l ls = cond (is_part l) (at_part ls) (with_line l (sections ls))

-- the first line from `at` on that is no comment stands from `start` to `end`
pub record RowAt (s : List ℕ) (at start end : ℕ) : Type 0 where
  pub low : at ≤ start
  pub mid : start ≤ end
  pub high : end < length s
  pub line : sections_at s at ≡ line_then (slice start end s) (lines_at s (end + 1))

-- there are n lines, and the first n have the form
unfoldable pub well_rows : (List ℕ → Bool) → ℕ → List (List ℕ) → Bool
well_rows p n ls = leb n (length ls) && all (take n ls) p

-- n rows from `at` on have the form and are passed over, and the next line starts at r
pub record RowsPassed (p : List ℕ → Bool) (s : List ℕ) (at n r : ℕ) : Type 0 where
  pub low : 1 ≤ r
  pub high : r ≤ length s
  pub well : well_rows p n (rows_at s at) ≡ true
  pub rest : rows_at s r ≡ drop n (rows_at s at)
  pub found : (sections_at s r).found ≡ (sections_at s at).found
  pub listing : (sections_at s r).listing ≡ (sections_at s at).listing

-- a row is left, or there is no PART
pub record NoPart (s : List ℕ) (at : ℕ) : Type 0 where
  pub none : (eqb (length (rows_at s at)) 0 && (sections_at s at).found) ≡ false

-- no row is left, and PART stands before r
pub record PartPassed (s : List ℕ) (at r : ℕ) : Type 0 where
  pub low : 1 ≤ r
  pub high : r ≤ length s
  pub none : rows_at s at ≡ []
  pub found : (sections_at s at).found ≡ true
  pub listing : (sections_at s at).listing ≡ lines_at s r
