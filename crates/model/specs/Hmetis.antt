-- What a converter's input says, in the terms of the hMETIS format: a first line with the number of blocks and the imbalance allowed, a
-- hypergraph file, a line PART, and that tool's partition listing. Rests on Grammar for bytes, parts and numbers. Assumes nothing.
use Rattle.std.specs.Prelude.{ℕ, suc, ◌+◌, ◌-◌, ◌*◌, Bool, true, false, not, ◌&&◌, ◌||◌, cond, List, [], ◌∷◌, ◌++◌, map, eqb, leb, ltb, length, get_or, take, drop, replicate}
use Rattle.laws.specs.Sum.{count_to}
use Rattle.laws.specs.Fold.{sum_over, any, all}
use Rattle.model.specs.Grammar.{Fields, bytes, same, parts, is_number, value, fields, at, is_line_of, within}

-- ---- lines
-- all but the last
unfoldable pub all_but_last : List (List ℕ) → List (List ℕ)
all_but_last [] = []
all_but_last (l ∷ []) = []
all_but_last (l ∷ (m ∷ ls)) = l ∷ all_but_last (m ∷ ls)

-- the lines of a text, each of which ends in a line feed
unfoldable pub lines_of : List ℕ → List (List ℕ)
lines_of text = all_but_last (parts 10 text)

-- the text ends in a line feed
abbrev pub is_ended : List ℕ → Bool
is_ended text = eqb (get_or text (length text - 1) 0) 10

-- a comment line starts with %
abbrev pub is_comment : List ℕ → Bool
is_comment l = eqb (get_or l 0 0) 37

-- the line between the hypergraph file and the listing
abbrev pub is_part : List ℕ → Bool
is_part l = same l (bytes "PART")

-- the lines of the hypergraph file, comments left out; whether PART is there; the lines of the listing, behind it
pub record Sections : Type 0 where
  pub graph : List (List ℕ)
  pub found : Bool
  pub listing : List (List ℕ)

abbrev pub with_line : List ℕ → Sections → Sections
with_line l x = record { graph = l ∷ x.graph; found = x.found; listing = x.listing }

unfoldable pub sections : List (List ℕ) → Sections
sections [] = record { graph = []; found = false; listing = [] }
sections (l ∷ ls) =
    cond (is_part l) (record { graph = []; found = true; listing = ls })
    (cond (is_comment l) (sections ls) (with_line l (sections ls)))

-- ---- numbers, one or more spaces apart
-- what follows the first word: an empty part between two spaces is no word
unfoldable pub later : Fields → Fields
later [] = []
later (f ∷ []) = f ∷ []
later (f ∷ (g ∷ fs)) = cond (eqb (length f) 0) (later (g ∷ fs)) (f ∷ later (g ∷ fs))

abbrev pub spread : Fields → Fields
spread [] = []
spread (f ∷ fs) = f ∷ later fs

-- the words of a line; the first and the last are empty where the line starts or ends in a space
unfoldable pub words : List ℕ → Fields
words l = spread (parts 32 l)

-- how many numbers a line has; 0 for a line that has anything else
unfoldable pub numbers_in : List ℕ → ℕ
numbers_in l = cond (all (words l) is_number) (length (words l)) 0

-- ---- the hypergraph file
-- the header: edges, vertices and perhaps a weight code: 1, 10 or 11
unfoldable pub is_header : List ℕ → Bool
is_header l = eqb (numbers_in l) 2 || (eqb (numbers_in l) 3 && (eqb (at (words l) 2) 1 || eqb (at (words l) 2) 10 || eqb (at (words l) 2) 11))

-- the weight code of a header, 0 for none
unfoldable pub code_in : List ℕ → ℕ
code_in l = cond (eqb (numbers_in l) 3) (at (words l) 2) 0

-- with codes 1 and 11 an edge's line leads with its weight
abbrev pub edges_weighted : ℕ → Bool
edges_weighted code = eqb code 1 || eqb code 11

-- with codes 10 and 11 a line for each vertex has its weight, behind the edges
abbrev pub vertices_weighted : ℕ → Bool
vertices_weighted code = eqb code 10 || eqb code 11

-- an edge: its weight and its vertices, in the line's order
pub record Edge : Type 0 where
  pub weight : ℕ
  pub pins : List ℕ

-- an edge has a vertex, behind its weight
unfoldable pub is_edge : Bool → List ℕ → Bool
is_edge weighted l = leb (cond weighted 2 1) (numbers_in l)

-- a missing weight is 1
abbrev pub edge_from : Bool → Fields → Edge
edge_from false vs = record { weight = 1; pins = map value vs }
edge_from true [] = record { weight = 1; pins = [] }
edge_from true (w ∷ vs) = record { weight = value w; pins = map value vs }

unfoldable pub edge_of : Bool → List ℕ → Edge
edge_of weighted l = edge_from weighted (words l)

-- ---- the whole input
-- what it says: the number of blocks and the imbalance allowed, the number of vertices, the edges, the vertices' weights, and the block of
-- each vertex, counted from 0
pub record Hmetis : Type 0 where
  pub blocks : ℕ
  pub imbalance : ℕ
  pub vertices : ℕ
  pub edges : List Edge
  pub weights : List ℕ
  pub listing : List ℕ

module _ (s : List ℕ) where
  -- HGR,blocks,imbalance
  unfoldable pub first_line : Fields
  first_line = fields (get_or (lines_of s) 0 [])

  unfoldable pub body : Sections
  body = sections (drop 1 (lines_of s))

  unfoldable pub header : List ℕ
  header = get_or body.graph 0 []

  unfoldable pub code : ℕ
  code = code_in header

  unfoldable pub edge_count : ℕ
  edge_count = at (words header) 0

  unfoldable pub vertex_count : ℕ
  vertex_count = at (words header) 1

  unfoldable pub weight_count : ℕ
  weight_count = cond (vertices_weighted code) vertex_count 0

  unfoldable pub edge_lines : List (List ℕ)
  edge_lines = take edge_count (drop 1 body.graph)

  unfoldable pub weight_lines : List (List ℕ)
  weight_lines = take weight_count (drop edge_count (drop 1 body.graph))

  -- each line has its form, and none is missing or left over
  unfoldable pub well_written : Bool
  well_written =
      is_ended s && is_line_of "HGR" 2 first_line && body.found && is_header header
      && eqb (length body.graph) (suc (edge_count + weight_count))
      && all edge_lines (is_edge (edges_weighted code)) && all weight_lines is_number && all body.listing is_number

  -- what a well-written input says
  unfoldable pub said : Hmetis
  said = record {
    blocks = at first_line 1;
    imbalance = at first_line 2;
    vertices = vertex_count;
    edges = map (edge_of (edges_weighted code)) edge_lines;
    weights = cond (vertices_weighted code) (map value weight_lines) (replicate vertex_count 1);
    listing = map value body.listing;
  }

-- ---- the connectivity metric of its partition
module _ (f : Hmetis) where
  -- the block of a vertex, counted from 1 like the vertices
  abbrev pub block_of : ℕ → ℕ
  block_of v = suc (get_or f.listing (v - 1) 0)

  -- how many blocks the vertices of an edge lie in
  unfoldable pub spans : Edge → ℕ
  spans e = count_to f.blocks (λ b. any e.pins (λ v. eqb (block_of v) b))

  unfoldable pub cost : ℕ
  cost = sum_over f.edges (λ e. e.weight * (spans e - 1))
