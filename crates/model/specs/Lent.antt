-- How what the engine's functions take and return reads in the definitions: lent slices as lent memory, three numbers as a call, and two
-- arrays with a length as the stack of joins or the record of moves. Rests on Grammar and Memory. Assumes nothing.
use Rattle.std.specs.Prelude.{ℕ, zero, suc, ◌+◌, ◌*◌, ◌≤◌, ◌≡◌, List, [], ◌∷◌, ◌++◌, map, ℤ, length, get_or}
use Rattle.model.specs.Measure.{Contraction}
use Rattle.model.specs.Machine.{Move}
use Rattle.model.specs.Sale.{Request}
use Rattle.model.specs.Grammar.{Asked, asks, nothing, call_of}
use Rattle.model.specs.Memory.{Tables, Memory}

-- ---- lent memory
-- the lent lists that loading writes. Lots: bales, session, the lot above and whether it is kept. Marks: as loaded, and as they stand. Buyers: first place,
-- loaded marks and present marks
pub record Lists : Type 0 where
  pub weights : List ℕ
  pub blocks : List ℕ
  pub aboves : List ℕ
  pub fixed : List ℕ
  pub loaded_pins : List ℕ
  pub present_pins : List ℕ
  pub firsts : List ℕ
  pub loaded_sizes : List ℕ
  pub present_sizes : List ℕ

abbrev pub lists : List ℕ → List ℕ → List ℕ → List ℕ → List ℕ → List ℕ → List ℕ → List ℕ → List ℕ → Lists
lists w d a x lp pp f c pc = record { weights = w; blocks = d; aboves = a; fixed = x; loaded_pins = lp; present_pins = pp; firsts = f; loaded_sizes = c; present_sizes = pc }

-- the lent tables: the lists that loading writes, and counts, gains, the index and connectivity sets
abbrev pub lent : Lists → List ℕ → List ℤ → List ℕ → List ℕ → Tables
lent t counts gains index visited = record {
  weights = t.weights;
  blocks = t.blocks;
  aboves = t.aboves;
  fixed = t.fixed;
  loaded_pins = t.loaded_pins;
  present_pins = t.present_pins;
  firsts = t.firsts;
  loaded_sizes = t.loaded_sizes;
  present_sizes = t.present_sizes;
  counts = counts;
  gains = gains;
  index = index;
  visited = visited;
}

-- the output and the tables
abbrev pub memory : List ℕ → Tables → Memory
memory out t = record { output = out; tables = t }

-- ---- lots as records; the nets' tables by themselves
-- the tables that no lot's record holds
abbrev pub others : List ℕ → List ℕ → List ℕ → List ℕ → List ℕ → List ℕ → List ℤ → List ℕ → List ℕ → Tables
others loaded_pins present_pins firsts loaded_sizes present_sizes counts gains index visited = record {
  weights = [];
  blocks = [];
  aboves = [];
  fixed = [];
  loaded_pins = loaded_pins;
  present_pins = present_pins;
  firsts = firsts;
  loaded_sizes = loaded_sizes;
  present_sizes = present_sizes;
  counts = counts;
  gains = gains;
  index = index;
  visited = visited;
}

-- the tables of nets and pins; no other takes part in handing out
abbrev pub net_tables : List ℕ → List ℕ → List ℕ → List ℕ → List ℕ → Tables
net_tables loaded_pins present_pins firsts loaded_sizes present_sizes = others loaded_pins present_pins firsts loaded_sizes present_sizes [] [] [] []

-- lent memory whose lots are four tables, and whose other tables are t's
abbrev pub in_tables : List ℕ → List ℕ → List ℕ → List ℕ → List ℕ → Tables → Memory
in_tables output weights blocks aboves fixed t = record {
  output = output;
  tables = record {
    weights = weights;
    blocks = blocks;
    aboves = aboves;
    fixed = fixed;
    loaded_pins = t.loaded_pins;
    present_pins = t.present_pins;
    firsts = t.firsts;
    loaded_sizes = t.loaded_sizes;
    present_sizes = t.present_sizes;
    counts = t.counts;
    gains = t.gains;
    index = t.index;
    visited = t.visited;
  };
}

-- lent memory whose lots are records: each of the four fields is a table
abbrev pub in_records : {A : Type 0} → (bales session above kept : A → ℕ) → List ℕ → List A → Tables → Memory
in_records bales session above kept output lots t = in_tables output (map bales lots) (map session lots) (map above lots) (map kept lots) t

-- ---- calls, three numbers each, and operands
-- a call as a list, which is empty where there is none
abbrev pub listed : Asked → List Request
listed (asks c) = c ∷ []
listed nothing = []

-- the first c calls of a table: the letter's byte and two numbers
unfoldable pub calls_of : List ℕ → ℕ → List ℕ → List Request
calls_of operands zero t = []
calls_of operands (suc c) t = calls_of operands c t ++ listed (call_of operands (get_or t (3 * c) 0) (get_or t (3 * c + 1) 0) (get_or t (3 * c + 2) 0))

-- ---- the stack of joins and the record of moves
-- two arrays and a length
pub record Two : Type 0 where
  pub xs : List ℕ
  pub ys : List ℕ
  pub len : ℕ

abbrev pub two : List ℕ → List ℕ → ℕ → Two
two xs ys len = record { xs = xs; ys = ys; len = len }

-- the first i pairs of two arrays, the last one first
unfoldable pub pairs : {A : Type 0} → (ℕ → ℕ → A) → List ℕ → List ℕ → ℕ → List A
pairs make xs ys zero = []
pairs make xs ys (suc i) = make (get_or xs i 0) (get_or ys i 0) ∷ pairs make xs ys i

-- the stack of joins: into which vertex, and which one is gone
abbrev pub stack_of : List ℕ → List ℕ → ℕ → List Contraction
stack_of = pairs (λ u v. record { into = u; gone = v })

-- the record of moves: the vertex, and the block that it left
abbrev pub journal_of : List ℕ → List ℕ → ℕ → List Move
journal_of = pairs (λ v b. record { vertex = v; from = b })

-- arrays of 1,024 entries, which are 0 from the length on
pub record ZeroPast (S : Two) : Type 0 where
  pub xs-long : length S.xs ≡ 1024
  pub ys-long : length S.ys ≡ 1024
  pub xs-zero : (i : ℕ) → S.len ≤ i → get_or S.xs i 0 ≡ 0
  pub ys-zero : (i : ℕ) → S.len ≤ i → get_or S.ys i 0 ≡ 0
