-- Document 01, "Lent memory": what each table holds for a state of the machine, what is free and what keeps what it held; the
-- stretch that hands out a buyer's marks; what the engine leaves. Rests on Engine, Index and laws' occurrences. Assumes nothing.
use Rattle.std.specs.Prelude.{ℕ, suc, ◌+◌, ◌-◌, ◌*◌, ◌/◌, ◌%◌, ◌^◌, ◌≤◌, ◌<◌, ◌≡◌, Bool, true, false, cond, ◌&&◌, List, [], ◌∷◌, ◌++◌, eqb, leb, ltb, ℤ, pos, length, get_or, drop, take}
use Rattle.laws.specs.Choice.{one}
use Rattle.laws.specs.Sum.{sum_to}
use Rattle.laws.specs.Occurrence.{occ}
use Rattle.model.specs.Catalogue.{Limits, Net, Hypergraph, vertices, fixed_entry}
use Rattle.model.specs.Measure.{Contraction, above, is_top, on_board, pin, size, weight, pin_count, gain}
use Rattle.model.specs.Machine.{State}
use Rattle.model.specs.Sale.{Sale, opened}
use Rattle.model.specs.Index.{ranked}
use Rattle.model.specs.Grammar.{Reading, unread, reading, stopped, parse}
use Rattle.model.specs.Engine.{after, outcome}

-- the lent tables, each as the list of its entries. Lots: bales, session, the lot above and whether it is kept. Marks: as loaded, and as they stand.
-- Buyers: first place (from 0), loaded marks and present marks. The index: each lot's other sessions, by gain
pub record Tables : Type 0 where
  pub weights : List ℕ
  pub blocks : List ℕ
  pub aboves : List ℕ
  pub fixed : List ℕ
  pub loaded_pins : List ℕ
  pub present_pins : List ℕ
  pub firsts : List ℕ
  pub loaded_sizes : List ℕ
  pub present_sizes : List ℕ
  pub counts : List ℕ
  pub gains : List ℤ
  pub index : List ℕ
  pub visited : List ℕ

-- lent memory: the output's bytes, and the tables
pub record Memory : Type 0 where
  pub output : List ℕ
  pub tables : Tables

-- ---- lengths
-- the buyers' and the mark tables have their length
unfoldable pub long_lists : Tables → Bool
long_lists t =
    leb 8192 (length t.loaded_pins) && leb 8192 (length t.present_pins)
    && leb 1024 (length t.firsts) && leb 1024 (length t.loaded_sizes) && leb 1024 (length t.present_sizes)

-- no table is short (8): lots, gains and the index go by the entry's limit of lots, the others are kept by buyer
unfoldable pub long_tables : Limits → Tables → Bool
long_tables limits t =
    leb limits.vertex_limit (length t.weights) && leb limits.vertex_limit (length t.blocks) && leb limits.vertex_limit (length t.aboves)
    && leb limits.vertex_limit (length t.fixed)
    && long_lists t
    && leb 16384 (length t.counts) && leb (16 * limits.vertex_limit) (length t.gains)
    && leb (16 * limits.vertex_limit) (length t.index) && leb 1024 (length t.visited)

-- nor is the output
unfoldable pub long_memory : Limits → Memory → Bool
long_memory limits m = leb 60000 (length m.output) && long_tables limits m.tables

-- ---- entries
-- the buyer of a number; none has no marks
abbrev pub no_net : Net
no_net = record { weight = 0; pins = [] }

abbrev pub net : Hypergraph → ℕ → Net
net h e = get_or h.nets (e - 1) no_net

-- marks as loaded: buyer by buyer, in the file's order
unfoldable pub all_pins : List Net → List ℕ
all_pins [] = []
all_pins (e ∷ es) = e.pins ++ all_pins es

-- a buyer's first place, from 0, in both mark tables
unfoldable pub first_place : Hypergraph → ℕ → ℕ
first_place h e = sum_to (e - 1) (λ d. length (net h d).pins)

-- the bales that a lot off the board had when it was joined
unfoldable pub weight_when_gone : Hypergraph → List Contraction → ℕ → ℕ
weight_when_gone h [] v = 0
weight_when_gone h (c ∷ cs) v = cond (eqb c.gone v) (weight h cs v) (weight_when_gone h cs v)

module _ (h : Hypergraph) (cs : List Contraction) (block : ℕ → ℕ) where
  -- a lot's record: bales
  unfoldable pub weight_entry : ℕ → ℕ
  weight_entry v = cond (is_top cs v) (weight h cs v) (weight_when_gone h cs v)

  -- its session, 0 off the board
  unfoldable pub block_entry : ℕ → ℕ
  block_entry v = cond (on_board h cs v) (block v) 0

  -- gains, 0 off the board
  unfoldable pub gain_entry : ℕ → ℕ → ℤ
  gain_entry v b = cond (on_board h cs v) (gain h cs block v b) (pos 0)

  -- the index: place j of a lot's row has its j-th session in the order of choice, and 0 past the last; off the board the row has zeros
  unfoldable pub index_entry : ℕ → ℕ → ℕ
  index_entry v j = cond (on_board h cs v) (get_or (ranked (gain h cs block) v (block v) h.blocks) (j - 1) 0) 0

  -- connectivity set: the visited sessions, one bit each; session b is bit b − 1 counted from the lowest
  unfoldable pub mask : Net → ℕ
  mask e = sum_to h.blocks (λ b. cond (ltb 0 (pin_count h cs block e b)) (2 ^ (b - 1)) 0)

-- each entry in use has its value, and the others keep what they held
pub record Filled {A : Type 0} (none : A) (used : ℕ → Bool) (value : ℕ → A) (old new : List A) : Type 0 where
  pub as_long : length new ≡ length old
  pub entries : (i : ℕ) → i < length old → get_or new i none ≡ cond (used i) (value i) (get_or old i none)

-- a table with one entry for each of n numbers: entry number − 1
abbrev pub Column : ℕ → (ℕ → ℕ) → List ℕ → List ℕ → Type 0
Column n value old new = Filled 0 (λ i. ltb i n) (λ i. value (suc i)) old new

-- a table with 16 entries for each of n numbers, of which k are in use: entry 16 × (number − 1) + session − 1
abbrev pub Grid : {A : Type 0} → A → ℕ → ℕ → (ℕ → ℕ → A) → List A → List A → Type 0
Grid none n k value old new = Filled none (λ i. ltb (i / 16) n && ltb (i % 16) k) (λ i. value (suc (i / 16)) (suc (i % 16))) old new

-- the marks that joins took out of a buyer's present set, the last one first: of a join between two of its marks, the lot that went
unfoldable pub taken_out : List Contraction → Net → List ℕ
taken_out [] e = []
taken_out (c ∷ cs) e = cond (pin cs e c.into && pin cs e c.gone) (c.gone ∷ taken_out cs e) (taken_out cs e)

-- a place of a mark table past the last mark: it keeps what it held, and once an X or N has been accepted it holds 0 up to the 8,192nd (M-111)
unfoldable pub past_marks : Bool → List ℕ → ℕ → ℕ
past_marks changed old i = cond (changed && ltb i 8192) 0 (get_or old i 0)

-- marks as loaded, buyer by buyer
pub record Loaded (h : Hypergraph) (changed : Bool) (old new : List ℕ) : Type 0 where
  pub as_long : length new ≡ length old
  pub marks : (i : ℕ) → i < length (all_pins h.nets) → get_or new i 0 ≡ get_or (all_pins h.nets) i 0
  pub past : (i : ℕ) → length (all_pins h.nets) ≤ i → i < length old → get_or new i 0 ≡ past_marks changed old i

-- marks as they stand. In a buyer's stretch each present mark stands once and no other number does, the lowest first; the places past that
-- set within the loaded stretch hold the marks that joins took out
pub record Pins (h : Hypergraph) (changed : Bool) (cs : List Contraction) (old new : List ℕ) : Type 0 where
  pub as_long : length new ≡ length old
  pub sets : (e v : ℕ) → 1 ≤ e → e ≤ length h.nets → occ new (first_place h e) (size h cs (net h e)) v ≡ one (pin cs (net h e) v)
  pub rising : (e i j : ℕ) → 1 ≤ e → e ≤ length h.nets → i < j → j < size h cs (net h e) → get_or new (first_place h e + i) 0 < get_or new (first_place h e + j) 0
  pub whole : (e : ℕ) → 1 ≤ e → e ≤ length h.nets → size h cs (net h e) + length (taken_out cs (net h e)) ≡ length (net h e).pins
  pub taken : (e i : ℕ) → 1 ≤ e → e ≤ length h.nets → i < length (taken_out cs (net h e)) → get_or new (first_place h e + (size h cs (net h e) + i)) 0 ≡ get_or (taken_out cs (net h e)) i 0
  pub past : (i : ℕ) → length (all_pins h.nets) ≤ i → i < length old → get_or new i 0 ≡ past_marks changed old i

-- what the tables hold for a catalogue, which an X or N has changed or none has, and a state of the machine, where `old` is what they held before the file
-- was read
pub record HoldsFor (changed : Bool) (h : Hypergraph) (s : State) (old new : Tables) : Type 0 where
  pub weights : Column (vertices h) (weight_entry h s.stack s.block) old.weights new.weights
  pub blocks : Column (vertices h) (block_entry h s.stack s.block) old.blocks new.blocks
  pub aboves : Column (vertices h) (above s.stack) old.aboves new.aboves
  pub fixed : Column (vertices h) (fixed_entry h) old.fixed new.fixed
  pub loaded_pins : Loaded h changed old.loaded_pins new.loaded_pins
  pub present_pins : Pins h changed s.stack old.present_pins new.present_pins
  pub firsts : Column (length h.nets) (first_place h) old.firsts new.firsts
  pub loaded_sizes : Column (length h.nets) (λ e. length (net h e).pins) old.loaded_sizes new.loaded_sizes
  pub present_sizes : Column (length h.nets) (λ e. size h s.stack (net h e)) old.present_sizes new.present_sizes
  pub counts : Grid 0 (length h.nets) h.blocks (λ e b. pin_count h s.stack s.block (net h e) b) old.counts new.counts
  pub gains : Grid (pos 0) (vertices h) h.blocks (gain_entry h s.stack s.block) old.gains new.gains
  pub index : Grid 0 (vertices h) h.blocks (index_entry h s.stack s.block) old.index new.index
  pub visited : Column (length h.nets) (λ e. mask h s.stack s.block (net h e)) old.visited new.visited

-- what they hold for a sale
abbrev pub Holds : Sale → Tables → Tables → Type 0
Holds a old new = HoldsFor a.changed a.graph a.state old new

-- ---- a buyer's marks, handed out
-- a stretch of a table: its first place and how many places it has
pub record Part : Type 0 where
  pub from : ℕ
  pub size : ℕ

-- what stands in a stretch
abbrev pub part_of : List ℕ → Part → List ℕ
part_of table p = take p.size (drop p.from table)

-- the stretch of a buyer's loaded marks (false) or present marks (true); the empty stretch at the table's start for a buyer number of 0
-- or above 1,024, a buyers table or either mark table below its length, or a stretch that reaches past its table
unfoldable pub handed_out : Tables → Bool → ℕ → Part
handed_out t present e =
    let from : ℕ = get_or t.firsts (e - 1) 0 in
    let size : ℕ = get_or (cond present t.present_sizes t.loaded_sizes) (e - 1) 0 in
    let table : List ℕ = cond present t.present_pins t.loaded_pins in
    cond (leb 1 e && leb e 1024 && long_lists t && leb (from + size) (length table)) (record { from = from; size = size }) (record { from = 0; size = 0 })

-- ---- what the engine leaves
-- the output begins with the report, and keeps what it held past it
pub record Written (report old new : List ℕ) (written : ℕ) : Type 0 where
  pub bytes : written ≡ length report
  pub output : new ≡ report ++ drop written old

-- after an accepted file all tables are told; after 1 to 7 and 21 they are free
abbrev pub TablesLeft : Limits → Reading → Tables → Tables → Type 0
TablesLeft limits (reading k) old new = Holds (after limits (opened k.graph) k.calls) old new
TablesLeft limits (stopped q n) old new = Unit {0}
TablesLeft limits unread old new = Unit {0}

-- 0, 1 to 7 or 21: the code, the output and the tables
pub record Worked (limits : Limits) (r : Reading) (old new : Memory) (code written : ℕ) : Type 0 where
  pub code_is : code ≡ (outcome limits r).code
  pub output : Written (outcome limits r).report old.output new.output written
  pub tables : TablesLeft limits r old.tables new.tables

-- 8 touches nothing and reports 0 bytes written
pub record Untouched (old new : Memory) (code written : ℕ) : Type 0 where
  pub code_is : code ≡ 8
  pub nothing : written ≡ 0
  pub kept : new ≡ old

-- the engine's promise, by whether lent memory is long enough (8 is tested first)
abbrev pub Served : Limits → Bool → Reading → Memory → Memory → ℕ → ℕ → Type 0
Served limits false r old new code written = Untouched old new code written
Served limits true r old new code written = Worked limits r old new code written

-- the engine on a file and lent memory: its return and all lent memory at exit
abbrev pub Serves : Limits → List ℕ → Memory → Memory → ℕ → ℕ → Type 0
Serves limits file old new code written = Served limits (long_memory limits old) (parse limits file) old new code written
