-- What loading leaves in lent memory: for an accepted catalogue, exactly what document 01's "Lent memory" says before any call. What is promised of a
-- catalogue names no file: a sale's and a hall's both give it. Rests on model's Memory and Through and on reader. Assumes nothing.
use Rattle.std.specs.Prelude.{ℕ, ◌+◌, ◌≤◌, ◌≡◌, Bool, true, false, List, [], ltb, length, get_or, Result, Ok, Err}
use Rattle.std.proofs.Math.Seq.{slice}
use Rattle.laws.specs.Fold.{sum_over}
use Rattle.model.specs.Catalogue.{Limits, Hypergraph, vertices, fixed_entry, drafted, average_weight, capacity, capacities}
use Rattle.laws.specs.Choice.{one}
use Rattle.laws.specs.Occurrence.{occ}
use Rattle.model.specs.Measure.{above, pin, size}
use Rattle.model.specs.Grammar.{Reading, unread, reading, stopped, parts, parse}
use Rattle.model.specs.Through.{Stage, ended, refused, through}
use Rattle.model.specs.Memory.{Filled, Column, Pins, net, all_pins, first_place, weight_entry, block_entry}
use Rattle.model.specs.Lent.{Lists, calls_of}
use Rattle.model.specs.ListEntry.{entries_to}
use Rattle.guarantees.specs.Caps.{Capped}
use Rattle.guarantees.specs.Ranges.{Ranges}
use Rattle.pins.specs.Sorting.{SortedTo}
use Rattle.lines.specs.Line.{book, InRange}
use Rattle.reader.specs.Whole.{graph_of}
use Rattle.loader.specs.declared.Sizes.{Sizes}
use Rattle.loader.specs.declared.LoadedCatalogue.{LoadedCatalogue}
use Rattle.loader.specs.declared.Loaded.{Loaded}
use Rattle.refusal.specs.declared.Refused.{Refused}
use Rattle.refusal.specs.Number.{number_of}

-- the lists have the lengths of document 01, lots by the entry's limit
pub record LongLists (v : ℕ) (t : Lists) : Type 0 where
  pub weights : v ≤ length t.weights
  pub blocks : v ≤ length t.blocks
  pub aboves : v ≤ length t.aboves
  pub fixed : v ≤ length t.fixed
  pub loaded_pins : 8192 ≤ length t.loaded_pins
  pub present_pins : 8192 ≤ length t.present_pins
  pub firsts : 1024 ≤ length t.firsts
  pub loaded_sizes : 1024 ≤ length t.loaded_sizes
  pub present_sizes : 1024 ≤ length t.present_sizes

-- the first m marks as loaded, then each of b buyers' put in order
pub record InOrder (lp sizes : List ℕ) (b m : ℕ) (pp₀ pp : List ℕ) : Type 0 where
  pub copy : List ℕ
  pub copied : Filled 0 (λ i. ltb i m) (λ i. get_or lp i 0) pp₀ copy
  pub sorted : SortedTo copy pp sizes b

-- what the lists hold for a fresh machine over h; entries that h has no use for keep what they held
pub record Started (h : Hypergraph) (old new : Lists) : Type 0 where
  pub weights : Column (vertices h) (weight_entry h [] (drafted h)) old.weights new.weights
  pub blocks : Column (vertices h) (block_entry h [] (drafted h)) old.blocks new.blocks
  pub aboves : Column (vertices h) (above []) old.aboves new.aboves
  pub fixed : Column (vertices h) (fixed_entry h) old.fixed new.fixed
  pub loaded_pins : Filled 0 (λ i. ltb i (length (all_pins h.nets))) (λ i. get_or (all_pins h.nets) i 0) old.loaded_pins new.loaded_pins
  pub loaded_often : (e v : ℕ) → 1 ≤ e → e ≤ length h.nets → occ new.loaded_pins (first_place h e) (size h [] (net h e)) v ≡ one (pin [] (net h e) v)
  pub present_pins : Pins h false [] old.present_pins new.present_pins
  pub firsts : Column (length h.nets) (first_place h) old.firsts new.firsts
  pub loaded_sizes : Column (length h.nets) (λ e. length (net h e).pins) old.loaded_sizes new.loaded_sizes
  pub present_sizes : Column (length h.nets) (λ e. size h [] (net h e)) old.present_sizes new.present_sizes

-- sizes by their parts
abbrev pub sizes_of : ℕ → ℕ → ℕ → ℕ → ℕ → ℕ → ℕ → Sizes
sizes_of l b k t m a c = record { vertices = l; nets = b; blocks = k; imbalance = t; pins = m; average = a; capacity = c }

-- the catalogue that sizes, lists, net weights and lows show
abbrev pub graph : Sizes → Lists → List ℕ → List ℕ → Hypergraph
graph z t nw lo = graph_of z.vertices z.nets z.blocks z.imbalance t.weights t.blocks t.fixed nw lo t.firsts t.loaded_sizes t.loaded_pins

-- ---- a catalogue
-- an accepted catalogue: sizes in range and as the tables have them, the catalogue within every range, net weights of 1,024 entries, the capacity and ⌈W/k⌉,
-- no session above its cap, the lists
pub record Accepts (limits : Limits) (z : Sizes) (old new : Lists) (nw lo : List ℕ) : Type 0 where
  pub range : InRange limits z.vertices z.nets z.blocks z.imbalance
  pub pins-le : z.pins ≤ limits.pin_limit
  pub costs : length nw ≡ 1024
  pub ranges : Ranges limits (graph z new nw lo)
  pub vertices-are : vertices (graph z new nw lo) ≡ z.vertices
  pub nets-are : length (graph z new nw lo).nets ≡ z.nets
  pub pins-are : sum_over (graph z new nw lo).nets (λ e. length e.pins) ≡ z.pins
  pub average : z.average ≡ average_weight (graph z new nw lo)
  pub capacity : z.capacity ≡ capacity (graph z new nw lo)
  pub capped : Capped (graph z new nw lo) (capacities (graph z new nw lo)) [] (drafted (graph z new nw lo))
  pub started : Started (graph z new nw lo) old new

-- what the answer and the tables say of a catalogue whose first line is line n: the catalogue, the next line's number, and what is left from there on
abbrev pub catalogue_seen : ℕ → List ℕ → Bool → Result LoadedCatalogue Refused → Lists → List ℕ → List ℕ → Stage
catalogue_seen n file estimated (Ok a) t nw lo = ended (book estimated a.sizes.vertices a.sizes.nets (graph a.sizes t nw lo) a.sizes.pins []) (n + 1 + a.sizes.vertices + a.sizes.nets) (parts 10 (slice a.end (length file) file))
catalogue_seen n file estimated (Err e) t nw lo = refused (number_of e.refusal) e.line

-- the promise of a catalogue, a sale's or an estimate's, that begins at place `at` with line n: model's grammar on the same lines, and the tables
pub record LoadsCatalogue (limits : Limits) (n : ℕ) (file : List ℕ) (at : ℕ) (r : Result LoadedCatalogue Refused) (old new : Lists) (nw lo : List ℕ) : Type 0 where
  pub estimated : Bool
  pub says : catalogue_seen n file estimated r new nw lo ≡ through limits n unread (parts 10 (slice at (length file) file))
  pub inside : (a : LoadedCatalogue) → r ≡ Ok a → a.end ≤ length file
  pub accepts : (a : LoadedCatalogue) → r ≡ Ok a → Accepts limits a.sizes old new nw lo

-- ---- a sale's file
-- n calls: each three numbers of the table are a call, whose operands are there
pub record CallsKnown (n : ℕ) (calls ops : List ℕ) : Type 0 where
  pub calls-le : n ≤ 512
  pub known : length (calls_of ops n calls) ≡ n
  pub entries : entries_to (length ops) n calls ≡ true

-- what the loader's answer and the tables say
abbrev pub seen : Bool → Result Loaded Refused → Lists → List ℕ → List ℕ → List ℕ → List ℕ → Reading
seen estimated (Ok a) t nw lo calls ops = reading (book estimated a.sizes.vertices a.sizes.nets (graph a.sizes t nw lo) a.sizes.pins (calls_of ops a.calls calls))
seen estimated (Err e) t nw lo calls ops = stopped (number_of e.refusal) e.line

-- the loader's promise: model's grammar on the same bytes, a sale's or an estimate's, and the tables of an accepted file
pub record Loads (limits : Limits) (file : List ℕ) (r : Result Loaded Refused) (old new : Lists) (nw lo calls ops : List ℕ) : Type 0 where
  pub estimated : Bool
  pub says : seen estimated r new nw lo calls ops ≡ parse limits file
  pub accepts : (a : Loaded) → r ≡ Ok a → Accepts limits a.sizes old new nw lo
  pub calls-known : (a : Loaded) → r ≡ Ok a → CallsKnown a.calls calls ops
