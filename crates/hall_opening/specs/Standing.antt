-- What opening promises, said of a hall's sets: each stands for its catalogue as loaded, with the draft's total, and one without a catalogue is as it was.
-- Rests on Opening, on hall_step's Sets and on memory's Close. Assumes nothing.
use Rattle.std.specs.Prelude.{ℕ, ◌<◌, ◌≤◌, ◌≡◌, List, [], get_or}
use Rattle.std.proofs.Common.{ap}
use Rattle.model.specs.Catalogue.{Limits, Hypergraph}
use Rattle.model.specs.Machine.{fresh}
use Rattle.model.specs.Sale.{opened}
use Rattle.model.specs.Engine.{draft_total}
use Rattle.model.specs.Memory.{Tables as MemoryTables}
use Rattle.model.specs.Lent.{Lists, lent}
use Rattle.loader.specs.Tables.{graph}
use Rattle.loader.specs.declared.Sizes.{Sizes}
use Rattle.memory.specs.Close.{draft-is}
use Rattle.call_list.specs.declared.course.Course.{Course}
use Rattle.call_list.specs.Point.{Point, GoesOn}
use Rattle.hall_step.specs.Sets.{Sets, sets, set_of, point_in}
use Rattle.hall_opening.specs.Filled.{Filled, Fills, Reads, Spared, filled_of, read_of, lists_of, set_with}
use Rattle.hall_opening.specs.Opening.{PreparedBy, no_sizes, no_course, OpensSets}

-- all tables, with those that opening neither fills nor reads
abbrev pub sets_with : Fills → Reads → List (List ℕ) → List (List ℕ) → List (List ℕ) → Sets
sets_with F G aboves loadedpins loadedsizes = sets F.counts F.visited F.gains F.index G.presentpins G.presentsizes F.bits G.blocks G.weights aboves G.fixed F.loads loadedpins G.firsts loadedsizes

abbrev pub spared_of : ℕ → List (List ℕ) → List (List ℕ) → List (List ℕ) → Spared
spared_of c aboves loadedpins loadedsizes = record { aboves = get_or aboves c []; loadedpins = get_or loadedpins c []; loadedsizes = get_or loadedsizes c [] }

module _ {count : ℕ} {sizes : List Sizes} {F F' : Fills} {G : Reads} {courses : List Course} (o : OpensSets count sizes F F' G courses) (aboves loadedpins loadedsizes : List (List ℕ)) where
  abbrev spared : ℕ → Spared
  spared c = spared_of c aboves loadedpins loadedsizes

  pub set-goes : (c : ℕ) → c < count → (limits : Limits) (old : Lists) (lows : List ℕ) → PreparedBy limits (get_or sizes c no_sizes) old (spared c) lows (filled_of c F) (read_of c G)
      → GoesOn limits (opened (graph (get_or sizes c no_sizes) (lists_of (read_of c G) (spared c)) (get_or G.netweights c []) lows))
      (lent old (get_or F.counts c []) (get_or F.gains c []) (get_or F.index c []) (get_or F.visited c []))
      (point_in (set_of c (sets_with F' G aboves loadedpins loadedsizes)) (get_or G.netweights c []) (get_or sizes c no_sizes).nets (get_or sizes c no_sizes).blocks (get_or courses c no_course))
  set-goes c l limits old lows g = (o.opens c l).goes limits old (spared c) lows g

  pub set-kept : (c : ℕ) → count ≤ c → set_of c (sets_with F' G aboves loadedpins loadedsizes) ≡ set_of c (sets_with F G aboves loadedpins loadedsizes)
  set-kept c l = ap (λ (Y : Filled). set_with Y (read_of c G) (spared c)) (o.kept c l)

-- a set that stands for a catalogue as loaded has its draft's total
pub draft-total : {limits : Limits} {old : MemoryTables} {p : Point} (h : Hypergraph) → GoesOn limits (opened h) old p → p.stock.tables.total ≡ draft_total h
unfolding fresh
draft-total h g = draft-is g.stands.runs.sound
