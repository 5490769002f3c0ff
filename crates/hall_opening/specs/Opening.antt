-- What opening needs and promises of one catalogue's tables, of one set among several, and of the first sets in turn. Rests on Filled and on call_list's Opened.
-- Assumes nothing.
use Rattle.std.specs.Prelude.{ℕ, ◌<◌, ◌≤◌, ◌≡◌, List, [], length, get_or}
use Rattle.model.specs.Catalogue.{Limits}
use Rattle.model.specs.Sale.{opened}
use Rattle.model.specs.Lent.{Lists, lent}
use Rattle.index.specs.Indexed.{Indexed}
use Rattle.loader.specs.Tables.{sizes_of, graph}
use Rattle.loader.specs.declared.Sizes.{Sizes}
use Rattle.opening.specs.Opening.{Opened}
use Rattle.call_list.specs.declared.course.Course.{Course}
use Rattle.call_list.specs.Start.{Starts}
use Rattle.call_list.specs.Point.{GoesOn}
use Rattle.call_list.specs.Opened.{Prepared, Blank, goes}
use Rattle.hall_step.specs.Sets.{point_in}
use Rattle.hall_opening.specs.Filled.{Filled, Fills, Read, Reads, Spared, filled_of, read_of, put_filled, lists_of, set_with, Whole}

-- ---- one catalogue's tables
-- a catalogue was loaded into them: `old` held what its lists held before
abbrev pub PreparedBy : Limits → Sizes → Lists → Spared → List ℕ → Filled → Read → Type 0
PreparedBy limits z old S lows Y G = Prepared limits z old (lists_of G S) G.netweights lows Y.counts Y.gains Y.index Y.visited

-- the engine's own bitset and loads are as it makes them, and the rest is some loaded catalogue's
pub record CanOpen (z : Sizes) (Y : Filled) (G : Read) : Type 0 where
  pub limits : Limits
  pub old : Lists
  pub spared : Spared
  pub lows : List ℕ
  pub prepared : PreparedBy limits z old spared lows Y G
  pub blank : Blank Y.bits
  pub loads-len : length Y.loads ≡ 16

-- whatever catalogue was loaded, they stand for it before any call
pub record Opens (z : Sizes) (Y Y' : Filled) (G : Read) (course : Course) : Type 0 where
  pub goes : (limits : Limits) (old : Lists) (S : Spared) (lows : List ℕ) → PreparedBy limits z old S lows Y G
      → GoesOn limits (opened (graph z (lists_of G S) G.netweights lows)) (lent old Y.counts Y.gains Y.index Y.visited) (point_in (set_with Y' G S) G.netweights z.nets z.blocks course)
  pub at-start : course.at ≡ 0

pub opens : {z : Sizes} {Y Y' : Filled} {G : Read} {draft : ℕ} {course : Course} → Blank Y.bits
    → Opened G.presentpins G.blocks G.firsts G.presentsizes G.weights G.netweights z.vertices z.nets z.blocks Y.bits Y'.bits Y.counts Y'.counts Y.visited Y'.visited Y.gains Y'.gains Y'.loads draft
    → Indexed Y'.gains G.blocks z.vertices z.blocks Y.index Y'.index → Starts G.fixed z.vertices z.pins draft course → Opens z Y Y' G course
opens b o x f = record { goes = λ limits old S lows g. goes g b o x f; at-start = f.at-start }

-- ---- the set c
pub record CanOpenSet (c : ℕ) (z : Sizes) (F : Fills) (G : Reads) : Type 0 where
  pub whole : Whole F G
  pub known : c < 4
  pub can : CanOpen z (filled_of c F) (read_of c G)

pub record OpensSet (c : ℕ) (z : Sizes) (F F' : Fills) (G : Reads) (course : Course) : Type 0 where
  pub after : Filled
  pub put : F' ≡ put_filled c after F
  pub opens : Opens z (filled_of c F) after (read_of c G) course

-- ---- the first sets
-- past the last
abbrev pub no_sizes : Sizes
no_sizes = sizes_of 0 0 0 0 0 0 0

abbrev pub no_course : Course
no_course = record { stack = record { into = []; gone = []; len = 0 }; journal = record { vertices = []; blocks = []; len = 0 }; free = record { numbers = []; len = 0 }; fixedmarks = []; n = 0; marks = 0; total = 0; at = 0 }

pub record CanOpenSets (count : ℕ) (sizes : List Sizes) (F : Fills) (G : Reads) : Type 0 where
  pub whole : Whole F G
  pub few : count ≤ 4
  pub can : (c : ℕ) → c < count → CanOpen (get_or sizes c no_sizes) (filled_of c F) (read_of c G)

-- each of the first `count`; sets without a catalogue keep what they held
pub record OpensSets (count : ℕ) (sizes : List Sizes) (F F' : Fills) (G : Reads) (courses : List Course) : Type 0 where
  pub courses-four : length courses ≡ 4
  pub opens : (c : ℕ) → c < count → Opens (get_or sizes c no_sizes) (filled_of c F) (filled_of c F') (read_of c G) (get_or courses c no_course)
  pub kept : (c : ℕ) → count ≤ c → filled_of c F' ≡ filled_of c F
