-- The sets that a hall's closing reports are read from, and the reports one after another, counted from the first. Rests on report's Closing and on
-- model's Hall. Assumes nothing.
use Rattle.std.specs.Prelude.{ℕ, ◌+◌, ◌<◌, ◌≤◌, ◌≡◌, List, [], length, get_or}
use Rattle.model.specs.Catalogue.{Limits, Hypergraph}
use Rattle.model.specs.Machine.{State}
use Rattle.model.specs.Sale.{Sale}
use Rattle.model.specs.Report.{closing}
use Rattle.model.specs.Engine.{draft_total}
use Rattle.model.specs.Memory.{Tables as MemoryTables}
use Rattle.model.specs.Hall.{no_desk, closings}
use Rattle.loader.specs.declared.Sizes.{Sizes}
use Rattle.report.specs.Closing.{Ended, ClosingFits}
use Rattle.memory.specs.Close.{ended}
use Rattle.call_list.specs.declared.course.Course.{Course}
use Rattle.call_list.specs.Point.{GoesOn}
use Rattle.hall_step.specs.Sets.{Own, point_in}
use Rattle.hall_opening.specs.Opening.{no_sizes, no_course}

-- ---- one set
-- the set c and its course show the state; `draft` is any number
abbrev pub EndedIn : Hypergraph → State → ℕ → List (List ℕ) → List (List ℕ) → List (List ℕ) → Course → ℕ → ℕ → Type 0
EndedIn h s c blocks aboves visited course m draft = Ended h s (get_or blocks c []) (get_or aboves c []) (get_or visited c []) course.stack.gone course.n m course.stack.len draft course.total

pub record Whole (blocks aboves visited : List (List ℕ)) : Type 0 where
  pub blocks-long : 4 ≤ length blocks
  pub aboves-long : 4 ≤ length aboves
  pub visited-long : 4 ≤ length visited

pub record CanCloseSet (room at c : ℕ) (blocks aboves visited : List (List ℕ)) (course : Course) (m draft : ℕ) : Type 0 where
  pub whole : Whole blocks aboves visited
  pub known : c < 4
  pub fits : ClosingFits room at (get_or blocks c []) (get_or aboves c []) (get_or visited c []) course.stack.gone course.n m course.stack.len draft course.total

-- a set that stands for a sale is one that its report is read from
pub goes-ended : {limits : Limits} {a : Sale} {old : MemoryTables} {draft : ℕ} (Y : Own) (netweights : List ℕ) (m k : ℕ) (course : Course) → GoesOn limits a old (point_in Y netweights m k course)
    → Ended a.graph a.state Y.blocks Y.aboves Y.visited course.stack.gone course.n m course.stack.len draft course.total
goes-ended Y netweights m k course g = ended g.stands.runs

-- ---- the first sets
-- the report of the catalogue c, counted from 0, behind its draft's total
abbrev pub closing_at : List Hypergraph → List Sale → ℕ → List ℕ
closing_at hs ds c = closing (draft_total (get_or hs c no_desk.graph)) (get_or ds c no_desk).graph (get_or ds c no_desk).state

-- the first `count` sets stand for the sales ds, which were opened with the catalogues hs
pub record Close (count : ℕ) (hs : List Hypergraph) (ds : List Sale) (blocks aboves visited : List (List ℕ)) (courses : List Course) (sizes : List Sizes) (drafts : List ℕ) : Type 0 where
  pub catalogues : length hs ≡ count
  pub desks : length ds ≡ count
  pub ended : (c : ℕ) → c < count → EndedIn (get_or ds c no_desk).graph (get_or ds c no_desk).state c blocks aboves visited (get_or courses c no_course) (get_or sizes c no_sizes).nets (get_or drafts c 0)
  pub drafts-are : (c : ℕ) → c < count → get_or drafts c 0 ≡ draft_total (get_or hs c no_desk.graph)

-- and all their reports fit
pub record CanCloseSets (room at count : ℕ) (blocks aboves visited : List (List ℕ)) (courses : List Course) (sizes : List Sizes) (drafts : List ℕ) : Type 0 where
  pub whole : Whole blocks aboves visited
  pub few : count ≤ 4
  pub hs : List Hypergraph
  pub ds : List Sale
  pub close : Close count hs ds blocks aboves visited courses sizes drafts
  pub fits : at + length (closings hs ds) ≤ room
