-- The catalogues that sizes and sets of tables show, and what loading them one after another promises. Rests on Sets and on loader's promise of a catalogue.
-- Assumes nothing.
use Rattle.std.specs.Prelude.{ℕ, zero, suc, ◌-◌, ◌≤◌, ◌<◌, ◌≡◌, Bool, cond, List, [], ◌∷◌, ◌++◌, length, get_or, Result, Ok, Err}
use Rattle.std.proofs.Math.Seq.{slice}
use Rattle.model.specs.Catalogue.{Limits, main_limits}
use Rattle.model.specs.Grammar.{Book, unread, parts}
use Rattle.model.specs.HallText.{HallBook, HallReading, in_catalogue, in_calls, hall_stopped, limits_left, graphs, drafts_over, hall_lines}
use Rattle.lines.specs.Line.{book}
use Rattle.lines.specs.declared.Limits.{Limits as Given}
use Rattle.loader.specs.Tables.{sizes_of, graph, Accepts, LoadsCatalogue}
use Rattle.loader.specs.declared.Sizes.{Sizes}
use Rattle.loader.specs.declared.LoadedCatalogue.{LoadedCatalogue}
use Rattle.hall_lines.specs.Heading.{hall_book}
use Rattle.hall_loader.specs.Sets.{Set, Sets, set_of, put_set, Whole, Wide}
use Rattle.hall_loader.specs.declared.Catalogues.{Catalogues}
use Rattle.refusal.specs.declared.Refused.{Refused}
use Rattle.refusal.specs.Number.{number_of}

-- ---- one catalogue, into the set c
pub record OneLoaded (limits : Limits) (n : ℕ) (file : List ℕ) (at c : ℕ) (r : Result LoadedCatalogue Refused) (old new : Sets) : Type 0 where
  pub after : Set
  pub loads : LoadsCatalogue limits n file at r (set_of c old).lists after.lists after.costs after.lows
  pub put : new ≡ put_set c after old

-- what a catalogue leaves of the limits
pub record CanSubtract (limits : Given) (z : Sizes) : Type 0 where
  pub lots : z.vertices ≤ limits.lots
  pub buyers : z.nets ≤ limits.buyers
  pub marks : z.pins ≤ limits.marks
  pub few : limits.marks ≤ 8192

abbrev pub limits_after : Given → Sizes → Given
limits_after limits z = record { lots = limits.lots - z.vertices; sessions = limits.sessions; buyers = limits.buyers - z.nets; marks = limits.marks - z.pins }

-- ---- the catalogues of all sets
-- the sizes of a set without a catalogue
abbrev pub no_sizes : Sizes
no_sizes = sizes_of 0 0 0 0 0 0 0

-- the catalogue that sizes and a set show, a sale's or an estimate's
abbrev pub book_in : Bool → Sizes → Set → Book
book_in estimated z t = book estimated z.vertices z.nets (graph z t.lists t.costs t.lows) z.pins []

-- the first c catalogues; whether each is an estimate
unfoldable pub books_to : (ℕ → Bool) → List Sizes → Sets → ℕ → List Book
books_to estimated zs H zero = []
books_to estimated zs H (suc c) = books_to estimated zs H c ++ (book_in (estimated c) (get_or zs c no_sizes) (set_of c H) ∷ [])

-- an accepted catalogue in a set
abbrev pub AcceptsSet : Limits → Sizes → Set → Set → Type 0
AcceptsSet limits z old new = Accepts limits z old.lists new.lists new.costs new.lows

-- within what the catalogues before it leave, and so within document 01's ranges
pub record AcceptsIn (estimated : ℕ → Bool) (zs : List Sizes) (old new : Sets) (c : ℕ) : Type 0 where
  pub near : AcceptsSet (limits_left (books_to estimated zs new c)) (get_or zs c no_sizes) (set_of c old) (set_of c new)
  pub wide : AcceptsSet main_limits (get_or zs c no_sizes) (set_of c old) (set_of c new)

-- all catalogues are there: 24, or the call lines follow
abbrev pub complete : ℕ → HallBook → HallReading
complete n K = cond (drafts_over K.limit (graphs K)) (hall_stopped 24 n) (in_calls K)

-- what the answer and the sets say of `count` catalogues
abbrev pub catalogues_seen : ℕ → ℕ → List ℕ → (ℕ → Bool) → Result Catalogues Refused → Sets → HallReading
catalogues_seen count limit s estimated (Ok a) H = hall_lines a.line (complete (a.line - 1) (hall_book count limit (books_to estimated a.sizes H count) [])) (parts 10 (slice a.end (length s) s))
catalogues_seen count limit s estimated (Err e) H = hall_stopped (number_of e.refusal) e.line

-- the place and the line behind the last catalogue
pub record Behind (s : List ℕ) (i n : ℕ) : Type 0 where
  pub inside : i ≤ length s
  pub low : 2 ≤ n
  pub high : n ≤ 4096

pub record CanLoad (s : List ℕ) (at count : ℕ) (H : Sets) : Type 0 where
  pub at-le : at ≤ length s
  pub some : 1 ≤ count
  pub few : count ≤ 4
  pub whole : Whole H
  pub wide : Wide 0 H

-- the catalogues, of which the first begins at place `at` with the second line; sets without a catalogue keep what they held
pub record CataloguesLoaded (count : ℕ) (s : List ℕ) (at : ℕ) (r : Result Catalogues Refused) (old new : Sets) : Type 0 where
  pub estimated : ℕ → Bool
  pub says : (limit : ℕ) → catalogues_seen count limit s estimated r new ≡ hall_lines 2 (in_catalogue (hall_book count limit [] []) unread) (parts 10 (slice at (length s) s))
  pub behind : (a : Catalogues) → r ≡ Ok a → Behind s a.end a.line
  pub sizes-long : (a : Catalogues) → r ≡ Ok a → length a.sizes ≡ 4
  pub accepts : (a : Catalogues) → r ≡ Ok a → (c : ℕ) → c < count → AcceptsIn estimated a.sizes old new c
  pub kept : (c : ℕ) → count ≤ c → set_of c new ≡ set_of c old
