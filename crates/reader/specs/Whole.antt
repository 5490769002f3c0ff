-- The phases joined: what a catalogue's lines are read as, from any place and line of a file. Rests on Seen and Buyers. Assumes nothing.
use Rattle.std.specs.Prelude.{ℕ, ◌+◌, ◌-◌, ◌/◌, ◌≤◌, ◌≡◌, Bool, List, [], length, Result, Ok, Err}
use Rattle.std.proofs.Math.Seq.{slice}
use Rattle.laws.specs.Fold.{sum_over}
use Rattle.model.specs.Catalogue.{Limits, main_limits, Net, Hypergraph}
use Rattle.model.specs.Grammar.{unread, reading, parts, grown, overfull}
use Rattle.model.specs.Through.{Stage, ended, refused, through}
use Rattle.lines.specs.Line.{book, InRange, Past}
use Rattle.lines.specs.Mark.{Fresh}
use Rattle.reader.specs.Seen.{lots_graph}
use Rattle.reader.specs.Buyers.{nets_of, with_nets, Laid}
use Rattle.reader.specs.declared.Nets.{Nets}
use Rattle.reader.specs.declared.Catalogue.{Catalogue}
use Rattle.refusal.specs.declared.Refused.{Refused}
use Rattle.refusal.specs.Number.{number_of}

-- the lengths that the tables must have, where l lots and so many marks may come
pub record Long (l most : ℕ) (w d nw lo f c marks : List ℕ) : Type 0 where
  pub l_le : l ≤ 1024
  pub w-len : l ≤ length w
  pub d-len : l ≤ length d
  pub nw-len : length nw ≡ 1024
  pub lo-len : length lo ≡ 1024
  pub f-len : 1024 ≤ length f
  pub c_len : 1024 ≤ length c
  pub few : most ≤ 8192
  pub wide : most ≤ length marks

-- what a function that runs after the lot lines presumes
pub record Ready (s : List ℕ) (at most l b k t : ℕ) (w d nw lo f c marks stamps : List ℕ) : Type 0 where
  pub at-le : at ≤ length s
  pub range : InRange main_limits l b k t
  pub long : Long l most w d nw lo f c marks
  pub slen : length stamps ≡ 1024
  pub fresh : Fresh 1 stamps

-- ⌈W/k⌉ of a list of weights
abbrev pub average_of : ℕ → List ℕ → ℕ
average_of k ws = (sum_over ws (λ w. w) + (k - 1)) / k

-- a session of the draft is above the cap of the lows, whichever lots are kept and whoever the buyers are
abbrev pub overfull_is : ℕ → ℕ → ℕ → List ℕ → List ℕ → List ℕ → Bool → Type 0
overfull_is l k t w d lo r = (fx : List ℕ) (ns : List Net) → r ≡ overfull (with_nets (lots_graph k t l w d fx lo) ns)

-- the whole catalogue of the tables
abbrev pub graph_of : ℕ → ℕ → ℕ → ℕ → List ℕ → List ℕ → List ℕ → List ℕ → List ℕ → List ℕ → List ℕ → List ℕ → Hypergraph
graph_of l b k t w d fx nw lo f c marks = with_nets (lots_graph k t l w d fx lo) (nets_of b nw f c marks)

-- a catalogue read to its end, whose last lot's line is line p: the next line's number, and what is left from there on
abbrev pub body_seen : ℕ → List ℕ → Bool → ℕ → ℕ → Hypergraph → Result Nets Refused → List ℕ → List ℕ → List ℕ → List ℕ → Stage
body_seen p s estimated l b h (Ok a) nw f c marks = ended (book estimated l b (with_nets h (nets_of b nw f c marks)) a.pins []) (p + 1 + b) (parts 10 (slice a.end (length s) s))
body_seen p s estimated l b h (Err e) nw f c marks = refused (number_of e.refusal) e.line

-- what follows the lot lines
pub record NetsRead (p : ℕ) (s : List ℕ) (at most l b k t : ℕ) (r : Result Nets Refused) (w d lo f₀ c₀ marks₀ nw f c marks : List ℕ) : Type 0 where
  pub inside : (a : Nets) → r ≡ Ok a → a.end ≤ length s
  pub nw-len : (a : Nets) → r ≡ Ok a → length nw ≡ 1024
  pub laid : (a : Nets) → r ≡ Ok a → Laid most b a.pins f₀ c₀ marks₀ f c marks
  pub says : (limits : Limits) (estimated : Bool) (fx : List ℕ) → limits.pin_limit ≡ most → body_seen p s estimated l b (lots_graph k t l w d fx lo) r nw f c marks
      ≡ through limits (p + 1) (grown p (book estimated l b (lots_graph k t l w d fx lo) 0 [])) (parts 10 (slice at (length s) s))

-- what follows the first line, which is line n
pub record BodyRead (n : ℕ) (s : List ℕ) (at most l b k t : ℕ) (estimated : Bool) (r : Result Nets Refused) (w₀ d₀ fx₀ f₀ c₀ marks₀ w d fx nw lo f c marks : List ℕ) : Type 0 where
  pub w-past : Past l w₀ w
  pub d-past : Past l d₀ d
  pub fx-past : Past l fx₀ fx
  pub lo-len : length lo ≡ 1024
  pub inside : (a : Nets) → r ≡ Ok a → a.end ≤ length s
  pub nw-len : (a : Nets) → r ≡ Ok a → length nw ≡ 1024
  pub laid : (a : Nets) → r ≡ Ok a → Laid most b a.pins f₀ c₀ marks₀ f c marks
  pub says : (limits : Limits) → limits.pin_limit ≡ most → body_seen (n + l) s estimated l b (lots_graph k t l w d fx lo) r nw f c marks
      ≡ through limits (n + 1) (reading (book estimated l b (lots_graph k t 0 w d fx lo) 0 [])) (parts 10 (slice at (length s) s))

-- what an answer and the tables say of a catalogue whose first line is line n
abbrev pub catalogue_seen : ℕ → List ℕ → Bool → Result Catalogue Refused → List ℕ → List ℕ → List ℕ → List ℕ → List ℕ → List ℕ → List ℕ → List ℕ → Stage
catalogue_seen n s estimated (Ok a) w d fx nw lo f c marks = ended (book estimated a.vertices a.nets (graph_of a.vertices a.nets a.blocks a.imbalance w d fx nw lo f c marks) a.pins []) (n + 1 + a.vertices + a.nets) (parts 10 (slice a.end (length s) s))
catalogue_seen n s estimated (Err e) w d fx nw lo f c marks = refused (number_of e.refusal) e.line

-- of a catalogue that is taken: sizes in range, the place behind it in the file, its marks laid out, entries past those in use kept
pub record Fitted (limits : Limits) (s : List ℕ) (a : Catalogue) (w₀ d₀ fx₀ f₀ c₀ marks₀ w d fx nw lo f c marks : List ℕ) : Type 0 where
  pub range : InRange limits a.vertices a.nets a.blocks a.imbalance
  pub inside : a.end ≤ length s
  pub lo-len : length lo ≡ 1024
  pub nw-len : length nw ≡ 1024
  pub w-past : Past a.vertices w₀ w
  pub d-past : Past a.vertices d₀ d
  pub fx-past : Past a.vertices fx₀ fx
  pub laid : Laid limits.pin_limit a.nets a.pins f₀ c₀ marks₀ f c marks

-- a catalogue, a sale's or an estimate's, that begins at place `at` with line n
pub record CatalogueRead (limits : Limits) (n : ℕ) (s : List ℕ) (at : ℕ) (r : Result Catalogue Refused) (w₀ d₀ fx₀ f₀ c₀ marks₀ w d fx nw lo f c marks : List ℕ) : Type 0 where
  pub estimated : Bool
  pub says : catalogue_seen n s estimated r w d fx nw lo f c marks ≡ through limits n unread (parts 10 (slice at (length s) s))
  pub fitted : (a : Catalogue) → r ≡ Ok a → Fitted limits s a w₀ d₀ fx₀ f₀ c₀ marks₀ w d fx nw lo f c marks
