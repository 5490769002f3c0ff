-- The buyers that the tables show, and what the buyers' lines are read as. Rests on Seen. Assumes nothing.
use Rattle.std.specs.Prelude.{ℕ, zero, suc, ◌+◌, ◌≤◌, ◌<◌, ◌≡◌, Bool, List, [], ◌∷◌, ◌++◌, length, get_or, Result, Ok, Err}
use Rattle.std.proofs.Math.Seq.{slice}
use Rattle.laws.specs.Sum.{sum}
use Rattle.model.specs.Catalogue.{Limits, Net, Hypergraph, vertices}
use Rattle.model.specs.Grammar.{parts, grown}
use Rattle.model.specs.Through.{Stage, refused, through}
use Rattle.lines.specs.Line.{book, Past}
use Rattle.lines.specs.Mark.{Fresh}
use Rattle.reader.specs.declared.Nets.{Nets}
use Rattle.refusal.specs.declared.Refused.{Refused}
use Rattle.refusal.specs.Number.{number_of}

-- the first j buyers of the tables: weights, first places, how many marks, and the marks
unfoldable pub nets_of : ℕ → List ℕ → List ℕ → List ℕ → List ℕ → List Net
nets_of zero w f c marks = []
nets_of (suc j) w f c marks = nets_of j w f c marks ++ (record { weight = get_or w j 0; pins = slice (get_or f j 0) (get_or f j 0 + get_or c j 0) marks } ∷ [])

-- a catalogue with other buyers
abbrev pub with_nets : Hypergraph → List Net → Hypergraph
with_nets h ns = record { blocks = h.blocks; imbalance = h.imbalance; total_weight = h.total_weight; lows = h.lows; weights = h.weights; draft = h.draft; fixed = h.fixed; nets = ns }

-- the marks of j buyers, m in all and at most so many, lie one buyer's after another's, and what lies behind them is kept
pub record Laid (most j m : ℕ) (f₀ c₀ marks₀ f c marks : List ℕ) : Type 0 where
  pub m-le : m ≤ most
  pub m-is : m ≡ sum j (λ y. get_or c y 0)
  pub first-is : (x : ℕ) → x < j → get_or f x 0 ≡ sum x (λ y. get_or c y 0)
  pub past : Past m marks₀ marks
  pub f-past : Past j f₀ f
  pub c-past : Past j c₀ c

-- the buyers' lines, which follow line p: what is left to read, from the place where they end
abbrev pub buys_seen : ℕ → Limits → List ℕ → Bool → ℕ → ℕ → Hypergraph → Result Nets Refused → List ℕ → List ℕ → List ℕ → List ℕ → Stage
buys_seen p limits s estimated l b h (Ok a) w f c marks = through limits (p + 1 + b) (grown (p + b) (book estimated l b (with_nets h (nets_of b w f c marks)) a.pins [])) (parts 10 (slice a.end (length s) s))
buys_seen p limits s estimated l b h (Err e) w f c marks = refused (number_of e.refusal) e.line

pub record BuysRead (p : ℕ) (s : List ℕ) (at most l b : ℕ) (r : Result Nets Refused) (f₀ c₀ marks₀ w f c marks : List ℕ) : Type 0 where
  pub inside : (a : Nets) → r ≡ Ok a → a.end ≤ length s
  pub w-len : (a : Nets) → r ≡ Ok a → length w ≡ 1024
  pub laid : (a : Nets) → r ≡ Ok a → Laid most b a.pins f₀ c₀ marks₀ f c marks
  pub says : (limits : Limits) (estimated : Bool) (h : Hypergraph) → limits.pin_limit ≡ most → vertices h ≡ l → buys_seen p limits s estimated l b h r w f c marks ≡ through limits (p + 1) (grown p (book estimated l b (with_nets h []) 0 [])) (parts 10 (slice at (length s) s))

-- what the buyers' lines presume of their tables: lengths, and that no lot is stamped
pub record BuysReady (s : List ℕ) (at most l b : ℕ) (w f c marks stamps : List ℕ) : Type 0 where
  pub at-le : at ≤ length s
  pub l_le : l ≤ 1024
  pub b-le : b ≤ 1024
  pub w-len : length w ≡ 1024
  pub f-len : 1024 ≤ length f
  pub c_len : 1024 ≤ length c
  pub few : most ≤ 8192
  pub wide : most ≤ length marks
  pub slen : length stamps ≡ 1024
  pub fresh : Fresh 1 stamps
