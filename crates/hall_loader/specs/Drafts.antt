-- The drafts' bales together in a session, by sizes and tables. Rests on block_weights. Assumes nothing.
use Rattle.std.specs.Prelude.{ℕ, ◌≤◌, ◌<◌, Bool, false, ◌||◌, List, [], ltb, length, get_or, take}
use Rattle.laws.specs.Fold.{All}
use Rattle.laws.specs.Sum.{sum, fold_to}
use Rattle.block_weights.specs.Term.{block_term}
use Rattle.loader.specs.declared.Sizes.{Sizes}
use Rattle.hall_loader.specs.Books.{no_sizes}

-- a catalogue's lots are there, and each has at most 65,535 bales
pub record LightLots (v : ℕ) (weights : List ℕ) : Type 0 where
  pub few : v ≤ 1024
  pub long : v ≤ length weights
  pub light : All (take v weights) (λ w. w ≤ 65535)

pub record Light (count : ℕ) (zs : List Sizes) (weights blocks : List (List ℕ)) : Type 0 where
  pub few : count ≤ 4
  pub weights-four : 4 ≤ length weights
  pub blocks-four : 4 ≤ length blocks
  pub each : (c : ℕ) → c < count → LightLots (get_or zs c no_sizes).vertices (get_or weights c [])

-- the bales of the draft c in session t, and of the first `count` together; a session past a catalogue's count has none of its lots
abbrev pub bales_in : ℕ → List Sizes → List (List ℕ) → List (List ℕ) → ℕ → ℕ
bales_in t zs weights blocks c = sum (get_or zs c no_sizes).vertices (block_term t (get_or weights c []) (get_or blocks c []))

unfoldable pub draft_bales : ℕ → ℕ → List Sizes → List (List ℕ) → List (List ℕ) → ℕ
draft_bales count t zs weights blocks = sum count (bales_in t zs weights blocks)

-- they are above the limit in one of the first n sessions
unfoldable pub above_to : ℕ → ℕ → ℕ → List Sizes → List (List ℕ) → List (List ℕ) → Bool
above_to n count limit zs weights blocks = fold_to n (λ b t. b || ltb limit (draft_bales count t zs weights blocks)) false

abbrev pub drafts_above : ℕ → ℕ → List Sizes → List (List ℕ) → List (List ℕ) → Bool
drafts_above count limit zs weights blocks = above_to 16 count limit zs weights blocks
