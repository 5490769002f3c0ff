-- Request M-107, what the index is ready for: after every call it holds each pair of a board lot and another session once and no other, and its
-- first open pair in the order of choice is the one that the full search finds, whichever pairs are open. Rests on Memory. Assumes nothing.
use Rattle.std.specs.Prelude.{ℕ, ◌-◌, ◌*◌, ◌≤◌, ◌≡◌, Bool, true, false, not, ◌&&◌, ◌⊎◌, eqb, leb}
use Rattle.laws.specs.Choice.{one}
use Rattle.laws.specs.Occurrence.{occ}
use Rattle.model.specs.Catalogue.{Hypergraph, vertices}
use Rattle.model.specs.Measure.{on_board, gain}
use Rattle.model.specs.Machine.{State}
use Rattle.model.specs.Search.{Best, none, best, best_pair}
use Rattle.model.specs.Index.{ahead}
use Rattle.model.specs.Memory.{Tables}

module _ (h : Hypergraph) (s : State) (t : Tables) where
  -- how often session b stands in lot v's row
  abbrev pub times_in : ℕ → ℕ → ℕ
  times_in v b = occ t.index (16 * (v - 1)) h.blocks b

  -- the pair of a board lot and another session
  abbrev pub is_pair : ℕ → ℕ → Bool
  is_pair v b = on_board h s.stack v && not (eqb (s.block v) b)

  -- the index holds each pair of a board lot and another session once and no other
  abbrev pub EachPairOnce : Type 0
  EachPairOnce = (v b : ℕ) → 1 ≤ v → v ≤ vertices h → 1 ≤ b → times_in v b ≡ one (is_pair v b && leb b h.blocks)

  -- the first open pair of the index in the order of choice
  pub record FirstOpen (is_open : ℕ → ℕ → Bool) (v b : ℕ) : Type 0 where
    pub lot : (1 ≤ v) × (v ≤ vertices h)
    pub session : (1 ≤ b) × (b ≤ h.blocks)
    pub held : times_in v b ≡ 1
    pub open-pair : is_open v b ≡ true
    pub first : (x c : ℕ) → 1 ≤ x → x ≤ vertices h → 1 ≤ c → times_in x c ≡ 1 → is_open x c ≡ true → ((x ≡ v) × (c ≡ b)) ⊎ (ahead (gain h s.stack s.block) v b x c ≡ true)

  -- no pair of the index is open
  abbrev pub NoneOpen : (ℕ → ℕ → Bool) → Type 0
  NoneOpen is_open = (v b : ℕ) → 1 ≤ v → v ≤ vertices h → 1 ≤ b → times_in v b ≡ 1 → is_open v b ≡ false

  -- what the full search finds is the first open pair of the index, whichever pairs of a board lot and another session are open
  abbrev pub Found : (ℕ → ℕ → Bool) → Best → Type 0
  Found is_open none = NoneOpen is_open
  Found is_open (best v b g) = FirstOpen is_open v b × (g ≡ gain h s.stack s.block v b)

  abbrev pub FirstIsBest : Type 0
  FirstIsBest = (is_open : ℕ → ℕ → Bool) → ((v b : ℕ) → is_open v b ≡ true → is_pair v b ≡ true)
      → Found is_open (best_pair (vertices h) h.blocks is_open (gain h s.stack s.block))
