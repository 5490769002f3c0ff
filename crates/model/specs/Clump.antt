-- Request M-108, what a clump's gain means: a board lot's gain to another session is the total of the unjoined catalogue, each lot in its
-- clump's session, less that total once all lots of that clump are in the target. Rests on Memory. Assumes nothing.
use Rattle.std.specs.Prelude.{ℕ, ◌+◌, ◌-◌, ◌*◌, ◌≤◌, ◌≡◌, true, cond, List, [], eqb, pos, ◌-ℤ◌, get_or}
use Rattle.model.specs.Catalogue.{Hypergraph, vertices}
use Rattle.model.specs.Measure.{Contraction, on_board, representative, metric}
use Rattle.model.specs.Machine.{State}
use Rattle.model.specs.Memory.{Tables}

-- the total of the unjoined catalogue, where a partition says the session of each of all lots
abbrev pub unjoined_total : Hypergraph → (ℕ → ℕ) → ℕ
unjoined_total h p = metric h [] p

module _ (cs : List Contraction) (block : ℕ → ℕ) where
  -- each lot in its clump's session: that of the lot that stands for it
  abbrev pub in_clumps : ℕ → ℕ
  in_clumps x = block (representative cs x)

  -- the same once all lots of v's clump are in t
  abbrev pub clump_to : ℕ → ℕ → ℕ → ℕ
  clump_to v t x = cond (eqb (representative cs x) v) t (block (representative cs x))

-- the gain table's entry of every lot on the board to every other session
abbrev pub ClumpGains : Hypergraph → State → Tables → Type 0
ClumpGains h s tables =
    (v t : ℕ) → 1 ≤ v → v ≤ vertices h → on_board h s.stack v ≡ true → 1 ≤ t → t ≤ h.blocks → (s.block v ≡ t → ⊥)
    → get_or tables.gains (16 * (v - 1) + (t - 1)) (pos 0) ≡ pos (unjoined_total h (in_clumps s.stack s.block)) -ℤ pos (unjoined_total h (clump_to s.stack s.block v t))
