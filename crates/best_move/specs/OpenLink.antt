-- The best open pair of the tables is the pair that model's walk takes, or that its polish takes, where the tables hold the state.
-- Rests on Open and on guarantees' Tops. Assumes nothing.
use Rattle.std.specs.Prelude.{◌≡◌, refl, List, Bool, true, false, ◌&&◌, ℕ, ◌+◌, ◌-◌, ◌≤◌, eqb, get_or, ℤ}
use Rattle.std.proofs.Math.Path.{sym, ap, ap₂}
use Rattle.std.proofs.Common.{◌∙◌}
use Rattle.std.proofs.Math.Bool.{not, and-true, and-false}
use Rattle.std.proofs.Math.Dec.{leb}
use Rattle.laws.specs.Choice.{and_left, and_right}
use Rattle.laws.specs.Fold.{any}
use Rattle.model.specs.Catalogue.{Hypergraph, vertices}
use Rattle.model.specs.Measure.{Contraction, weight, block_weight, gain, has_room, may_move}
use Rattle.model.specs.Search.{best_pair, Walk, can_go, is_open, walk_best, polish_best}
use Rattle.guarantees.specs.Tops.{best_pair-ext}
use Rattle.best_move.specs.Open.{gain_in, may_go, is_candidate, open_in}

-- the tables hold a partition: what they say of the vertices that may move, and of the blocks
pub record Holds (h : Hypergraph) (ceiling : ℕ → ℕ) (cs : List Contraction) (block : ℕ → ℕ) (gains : List ℤ) (blocks weights loads ceilings : List ℕ) (n k : ℕ) : Type 0 where
  pub n-is : n ≡ vertices h
  pub k-is : k ≡ h.blocks
  pub ceiling-is : (b : ℕ) → 1 ≤ b → b ≤ k → get_or ceilings (b - 1) 0 ≡ ceiling b
  pub block-is : (v : ℕ) → 1 ≤ v → v ≤ n → may_move h cs v ≡ true → get_or blocks (v - 1) 0 ≡ block v
  pub weight_is : (v : ℕ) → 1 ≤ v → v ≤ n → may_move h cs v ≡ true → get_or weights (v - 1) 0 ≡ weight h cs v
  pub load_is : (b : ℕ) → 1 ≤ b → b ≤ k → get_or loads (b - 1) 0 ≡ block_weight h cs block b
  pub gain-is : (v b : ℕ) → 1 ≤ v → v ≤ n → 1 ≤ b → b ≤ k → may_move h cs v ≡ true → gain_in gains v b ≡ gain h cs block v b

module _ (h : Hypergraph) (ceiling : ℕ → ℕ) (cs : List Contraction) (block : ℕ → ℕ) (gains : List ℤ) (blocks weights loads ceilings candidates : List ℕ) (n k : ℕ)
    (s : Holds h ceiling cs block gains blocks weights loads ceilings n k) where
  -- a vertex that may move
  go-is : (v b : ℕ) → 1 ≤ v → v ≤ n → 1 ≤ b → b ≤ k → may_move h cs v ≡ true
      → may_go (get_or loads (b - 1) 0) (get_or blocks (v - 1) 0) (get_or weights (v - 1) 0) (get_or ceilings (b - 1) 0) b ≡ can_go h ceiling cs block v b
  unfolding can_go has_room
  go-is v b lv uv lb ub q =
      ap₂ (λ (x y : Bool). x && y) (ap (λ (x : ℕ). not (eqb x b)) (s.block-is v lv uv q)) (ap₂ (λ (x y : ℕ). leb x y) (ap₂ (λ (x y : ℕ). x + y) (s.load_is b lb ub) (s.weight_is v lv uv q)) (s.ceiling-is b lb ub))
      ∙ sym (ap (λ (t : Bool). t && not (eqb (block v) b) && leb (block_weight h cs block b + weight h cs v) (ceiling b)) q)

  stays : (v b : ℕ) → may_move h cs v ≡ false → can_go h ceiling cs block v b ≡ false
  unfolding can_go
  stays v b q = ap (λ (t : Bool). t && not (eqb (block v) b) && has_room h ceiling cs block v b) q

  -- the candidates are those that pass a test and may move
  module _ (p : ℕ → Bool) (c : (v : ℕ) → 1 ≤ v → v ≤ n → is_candidate candidates v ≡ (p v && may_move h cs v)) where
    open_is : (v b : ℕ) → 1 ≤ v → v ≤ n → 1 ≤ b → b ≤ k → open_in candidates blocks weights loads ceilings v b ≡ (p v && can_go h ceiling cs block v b)
    open_is v b lv uv lb ub = ap (λ (t : Bool). t && may_go (get_or loads (b - 1) 0) (get_or blocks (v - 1) 0) (get_or weights (v - 1) 0) (get_or ceilings (b - 1) 0) b) (c v lv uv) ∙ by (may_move h cs v) refl
      where
        by : (t : Bool) → may_move h cs v ≡ t → (p v && t && may_go (get_or loads (b - 1) 0) (get_or blocks (v - 1) 0) (get_or weights (v - 1) 0) (get_or ceilings (b - 1) 0) b) ≡ (p v && can_go h ceiling cs block v b)
        by true q = ap₂ (λ (x y : Bool). x && y) (and-true (p v)) (go-is v b lv uv lb ub q)
        by false q = ap (λ (x : Bool). x && may_go (get_or loads (b - 1) 0) (get_or blocks (v - 1) 0) (get_or weights (v - 1) 0) (get_or ceilings (b - 1) 0) b) (and-false (p v)) ∙ sym (ap (λ (x : Bool). p v && x) (stays v b q) ∙ and-false (p v))

    pub link : best_pair n k (open_in candidates blocks weights loads ceilings) (gain_in gains) ≡ best_pair (vertices h) h.blocks (λ v b. p v && can_go h ceiling cs block v b) (gain h cs block)
    link =
        best_pair-ext (open_in candidates blocks weights loads ceilings) (λ v b. p v && can_go h ceiling cs block v b) (gain_in gains) (gain h cs block) n k open_is
        (λ v b lv uv lb ub o. s.gain-is v b lv uv lb ub (and_right (p v) (may_move h cs v) (sym (c v lv uv) ∙ and_left (is_candidate candidates v) _ o)))
        ∙ ap₂ (λ (x y : ℕ). best_pair x y (λ v b. p v && can_go h ceiling cs block v b) (gain h cs block)) s.n-is s.k-is

-- P: the candidates are all vertices that may move
pub polish-is : (h : Hypergraph) (ceiling : ℕ → ℕ) (cs : List Contraction) (block : ℕ → ℕ) (gains : List ℤ) (blocks weights loads ceilings candidates : List ℕ) (n k : ℕ)
    → Holds h ceiling cs block gains blocks weights loads ceilings n k → ((v : ℕ) → 1 ≤ v → v ≤ n → is_candidate candidates v ≡ may_move h cs v)
    → best_pair n k (open_in candidates blocks weights loads ceilings) (gain_in gains) ≡ polish_best h ceiling cs block
unfolding polish_best
polish-is h ceiling cs block gains blocks weights loads ceilings candidates n k s c = link h ceiling cs block gains blocks weights loads ceilings candidates n k s (λ v. true) c

-- W: the candidates are the walk's that have not moved in it and may move
pub walk_is : (h : Hypergraph) (ceiling : ℕ → ℕ) (cs : List Contraction) (w : Walk) (gains : List ℤ) (blocks weights loads ceilings candidates : List ℕ) (n k : ℕ)
    → Holds h ceiling cs w.block gains blocks weights loads ceilings n k
    → ((v : ℕ) → 1 ≤ v → v ≤ n → is_candidate candidates v ≡ (w.candidate v && not (any w.journal (λ m. eqb m.vertex v)) && may_move h cs v))
    → best_pair n k (open_in candidates blocks weights loads ceilings) (gain_in gains) ≡ walk_best h ceiling cs w
unfolding walk_best is_open
walk_is h ceiling cs w gains blocks weights loads ceilings candidates n k s c =
    link h ceiling cs w.block gains blocks weights loads ceilings candidates n k s (λ v. w.candidate v && not (any w.journal (λ m. eqb m.vertex v))) c
