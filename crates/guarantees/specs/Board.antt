-- On the board: under no other vertex, and in the sale. Rests on Climbs. Assumes nothing.
use Rattle.std.specs.Prelude.{ℕ, ◌≡◌, refl, Bool, true, false, ◌&&◌, List, ◌∷◌, eqb}
use Rattle.std.proofs.Common.{ap, ap₂, eq-eqb, ne_eqb, eqb-true}
use Rattle.laws.specs.Choice.{and_left, and_right}
use Rattle.model.specs.Catalogue.{Hypergraph, in_sale}
use Rattle.model.specs.Measure.{Contraction, above, is_top, on_board}
use Rattle.guarantees.specs.Climbs.{above_other}

module _ (h : Hypergraph) (cs : List Contraction) (v : ℕ) where
  pub board-top : on_board h cs v ≡ true → above cs v ≡ 0
  board-top q = eqb-true (above cs v) 0 (and_left _ _ q)

  pub board-sale : on_board h cs v ≡ true → in_sale h v ≡ true
  board-sale q = and_right (is_top cs v) _ q

  pub board-is : above cs v ≡ 0 → in_sale h v ≡ true → on_board h cs v ≡ true
  board-is q s = ap₂ (λ (a b : Bool). a && b) (eq-eqb (above cs v) 0 q) s

  pub board-under : (above cs v ≡ 0 → ⊥) → on_board h cs v ≡ false
  board-under n = ap (λ (a : Bool). a && in_sale h v) (ne_eqb (above cs v) 0 n)

-- a contraction leaves the others where they are
pub board-other : (h : Hypergraph) (cs : List Contraction) (c : Contraction) (x : ℕ) → (c.gone ≡ x → ⊥) → on_board h (c ∷ cs) x ≡ on_board h cs x
board-other h cs c x n = ap (λ (a : ℕ). eqb a 0 && in_sale h x) (above_other cs c x n)
