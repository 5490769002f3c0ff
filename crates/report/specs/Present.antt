-- A vertex is in the sale where its representative has a block: what the closing report tests (belongs into guarantees). Rests on guarantees' Ends and Clumps. Assumes nothing.
use Rattle.std.specs.Prelude.{ℕ, ◌≤◌, ◌≡◌, refl, Bool, true, false, ◌&&◌, List, [], ◌∷◌, ltb}
use Rattle.std.proofs.Math.Decide.{ℕ_discrete}
use Rattle.std.proofs.Common.{arith, sym, ap, ◌∙◌, true≢false, lt-ltb, le-ltb}
use Rattle.std.proofs.Math.Bool.{and-false}
use Rattle.model.specs.Catalogue.{Hypergraph, vertices, in_sale}
use Rattle.model.specs.Measure.{Contraction, above, is_top, on_board, representative}
use Rattle.model.specs.Machine.{State}
use Rattle.guarantees.specs.Board.{board-is}
use Rattle.guarantees.specs.Climbs.{Sound, above_other, representative-on, representative-self}
use Rattle.guarantees.specs.Ends.{Placed}
use Rattle.guarantees.specs.Splits.{AllInside, above-none}
use Rattle.guarantees.specs.Clumps.{representative-in, representative-sale}

-- a vertex that is not in the sale is under no other
pub out-top : (h : Hypergraph) (cs : List Contraction) → AllInside h cs → (v : ℕ) → in_sale h v ≡ false → above cs v ≡ 0
out-top h [] a v q = above-none v
out-top h (c ∷ cs) a v q = go (out-top h cs a.1 v q) (ℕ_discrete c.gone v)
  where
    go : above cs v ≡ 0 → Dec (c.gone ≡ v) → above (c ∷ cs) v ≡ 0
    go ih (yes e) = absurd (true≢false (sym a.0.5 ∙ ap (in_sale h) e ∙ q))
    go ih (no n) = above_other cs c v n ∙ ih

pub sale-stands : (h : Hypergraph) (s : State) → Sound s.stack → AllInside h s.stack → Placed h s.stack s.block → (v : ℕ) → 1 ≤ v → v ≤ vertices h → ltb 0 (s.block (representative s.stack v)) ≡ in_sale h v
sale-stands h s sound inside placed v l u = go (in_sale h v) refl
  where
    cs : List Contraction
    cs = s.stack

    go : (b : Bool) → in_sale h v ≡ b → ltb 0 (s.block (representative cs v)) ≡ in_sale h v
    go true q =
        let i = representative-in h cs sound inside v l u in
        let on = board-is h cs (representative cs v) (representative-on cs sound v) (representative-sale h cs sound inside v q) in
        lt-ltb 0 (s.block (representative cs v)) (omega (arith, ((placed (representative cs v) i.0 i.1).board on).0)) ∙ sym q
    go false q =
        let off : on_board h cs v ≡ false = ap (λ (b : Bool). is_top cs v && b) q ∙ and-false (is_top cs v) in
        le-ltb 0 (s.block (representative cs v)) (omega (arith, ap s.block (representative-self cs v (out-top h cs inside v q)), (placed v l u).off off)) ∙ sym q
