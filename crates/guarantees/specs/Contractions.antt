-- On the machine: an accepted J and an accepted S leave the metric and every block's weight (J-leaves, S-leaves), and an S right after an accepted J
-- leaves the stack and the partition as they were before it (J-then-S). Rests on Joins, Weights, Splits and Calls. Assumes nothing.
use Rattle.std.specs.Prelude.{ℕ, ◌≡◌, not, ◌&&◌, eqb}
use Rattle.std.proofs.Common.{arith, sym, ◌∙◌}
use Rattle.std.proofs.Math.Path.{refl, ap, subst}
use mathlib.Core.List.{List, [], ◌∷◌}
use borrow.Author.Tests.{eqb-true, not-false}
use Rattle.laws.specs.Choice.{cond-zero}
use Rattle.model.specs.Catalogue.{Hypergraph, is_vertex}
use Rattle.model.specs.Measure.{Contraction, on_board, block_weight, metric}
use Rattle.model.specs.Machine.{State, refuses_j, contract, does_j, does_s}
use Rattle.model.specs.Demand.{metric_in}
use Rattle.guarantees.specs.Climbs.{Sound}
use Rattle.guarantees.specs.Joins.{metric-join}
use Rattle.guarantees.specs.Weights.{block_weight-join}
use Rattle.guarantees.specs.Ends.{Placed}
use Rattle.guarantees.specs.Splits.{AllInside, metric-split, block_weight-split, join-split}
use Rattle.guarantees.specs.Calls.{Legal, legal-J}

-- two states with one metric and the same block weights
pub record Level (h : Hypergraph) (s s' : State) : Type 0 where
  pub same-metric : metric_in h s' ≡ metric_in h s
  pub same-weights : (b : ℕ) → block_weight h s'.stack s'.block b ≡ block_weight h s.stack s.block b

module _ (h : Hypergraph) (s : State) where
  -- J is accepted within one block
  pub one_block : (u v : ℕ) → refuses_j h s u v ≡ 0 → s.block u ≡ s.block v
  unfolding refuses_j
  one_block u v q =
      let a = cond-zero (not (is_vertex h u && is_vertex h v)) 9 _ (omega arith) q in
      let b = cond-zero (eqb u v) 11 _ (omega arith) a.1 in
      let c = cond-zero (not (on_board h s.stack u && on_board h s.stack v)) 10 _ (omega arith) b.1 in
      eqb-true _ _ (not-false _ (cond-zero (not (eqb (s.block u) (s.block v))) 13 0 (omega arith) c.1).0)

  pub J-leaves : (u v : ℕ) → Legal h s → refuses_j h s u v ≡ 0 → Level h s (does_j h s u v).state
  unfolding does_j contract
  J-leaves u v ok q =
      let k = legal-J h s u v ok q in
      let r = k.inside.0 in
      let c : Contraction = record { into = u; gone = v } in
      record {
        same-metric = metric-join h s.stack c k.sound s.block r.0 r.1 r.2 r.3 (one_block u v q);
        same-weights = block_weight-join h s.stack c k.sound s.block r.0 r.1 r.2 r.3 (one_block u v q);
      }

  -- what S does to the stack that stands; a refused one leaves the state
  pub S-leaves : (cs : List Contraction) → s.stack ≡ cs → Legal h s → Level h s (does_s s cs).state
  unfolding does_s
  S-leaves [] q ok = record { same-metric = refl; same-weights = λ b. refl }
  S-leaves (c ∷ cs) q ok =
      let so : Sound (c ∷ cs) = subst Sound q ok.sound in
      let ins : AllInside h (c ∷ cs) = subst (AllInside h) q ok.inside in
      let placed : Placed h (c ∷ cs) s.block = subst (λ (l : List Contraction). Placed h l s.block) q ok.placed in
      record {
        same-metric = metric-split h cs c so ins.0 s.block placed ∙ ap (λ (l : List Contraction). metric h l s.block) (sym q);
        same-weights = λ b. block_weight-split h cs c so ins.0 s.block placed b ∙ ap (λ (l : List Contraction). block_weight h l s.block b) (sym q);
      }

  pub J-then-S : (u v : ℕ) → Legal h s → refuses_j h s u v ≡ 0
      → ((does_s (contract h s u v) (contract h s u v).stack).state.stack ≡ s.stack) × ((does_s (contract h s u v) (contract h s u v).stack).state.block ≡ s.block)
  unfolding does_s contract does_j
  J-then-S u v ok q = (refl, join-split (record { into = u; gone = v }) s.block (legal-J h s u v ok q).sound.0.two (one_block u v q))
