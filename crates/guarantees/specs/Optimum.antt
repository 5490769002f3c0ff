-- When P or an accepted A ends, under any ceiling, for every vertex that may move and every other block with room for it that move would leave the
-- metric as high or higher (P-best, A-best). Rests on Ends, where P's fuel is enough, and on Calls for A. Assumes nothing.
use Prim.Native.Nat.{ℕ, zero, suc, ◌≤◌}
use Rattle.std.proofs.Common.{arith, ap, ◌∙◌, subst, ne_eqb}
use Rattle.std.specs.Prelude.{◌≡◌, Bool, true, ◌&&◌, pos}
use Rattle.std.proofs.Math.Path.{refl, ap₂}
use Rattle.std.proofs.Math.Bool.{not}
use mathlib.Core.List.{List, [], ◌∷◌}
use Rattle.laws.specs.Integer.{up, dn, pos-is, sub_is, le_parts}
use Rattle.laws.specs.Place.{place}
use Rattle.model.specs.Catalogue.{Hypergraph, vertices}
use Rattle.model.specs.Measure.{Contraction, may_move, metric, gain, has_room}
use Rattle.model.specs.Machine.{call_a, State, Step, settle}
use Rattle.model.specs.Search.{can_go, does_p, refuses_a, does_a, call_under, LocallyBest}
use Rattle.model.specs.Report.{refusal}
use Rattle.guarantees.specs.Ends.{Placed, Polished, metric-open, polish-ends}
use Rattle.guarantees.specs.Calls.{Legal, solves}

module _ (h : Hypergraph) (ceiling : ℕ → ℕ) where
  -- a pair of document 01's words is one that P looks at
  may-go : (cs : List Contraction) (p : ℕ → ℕ) (v t : ℕ) → may_move h cs v ≡ true → (p v ≡ t → ⊥) → has_room h ceiling cs p v t ≡ true → can_go h ceiling cs p v t ≡ true
  unfolding can_go
  may-go cs p v t on away room = ap₂ (λ (a b : Bool). a && not b && has_room h ceiling cs p v t) on (ne_eqb (p v) t away) ∙ room

  -- where no open pair has a gain above 0, no move that has room lowers the metric
  stuck-best : (cs : List Contraction) (p q : ℕ → ℕ) → Polished h ceiling cs p q
      → (v t : ℕ) → 1 ≤ v → v ≤ vertices h → may_move h cs v ≡ true → 1 ≤ t → t ≤ h.blocks → (q v ≡ t → ⊥) → has_room h ceiling cs q v t ≡ true
      → metric h cs q ≤ metric h cs (place q v t)
  stuck-best cs p q end v t vl vu on tl tu away room =
      let o = may-go cs q v t on away room in
      omega (
        arith,
        ap up (metric-open h ceiling cs q v t end.placed (vl, vu, tl, tu) o),
        ap dn (metric-open h ceiling cs q v t end.placed (vl, vu, tl, tu) o),
        sub_is (pos (metric h cs q)) (gain h cs q v t),
        le_parts (gain h cs q v t) (pos 0) (end.stuck v t (vl, vu, tl, tu) o),
        pos-is (metric h cs q),
        pos-is (metric h cs (place q v t)),
        pos-is 0,
      )

  pub P-best : (s : State) → Legal h s → LocallyBest h ceiling (does_p h ceiling s).state
  unfolding does_p
  P-best s ok = stuck-best s.stack s.block _ (polish-ends h ceiling s.stack s.block ok.placed)

  accepted-best : (s : State) (cs : List Contraction) → s.stack ≡ cs → Legal h s → refuses_a h s cs ≡ 0 → LocallyBest h ceiling (does_a h ceiling s).state
  unfolding refuses_a does_a
  accepted-best s [] q ok e = stuck-best [] s.block _ (solves h ceiling s (subst (λ (l : List Contraction). Placed h l s.block) q ok.placed))
  accepted-best s (c ∷ cs) q ok e = absurd (omega arith)

  settled : (q : ℕ) (s : State) (done : Step) → refusal (settle q s done).answer ≡ 0 → (q ≡ 0 → LocallyBest h ceiling done.state) → LocallyBest h ceiling (settle q s done).state
  unfolding settle refusal
  settled zero s done e f = f refl
  settled (suc q) s done e f = absurd (omega arith)

  pub A-best : (s : State) → Legal h s → refusal (call_under h ceiling s call_a).answer ≡ 0 → LocallyBest h ceiling (call_under h ceiling s call_a).state
  unfolding call_under
  A-best s ok e = settled (refuses_a h s s.stack) s (does_a h ceiling s) e (accepted-best s s.stack refl ok)
