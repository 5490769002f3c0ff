-- No W, P or A, under any ceiling, ends on a higher metric than it began with, from any legal state, whether it is accepted or refused (never-higher).
-- A W that ends on the same metric has no heavier heaviest block (W-level).
-- Rests on Walks and Ends for W and P, and on Calls for A. Assumes nothing.
use Prim.Native.Nat.{ℕ, zero, suc, ◌≤◌}
use native.Mathlib.Omega.{arith}
use Rattle.std.specs.Prelude.{◌≡◌, true}
use Rattle.std.proofs.Math.Path.{refl, ap}
use Rattle.std.proofs.Common.{sym, subst, true≢false}
use mathlib.Core.List.{List, [], ◌∷◌}
use Rattle.model.specs.Catalogue.{Hypergraph}
use Rattle.model.specs.Measure.{Contraction, heaviest, metric}
use Rattle.model.specs.Machine.{Call, call_j, call_s, call_m, call_b, call_w, call_p, call_a, State, Step, settle}
use Rattle.model.specs.Search.{refuses_w, does_w, does_p, refuses_a, does_a, call_under}
use Rattle.model.specs.Demand.{searches, metric_in}
use Rattle.guarantees.specs.Ends.{Placed, polish-ends}
use Rattle.guarantees.specs.Walks.{walked-metric, walked-level}
use Rattle.guarantees.specs.Calls.{Legal, solves}

module _ (h : Hypergraph) (ceiling : ℕ → ℕ) where
  -- a refusal leaves the state
  settle-le : (q : ℕ) (s : State) (done : Step) → (q ≡ 0 → metric_in h done.state ≤ metric_in h s) → metric_in h (settle q s done).state ≤ metric_in h s
  unfolding settle
  settle-le zero s done f = f refl
  settle-le (suc q) s done f = omega arith

  pub W-lower : (s : State) (u v : ℕ) → Legal h s → metric_in h (does_w h ceiling s u v).state ≤ metric_in h s
  unfolding does_w
  W-lower s u v ok = (walked-metric h ceiling s.stack s.block u v ok.placed).2

  pub P-lower : (s : State) → Legal h s → metric_in h (does_p h ceiling s).state ≤ metric_in h s
  unfolding does_p
  P-lower s ok = (polish-ends h ceiling s.stack s.block ok.placed).lower

  -- A is accepted on an empty stack
  pub A-lower : (s : State) (cs : List Contraction) → s.stack ≡ cs → Legal h s → refuses_a h s cs ≡ 0 → metric_in h (does_a h ceiling s).state ≤ metric_in h s
  unfolding refuses_a does_a
  A-lower s [] q ok e = omega (
    arith,
    (solves h ceiling s (subst (λ (l : List Contraction). Placed h l s.block) q ok.placed)).lower,
    ap (λ (l : List Contraction). metric h l s.block) q,
  )
  A-lower s (c ∷ cs) q ok e = absurd (omega arith)

  pub never-higher : (s : State) (c : Call) → Legal h s → searches c ≡ true → metric_in h (call_under h ceiling s c).state ≤ metric_in h s
  unfolding call_under searches
  never-higher s (call_j u v) ok q = absurd (true≢false (sym q))
  never-higher s call_s ok q = absurd (true≢false (sym q))
  never-higher s (call_m v t) ok q = absurd (true≢false (sym q))
  never-higher s call_b ok q = absurd (true≢false (sym q))
  never-higher s (call_w u v) ok q = settle-le (refuses_w h s u v) s (does_w h ceiling s u v) (λ _. W-lower s u v ok)
  never-higher s call_p ok q = P-lower s ok
  never-higher s call_a ok q = settle-le (refuses_a h s s.stack) s (does_a h ceiling s) (A-lower s s.stack refl ok)

  -- what holds of the state before and of the state after an accepted call holds after the call
  settle-either : (P : State → Type 0) (q : ℕ) (s : State) (done : Step) → P s → P done.state → P (settle q s done).state
  unfolding settle
  settle-either P zero s done a b = b
  settle-either P (suc q) s done a b = a

  -- s' has no heavier heaviest block than s, if its metric is the same
  abbrev pub Level : State → State → Type 0
  Level s s' = metric_in h s' ≡ metric_in h s → heaviest h s'.stack s'.block ≤ heaviest h s.stack s.block

  -- a W, accepted or refused
  pub W-level : (s : State) (u v : ℕ) → Legal h s → Level s (call_under h ceiling s (call_w u v)).state
  unfolding call_under does_w
  W-level s u v ok = settle-either (Level s) (refuses_w h s u v) s (does_w h ceiling s u v) (λ _. omega arith) (walked-level h ceiling s.stack s.block u v ok.placed)
