-- How large the numbers in answers get (Bounded): in every state that calls reach, every call's answer is within these bounds (bounded-call).
-- Rests on Bounds, WeightBounds, SearchBounds and StateBounds. Assumes nothing.
use Prim.Native.Nat.{ℕ, zero, suc, ◌≤◌}
use Rattle.std.proofs.Math.Nat.{mul-le-mul}
use native.Mathlib.Omega.{arith}
use Rattle.std.specs.Prelude.{◌≡◌, Bool, true, false, not, ◌&&◌, cond, eqb}
use Rattle.std.proofs.Math.Path.{refl}
use Rattle.std.proofs.Common.{subst}
use mathlib.Core.List.{List, [], ◌∷◌}
use Rattle.std.proofs.Math.ListN.{length}
use Rattle.model.specs.Catalogue.{Limits, Hypergraph, vertices, is_vertex, is_block}
use Rattle.model.specs.Measure.{Contraction, on_board, is_fixed, metric, has_room}
use Rattle.model.specs.Machine.{Call, call_j, call_s, call_m, call_b, call_w, call_p, call_a, Answer, says_j, says_s, says_m, says_b, says_w, says_p, says_a, says_x, says_n, says_no, Move, State, Step, settle, refuses_j, contract, does_j, refuses_m, does_m, does_s, does_b}
use Rattle.model.specs.Search.{Coarse, Fine, coarsen, refine, refuses_w, does_w, does_p, refuses_a, does_a, call_under}
use Rattle.guarantees.specs.Calls.{Legal, AllInside, Recorded, coarsened}
use Rattle.guarantees.specs.Ends.{Placed}
use Rattle.guarantees.specs.Ranges.{Ranges}
use Rattle.guarantees.specs.Bounds.{freed-le, drawn-le, metric-le}
use Rattle.guarantees.specs.WeightBounds.{weight-le, loaded-le}
use Rattle.guarantees.specs.SearchBounds.{walk-counts, tried-le, polish-count, refine-counts}
use Rattle.guarantees.specs.StateBounds.{stack-le, Listed}

abbrev pub Bounded : Answer → Type 0
Bounded (says_j w) = w ≤ 67107840
Bounded (says_s u v) = (u ≤ 1024) × (v ≤ 1024)
Bounded (says_m f d c) = (f ≤ 1024000) × (d ≤ 1024000) × (c ≤ 15360000)
Bounded (says_b v b c) = (v ≤ 1024) × (b ≤ 16) × (c ≤ 15360000)
Bounded (says_w t k c) = (t ≤ 1024) × (k ≤ t) × (c ≤ 15360000)
Bounded (says_p m c) = (m ≤ 15360000) × (c ≤ 15360000)
Bounded (says_a j t k m c) = (j ≤ 1023) × (t ≤ 1047552) × (k ≤ t) × (m ≤ 15360000) × (c ≤ 15360000)
Bounded (says_x c) = c ≤ 15360000
Bounded (says_n v c) = (v ≤ 1024) × (c ≤ 15360000)
Bounded (says_no q) = q ≤ 25

-- one number or another
pub either-le : (b : Bool) (q n m : ℕ) → q ≤ m → n ≤ m → cond b q n ≤ m
either-le true q n m l k = l
either-le false q n m l k = k

module _ (limits : Limits) (small : limits.vertex_limit ≤ 1024) (narrow : limits.block_limit ≤ 16) (h : Hypergraph) (r : Ranges limits h) where
  pub metric-in : (cs : List Contraction) (p : ℕ → ℕ) → metric h cs p ≤ 15360000
  metric-in cs p = metric-le limits narrow h r.loaded r.nets-high cs p

  pub vertices-in : vertices h ≤ 1024
  vertices-in = omega (arith, r.vertices-high)

  pub blocks-in : h.blocks ≤ 16
  blocks-in = omega (arith, r.loaded.blocks-high)

  pub settled : (q : ℕ) (s : State) (done : Step) → q ≤ 25 → (q ≡ 0 → Bounded done.answer) → Bounded (settle q s done).answer
  unfolding settle
  settled zero s done l f = f refl
  settled (suc q) s done l f = l

  module _ (ceiling : ℕ → ℕ) (s : State) where
    refusals-J : (u v : ℕ) → refuses_j h s u v ≤ 25
    unfolding refuses_j
    refusals-J u v =
        either-le (not (is_vertex h u && is_vertex h v)) 9 _ 25 (omega arith)
        (either-le (eqb u v) 11 _ 25 (omega arith)
        (either-le (not (on_board h s.stack u && on_board h s.stack v)) 10 _ 25 (omega arith)
        (either-le (not (eqb (s.block u) (s.block v))) 13 0 25 (omega arith) (omega arith))))

    pub refusals-M : (v t : ℕ) → refuses_m h ceiling s v t ≤ 25
    unfolding refuses_m
    refusals-M v t =
        either-le (not (is_vertex h v && is_block h t)) 9 _ 25 (omega arith)
        (either-le (not (on_board h s.stack v)) 10 _ 25 (omega arith)
        (either-le (eqb (s.block v) t) 12 _ 25 (omega arith)
        (either-le (is_fixed h s.stack v) 20 _ 25 (omega arith)
        (either-le (not (has_room h ceiling s.stack s.block v t)) 14 0 25 (omega arith) (omega arith)))))

    refusals-W : (u v : ℕ) → refuses_w h s u v ≤ 25
    unfolding refuses_w
    refusals-W u v =
        either-le (not (is_vertex h u && is_vertex h v)) 9 _ 25 (omega arith)
        (either-le (not (on_board h s.stack u && on_board h s.stack v)) 10 0 25 (omega arith) (omega arith))

    refusals-A : (cs : List Contraction) → refuses_a h s cs ≤ 25
    unfolding refuses_a
    refusals-A [] = omega arith
    refusals-A (c ∷ cs) = omega arith

    bounded-J : (u v : ℕ) → Bounded (does_j h s u v).answer
    unfolding does_j contract
    bounded-J u v = omega (arith, weight-le h (record { into = u; gone = v } ∷ s.stack) u, loaded-le limits small h r)

    bounded-S : (cs : List Contraction) → AllInside h cs → Bounded (does_s s cs).answer
    unfolding does_s
    bounded-S [] a = omega arith
    bounded-S (c ∷ cs) a = (omega (arith, a.0.1, vertices-in), omega (arith, a.0.3, vertices-in))

    pub bounded-M : (v t : ℕ) → Bounded (does_m h s v t).answer
    unfolding does_m
    bounded-M v t = (
      freed-le limits narrow h r.loaded r.nets-high s.stack s.block v,
      drawn-le limits narrow h r.loaded r.nets-high s.stack s.block v t,
      metric-in _ _,
    )

    pub bounded-B : (ms : List Move) → Recorded h s.stack ms → Listed h ms → Bounded (does_b h s ms).answer
    unfolding does_b
    bounded-B [] k l = omega arith
    bounded-B (m ∷ ms) k l = (omega (arith, l.0.1, vertices-in), omega (arith, k.0.2, blocks-in), metric-in _ _)

    bounded-W : (u v : ℕ) → Bounded (does_w h ceiling s u v).answer
    unfolding does_w
    bounded-W u v = (
      omega (arith, tried-le h ceiling s.stack s.block u v, vertices-in),
      (walk-counts h ceiling s.stack s.block u v).kept-le,
      metric-in _ _,
    )

    bounded-P : Bounded (does_p h ceiling s).answer
    unfolding does_p
    bounded-P = (omega (arith, polish-count h ceiling s.stack s.block, metric-in s.stack s.block), metric-in _ _)

    bounded-A : Placed h [] s.block → Bounded (does_a h ceiling s).answer
    unfolding does_a
    bounded-A ok =
        let c : Coarse = coarsen h (vertices h) (record { stack = []; block = s.block }) in
        let k = coarsened h (vertices h) s.block (record { stack = []; block = s.block }) (record { sound = tt; inside = tt; placed = ok; same = refl; same-weights = λ b. refl; free = tt }) in
        let f : Fine = refine h ceiling c.stack (record { block = c.block; tried = 0; kept = 0 }) in
        let n = refine-counts h ceiling c.stack (record { block = c.block; tried = 0; kept = 0 }) in
        let joins : length c.stack ≤ 1023 = omega (arith, stack-le h c.stack k.sound k.inside, vertices-in) in (
          joins,
          omega (arith, n.tried-le, mul-le-mul joins vertices-in),
          omega (arith, n.kept-le),
          omega (arith, polish-count h ceiling [] f.block, metric-in [] f.block),
          metric-in _ _,
        )

    accepted-A : (cs : List Contraction) → s.stack ≡ cs → Legal h s → refuses_a h s cs ≡ 0 → Bounded (does_a h ceiling s).answer
    unfolding refuses_a
    accepted-A [] q ok e = bounded-A (subst (λ (l : List Contraction). Placed h l s.block) q ok.placed)
    accepted-A (c ∷ cs) q ok e = absurd (omega arith)

  pub bounded-call : (ceiling : ℕ → ℕ) (s : State) (c : Call) → Legal h s → Listed h s.journal → Bounded (call_under h ceiling s c).answer
  unfolding call_under
  bounded-call ceiling s (call_j u v) ok k = settled (refuses_j h s u v) s (does_j h s u v) (refusals-J ceiling s u v) (λ _. bounded-J ceiling s u v)
  bounded-call ceiling s call_s ok k = bounded-S ceiling s s.stack ok.inside
  bounded-call ceiling s (call_m v t) ok k = settled (refuses_m h ceiling s v t) s (does_m h s v t) (refusals-M ceiling s v t) (λ _. bounded-M ceiling s v t)
  bounded-call ceiling s call_b ok k = bounded-B ceiling s s.journal ok.recorded k
  bounded-call ceiling s (call_w u v) ok k = settled (refuses_w h s u v) s (does_w h ceiling s u v) (refusals-W ceiling s u v) (λ _. bounded-W ceiling s u v)
  bounded-call ceiling s call_p ok k = bounded-P ceiling s
  bounded-call ceiling s call_a ok k = settled (refuses_a h s s.stack) s (does_a h ceiling s) (refusals-A ceiling s s.stack) (accepted-A ceiling s s.stack refl ok)
