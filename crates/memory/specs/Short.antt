-- The stack of joins, the record of moves and the free numbers are no longer than the list of calls. Rests on guarantees' Reached. Assumes nothing.
use Prim.Native.Nat.{ℕ, suc, ◌+◌, ◌≤◌}
use Rattle.std.proofs.Common.{zero-add}
use native.Mathlib.Omega.{arith}
use Rattle.std.specs.Prelude.{◌≡◌, drop}
use Rattle.std.proofs.Math.Path.{subst}
use mathlib.Core.List.{List, [], ◌∷◌}
use Rattle.std.proofs.Math.ListN.{length, length-drop}
use Rattle.model.specs.Catalogue.{Limits, Hypergraph, capacities}
use Rattle.model.specs.Machine.{fresh}
use Rattle.model.specs.Sale.{Request, runs, call_x, call_n, Sale, opened, space_of, ran, turn_under, turn, does_x, does_n, refuses_x, refuses_n}
use Rattle.model.specs.Engine.{after}
use Rattle.guarantees.specs.StateBounds.{stack-call, journal-call}
use Rattle.guarantees.specs.Reached.{turned-keeps}

pub record Short (n : ℕ) (a : Sale) : Type 0 where
  pub stack : length a.state.stack ≤ n
  pub journal : length a.state.journal ≤ n
  pub free : length a.free ≤ n

module _ (limits : Limits) where
  longer : {n : ℕ} {a : Sale} → Short n a → Short (suc n) a
  longer s = record { stack = omega (arith, s.stack); journal = omega (arith, s.journal); free = omega (arith, s.free) }

  short-turn : (n : ℕ) (a : Sale) (c : Request) → Short n a → Short (suc n) (turn limits a c).sale
  unfolding turn_under ran does_x does_n fresh
  short-turn n a (runs c) s = record {
    stack = omega (arith, s.stack, stack-call a.graph (capacities a.graph) a.state c);
    journal = journal-call a.graph n (capacities a.graph) a.state c s.journal;
    free = omega (arith, s.free);
  }
  short-turn n a (call_x v) s = turned-keeps limits (Short (suc n)) (refuses_x a.graph a.state v) a (does_x a v) (longer s) (λ q. record { stack = omega arith; journal = omega arith; free = omega (arith, s.free) })
  short-turn n a (call_n bales session buyers) s =
      turned-keeps limits (Short (suc n)) (refuses_n (space_of limits) a.graph (capacities a.graph) a.state bales session buyers) a (does_n a bales session buyers) (longer s)
      (λ q. record { stack = omega arith; journal = omega arith; free = omega (arith, s.free, length-drop 1 a.free) })

  short-after : (n : ℕ) (a : Sale) (calls : List Request) → Short n a → Short (n + length calls) (after limits a calls)
  unfolding after
  short-after n a [] s = let q : n + 0 ≡ n = omega arith in rw q s
  short-after n a (c ∷ cs) s = let q : n + suc (length cs) ≡ suc n + length cs = omega arith in rw q (short-after (suc n) (turn limits a c).sale cs (short-turn n a c s))

  pub short-reached : (h : Hypergraph) (calls : List Request) → Short (length calls) (after limits (opened h) calls)
  unfolding fresh
  short-reached h calls = subst (λ (n : ℕ). Short n (after limits (opened h) calls)) (zero-add (length calls)) (short-after 0 (opened h) calls (record { stack = omega arith; journal = omega arith; free = omega arith }))
