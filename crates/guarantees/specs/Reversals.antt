-- The latest move on the journal can be reversed: its vertex is in another block than the one it left, and so on down the journal
-- (apart-call). Rests on Reading's tests. Assumes nothing.
use Prim.Native.Nat.{ℕ, zero, suc}
use Rattle.std.proofs.Common.{arith, sym, ◌∙◌}
use Rattle.std.specs.Prelude.{◌≡◌, not, ◌&&◌, eqb}
use Rattle.std.proofs.Math.Path.{refl, subst}
use mathlib.Core.List.{List, [], ◌∷◌}
use borrow.Author.Tests.{eqb-false}
use Rattle.laws.specs.Choice.{cond-zero}
use Rattle.laws.specs.Place.{place, place_at, place-back}
use Rattle.model.specs.Catalogue.{Hypergraph, is_vertex, is_block}
use Rattle.model.specs.Measure.{Contraction, on_board}
use Rattle.model.specs.Machine.{Call, call_j, call_s, call_m, call_b, call_w, call_p, call_a, Move, State, Step, settle, refuses_j, contract, does_j, refuses_m, does_m, does_s, does_b}
use Rattle.model.specs.Search.{refuses_w, does_w, does_p, refuses_a, does_a, call_under}

abbrev pub Apart : (ℕ → ℕ) → List Move → Type 0
Apart p [] = Unit {0}
Apart p (m ∷ ms) = (p m.vertex ≡ m.from → ⊥) × Apart (place p m.vertex m.from) ms

abbrev ApartIn : State → Type 0
ApartIn s = Apart s.block s.journal

module _ (h : Hypergraph) (ceiling : ℕ → ℕ) where
  settled : (q : ℕ) (s : State) (done : Step) → ApartIn s → (q ≡ 0 → ApartIn done.state) → ApartIn (settle q s done).state
  unfolding settle
  settled zero s done ok f = f refl
  settled (suc q) s done ok f = ok

  apart-M : (s : State) (v t : ℕ) → ApartIn s → refuses_m h ceiling s v t ≡ 0 → ApartIn (does_m h s v t).state
  unfolding refuses_m does_m
  apart-M s v t ok q =
      let a = cond-zero (not (is_vertex h v && is_block h t)) 9 _ (omega arith) q in
      let b = cond-zero (not (on_board h s.stack v)) 10 _ (omega arith) a.1 in
      let c = cond-zero (eqb (s.block v) t) 12 _ (omega arith) b.1 in
      (λ z. eqb-false (s.block v) t c.0 (sym z ∙ place_at s.block v t), subst (λ (p : ℕ → ℕ). Apart p s.journal) (sym (place-back s.block v t)) ok)

  apart-S : (s : State) (cs : List Contraction) → ApartIn s → ApartIn (does_s s cs).state
  unfolding does_s
  apart-S s [] ok = ok
  apart-S s (c ∷ cs) ok = tt

  apart-B : (s : State) (ms : List Move) → s.journal ≡ ms → ApartIn s → ApartIn (does_b h s ms).state
  unfolding does_b
  apart-B s [] q ok = ok
  apart-B s (m ∷ ms) q ok = let r : Apart s.block (m ∷ ms) = subst (Apart s.block) q ok in r.1

  pub apart-call : (s : State) (c : Call) → ApartIn s → ApartIn (call_under h ceiling s c).state
  unfolding call_under does_j contract does_w does_p does_a
  apart-call s (call_j u v) ok = settled (refuses_j h s u v) s (does_j h s u v) ok (λ _. tt)
  apart-call s call_s ok = apart-S s s.stack ok
  apart-call s (call_m v t) ok = settled (refuses_m h ceiling s v t) s (does_m h s v t) ok (apart-M s v t ok)
  apart-call s call_b ok = apart-B s s.journal refl ok
  apart-call s (call_w u v) ok = settled (refuses_w h s u v) s (does_w h ceiling s u v) ok (λ _. tt)
  apart-call s call_p ok = tt
  apart-call s call_a ok = settled (refuses_a h s s.stack) s (does_a h ceiling s) ok (λ _. tt)
