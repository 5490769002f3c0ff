-- One mark: which refusal, or the mark and its stamp. Rests on Mark of specs.
use Prim.Native.Nat.{ℕ, suc, ◌+◌, ◌-◌, ◌≤◌, ◌<◌}
use mathlib.Core.Path.{◌≡◌, refl, ap, sym, ◌∙◌}
use mathlib.Core.List.{List, [], ◌∷◌, ◌++◌}
use mathlib.Core.Bool.{Bool, true, false, not, ◌&&◌, ◌||◌, cond, or-true, or-false}
use native.Mathlib.Omega.{arith}
use native.Mathlib.Numerals.{add-one}
use mathlib.Core.Logic.{◌⊎◌, inl, inr}
use native.Mathlib.Decide.{ℕ_discrete}
use lib.ListN.{length, get_or, set, take, length-set}
use lib.Seq.{slice, slice_empty, take-suc-set, take-set-le, length-take-le, drop-append-le, get_or-set_same, get_or-set_other}
use lib.Dec.{eqb, leb}
use borrow.Author.Tests.{eq-eqb, ne_eqb, le-leb, lt-leb}
use Rattle.laws.specs.Fold.{any}
use Rattle.model.specs.Catalogue.{Limits, Hypergraph, vertices, is_vertex}
use Rattle.model.specs.Grammar.{marked, wrong, mark}
use Rattle.lines.specs.Mark.{Stamped, Fresh, MarkOne}

-- one mark more at the end
pub slice-more : (first m v : ℕ) (l : List ℕ) → first ≤ m → m < length l → slice first (m + 1) (set l m v) ≡ slice first m l ++ (v ∷ [])
slice-more first m v l le lt =
    let z : length (take m l) ≡ m = length-take-le m l (omega arith) in
    let u : first ≤ length (take m l) = omega arith in
    rw (add-one, take-suc-set l m v lt) (drop-append-le first (take m l) (v ∷ []) u)

any-more : (l : List ℕ) (v u : ℕ) → any (l ++ (v ∷ [])) (λ x. eqb x u) ≡ (any l (λ x. eqb x u) || eqb v u)
unfolding any
any-more [] v u = or-false (eqb v u)
any-more (x ∷ l) v u = ap (λ (b : Bool). eqb x u || b) (any-more l v u) ∙ go (eqb x u) (any l (λ y. eqb y u)) (eqb v u)
  where
    go : (a b c : Bool) → (a || (b || c)) ≡ ((a || b) || c)
    go true b c = refl
    go false b c = refl

any-nil : (v : ℕ) → any [] (λ x. eqb x v) ≡ false
unfolding any
any-nil v = refl

pub stamped-start : (most j first : ℕ) (marks stamps : List ℕ) → first ≤ most → Fresh j stamps → Stamped most first first j marks stamps
stamped-start most j first marks stamps le f = record {
  f-le = omega arith;
  m-le = le;
  below = λ x. omega (arith, f.below x);
  told = λ v l u. ap (λ (l : List ℕ). any l (λ x. eqb x v)) (slice_empty first marks) ∙ any-nil v ∙ sym (ne_eqb (get_or stamps (v - 1) 0) j (λ e. omega (arith, f.below (v - 1))));
}

module _ (v lots most j m : ℕ) (marks stamps : List ℕ) (lots-le : lots ≤ 1024) (wide : most ≤ length marks) (s_len : length stamps ≡ 1024) where
  mark-is : (limits : Limits) (h : Hypergraph) (vs : List ℕ) (a b c : Bool) → is_vertex h v ≡ a → any vs (λ x. eqb x v) ≡ b → leb limits.pin_limit m ≡ c
      → mark limits h (marked vs m) v ≡ cond (not a) (wrong 3) (cond b (wrong 4) (cond c (wrong 5) (marked (vs ++ (v ∷ [])) (suc m))))
  unfolding mark
  mark-is limits h vs a b c p q r = rw (← p, ← q, ← r)

  never : {A : Type 0} (q : ℕ) → 0 < q → q ≡ 0 → A
  never q l e = absurd (omega arith)

  refused : (q : ℕ) → 0 < q → ((limits : Limits) (h : Hypergraph) (first : ℕ) → limits.pin_limit ≡ most → vertices h ≡ lots → Stamped most first m j marks stamps → mark limits h (marked (slice first m marks) m) v ≡ wrong q) → MarkOne v lots most j m q marks stamps marks stamps
  refused q l f = record {
    keep = refl;
    past = λ x u. refl;
    len = refl;
    slen = refl;
    says = λ limits h first is e st. f limits h first is e st ∙ ap (λ (b : Bool). cond b (marked (slice first (m + 1) marks) (m + 1)) (wrong q)) (sym (ne_eqb q 0 (λ z. omega arith)));
    next = λ first e st. never q l e;
    room = λ e. never q l e;
  }

  outside : (h : Hypergraph) → vertices h ≡ lots → (v < 1) ⊎ (lots < v) → is_vertex h v ≡ false
  outside h e (inl u) = rw (lt-leb 1 v u)
  outside h e (inr u) = rw (e, lt-leb v lots u) (go (leb 1 v))
    where
      go : (b : Bool) → (b && false) ≡ false
      go true = refl
      go false = refl

  pub mark-low : v < 1 → MarkOne v lots most j m 3 marks stamps marks stamps
  mark-low u = refused 3 (omega arith) (λ limits h first is e st. mark-is limits h (slice first m marks) false _ _ (outside h e (inl u)) refl refl)

  pub mark-high : lots < v → MarkOne v lots most j m 3 marks stamps marks stamps
  mark-high u = refused 3 (omega arith) (λ limits h first is e st. mark-is limits h (slice first m marks) false _ _ (outside h e (inr u)) refl refl)

  module _ (low : 1 ≤ v) (high : v ≤ lots) where
    inside : (h : Hypergraph) → vertices h ≡ lots → is_vertex h v ≡ true
    inside h e = rw (e, le-leb 1 v low, le-leb v lots high)

    pub mark-twice : get_or stamps (v - 1) 0 ≡ j → MarkOne v lots most j m 4 marks stamps marks stamps
    mark-twice u = refused 4 (omega arith) (λ limits h first is e st. mark-is limits h (slice first m marks) true true _ (inside h e) (st.told v low (omega arith) ∙ eq-eqb _ _ u) refl)

    module _ (new : get_or stamps (v - 1) 0 ≡ j → ⊥) where
      pub mark-full : most ≤ m → MarkOne v lots most j m 5 marks stamps marks stamps
      mark-full u = refused 5 (omega arith) (λ limits h first is e st. mark-is limits h (slice first m marks) true false true (inside h e) (st.told v low (omega arith) ∙ ne_eqb _ _ new) (le-leb limits.pin_limit m (omega arith)))

      pub mark-new : m < most → MarkOne v lots most j m 0 marks stamps (set marks m v) (set stamps (v - 1) j)
      mark-new u = record {
        keep = take-set-le m marks m v (omega arith);
        past = λ x z. get_or-set_other marks m x v 0 (λ c. omega arith);
        len = simp length-set;
        slen = simp length-set;
        says = λ limits h first is e st.
            mark-is limits h (slice first m marks) true false false (inside h e) (st.told v low (omega arith) ∙ ne_eqb _ _ new) (lt-leb limits.pin_limit m (omega arith))
            ∙ ap (λ (l : List ℕ). marked l (suc m)) (sym (slice-more first m v marks st.f-le (omega arith)))
            ∙ ap (marked (slice first (m + 1) (set marks m v))) (sym (add-one m));
        next = λ first e st. record {
          f-le = omega (arith, st.f-le);
          m-le = omega arith;
          below = λ x. stamp-le x (st.below x) (ℕ_discrete x (v - 1));
          told = λ w l k. ap (λ (l : List ℕ). any l (λ x. eqb x w)) (slice-more first m v marks st.f-le (omega arith)) ∙ any-more (slice first m marks) v w ∙ tell w l (any (slice first m marks) (λ x. eqb x w)) (st.told w l k) (ℕ_discrete w v);
        };
        room = λ e. u;
      }
        where
          stamp-le : (x : ℕ) → get_or stamps x 0 ≤ j → Dec (x ≡ v - 1) → get_or (set stamps (v - 1) j) x 0 ≤ j
          stamp-le x l (yes e) = omega (arith, ap (λ (y : ℕ). get_or (set stamps (v - 1) j) y 0) e, get_or-set_same stamps (v - 1) j 0 (omega arith))
          stamp-le x l (no n) = omega (arith, get_or-set_other stamps (v - 1) x j 0 n)

          tell : (w : ℕ) → 1 ≤ w → (b : Bool) → b ≡ eqb (get_or stamps (w - 1) 0) j → Dec (w ≡ v) → (b || eqb v w) ≡ eqb (get_or (set stamps (v - 1) j) (w - 1) 0) j
          tell w l b e (yes q) =
              let p : get_or (set stamps (v - 1) j) (w - 1) 0 ≡ j = ap (λ (y : ℕ). get_or (set stamps (v - 1) j) (y - 1) 0) q ∙ get_or-set_same stamps (v - 1) j 0 (omega arith) in
              ap (λ (c : Bool). b || c) (eq-eqb v w (sym q)) ∙ or-true b ∙ sym (eq-eqb _ _ p)
          tell w l b e (no n) =
              ap (λ (c : Bool). b || c) (ne_eqb v w (λ z. n (sym z))) ∙ or-false b ∙ e
              ∙ ap (λ (y : ℕ). eqb y j) (sym (get_or-set_other stamps (v - 1) (w - 1) j 0 (λ z. n (omega arith))))
