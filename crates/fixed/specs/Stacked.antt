-- Who is fixed after one contraction more (joined-gone, joined-into, joined-other), so the marks after it (joined_free, joined-fixed), and
-- the marks along a stack. Rests on Starting, and on guarantees' Climbs and Fixed. Assumes nothing.
use Rattle.std.specs.Prelude.{ℕ, ◌+◌, ◌-◌, ◌<◌, ◌≤◌, ◌≡◌, Bool, ◌&&◌, ◌||◌, List, [], ◌∷◌, ltb, get_or}
use Rattle.std.proofs.Math.Decide.{ℕ_discrete}
use Rattle.std.proofs.Common.{add-one, sym, ◌∙◌, subst}
use native.Mathlib.Omega.{arith}
use Rattle.std.proofs.Math.Path.{refl, ap}
use Rattle.std.proofs.Math.Bool.{true, false}
use borrow.Author.Tests.{lt-ltb, ltb-true}
use Rattle.std.proofs.Math.Dec.{eqb}
use Rattle.laws.specs.Choice.{one}
use Rattle.laws.specs.Sum.{count_to, sum_to-ext, sum_to-mono}
use Rattle.model.specs.Catalogue.{Hypergraph, vertices, fixed_entry}
use Rattle.model.specs.Measure.{Contraction, representative, is_fixed}
use Rattle.model.specs.Lent.{pairs, stack_of}
use Rattle.guarantees.specs.Climbs.{Sound, stands-gone, stands-into, stands-other}
use Rattle.guarantees.specs.Splits.{Inside, AllInside}
use Rattle.guarantees.specs.Fixed.{fixed_by, fixed-free-of, fixed-join}
use Rattle.incidence.specs.On.{on, Changed}
use Rattle.fixed.specs.Starting.{FixedIs, FixedJoin, FixedIn}

-- ---- who is fixed after one contraction more
module _ (h : Hypergraph) (cs : List Contraction) (c : Contraction) (s : Sound (c ∷ cs)) where
  -- the vertex that left the board is not
  pub joined-gone : is_fixed h (c ∷ cs) c.gone ≡ false
  joined-gone = fixed-free-of h (c ∷ cs) c.gone (λ v _ _. ap (λ (b : Bool). b && eqb (fixed_entry h v) 1) (stands-gone cs c s v))

  -- the one that it was joined into is, if it was
  pub joined-into : is_fixed h cs c.gone ≡ true → is_fixed h (c ∷ cs) c.into ≡ true
  unfolding is_fixed
  joined-into q =
      lt-ltb 0 (count_to (vertices h) (fixed_by h (c ∷ cs) c.into))
      (omega (
        arith,
        ltb-true 0 (count_to (vertices h) (fixed_by h cs c.gone)) q,
        sum_to-mono (vertices h) (λ v. one (fixed_by h cs c.gone v)) (λ v. one (fixed_by h (c ∷ cs) c.into v)) (λ v _ _. each v),
      ))
    where
      most : (a b k : Bool) → one (b && k) ≤ one ((a || b) && k)
      most true true k = omega arith
      most true false k = omega arith
      most false b k = omega arith

      each : (v : ℕ) → one (fixed_by h cs c.gone v) ≤ one (fixed_by h (c ∷ cs) c.into v)
      each v = omega (
        arith,
        most (eqb (representative cs v) c.into) (eqb (representative cs v) c.gone) (eqb (fixed_entry h v) 1),
        ap (λ (b : Bool). one (b && eqb (fixed_entry h v) 1)) (stands-into cs c s v),
      )

  -- any other is as before
  pub joined-other : (x : ℕ) → (x ≡ c.gone → ⊥) → (x ≡ c.into → ⊥) → is_fixed h (c ∷ cs) x ≡ is_fixed h cs x
  unfolding is_fixed
  joined-other x ng ni = ap (ltb 0) (sum_to-ext (vertices h) _ _ (λ v _ _. ap (λ (b : Bool). one (b && eqb (fixed_entry h v) 1)) (stands-other cs c s x ng ni v)))

-- ---- the marks after it

-- the vertex that leaves the board, v counted from 0, is not fixed
pub joined_free : (l : List ℕ) (into gone v : ℕ) → v ≡ gone - 1 → eqb (on l 1 v) 1 ≡ false → FixedJoin l into gone l
joined_free l into gone v ev q = record {
  is = λ h cs c few ei eg s i f.
      let e : v + 1 ≡ c.gone = omega (arith, i.2) in
      let n : is_fixed h cs c.gone ≡ false = ap (is_fixed h cs) (sym e) ∙ sym (f.fixed v (omega (arith, i.3))) ∙ q in
      record {
        len = f.len;
        fixed = λ x k. f.fixed x k ∙ sym (fixed-join h cs c s n (x + 1));
        no-candidate = f.no-candidate;
        no-net = f.no-net;
      };
  len = refl;
}

-- it is fixed: its mark is taken, and the vertex that it is joined into, u counted from 0, gets one
module _ {l l₁ l₂ : List ℕ} (into gone u v : ℕ) (eu : u ≡ into - 1) (ev : v ≡ gone - 1) (q : eqb (on l 1 v) 1 ≡ true) (a : Changed l l₁ 1 v 0) (b : Changed l₁ l₂ 1 u 1) where
  row : (h : Hypergraph) (cs : List Contraction) (c : Contraction) → vertices h ≤ 1024 → c.into ≡ into → c.gone ≡ gone → Sound (c ∷ cs) → Inside h c → FixedIs l h cs
      → (x : ℕ) → x < vertices h → Dec (x ≡ u) → Dec (x ≡ v) → eqb (on l₂ 1 x) 1 ≡ is_fixed h (c ∷ cs) (x + 1)
  row h cs c few ei eg s i f x k (yes p) _ =
      let e : c.into ≡ x + 1 = omega (arith, i.0) in
      let e' : v + 1 ≡ c.gone = omega (arith, i.2) in
      ap (λ (y : ℕ). eqb (on l₂ 1 y) 1) p
      ∙ ap (λ (z : ℕ). eqb z 1) b.here
      ∙ sym (joined-into h cs c s (ap (is_fixed h cs) (sym e') ∙ sym (f.fixed v (omega (arith, i.3))) ∙ q))
      ∙ ap (is_fixed h (c ∷ cs)) e
  row h cs c few ei eg s i f x k (no p) (yes r) =
      let e : c.gone ≡ x + 1 = omega (arith, i.2) in
      ap (λ (z : ℕ). eqb z 1) (b.elsewhere 1 x (omega arith) (λ _ z. p z) ∙ ap (on l₁ 1) r ∙ a.here)
      ∙ sym (joined-gone h cs c s)
      ∙ ap (is_fixed h (c ∷ cs)) e
  row h cs c few ei eg s i f x k (no p) (no r) =
      ap (λ (z : ℕ). eqb z 1) (b.elsewhere 1 x (omega arith) (λ _ z. p z) ∙ a.elsewhere 1 x (omega arith) (λ _ z. r z))
      ∙ f.fixed x k
      ∙ sym (joined-other h cs c s (x + 1) (λ z. r (omega arith)) (λ z. p (omega arith)))

  pub joined-fixed : FixedJoin l into gone l₂
  joined-fixed = record {
    is = λ h cs c few ei eg s i f. record {
      len = b.len ∙ a.len ∙ f.len;
      fixed = λ x k. row h cs c few ei eg s i f x k (ℕ_discrete x u) (ℕ_discrete x v);
      no-candidate = λ x k. b.elsewhere 0 x k (λ z _. omega arith) ∙ a.elsewhere 0 x k (λ z _. omega arith) ∙ f.no-candidate x k;
      no-net = λ e k. b.elsewhere 2 e k (λ z _. omega arith) ∙ a.elsewhere 2 e k (λ z _. omega arith) ∙ f.no-net e k;
    };
    len = b.len ∙ a.len;
  }

-- ---- along a stack
module _ (into gone : List ℕ) where
  stack-none : stack_of into gone 0 ≡ []
  unfolding pairs
  stack-none = refl

  stack-more : (i : ℕ) → stack_of into gone (i + 1) ≡ record { into = get_or into i 0; gone = get_or gone i 0 } ∷ stack_of into gone i
  unfolding pairs
  stack-more i = ap (stack_of into gone) (add-one i)

  pub stacked-none : (l : List ℕ) → FixedIn l into gone 0 l
  stacked-none l = record { is = λ h few s a f. subst (FixedIs l h) (sym stack-none) f }

  pub stacked-more : {l l' l'' : List ℕ} (i : ℕ) → FixedIn l into gone i l' → FixedJoin l' (get_or into i 0) (get_or gone i 0) l'' → FixedIn l into gone (i + 1) l''
  stacked-more {l'' = l''} i f j = record {
    is = λ h few s a k.
        let c : Contraction = record { into = get_or into i 0; gone = get_or gone i 0 } in
        let s' : Sound (c ∷ stack_of into gone i) = subst Sound (stack-more i) s in
        let a' : AllInside h (c ∷ stack_of into gone i) = subst (AllInside h) (stack-more i) a in
        subst (FixedIs l'' h) (sym (stack-more i)) (j.is h (stack_of into gone i) c few refl refl s' a'.0 (f.is h few s'.1 a'.1 k));
  }
