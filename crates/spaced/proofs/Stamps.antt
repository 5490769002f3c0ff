-- One vertex more of an edge: whether it is refused, or its stamp. Rests on Pins of specs.
use Prim.Native.Nat.{ℕ, ◌-◌, ◌≤◌, ◌<◌}
use native.Mathlib.Decide.{ℕ_discrete}
use native.Mathlib.Omega.{arith}
use mathlib.Core.Path.{◌≡◌, refl, ap, sym, ◌∙◌}
use mathlib.Core.Bool.{Bool, true, false, not, ◌&&◌, ◌||◌, or-true, or-false, and-false}
use mathlib.Core.List.{List, [], ◌∷◌, ◌++◌}
use borrow.Author.Tests.{eq-eqb, ne_eqb, le-leb, lt-leb}
use lib.Dec.{eqb, leb}
use lib.ListN.{length, get_or, set, length-set}
use lib.Seq.{get_or-set_same, get_or-set_other}
use Rattle.laws.specs.Fold.{any}
use Rattle.model.specs.Grammar.{within}
use Rattle.spaced.specs.Pins.{Fresh, Stamped, StampOne}

any-more : (l : List ℕ) (v u : ℕ) → any (l ++ (v ∷ [])) (λ x. eqb x u) ≡ (any l (λ x. eqb x u) || eqb v u)
unfolding any
any-more [] v u = or-false (eqb v u)
any-more (x ∷ l) v u = ap (λ (b : Bool). eqb x u || b) (any-more l v u) ∙ go (eqb x u) (any l (λ y. eqb y u)) (eqb v u)
  where
    go : (a b c : Bool) → (a || (b || c)) ≡ ((a || b) || c)
    go true b c = refl
    go false b c = refl

any-nil : (v : ℕ) → any [] (λ x. eqb x v) ≡ false
unfolding any
any-nil v = refl

pub stamped-none : (n j : ℕ) (stamps : List ℕ) → Fresh j stamps → Stamped n [] j stamps
stamped-none n j stamps f = record {
  below = λ x. omega (arith, f.below x);
  told = λ v l u. any-nil v ∙ sym (ne_eqb (get_or stamps (v - 1) 0) j (λ e. omega (arith, f.below (v - 1))));
}

module _ (v n j : ℕ) (stamps : List ℕ) (n-le : n ≤ 1024) (s_len : length stamps ≡ 1024) where
  abbrev new : List ℕ → Bool
  new seen = not (any seen (λ x. eqb x v))

  -- no stamp is set, since v is no vertex, or has its stamp
  kept : (seen : List ℕ) → ((w : ℕ) → 1 ≤ w → w ≤ n → v ≡ w → any seen (λ x. eqb x w) ≡ true) → Stamped n seen j stamps → Stamped n (seen ++ (v ∷ [])) j stamps
  kept seen old st = record { below = st.below; told = λ w l k. any-more seen v w ∙ go w l k (ℕ_discrete v w) ∙ st.told w l k }
    where
      go : (w : ℕ) → 1 ≤ w → w ≤ n → Dec (v ≡ w) → (any seen (λ x. eqb x w) || eqb v w) ≡ any seen (λ x. eqb x w)
      go w l k (yes q) = ap (λ (b : Bool). b || eqb v w) (old w l k q) ∙ sym (old w l k q)
      go w l k (no m) = ap (λ (b : Bool). any seen (λ x. eqb x w) || b) (ne_eqb v w m) ∙ or-false (any seen (λ x. eqb x w))

  pub stamp-low : v < 1 → StampOne v n j false stamps stamps
  stamp-low u = record {
    len = refl;
    says = λ seen st. sym (ap (λ (b : Bool). b && leb v n && new seen) (lt-leb 1 v u));
    next = λ seen st. kept seen (λ w l k q. absurd (omega arith)) st;
  }

  pub stamp-high : n < v → StampOne v n j false stamps stamps
  stamp-high u = record {
    len = refl;
    says = λ seen st. sym (ap (λ (b : Bool). leb 1 v && b && new seen) (lt-leb v n u) ∙ ap (λ (b : Bool). b && new seen) (and-false (leb 1 v)));
    next = λ seen st. kept seen (λ w l k q. absurd (omega arith)) st;
  }

  module _ (low : 1 ≤ v) (high : v ≤ n) where
    pub stamp-twice : get_or stamps (v - 1) 0 ≡ j → StampOne v n j false stamps stamps
    stamp-twice u = record {
      len = refl;
      says = λ seen st. sym (ap (λ (b : Bool). within 1 n v && not b) (st.told v low high ∙ eq-eqb _ _ u) ∙ and-false (within 1 n v));
      next = λ seen st. kept seen (λ w l k q. ap (λ (y : ℕ). any seen (λ x. eqb x y)) (sym q) ∙ st.told v low high ∙ eq-eqb _ _ u) st;
    }

    pub stamp-new : (get_or stamps (v - 1) 0 ≡ j → ⊥) → StampOne v n j true stamps (set stamps (v - 1) j)
    stamp-new u = record {
      len = simp length-set;
      says = λ seen st. sym (ap (λ (b : Bool). b && leb v n && new seen) (le-leb 1 v low) ∙ ap (λ (b : Bool). b && new seen) (le-leb v n high) ∙ ap not (st.told v low high ∙ ne_eqb _ _ u));
      next = λ seen st. record {
        below = λ x. stamp-le x (st.below x) (ℕ_discrete x (v - 1));
        told = λ w l k. any-more seen v w ∙ tell w l (any seen (λ x. eqb x w)) (st.told w l k) (ℕ_discrete w v);
      };
    }
      where
        stamp-le : (x : ℕ) → get_or stamps x 0 ≤ j → Dec (x ≡ v - 1) → get_or (set stamps (v - 1) j) x 0 ≤ j
        stamp-le x l (yes e) = omega (arith, ap (λ (y : ℕ). get_or (set stamps (v - 1) j) y 0) e, get_or-set_same stamps (v - 1) j 0 (omega arith))
        stamp-le x l (no n) = omega (arith, get_or-set_other stamps (v - 1) x j 0 n)

        tell : (w : ℕ) → 1 ≤ w → (b : Bool) → b ≡ eqb (get_or stamps (w - 1) 0) j → Dec (w ≡ v) → (b || eqb v w) ≡ eqb (get_or (set stamps (v - 1) j) (w - 1) 0) j
        tell w l b e (yes q) =
            let p : get_or (set stamps (v - 1) j) (w - 1) 0 ≡ j = ap (λ (y : ℕ). get_or (set stamps (v - 1) j) (y - 1) 0) q ∙ get_or-set_same stamps (v - 1) j 0 (omega arith) in
            ap (λ (c : Bool). b || c) (eq-eqb v w (sym q)) ∙ or-true b ∙ sym (eq-eqb _ _ p)
        tell w l b e (no n) =
            ap (λ (c : Bool). b || c) (ne_eqb v w (λ z. n (sym z))) ∙ or-false b ∙ e
            ∙ ap (λ (y : ℕ). eqb y j) (sym (get_or-set_other stamps (v - 1) (w - 1) j 0 (λ z. n (omega arith))))
