-- The call that a letter's byte and two numbers are, by kinds: J and S; M, B, W and P; A. Rests on model's Grammar. Assumes nothing.
use Rattle.std.specs.Prelude.{ℕ, zero, suc, ◌≡◌, refl, Bool, true, false, cond, ◌||◌, List, [], ◌∷◌, eqb}
use Rattle.std.proofs.Common.{arith, sym, ap, ◌∙◌, subst, eq-eqb, ne_eqb}
use Rattle.laws.specs.Choice.{cond_yes, cond_no}
use Rattle.model.specs.Catalogue.{Hypergraph}
use Rattle.model.specs.Machine.{Call, call_j, call_s, call_m, call_b, call_w, call_p, call_a, Answer, says_no}
use Rattle.model.specs.Grammar.{asks, nothing, call_of, late_of, stretch_of, letter_j, letter_s, letter_m, letter_b, letter_w, letter_p, letter_a, letter_x, letter_n}
use Rattle.model.specs.Sale.{runs, call_x}
use Rattle.model.specs.Lent.{Two}
use Rattle.operations.specs.Tables.{Tables}
use Rattle.edit_calls.specs.Steps.{told}
use Rattle.edit_calls.specs.Called.{Called}

-- the letters J and S
abbrev pub contracts : ℕ → Bool
contracts letter = eqb letter letter_j || eqb letter letter_s

-- the letters M, B, W and P
abbrev pub moves : ℕ → Bool
moves letter = eqb letter letter_m || (eqb letter letter_b || (eqb letter letter_w || eqb letter letter_p))

-- J, and S for every other letter
abbrev pub contracting_call : ℕ → ℕ → ℕ → Call
contracting_call letter x y = cond (eqb letter letter_j) (call_j x y) call_s

-- M, B, W, and P for every other letter
abbrev pub moving_call : ℕ → ℕ → ℕ → Call
moving_call letter x y = cond (eqb letter letter_m) (call_m x y) (cond (eqb letter letter_b) call_b (cond (eqb letter letter_w) (call_w x y) call_p))

-- all seven, and A for every other letter
abbrev pub any_call : ℕ → ℕ → ℕ → Call
any_call letter x y = cond (contracts letter) (contracting_call letter x y) (cond (moves letter) (moving_call letter x y) call_a)

-- a letter of a call is taken for that call
pub any-is : (operands : List ℕ) (letter x y : ℕ) (c : Call) → call_of operands letter x y ≡ asks (runs c) → any_call letter x y ≡ c
unfolding call_of late_of
any-is operands letter x y c = go (eqb letter letter_j) (eqb letter letter_s) (eqb letter letter_m) (eqb letter letter_b) (eqb letter letter_w) (eqb letter letter_p) (eqb letter letter_a) (eqb letter letter_x) (eqb letter letter_n)
  where
    same : {a b : Call} → asks (runs a) ≡ asks (runs b) → a ≡ b
    same e = cc

    -- X and N are no calls of the machine
    late : (l : List ℕ) → late_of l ≡ asks (runs c) → ⊥
    late [] e = let z : ◌≡◌ {A = ℕ} 0 1 = cc in omega arith
    late (bales ∷ []) e = let z : ◌≡◌ {A = ℕ} 0 1 = cc in omega arith
    late (bales ∷ (session ∷ buyers)) e = let z : ◌≡◌ {A = ℕ} 0 1 = cc in omega arith

    go : (j s m b w p a o n : Bool) → cond j (asks (runs (call_j x y))) (cond s (asks (runs call_s)) (cond m (asks (runs (call_m x y))) (cond b (asks (runs call_b)) (cond w (asks (runs (call_w x y))) (cond p (asks (runs call_p)) (cond a (asks (runs call_a))
        (cond o (asks (call_x x)) (cond n (late_of (stretch_of operands x y)) nothing)))))))) ≡ asks (runs c)
        → cond (j || s) (cond j (call_j x y) call_s) (cond (m || (b || (w || p))) (cond m (call_m x y) (cond b call_b (cond w (call_w x y) call_p))) call_a) ≡ c
    go true s m b w p a o n e = same e
    go false true m b w p a o n e = same e
    go false false true b w p a o n e = same e
    go false false false true w p a o n e = same e
    go false false false false true p a o n e = same e
    go false false false false false true a o n e = same e
    go false false false false false false true o n e = same e
    go false false false false false false false true n e = absurd (let z : ◌≡◌ {A = ℕ} 0 1 = cc in omega arith)
    go false false false false false false false false true e = absurd (late (stretch_of operands x y) e)
    go false false false false false false false false false e = absurd (let z : ◌≡◌ {A = ℕ} 0 1 = cc in omega arith)

-- ---- the arms of the code's tests
pub either_first : (x n : ℕ) (b : Bool) → x ≡ n → true ≡ (eqb x n || b)
either_first x n b e = sym (ap (λ (t : Bool). t || b) (eq-eqb x n e))

pub either_rest : (x n : ℕ) {b r : Bool} → (x ≡ n → ⊥) → r ≡ b → r ≡ (eqb x n || b)
either_rest x n {b} z e = e ∙ sym (ap (λ (t : Bool). t || b) (ne_eqb x n z))

pub told-some : (q : ℕ) (a : Answer) → (q ≡ 0 → ⊥) → says_no q ≡ told q a
told-some zero a z = absurd (z refl)
told-some (suc q) a z = refl

-- ---- which call it is
module _ (letter x y : ℕ) where
  pub is-J : letter ≡ letter_j → contracting_call letter x y ≡ call_j x y
  is-J e = cond_yes letter letter_j _ _ e

  pub is-S : (letter ≡ letter_j → ⊥) → contracting_call letter x y ≡ call_s
  is-S j = cond_no letter letter_j _ _ j

  pub is-M : letter ≡ letter_m → moving_call letter x y ≡ call_m x y
  is-M e = cond_yes letter letter_m _ _ e

  pub is-B : (letter ≡ letter_m → ⊥) → letter ≡ letter_b → moving_call letter x y ≡ call_b
  is-B m e = cond_no letter letter_m _ _ m ∙ cond_yes letter letter_b _ _ e

  pub is-W : (letter ≡ letter_m → ⊥) → (letter ≡ letter_b → ⊥) → letter ≡ letter_w → moving_call letter x y ≡ call_w x y
  is-W m b e = cond_no letter letter_m _ _ m ∙ cond_no letter letter_b _ _ b ∙ cond_yes letter letter_w _ _ e

  pub is-P : (letter ≡ letter_m → ⊥) → (letter ≡ letter_b → ⊥) → (letter ≡ letter_w → ⊥) → moving_call letter x y ≡ call_p
  is-P m b w = cond_no letter letter_m _ _ m ∙ cond_no letter letter_b _ _ b ∙ cond_no letter letter_w _ _ w

  module _ {r : Bool} (e : r ≡ contracts letter) where
    pub any-contracting : r ≡ true → any_call letter x y ≡ contracting_call letter x y
    any-contracting q = ap (λ (t : Bool). cond t (contracting_call letter x y) (cond (moves letter) (moving_call letter x y) call_a)) (sym e ∙ q)

    module _ (q : r ≡ false) {r' : Bool} (e' : r' ≡ moves letter) where
      other : any_call letter x y ≡ cond r' (moving_call letter x y) call_a
      other =
          ap (λ (t : Bool). cond t (contracting_call letter x y) (cond (moves letter) (moving_call letter x y) call_a)) (sym e ∙ q)
          ∙ ap (λ (t : Bool). cond t (moving_call letter x y) call_a) (sym e')

      pub any-moving : r' ≡ true → any_call letter x y ≡ moving_call letter x y
      any-moving q' = other ∙ ap (λ (t : Bool). cond t (moving_call letter x y) call_a) q'

      pub any-all : r' ≡ false → any_call letter x y ≡ call_a
      any-all q' = other ∙ ap (λ (t : Bool). cond t (moving_call letter x y) call_a) q'

-- a step of the same call, with the same answer
pub called-as : {h : Hypergraph} {ceiling : ℕ → ℕ} {T T' : Tables} {S S' J J' : Two} {c c' : Call} {a a' : Answer} → c' ≡ c → a' ≡ a → Called h ceiling T T' S S' J J' c a → Called h ceiling T T' S S' J J' c' a'
called-as {h} {ceiling} {T} {T'} {S} {S'} {J} {J'} {c} {c'} {a} {a'} p q d = subst (λ (x : Call). Called h ceiling T T' S S' J J' x a') (sym p) (subst (λ (x : Answer). Called h ceiling T T' S S' J J' c x) (sym q) d)
