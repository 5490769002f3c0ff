-- A choice by a test (the library's cond), 1 for true, and the laws of both, of && and of ||. Assumes nothing.
-- one: one-le, one-full, one_none, one-eqb · cond: cond_yes, cond_no, cond-zero, cond-or, cond-le · &&: and_left, and_right · ||: or-none · eqb-sym
use Rattle.std.specs.Prelude.{ℕ, ◌+◌, ◌≤◌, ◌≡◌, refl, Bool, true, false, cond, ◌&&◌, ◌||◌, eqb}
use Rattle.std.proofs.Math.Decide.{ℕ_discrete}
use Rattle.std.proofs.Common.{arith, sym, ap, ◌∙◌, true≢false, eq-eqb, ne_eqb}

-- 1 for true
abbrev pub one : Bool → ℕ
one true = 1
one false = 0

pub one-le : (b : Bool) → one b ≤ 1
one-le true = omega arith
one-le false = omega arith

pub one-full : (b : Bool) → 1 ≤ one b → b ≡ true
one-full true l = refl
one-full false l = absurd (omega arith)

pub one_none : (b : Bool) → one b ≡ 0 → b ≡ false
one_none true q = absurd (omega arith)
one_none false q = refl

-- a choice by an equation that holds, and by one that fails
pub cond_yes : {A : Type 0} (x y : ℕ) (a b : A) → x ≡ y → cond (eqb x y) a b ≡ a
cond_yes x y a b q = ap (λ (t : Bool). cond t a b) (eq-eqb x y q)

pub cond_no : {A : Type 0} (x y : ℕ) (a b : A) → (x ≡ y → ⊥) → cond (eqb x y) a b ≡ b
cond_no x y a b n = ap (λ (t : Bool). cond t a b) (ne_eqb x y n)

-- a refusal's number is not 0: where the choice is 0, the test failed
pub cond-zero : (b : Bool) (q n : ℕ) → 1 ≤ q → cond b q n ≡ 0 → (b ≡ false) × (n ≡ 0)
cond-zero true q n l e = absurd (omega arith)
cond-zero false q n l e = (refl, e)

-- of two tests at most one passes
pub cond-or : (a b : Bool) (w : ℕ) → (a ≡ true → b ≡ false) → cond (a || b) w 0 ≡ cond a w 0 + cond b w 0
cond-or true true w f = absurd (true≢false (f refl))
cond-or true false w f = omega arith
cond-or false true w f = omega arith
cond-or false false w f = omega arith

pub cond-le : (b : Bool) (w m : ℕ) → w ≤ m → cond b w 0 ≤ m
cond-le true w m l = l
cond-le false w m l = omega arith

pub and_left : (a b : Bool) → (a && b) ≡ true → a ≡ true
and_left true b q = refl
and_left false b q = q

pub and_right : (a b : Bool) → (a && b) ≡ true → b ≡ true
and_right true b q = q
and_right false b q = absurd (true≢false (sym q))

-- neither passes
pub or-none : (a b : Bool) → (a || b) ≡ false → (a ≡ false) × (b ≡ false)
or-none true b e = absurd (true≢false e)
or-none false b e = (refl, e)

pub one-eqb : (b : Bool) → eqb (one b) 1 ≡ b
one-eqb true = refl
one-eqb false = refl

pub eqb-sym : (a b : ℕ) → eqb a b ≡ eqb b a
eqb-sym a b = go (ℕ_discrete a b)
  where
    go : Dec (a ≡ b) → eqb a b ≡ eqb b a
    go (yes e) = eq-eqb a b e ∙ sym (eq-eqb b a (sym e))
    go (no e) = ne_eqb a b e ∙ sym (ne_eqb b a (λ q. e (sym q)))
