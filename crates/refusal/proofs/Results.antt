-- Results that are refused: a value that is missing, and what a line gives.
use mathlib.Core.Path.{◌≡◌, refl, ap, sym, ◌∙◌}
use Rattle.std.specs.Prelude.{ℕ, Option, Some, None, Result, Ok, Err}
use Rattle.std.specs.Option.{ok_or}
use native.Mathlib.Omega.{arith}
use Rattle.refusal.specs.declared.Refusal.{Refusal}
use Rattle.refusal.specs.declared.Refused.{Refused}
use Rattle.refusal.specs.Number.{refused_at, lined}

pub missing : {A : Type 0} (o : Option A) (e d : Refusal) → Err d ≡ ok_or o e → (o ≡ None) × (d ≡ e)
missing (Some a) e d is = absurd (let z : ◌≡◌ {A = ℕ} 0 1 = cc in omega arith)
missing None e d is = (refl, cc)

pub lined-err : {A : Type 0} (n : ℕ) (r : Result A Refusal) (m : Result A Refused) (d : Refused) → m ≡ lined n r → m ≡ Err d → (e : Refusal) × (r ≡ Err e) × (d ≡ refused_at e n)
lined-err {A} n r m d told is = go r (sym is ∙ told)
  where
    go : (o : Result A Refusal) → Err d ≡ lined n o → (e : Refusal) × (o ≡ Err e) × (d ≡ refused_at e n)
    go (Ok a) z = absurd (let z : ◌≡◌ {A = ℕ} 0 1 = cc in omega arith)
    go (Err e) z = (e, refl, cc)

pub lined-ok : {A : Type 0} (n : ℕ) (r : Result A Refusal) (m : Result A Refused) (a : A) → m ≡ lined n r → m ≡ Ok a → r ≡ Ok a
lined-ok {A} n r m a told is = go r (sym is ∙ told)
  where
    go : (o : Result A Refusal) → Ok a ≡ lined n o → o ≡ Ok a
    go (Ok b) z = cc
    go (Err e) z = absurd (let z : ◌≡◌ {A = ℕ} 0 1 = cc in omega arith)

-- a refusal is no value
pub err-ok : {A B E : Type 0} {e : E} {b : B} → ◌≡◌ {A = Result B E} (Err e) (Ok b) → A
err-ok e = absurd (let z : ◌≡◌ {A = ℕ} 0 1 = cc in omega arith)

-- two values that are the same
pub ok-ok : {B E : Type 0} {a b : B} → ◌≡◌ {A = Result B E} (Ok a) (Ok b) → a ≡ b
ok-ok {B} {E} {a} {b} e = ap or_a e
  where
    or_a : Result B E → B
    or_a (Ok x) = x
    or_a (Err x) = a
