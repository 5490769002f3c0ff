-- What 32-bit signed operations make of an `i32`, in ℕ. Rests on Output's `sign_of`.
use Prim.Native.Nat.{ℕ, suc, ◌+◌, ◌-◌, ◌^◌, ◌<◌}
use mathlib.Core.Path.{◌≡◌, refl, sym, subst}
use mathlib.Core.Bool.{true, false}
use native.Mathlib.Omega.{arith}
use lib.IntN.{ℤ, pos, negsuc, ◌-ℤ◌}
use lib.Signed.{lt_z}
use lib.Dec.{ltb}
use borrow.Author.Tests.{le-ltb, ltb-true}
use mir.Syntax.{w32}
use mir.Val.{SFits, to_z, of_z}
use mir.ValLaws.{to_z-of_z}
use Rattle.text.specs.Output.{sign_of}
use Rattle.text.specs.declared.Sign.TheVariants.{Plus, Minus}

flip : (n : ℕ) → negsuc 0 -ℤ negsuc n ≡ pos n
flip n =
    let e : suc n - 1 ≡ n = omega arith in
    rw (le-ltb (suc n) 1 (omega arith), e)

-- below 0
pub record Below (x : ℤ) (y : ℤ) : Type 0 where
  pub n : ℕ
  pub small : n < 2 ^ 31
  pub fits : SFits w32 (negsuc 0 -ℤ y)
  pub is : to_z w32 (of_z w32 (negsuc 0 -ℤ y)) ≡ pos n
  pub sign : sign_of x ≡ Minus (n + 1)

pub below : (x : ℤ) → SFits w32 x → lt_z (to_z w32 (of_z w32 x)) (pos 0) ≡ true → Below x (to_z w32 (of_z w32 x))
below (pos n) f t =
    let u : ltb n 0 ≡ true = rw (to_z-of_z w32 (pos n) f) at t in
    absurd (omega (arith, ltb-true n 0 u))
below (negsuc n) f t =
    let b : to_z w32 (of_z w32 (negsuc n)) ≡ negsuc n = to_z-of_z w32 (negsuc n) f in
    let p : SFits w32 (pos n) = record { sfits = f.sfits } in
    subst (λ (y : ℤ). Below (negsuc n) y) (sym b)
    (record { n = n; small = f.sfits; fits = rw (flip n) p; is = rw (flip n) (to_z-of_z w32 (pos n) p); sign = refl })

-- 0 or above
pub record Above (x : ℤ) : Type 0 where
  pub n : ℕ
  pub small : n < 2 ^ 31
  pub is : to_z w32 (of_z w32 x) ≡ pos n
  pub sign : sign_of x ≡ Plus n

pub above : (x : ℤ) → SFits w32 x → lt_z (to_z w32 (of_z w32 x)) (pos 0) ≡ false → Above x
above (pos n) f t = record { n = n; small = f.sfits; is = to_z-of_z w32 (pos n) f; sign = refl }
above (negsuc n) f t = absurd (let z : true ≡ false = rw (to_z-of_z w32 (negsuc n) f) at t in let y : ◌≡◌ {A = ℕ} 0 1 = cc in omega arith)
