-- The metric less a gain, which may be negative, or with it: what the code needs and finds. Rests on text and on ℤ by its two parts. Assumes nothing.
use Rattle.std.specs.Prelude.{◌≡◌, refl, ℕ, ◌+◌, ◌-◌, ◌≤◌, ◌<◌, ◌^◌, ℤ, pos, negsuc, ◌+ℤ◌, ◌-ℤ◌}
use Rattle.std.proofs.Common.{sym, ap, ◌∙◌, arith, SFits, of_z, to_z}
use Rattle.std.specs.Int.{w32}
use Rattle.laws.specs.Integer.{up, dn, eq-by, add_is, sub_is, pos-is, read32}
use Rattle.text.specs.Output.{sign_of}
use Rattle.text.specs.declared.Sign.{Sign}
use Rattle.text.specs.declared.Sign.TheVariants.{Plus, Minus}

pub record Lowers (tot : ℕ) (gain : ℤ) : Type 0 where
  pub after : ℕ
  pub is : pos after ≡ pos tot -ℤ gain
  pub small : after < 2 ^ 32

pub record Raises (tot : ℕ) (gain : ℤ) : Type 0 where
  pub after : ℕ
  pub is : pos after ≡ pos tot +ℤ gain
  pub small : after < 2 ^ 32

is-plus : (x : ℤ) (g : ℕ) → sign_of x ≡ Plus g → x ≡ pos g
is-plus (pos n) g e = let d : n ≡ g = cc in ap pos d
is-plus (negsuc n) g e = absurd (let z : ◌≡◌ {A = ℕ} 0 1 = cc in omega arith)

is-minus : (x : ℤ) (g : ℕ) → sign_of x ≡ Minus g → (up x ≡ 0) × (dn x ≡ g)
unfolding up dn
is-minus (pos n) g e = absurd (let z : ◌≡◌ {A = ℕ} 0 1 = cc in omega arith)
is-minus (negsuc n) g e = let d : n + 1 ≡ g = cc in (refl, d)

pub plus-side : (tot : ℕ) (gain : ℤ) (g : ℕ) {p : Sign} → Lowers tot gain → SFits w32 gain → p ≡ sign_of (to_z w32 (of_z w32 gain)) → p ≡ Plus g → (g ≤ tot) × (pos (tot - g) ≡ pos tot -ℤ gain)
plus-side tot gain g ok f e d =
    let q : gain ≡ pos g = is-plus gain g (ap sign_of (sym (read32 gain f.sfits)) ∙ sym e ∙ d) in
    let l : g ≤ tot = omega (arith, ap up ok.is, ap dn ok.is, ap up q, ap dn q, sub_is (pos tot) gain, pos-is tot, pos-is g, pos-is ok.after) in
    (l, eq-by _ _ (omega (arith, ap up q, ap dn q, sub_is (pos tot) gain, pos-is tot, pos-is g, pos-is (tot - g))))

pub minus-side : (tot : ℕ) (gain : ℤ) (g : ℕ) {p : Sign} → Lowers tot gain → SFits w32 gain → p ≡ sign_of (to_z w32 (of_z w32 gain)) → p ≡ Minus g → (tot + g < 2 ^ 32) × (pos (tot + g) ≡ pos tot -ℤ gain)
minus-side tot gain g ok f e d =
    let q = is-minus gain g (ap sign_of (sym (read32 gain f.sfits)) ∙ sym e ∙ d) in
    let l : tot + g < 2 ^ 32 = omega (arith, ok.small, ap up ok.is, ap dn ok.is, q.0, q.1, sub_is (pos tot) gain, pos-is tot, pos-is ok.after) in
    (l, eq-by _ _ (omega (arith, q.0, q.1, sub_is (pos tot) gain, pos-is tot, pos-is (tot + g))))

pub plus-raised : (tot : ℕ) (gain : ℤ) (g : ℕ) {p : Sign} → Raises tot gain → SFits w32 gain → p ≡ sign_of (to_z w32 (of_z w32 gain)) → p ≡ Plus g → (tot + g < 2 ^ 32) × (pos (tot + g) ≡ pos tot +ℤ gain)
plus-raised tot gain g ok f e d =
    let q : gain ≡ pos g = is-plus gain g (ap sign_of (sym (read32 gain f.sfits)) ∙ sym e ∙ d) in
    let l : tot + g < 2 ^ 32 = omega (arith, ok.small, ap up ok.is, ap dn ok.is, ap up q, ap dn q, add_is (pos tot) gain, pos-is tot, pos-is g, pos-is ok.after) in
    (l, eq-by _ _ (omega (arith, ap up q, ap dn q, add_is (pos tot) gain, pos-is tot, pos-is g, pos-is (tot + g))))

pub minus-raised : (tot : ℕ) (gain : ℤ) (g : ℕ) {p : Sign} → Raises tot gain → SFits w32 gain → p ≡ sign_of (to_z w32 (of_z w32 gain)) → p ≡ Minus g → (g ≤ tot) × (pos (tot - g) ≡ pos tot +ℤ gain)
minus-raised tot gain g ok f e d =
    let q = is-minus gain g (ap sign_of (sym (read32 gain f.sfits)) ∙ sym e ∙ d) in
    let l : g ≤ tot = omega (arith, ap up ok.is, ap dn ok.is, q.0, q.1, add_is (pos tot) gain, pos-is tot, pos-is ok.after) in
    (l, eq-by _ _ (omega (arith, q.0, q.1, add_is (pos tot) gain, pos-is tot, pos-is (tot - g))))
