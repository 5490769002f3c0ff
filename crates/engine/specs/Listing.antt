-- The list's entry: what its functions promise is model's ListServes, by the tests that they make. Rests on model's ListEntry. Assumes nothing.
use Rattle.std.specs.Prelude.{ℕ, zero, suc, ◌≡◌, refl, Bool, true, false, List}
use Rattle.std.proofs.Common.{sym, ◌∙◌, subst}
use Rattle.model.specs.Catalogue.{Limits}
use Rattle.model.specs.Grammar.{parse}
use Rattle.model.specs.Memory.{Memory, long_memory}
use Rattle.model.specs.ListEntry.{list_refusal, list_calls, Returned, Idle, ListWorked, ListServed, ListServes}

module _ (limits : Limits) (file list operands : List ℕ) (m : Memory) (x : Returned) {r : Bool} (e : r ≡ long_memory limits m) where
  pub untouched-8 : r ≡ false → x.code ≡ 8 → x.bytes ≡ 0 → Idle x → ListServes limits file list operands m m x
  untouched-8 q d b i = subst (λ (y : Bool). ListServed y (list_refusal list operands) limits (parse limits file) (list_calls list operands) m m x) (sym (sym e ∙ q)) (record { code_is = d; nothing = b; kept = refl }, i)

  pub untouched-list : {q : ℕ} → r ≡ true → q ≡ list_refusal list operands → (q ≡ 0 → ⊥) → x.code ≡ q → x.bytes ≡ 0 → Idle x → ListServes limits file list operands m m x
  untouched-list {q} t qe ne d b i =
      subst (λ (y : Bool). ListServed y (list_refusal list operands) limits (parse limits file) (list_calls list operands) m m x) (sym (sym e ∙ t))
      (subst (λ (n : ℕ). ListServed true n limits (parse limits file) (list_calls list operands) m m x) qe (go q ne d))
    where
      go : (q : ℕ) → (q ≡ 0 → ⊥) → x.code ≡ q → ListServed true q limits (parse limits file) (list_calls list operands) m m x
      go zero n d = absurd (n refl)
      go (suc q) n d = (d, b, refl, i)

  pub list-served : (m' : Memory) → r ≡ true → list_refusal list operands ≡ 0 → ListWorked limits (parse limits file) (list_calls list operands) m m' x → ListServes limits file list operands m m' x
  list-served m' t z w =
      subst (λ (b : Bool). ListServed b (list_refusal list operands) limits (parse limits file) (list_calls list operands) m m' x) (sym (sym e ∙ t))
      (subst (λ (n : ℕ). ListServed true n limits (parse limits file) (list_calls list operands) m m' x) (sym z) w)
