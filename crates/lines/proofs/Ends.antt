-- A line that may end in `,K`: where its fields end, by its last two bytes. Rests on Line of specs.
use Prim.Native.Nat.{ℕ, ◌+◌, ◌-◌, ◌≤◌, ◌<◌}
use mathlib.Core.Path.{◌≡◌, ap, sym, ◌∙◌}
use mathlib.Core.Bool.{Bool, true, false, ◌&&◌, cond, and-false}
use mathlib.Core.List.{List}
use native.Mathlib.Omega.{arith}
use lib.Dec.{eqb}
use lib.ListN.{length, get_or, take}
use lib.Seq.{slice, length-slice, get_or-drop, get_or-take}
use borrow.Author.Tests.{ne_eqb, lt-ltb, le-ltb, le-leb, lt-leb}
use Rattle.model.specs.Grammar.{ends_in_k, before_k}
use Rattle.text.proofs.Walk.{take-slice}
use Rattle.lines.specs.Line.{FieldsEnd}

module _ (s : List ℕ) (at end : ℕ) (le : at ≤ end) (within : end ≤ length s) where
  abbrev whole : List ℕ
  whole = slice at end s

  size : length whole ≡ end - at
  size = length-slice at end s within

  -- the k-th byte from the end
  byte : (k : ℕ) → 1 ≤ k → k ≤ end - at → get_or whole (length whole - k) 0 ≡ get_or s (end - k) 0
  byte k low high =
      let e : at + (length whole - k) ≡ end - k = omega (arith, size) in
      get_or-drop at (take end s) (length whole - k) 0 ∙ ap (λ (n : ℕ). get_or (take end s) n 0) e ∙ get_or-take end s (end - k) 0 (omega arith)

  plain : ends_in_k whole ≡ false → FieldsEnd s at end end
  unfolding before_k
  plain e = record { low = le; high = omega arith; before = ap (λ (t : Bool). cond t (take (length whole - 2) whole) whole) (sym e); fixed = le-ltb end end (omega arith) ∙ sym e }

  pub ends-short : end - at < 2 → FieldsEnd s at end end
  unfolding ends_in_k
  ends-short lt = plain (ap (λ (t : Bool). t && eqb (get_or whole (length whole - 2) 0) 44 && eqb (get_or whole (length whole - 1) 0) 75) (lt-leb 2 (length whole) (omega (arith, size))))

  module _ (long : 2 ≤ end - at) where
    ends_is : ends_in_k whole ≡ (eqb (get_or s (end - 2) 0) 44 && eqb (get_or s (end - 1) 0) 75)
    unfolding ends_in_k
    ends_is = rw (le-leb 2 (length whole) (omega (arith, size)), byte 2 (omega arith) long, byte 1 (omega arith) (omega arith))

    pub ends-other : (get_or s (end - 1) 0 ≡ 75 → ⊥) → FieldsEnd s at end end
    ends-other n = plain (ends_is ∙ ap (λ (t : Bool). eqb (get_or s (end - 2) 0) 44 && t) (ne_eqb _ _ n) ∙ and-false (eqb (get_or s (end - 2) 0) 44))

    pub ends-joined : (get_or s (end - 2) 0 ≡ 44 → ⊥) → FieldsEnd s at end end
    ends-joined n = plain (ends_is ∙ ap (λ (t : Bool). t && eqb (get_or s (end - 1) 0) 75) (ne_eqb _ _ n))

    pub ends-k : get_or s (end - 1) 0 ≡ 75 → get_or s (end - 2) 0 ≡ 44 → FieldsEnd s at end (end - 2)
    unfolding before_k
    ends-k p q =
        let is : ends_in_k whole ≡ true = ends_is ∙ rw (p, q) in
        let e : at + (length whole - 2) ≡ end - 2 = omega (arith, size) in
        record {
          low = omega arith;
          high = omega arith;
          before = sym (ap (λ (t : Bool). cond t (take (length whole - 2) whole) whole) is ∙ take-slice s at end (length whole - 2) (omega arith) ∙ ap (λ (n : ℕ). slice at n s) e);
          fixed = lt-ltb (end - 2) end (omega arith) ∙ sym is;
        }
