-- A hall's call line, by its lead and what stands behind it. Rests on text's laws of parts.
use Prim.Native.Nat.{ℕ, ◌+◌, ◌≤◌, ◌<◌}
use mathlib.Core.Path.{◌≡◌, refl, ap, sym, subst, ◌∙◌}
use mathlib.Core.List.{List, [], ◌∷◌}
use mathlib.Core.Bool.{Bool, true, false, cond}
use native.Mathlib.Omega.{arith}
use lib.ListN.{length}
use lib.Seq.{slice}
use Rattle.model.specs.Grammar.{Fields, fields, is_number, bytes, same, is_line, asked, nothing, Asked}
use Rattle.text.specs.Field.{NumberRead, NumberSeen}
use Rattle.text.proofs.Lines.{parts-on, parts_last, parts_first, field_end, field_found}
use Rattle.lines.specs.Late.{answered, CallRead}
use Rattle.lines.specs.declared.Ask.{Ask}
use Rattle.std.specs.Prelude.{Option, Some, None}
use Rattle.hall_lines.specs.Leading.{asked_behind, leading, LedRead}
use Rattle.hall_lines.specs.declared.LedAsk.{LedAsk}

-- nothing behind a lead is no call
asks_none : asked [] ≡ nothing
unfolding asked is_line same bytes
asks_none = refl

either : (t : Bool) (a : Asked) → a ≡ nothing → cond t a nothing ≡ nothing
either true a e = e
either false a e = refl

behind : (f : List ℕ) (fs : Fields) → asked_behind (f ∷ fs) ≡ cond (is_number f) (asked fs) nothing
behind f fs = refl

module _ (s : List ℕ) (at end used : ℕ) (le : at ≤ end) (within : end ≤ length s) where
  -- no call is looked for
  untouched : (operands : List ℕ) → asked_behind (fields (slice at end s)) ≡ nothing → LedRead (fields (slice at end s)) end used None operands operands
  untouched operands z = record { keep = refl; len = refl; says = z }

  -- where `read_number` answered none
  pub led-none : (operands : List ℕ) → NumberSeen s at end None → LedRead (fields (slice at end s)) end used None operands operands
  unfolding fields
  led-none operands none =
      let found = field_found s at end le within in
      let p = parts_first s at end 44 (field_end s at end) le within found in
      untouched operands
      (ap asked_behind p.1 ∙ ap (λ (t : Bool). cond t (asked p.0) nothing) (none (field_end s at end) found))

  -- where it answered v and e
  module _ (v e : ℕ) (some : at < e) (read : NumberRead s at end v e) where
    pub led-alone : (operands : List ℕ) → e ≡ end → LedRead (fields (slice at end s)) end used None operands operands
    unfolding fields
    led-alone operands z =
        untouched operands
        (ap asked_behind (parts_last s at end 44 e le within (read.ends.ends some) z)
        ∙ either (is_number (slice at e s)) (asked []) asks_none)

    -- and `call_line` answered r
    module _ (m : e ≡ end → ⊥) (r : Option Ask) (operands operands' : List ℕ) (call : CallRead (fields (slice (e + 1) end s)) end used r operands operands') where
      here : fields (slice at end s) ≡ slice at e s ∷ fields (slice (e + 1) end s)
      unfolding fields
      here = parts-on s at end 44 e le within (read.ends.ends some) (omega (arith, m, read.ends.high))

      by_call : (x : Option LedAsk) → leading (slice at e s ∷ fields (slice (e + 1) end s)) end used x operands' → LedRead (fields (slice at end s)) end used x operands operands'
      by_call x z = record { keep = call.keep; len = call.len; says = subst (λ (fs : Fields). leading fs end used x operands') (sym here) z }

      pub led-bad : r ≡ None → LedRead (fields (slice at end s)) end used None operands operands'
      led-bad z =
          let none : nothing ≡ asked (fields (slice (e + 1) end s)) = subst (λ (y : Option Ask). answered (fields (slice (e + 1) end s)) end used y operands') z call.says in
          by_call None (either (is_number (slice at e s)) (asked (fields (slice (e + 1) end s))) (sym none))

      pub led-call : (a : Ask) → r ≡ Some a → LedRead (fields (slice at end s)) end used (Some (record { catalogue = v; ask = a })) operands operands'
      led-call a z = by_call (Some (record { catalogue = v; ask = a })) (record { number = read.ends.is some; lead = sym (read.is some); asking = subst (λ (y : Option Ask). answered (fields (slice (e + 1) end s)) end used y operands') z call.says })
