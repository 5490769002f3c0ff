-- The engine's report as it is read, and text written from the start of the lent output as what the product prints. Rests on model's Memory and Sheets.
use Prim.Native.Nat.{ℕ, ◌≤◌}
use native.Mathlib.Nat.{zero-add}
use native.Mathlib.Omega.{arith}
use mathlib.Core.Path.{◌≡◌, sym, ap, ◌∙◌, subst}
use mathlib.Core.List.{List, ◌++◌}
use lib.ListN.{length, take, drop, length-append}
use lib.Seq.{take_at}
use Rattle.model.specs.Engine.{Outcome}
use Rattle.model.specs.Memory.{Written}
use Rattle.model.specs.Sheets.{Printed}
use Rattle.text.specs.Output.{written}
use Rattle.fields.specs.Wrote.{Wrote}

-- ---- the engine's report
module _ {report old new : List ℕ} {bytes : ℕ} (w : Written report old new bytes) where
  pub report-in : bytes ≤ length new
  report-in = omega (arith, w.bytes, ap length w.output, length-append report (drop bytes old))

  pub report-is : take bytes new ≡ report
  report-is = ap (take bytes) w.output ∙ take_at report (drop bytes old) bytes (sym w.bytes)

-- ---- the lent output
wrote-written : {old new report : List ℕ} {r : ℕ} → Wrote old new 0 report r → Written report old new r
unfolding written
wrote-written {old} {new} {report} {r} w =
    let e : r ≡ length report = w.ends ∙ zero-add (length report) in
    record { bytes = e; output = w.is ∙ ap (λ (x : ℕ). report ++ drop x old) (sym w.ends) }

pub prints : (o : Outcome) {text old new : List ℕ} {code end : ℕ} → code ≡ o.code → text ≡ o.report → Wrote old new 0 text end → Printed o old new code end
prints o {text} {old} {new} {code} {end} c e w = record { code_is = c; output = wrote-written (subst (λ (t : List ℕ). Wrote old new 0 t end) e w) }
