-- `text::put_number` meets its contract.
use Rattle.std.proofs.Common.{ℕ, ◌/◌, List, ap, sym, ◌∙◌, arith}
use Rattle.model.specs.Report.{digits}
use Rattle.text.specs.Output.{written, last_three}
use Rattle.text.proofs.Digits.{digits-thousand, length-thousand, written-append}
use Rattle.text.proofs.+put_number.Goals as goal

pub put_number-n-requires : goal.put_number-n-requires
put_number-n-requires t c =
    let l = length-thousand c.args.x c.if-x-lt1000.false in
    (omega arith, omega arith)

pub put_three-requires : goal.put_three-requires
put_three-requires t c =
    omega (arith, length-thousand c.args.x c.if-x-lt1000.false)

pub returns : goal.returns
returns t c =
    let a = c.args in
    let high = c.if-x-lt1000.false in
    let n = c.put_number-n in
    let e = c.put_three.ensures in
    let ds = digits (a.x / 1000) in
    let l = length-thousand a.x high in (
      omega (arith, e.0, n.ensures.0),
      e.1
          ∙ ap (λ (m : List ℕ). written m n.result (last_three a.x)) n.ensures.1
          ∙ ap (λ (k : ℕ). written (written a.out.now a.at ds) k (last_three a.x)) n.ensures.0
          ∙ written-append a.out.now a.at ds (last_three a.x) (omega arith)
          ∙ ap (written a.out.now a.at) (sym (digits-thousand a.x high)),
    )
