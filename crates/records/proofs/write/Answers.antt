use Rattle.std.proofs.Common.{◌≡◌, ℕ, suc, ◌+◌, List, ap, ◌∙◌, arith, slice_set, slice_index_or}
use Rattle.records.specs.declared.Lot.{Lot}
use Rattle.records.specs.Over.{over, over-more}
use Rattle.records.proofs.write.Goals as goal

pub loop-i-preserved : goal.loop-i-preserved
loop-i-preserved c =
    let i = c.loop-i.i in
    let none : Lot = record { bales = 0; session = 0; above = 0; kept = 0 } in
    let one : suc i ≡ i + 1 = omega arith in (
      omega arith,
      ap (λ (t : List Lot). slice_set t i (slice_index_or c.args.new i none)) c.loop-i.invariant.1
          ∙ over-more none i c.args.new c.args.lots.now (omega (arith, c.well_formed)) (omega arith)
          ∙ ap (λ (k : ℕ). over k c.args.new c.args.lots.now) one,
    )
