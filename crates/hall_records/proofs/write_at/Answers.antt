use Rattle.std.proofs.Common.{◌≡◌, ℕ, suc, ◌+◌, List, length, sym, ap, ◌∙◌, arith, slice_set, slice_index_or}
use Rattle.records.specs.declared.Lot.{Lot}
use Rattle.records.specs.Fields.{blank}
use Rattle.hall_records.specs.Placed.{placed, placed-none, placed-more, length-placed}
use Rattle.hall_records.proofs.write_at.Goals as goal

pub loop-i-init : goal.loop-i-init
loop-i-init c = (omega arith, sym (placed-none c.args.places c.args.new c.args.lots.now))

pub bounds-lots-p : goal.bounds-lots-p
bounds-lots-p c = omega (arith, c.requires.1 c.loop-i.i c.loop-i-test.true, ap length c.loop-i.invariant.1, length-placed c.loop-i.i c.args.places c.args.new c.args.lots.now)

pub loop-i-preserved : goal.loop-i-preserved
loop-i-preserved c =
    let i = c.loop-i.i in
    let one : suc i ≡ i + 1 = omega arith in (
      omega arith,
      ap (λ (t : List Lot). slice_set t (slice_index_or c.args.places i 0) (slice_index_or c.args.new i blank)) c.loop-i.invariant.1
          ∙ placed-more i c.args.places c.args.new c.args.lots.now
          ∙ ap (λ (k : ℕ). placed k c.args.places c.args.new c.args.lots.now) one,
    )
