-- `hall_led::put_lead` meets its contract.
use Rattle.std.proofs.Common.{arith, [], ◌∷◌, length-append}
use Rattle.model.specs.Report.{digits}
use Rattle.fields.proofs.Laws.{wrote-snoc}
use Rattle.hall_led.proofs.put_lead.Goals as goal

pub put_number-p-requires : goal.put_number-p-requires
put_number-p-requires c = omega (arith, c.requires, length-append (digits c.args.desk) (44 ∷ []))

pub bounds-out-p : goal.bounds-out-p
bounds-out-p c = omega (arith, c.requires, length-append (digits c.args.desk) (44 ∷ []), c.put_number-p.ensures.0, c.put_number-p.auto.out)

pub overflow_add-result : goal.overflow_add-result
overflow_add-result c = omega (arith, c.requires, length-append (digits c.args.desk) (44 ∷ []), c.put_number-p.ensures.0, c.put_number-p.auto.out)

pub returns : goal.returns
returns c = wrote-snoc 44 (omega (arith, c.requires, length-append (digits c.args.desk) (44 ∷ []))) (record { ends = c.put_number-p.ensures.0; is = c.put_number-p.ensures.1 })
