-- `fields::put_field` meets its contract.
use Rattle.std.proofs.Common.{arith}
use Rattle.fields.proofs.Laws.{wrote-cons}
use Rattle.fields.proofs.put_field.Goals as goal

pub returns : goal.returns
returns c = wrote-cons (omega arith) (record { ends = c.put_number.ensures.0; is = c.put_number.ensures.1 })
