-- `fields::put_row` meets its contract.
use Rattle.std.proofs.Common.{arith, length-append}
use Rattle.model.specs.Report.{tail}
use Rattle.model.specs.CatalogueText.{numbers}
use Rattle.fields.proofs.Laws.{wrote-append}
use Rattle.fields.proofs.put_row.Goals as goal

pub returns : goal.returns
returns c =
    wrote-append (omega (arith, length-append c.args.w.now (tail (numbers c.args.xs.now)))) c.put_word-p.ensures c.put_tail.ensures
