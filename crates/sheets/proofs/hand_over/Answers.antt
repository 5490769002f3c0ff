-- `sheets::hand_over` meets its contract: the engine's line, or the sheets of the sale that it left.
use Rattle.std.proofs.Common.{arith}
use Rattle.sheets.proofs.Served.{line-in, line-fits, turned_down, ended, sale-ended, sheets-in, served}
use Rattle.sheets.proofs.hand_over.Goals as goal

pub copy_line-end-requires : goal.copy_line-end-requires
copy_line-end-requires c =
    let k = c.requires in
    (line-in k.left, line-fits k.left _ k.roomy c.if-code-ne0.true)

pub returns-then-code-ne0 : goal.returns-then-code-ne0
returns-then-code-ne0 c = λ file l. turned_down l c.if-code-ne0.true c.copy_line-end.ensures

pub put_sale-end-requires : goal.put_sale-end-requires
put_sale-end-requires c =
    let k = c.requires in
    record { sale = ended k.left c.if-code-ne0.false; ended = sale-ended k.left c.if-code-ne0.false; fits = omega (arith, sheets-in k.left c.if-code-ne0.false _ k.roomy) }

pub returns : goal.returns
returns c =
    let k = c.requires in
    λ file l. served l c.if-code-ne0.false (c.put_sale-end.ensures (ended l c.if-code-ne0.false) (sale-ended l c.if-code-ne0.false) (omega (arith, sheets-in l c.if-code-ne0.false _ k.roomy)))
