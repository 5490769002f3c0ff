-- `least_better`: no 32-bit gain is better, or all are, or the next one up.
use Rattle.std.proofs.Common.{sym, ◌∙◌, ap, pos}
use Rattle.std.specs.Int.Signed.{lt_z}
use Rattle.best_move.specs.OpenLaw.{read64}
use Rattle.best_move.specs.RisingLaw.{least-all, least-most, next-fits64, next-fits32, next-least}
use Rattle.best_move.proofs.rising.least_better.Goals as goal

pub returns-then-top-ltminus2147483648 : goal.returns-then-top-ltminus2147483648
returns-then-top-ltminus2147483648 c = least-all c.args.top

pub returns-then-top-gt2147483646 : goal.returns-then-top-gt2147483646
returns-then-top-gt2147483646 c =
    least-most c.args.top (ap (lt_z (pos 2147483646)) (sym (read64 c.args.top c.ranges.top.sfits)) ∙ c.if-top-gt2147483646.true)

pub overflow_add-result : goal.overflow_add-result
overflow_add-result c =
    next-fits64 c.args.top c.ranges.top.sfits c.if-top-ltminus2147483648.false c.if-top-gt2147483646.false

pub overflow_cast-result : goal.overflow_cast-result
overflow_cast-result c =
    next-fits32 c.args.top c.ranges.top.sfits c.if-top-ltminus2147483648.false c.if-top-gt2147483646.false

pub returns : goal.returns
returns c =
    next-least c.args.top c.ranges.top.sfits c.if-top-ltminus2147483648.false c.if-top-gt2147483646.false
