use Rattle.fixed.specs.Column.{entered-yes, entered-no}
use Rattle.fixed.proofs.starting.mark_entry.Goals as goal

pub returns-then-entry-eq1 : goal.returns-then-entry-eq1
returns-then-entry-eq1 c =
    entered-yes c.args.x c.args.entry c.if-entry-eq1.true c.put.ensures

pub returns-else-entry-eq1 : goal.returns-else-entry-eq1
returns-else-entry-eq1 c = entered-no c.args.marks.now c.args.x c.args.entry c.if-entry-eq1.false
