use Rattle.polish.specs.Polishing.{placed-yes, placed-no}
use Rattle.polish.proofs.polishing.mark_placed.Goals as goal

pub returns-then-b-eq0 : goal.returns-then-b-eq0
returns-then-b-eq0 c = placed-no c.args.marks.now c.args.x c.args.b c.if-b-eq0.true

pub returns : goal.returns
returns c =
    placed-yes c.args.x c.args.b c.if-b-eq0.false c.mark_vertex.ensures.0
