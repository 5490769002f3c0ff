use Rattle.best_move.specs.OpenLaw.{pair-some}
use Rattle.best_move.proofs.open.pair_at.Goals as goal

pub returns : goal.returns
returns c = pair-some c.args.at c.if-at-eq-NO_PLACE.false
