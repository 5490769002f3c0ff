use Rattle.search_moves.specs.Marks.{fresh-law}
use Rattle.search_moves.proofs.marks.fresh.Goals as goal

pub returns : goal.returns
returns c = fresh-law c.args.word c.args.seen
