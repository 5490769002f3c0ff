use Rattle.index.specs.Indexed.{kept-none}
use Rattle.walk.specs.Turning.{next-stop, next-best}
use Rattle.walk.proofs.walks.next_move.Goals as goal

pub returns-then-kept-tried : goal.returns-then-kept-tried
returns-then-kept-tried c =
    let a = c.args in record { chosen = next-stop a.gains.now a.blocks.now a.board.weights.now a.loads.now a.ceilings.now a.marks.now a.board.n a.board.k a.tried a.kept c.if-kept-tried.true; kept = kept-none a.index.now }

pub returns : goal.returns
returns c =
    let a = c.args in
    let found = c.best_open.ensures in record { chosen = next-best a.gains.now a.blocks.now a.board.weights.now a.loads.now a.ceilings.now a.marks.now a.board.n a.board.k a.tried a.kept _ c.if-kept-tried.false found.chosen; kept = found.kept }
