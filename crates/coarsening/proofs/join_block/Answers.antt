-- `join_block`: the test's two arms.
use Rattle.coarsening.proofs.join_block.Goals as goal

pub returns-then-fixed : goal.returns-then-fixed
returns-then-fixed c = rw c.if-fixed.true c.narrow.ensures
