-- `put_right`: nothing to do, or a row set.
use Rattle.index.specs.Row.{rewritten-none}
use Rattle.index.proofs.rows.put_right.Goals as goal

pub returns-then-is_right : goal.returns-then-is_right
returns-then-is_right c = rewritten-none (c.is_right.ensures c.if-is_right.true)
