-- `grow` meets its contract: the vertex is put, then the pins before it are moved.
use Rattle.std.proofs.Common.{arith}
use Rattle.renewal.specs.Putting.{grown}
use Rattle.renewal.proofs.grow.Goals as goal

pub returns : goal.returns
returns c =
    grown (omega arith) (omega arith) c.put_end.ensures c.raise.ensures
