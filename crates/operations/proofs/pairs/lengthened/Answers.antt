use Rattle.std.proofs.Common.{arith}
use Rattle.operations.specs.Pairs.{lengthened-by}
use Rattle.operations.proofs.pairs.lengthened.Goals as goal

pub returns : goal.returns
returns c = lengthened-by (omega (arith, c.requires)) (omega (arith, c.requires)) c.copy_from_slice.ensures.after
