-- `when_none`: the quotient is 1 at 0 and else 0, so that the product is the weight or 0.
use Rattle.std.proofs.Common.{arith}
use Rattle.connectivity.specs.Share.{when-none, when-le}
use Rattle.connectivity.proofs.halves.when_none.Goals as goal

pub overflow_mul-given : goal.overflow_mul-given
overflow_mul-given c = omega (arith, when-none c.args.n c.args.w (omega arith), when-le c.args.n 0 c.args.w)

pub overflow_cast-result : goal.overflow_cast-result
overflow_cast-result c = omega (arith, when-none c.args.n c.args.w (omega arith), when-le c.args.n 0 c.args.w)

pub returns : goal.returns
returns c = when-none c.args.n c.args.w (omega arith)
