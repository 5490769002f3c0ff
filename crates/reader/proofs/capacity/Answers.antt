-- `reader::capacity` meets its contract.
use Rattle.std.proofs.Common.{arith, ◌+◌, mul-le-mul_right}
use Rattle.reader.proofs.capacity.Goals as goal

pub overflow_mul-imbalance : goal.overflow_mul-imbalance
overflow_mul-imbalance c =
    let a = c.args in
    record { fits = omega (arith, mul-le-mul_right {m = 1000 + a.imbalance} {n = 2000} a.average (omega arith)) }

pub returns : goal.returns
returns c = c.rounded.ensures
