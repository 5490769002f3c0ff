-- `take_out` meets its contract: `close_up`, then zeros behind the last pin.
use Rattle.std.proofs.Common.{arith}
use Rattle.renewal.specs.Clearing.{taken-few, taken_out}
use Rattle.renewal.proofs.take_out.Goals as goal

pub clear_from-requires : goal.clear_from-requires
clear_from-requires c =
    omega (arith, c.requires.in_bounds, taken-few c.requires.holding c.close_up-t.ensures, c.close_up-t.ensures.pins-len)

pub returns : goal.returns
returns c =
    taken_out c.requires.holding c.close_up-t.ensures c.clear_from.ensures
