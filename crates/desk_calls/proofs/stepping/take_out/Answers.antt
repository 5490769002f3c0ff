use Rattle.desk_calls.specs.Late.{can-alone, steps-alone}
use Rattle.desk_calls.proofs.stepping.take_out.Goals as goal

pub withdraw-requires : goal.withdraw-requires
withdraw-requires c = can-alone c.requires

pub returns : goal.returns
returns c = steps-alone c.withdraw.ensures
