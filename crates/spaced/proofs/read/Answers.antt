-- `spaced::read` meets its contract.
use Rattle.std.proofs.Common.{arith}
use Rattle.spaced.proofs.Single.{number-field, number-value}
use Rattle.spaced.proofs.read.Goals as goal

pub read_field-requires : goal.read_field-requires
read_field-requires c = let a = c.args in (omega arith, omega arith, number-field a.s.now a.at a.end (omega arith) (omega arith) c.requires.2)

pub returns : goal.returns
returns c =
    let a = c.args in number-value a.s.now a.at a.end (omega arith) (omega arith) c.read_field.result.value c.read_field.result.end c.requires.2 c.read_field.ensures
