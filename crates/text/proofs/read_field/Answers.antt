-- `text::read_field` meets its contract.
use Rattle.std.proofs.Common.{arith}
use Rattle.text.proofs.Numbers.{number_there, number_read}
use Rattle.text.proofs.read_field.Goals as goal

pub unwrap-requires : goal.unwrap-requires
unwrap-requires c =
    let a = c.args in
    number_there a.s.now a.at a.end c.read_number.result (omega arith) (omega arith) c.requires.2 c.read_number.ensures

pub returns : goal.returns
returns c =
    let a = c.args in
    number_read a.s.now a.at a.end c.read_number.result c.unwrap.result c.read_number.ensures c.unwrap.ensures
