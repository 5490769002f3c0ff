-- `text::number_end` meets its contract.
use Rattle.std.proofs.Common.{arith}
use Rattle.text.proofs.Numbers.{number_none}
use Rattle.text.proofs.number_end.Goals as goal

pub returns-in-Some : goal.returns-in-Some
returns-in-Some c = c.in-Some.ensures.1.ends

pub returns-in-None : goal.returns-in-None
returns-in-None c =
    let a = c.args in
    number_none a.s.now a.at a.end (omega arith) c.in-None.ensures
