-- `spaced::is_number` meets its contract.
use Rattle.std.proofs.Common.{arith}
use Rattle.spaced.proofs.Single.{nothing-no, number_is}
use Rattle.spaced.proofs.is_number.Goals as goal

pub returns-then-at-end : goal.returns-then-at-end
returns-then-at-end c = let a = c.args in nothing-no a.s.now a.at a.end c.if-at-end.true

pub returns : goal.returns
returns c =
    let a = c.args in number_is a.s.now a.at a.end (omega arith) (omega arith) c.number_end.result (omega arith) c.number_end.ensures
