-- `text::put_three` meets its contract.
use Rattle.std.proofs.Common.{arith, length-set}
use Rattle.text.proofs.Digits.{written-three}
use Rattle.text.proofs.put_three.Goals as goal

pub bounds-out-at-2 : goal.bounds-out-at-2
bounds-out-at-2 c = simp length-set (omega arith)

pub bounds-out-at-3 : goal.bounds-out-at-3
bounds-out-at-3 c = simp length-set (omega arith)

pub returns : goal.returns
returns c = let a = c.args in (omega arith, written-three a.out.now a.at a.x (omega arith))
