-- `hgr::weight_code` meets its contract.
use Rattle.std.proofs.Common.{arith}
use Rattle.hgr.proofs.Codes.{code-none, code-bad, code-three, numbers-upto}
use Rattle.hgr.proofs.weight_code.Goals as goal

pub returns-then-n-eq2 : goal.returns-then-n-eq2
returns-then-n-eq2 c = code-none _ c.count-n.result c.count-n.ensures c.if-n-eq2.true

pub returns-then-n-ne3 : goal.returns-then-n-ne3
returns-then-n-ne3 c =
    code-bad _ c.count-n.result c.count-n.ensures c.if-n-eq2.false c.if-n-ne3.true

pub get-requires : goal.get-requires
get-requires c =
    (omega arith, omega arith, numbers-upto _ c.count-n.result c.count-n.ensures 2 (omega arith))

pub returns : goal.returns
returns c =
    code-three _ c.count-n.result c.count-n.ensures c.get.result c.get.ensures (omega arith) c.known.result c.known.ensures
