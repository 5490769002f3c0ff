-- `hgr::kapokdrill_convert` meets its contract.
use Rattle.std.proofs.Common.{sym, arith}
use Rattle.hgr.proofs.Whole.{converts-long, answer-no, answer-yes, numbers-small, numbers-some, no_room}
use Rattle.hgr.proofs.kapokdrill_convert.Goals as goal

pub returns-in-Ok : goal.returns-in-Ok
returns-in-Ok c =
    let a = c.args in
    let told = c.in-Ok.ensures in
    converts-long a.input.now a.output.now _ _ _ (omega arith) (answer-yes a.input.now a.output.now _ _ told.0 told.1)

pub refuse-requires : goal.refuse-requires
refuse-requires c = no_room _ _ (numbers-small c.in-Err.refusal) (omega (arith, c.carry_over.auto.output))

pub returns-in-Err : goal.returns-in-Err
returns-in-Err c =
    let a = c.args in
    let told = c.in-Err.ensures in
    converts-long a.input.now a.output.now _ _ _ (omega arith) (answer-no a.input.now a.output.now _ _ _ _ (sym told.0) (numbers-some c.in-Err.refusal) c.refuse.ensures.0 (rw told.1 at c.refuse.ensures.1))
