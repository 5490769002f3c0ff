use Rattle.std.proofs.Common.{sym}
use Rattle.call_list.specs.Asked.{request-X, request-N, request-runs}
use Rattle.desk_calls.specs.Desk.{can-as, steps-as}
use Rattle.desk_calls.proofs.step.Goals as goal

pub take_out-requires : goal.take_out-requires
take_out-requires c =
    let a = c.args in
    can-as (request-X a.operands.now a.letter a.x a.y c.if-letter-eq-X.true) c.requires.can_step

pub returns-then-letter-eq-X : goal.returns-then-letter-eq-X
returns-then-letter-eq-X c =
    let a = c.args in
    steps-as (sym (request-X a.operands.now a.letter a.x a.y c.if-letter-eq-X.true)) c.take_out.ensures

pub put_from-requires : goal.put_from-requires
put_from-requires c =
    let a = c.args in record { can_step = can-as (request-N a.operands.now a.letter a.x a.y c.if-letter-eq-X.false c.if-letter-eq-N.true) c.requires.can_step; le_y = c.requires.le_y c.if-letter-eq-N.true }

pub returns-then-letter-eq-N : goal.returns-then-letter-eq-N
returns-then-letter-eq-N c =
    let a = c.args in
    steps-as (sym (request-N a.operands.now a.letter a.x a.y c.if-letter-eq-X.false c.if-letter-eq-N.true)) c.put_from.ensures

pub run_machine-requires : goal.run_machine-requires
run_machine-requires c =
    let a = c.args in
    can-as (request-runs a.operands.now a.letter a.x a.y c.if-letter-eq-X.false c.if-letter-eq-N.false) c.requires.can_step

pub returns : goal.returns
returns c =
    let a = c.args in
    steps-as (sym (request-runs a.operands.now a.letter a.x a.y c.if-letter-eq-X.false c.if-letter-eq-N.false)) c.run_machine.ensures
