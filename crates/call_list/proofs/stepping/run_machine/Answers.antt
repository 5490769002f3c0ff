use Rattle.std.proofs.Common.{refl}
use Rattle.model.specs.Catalogue.{capacities}
use Rattle.call_list.specs.Machine.{can-perform, machine-fits, long_as, went-machine}
use Rattle.call_list.proofs.stepping.run_machine.Goals as goal

pub perform-requires : goal.perform-requires
perform-requires c = let can = can-perform c.requires in record { ready_a = can.0; n_in_bounds = can.1 }

pub put_answer-end-requires : goal.put_answer-end-requires
put_answer-end-requires c =
    let can = c.requires in
    machine-fits can (c.in-Ok.ensures.called can.a.graph (capacities can.a.graph) can.under.average-is can.under.ceiling-is can.goes.marked)

pub put_answer-requires : goal.put_answer-requires
put_answer-requires c =
    let can = c.requires in
    rw c.number.ensures (machine-fits can (c.in-Err.ensures.called can.a.graph (capacities can.a.graph) can.under.average-is can.under.ceiling-is can.goes.marked))

pub returns-in-Ok : goal.returns-in-Ok
returns-in-Ok c = record {
  went = λ limits a old g u. went-machine g _ (c.in-Ok.ensures.called a.graph (capacities a.graph) u.average-is u.ceiling-is g.marked) refl refl refl refl refl c.perform.ensures.keeps_right
      (long_as g.stands.long c.perform.auto.weights c.perform.auto.blocks c.perform.auto.aboves c.perform.auto.gains c.perform.auto.bits c.perform.auto.presentpins c.perform.auto.index)
      c.put_answer-end.ensures;
}

pub returns-in-Err : goal.returns-in-Err
returns-in-Err c = record {
  went = λ limits a old g u. went-machine g _ (c.in-Err.ensures.called a.graph (capacities a.graph) u.average-is u.ceiling-is g.marked) refl refl refl refl refl c.perform.ensures.keeps_right
      (long_as g.stands.long c.perform.auto.weights c.perform.auto.blocks c.perform.auto.aboves c.perform.auto.gains c.perform.auto.bits c.perform.auto.presentpins c.perform.auto.index)
      (rw c.number.ensures at c.put_answer.ensures);
}
