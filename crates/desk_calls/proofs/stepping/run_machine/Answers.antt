use Rattle.std.proofs.Common.{refl}
use Rattle.call_list.specs.Machine.{long_as}
use Rattle.desk_calls.specs.Machine.{can-perform, machine-fits, went-machine}
use Rattle.desk_calls.proofs.stepping.run_machine.Goals as goal

pub perform_beside-requires : goal.perform_beside-requires
perform_beside-requires c = let can = can-perform c.requires in record { ready_a = can.0; n_in_bounds = can.1 }

pub put_answer-end-requires : goal.put_answer-end-requires
put_answer-end-requires c =
    let can = c.requires in
    machine-fits can (c.in-Ok.ensures.beside_called can.o can.a.graph can.stays.fits.average-is can.stays.fits.rooms-are can.stays.goes.marked)

pub put_answer-requires : goal.put_answer-requires
put_answer-requires c =
    let can = c.requires in
    rw c.number.ensures (machine-fits can (c.in-Err.ensures.beside_called can.o can.a.graph can.stays.fits.average-is can.stays.fits.rooms-are can.stays.goes.marked))

pub returns-in-Ok : goal.returns-in-Ok
returns-in-Ok c = record {
  went = λ o a old y. went-machine y _ (c.in-Ok.ensures.beside_called o a.graph y.fits.average-is y.fits.rooms-are y.goes.marked) refl refl refl refl refl c.perform_beside.ensures.keeps_right
      (long_as y.goes.stands.long c.perform_beside.auto.weights c.perform_beside.auto.blocks c.perform_beside.auto.aboves c.perform_beside.auto.gains c.perform_beside.auto.bits c.perform_beside.auto.presentpins c.perform_beside.auto.index)
      c.put_answer-end.ensures;
}

pub returns-in-Err : goal.returns-in-Err
returns-in-Err c = record {
  went = λ o a old y. went-machine y _ (c.in-Err.ensures.beside_called o a.graph y.fits.average-is y.fits.rooms-are y.goes.marked) refl refl refl refl refl c.perform_beside.ensures.keeps_right
      (long_as y.goes.stands.long c.perform_beside.auto.weights c.perform_beside.auto.blocks c.perform_beside.auto.aboves c.perform_beside.auto.gains c.perform_beside.auto.bits c.perform_beside.auto.presentpins c.perform_beside.auto.index)
      (rw c.number.ensures at c.put_answer.ensures);
}
