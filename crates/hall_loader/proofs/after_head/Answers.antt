-- `hall_loader::after_head` meets its contract.
use Rattle.std.proofs.Common.{arith}
use Rattle.std.proofs.lemmas.Result.{err_from_is_err_and}
use Rattle.hall_loader.proofs.Weighing.{accepted-light}
use Rattle.hall_loader.proofs.Halls.{body-cut, body-stop, body-past}
use Rattle.hall_loader.proofs.after_head.Goals as goal

pub load_catalogues-requires : goal.load_catalogues-requires
load_catalogues-requires c = c.requires.2

pub returns-in_err-catalogues : goal.returns-in_err-catalogues
returns-in_err-catalogues c =
    let p = err_from_is_err_and c.from_residual.result c.from_residual.ensures.1 in
    rw (p.1, p.2) (body-cut _ _ _ _ _ _ _ c.requires.0 _ c.load_catalogues.ensures _ c.in_err-catalogues.was)

pub after_catalogues-requires : goal.after_catalogues-requires
after_catalogues-requires c =
    let p = c.requires in
    let loads = c.load_catalogues in
    (loads.ensures.behind _ c.in_ok-catalogues.was, p.1, accepted-light _ _ _ _ _ p.0.few (omega (arith, loads.auto.weights, p.2.whole.weights-four)) (omega (arith, loads.auto.blocks, p.2.whole.blocks-four)) (loads.ensures.accepts _ c.in_ok-catalogues.was))

pub returns-in_err-count : goal.returns-in_err-count
returns-in_err-count c =
    let p = c.requires in
    let loads = c.load_catalogues in
    let e = err_from_is_err_and c.from_residual-in_err-count.result c.from_residual-in_err-count.ensures.1 in
    rw (e.1, e.2) (body-stop _ _ _ _ _ _ _ p.0 _ loads.ensures _ c.in_ok-catalogues.was (accepted-light _ _ _ _ _ p.0.few (omega (arith, loads.auto.weights, p.2.whole.weights-four)) (omega (arith, loads.auto.blocks, p.2.whole.blocks-four)) (loads.ensures.accepts _ c.in_ok-catalogues.was)) _ c.after_catalogues.ensures _ c.in_err-count.was)

pub returns : goal.returns
returns c =
    let p = c.requires in
    let loads = c.load_catalogues in
    body-past _ _ _ _ _ _ _ p.0 _ loads.ensures _ c.in_ok-catalogues.was (accepted-light _ _ _ _ _ p.0.few (omega (arith, loads.auto.weights, p.2.whole.weights-four)) (omega (arith, loads.auto.blocks, p.2.whole.blocks-four)) (loads.ensures.accepts _ c.in_ok-catalogues.was)) _ c.after_catalogues.ensures _ c.in_ok-count.was
