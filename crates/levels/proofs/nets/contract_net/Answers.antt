-- `contract_net`: v goes, the list is relinked, and u comes where it was no pin.
use Rattle.std.proofs.Common.{arith, ◌∙◌}
use Rattle.levels.specs.ContractNet.{contract-sets, contract-sets-2, contract-both, contract-new, linked_of, linked-le, was-pin, was-none, distinct, in-v, both}
use Rattle.connectivity.specs.Listed.{has-occ}
use Rattle.levels.proofs.nets.contract_net.Goals as goal

pub set_pin-requires : goal.set_pin-requires
set_pin-requires c =
    contract-sets c.requires c.from-s.ensures

pub relink-r-requires : goal.relink-r-requires
relink-r-requires c =
    record { n_in_bounds = c.requires.net.pins-fit; fact = λ q. c.requires.two (omega (arith, c.number.ensures, c.number-2.ensures)); distinct = distinct c.requires; fact_2 = in-v c.requires c.number-2.ensures; both_value = rw c.number.ensures (c.is_pin-both.ensures ∙ both c.requires ∙ has-occ _ _ _ c.args.u) }

pub returns-then-r-p : goal.returns-then-r-p
returns-then-r-p c =
    let link = linked_of c.args.u c.args.v c.number.ensures c.number-2.ensures c.relink-r.ensures in
    contract-both c.requires c.from-s.ensures c.set_pin.ensures link (omega arith) (linked-le c.relink-r.ensures) (was-pin c.args.u link c.if-r-p.true)

pub set_pin-requires-2 : goal.set_pin-requires-2
set_pin-requires-2 c =
    let link = linked_of c.args.u c.args.v c.number.ensures c.number-2.ensures c.relink-r.ensures in
    contract-sets-2 c.requires c.from-s.ensures c.set_pin.ensures link (omega arith) (linked-le c.relink-r.ensures) (was-none c.args.u link c.if-r-p.false)

pub returns : goal.returns
returns c =
    let link = linked_of c.args.u c.args.v c.number.ensures c.number-2.ensures c.relink-r.ensures in
    contract-new c.requires c.from-s.ensures c.set_pin.ensures link (omega arith) (linked-le c.relink-r.ensures) (was-none c.args.u link c.if-r-p.false) c.set_pin-2.ensures
