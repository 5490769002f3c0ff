-- `hall_loader::load_next` meets its contract.
use Rattle.std.proofs.Common.{arith, refl}
use Rattle.model.specs.Lent.{lists}
use Rattle.hall_loader.proofs.load_next.Goals as goal

pub load_catalogue-requires : goal.load_catalogue-requires
load_catalogue-requires c =
    let a = c.args in
    let p = c.requires in
    let few = p.3.lots-few in
    let own = p.5 a.c (omega arith) p.2 in
    (p.0, p.1, p.3, own.0, own.1, record { weights = omega (arith, few); blocks = omega (arith, few); aboves = omega (arith, few); fixed = omega (arith, few); loaded_pins = omega (arith, few); present_pins = omega (arith, few); firsts = omega (arith, few); loaded_sizes = omega (arith, few); present_sizes = omega (arith, few) })

pub returns : goal.returns
returns c =
    let r = c.load_catalogue in
    record { after = record { lists = lists r.new.weights r.new.blocks r.new.aboves r.new.fixed r.new.loadedpins r.new.presentpins r.new.firsts r.new.loadedsizes r.new.presentsizes; costs = r.new.netweights; lows = r.new.lows }; loads = r.ensures; put = refl }
