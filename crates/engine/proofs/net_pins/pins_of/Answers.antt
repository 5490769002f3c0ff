-- `engine::net_pins::pins_of` meets its contract.
use Rattle.std.proofs.Common.{arith, sym, ◌∙◌, ap, Bool, cond, length}
use Rattle.model.specs.Lent.{net_tables}
use Rattle.stretches.specs.Stretch.{handed-fits, handed-part}
use Rattle.engine.proofs.net_pins.pins_of.Goals as goal

pub part-requires : goal.part-requires
part-requires c =
    let a = c.args in
    let t = net_tables a.loadedpins.now a.presentpins.now a.firsts.now a.loadedsizes.now a.presentsizes.now in
    omega (arith, handed-fits t a.present a.e c.stretch_of-stretch.ensures, ap (λ (b : Bool). length (cond b a.presentpins.now a.loadedpins.now)) c.if-present.true)

pub returns-then-present : goal.returns-then-present
returns-then-present c =
    let a = c.args in
    let t = net_tables a.loadedpins.now a.presentpins.now a.firsts.now a.loadedsizes.now a.presentsizes.now in
    c.part.ensures ∙ handed-part t a.present a.e a.presentpins.now (ap (λ (b : Bool). cond b a.presentpins.now a.loadedpins.now) (sym c.if-present.true)) c.stretch_of-stretch.ensures

pub part-requires-2 : goal.part-requires-2
part-requires-2 c =
    let a = c.args in
    let t = net_tables a.loadedpins.now a.presentpins.now a.firsts.now a.loadedsizes.now a.presentsizes.now in
    omega (arith, handed-fits t a.present a.e c.stretch_of-stretch.ensures, ap (λ (b : Bool). length (cond b a.presentpins.now a.loadedpins.now)) c.if-present.false)

pub returns : goal.returns
returns c =
    let a = c.args in
    let t = net_tables a.loadedpins.now a.presentpins.now a.firsts.now a.loadedsizes.now a.presentsizes.now in
    c.part-2.ensures ∙ handed-part t a.present a.e a.loadedpins.now (ap (λ (b : Bool). cond b a.presentpins.now a.loadedpins.now) (sym c.if-present.false)) c.stretch_of-stretch.ensures
