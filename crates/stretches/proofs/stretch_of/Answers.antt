-- `stretches::stretch_of` meets its contract.
use Rattle.std.proofs.Common.{sym, ◌∙◌, ap}
use Rattle.model.specs.Memory.{handed_out}
use Rattle.model.specs.Lent.{net_tables}
use Rattle.stretches.proofs.Handing.{alike, backed-loaded, backed-present, handed-present, handed-loaded}
use Rattle.stretches.proofs.stretch_of.Goals as goal

pub stretch_in-requires : goal.stretch_in-requires
stretch_in-requires c =
    let a = c.args in
    backed-present a.loadedpins.now a.presentpins.now a.firsts.now a.loadedsizes.now a.presentsizes.now c.are_long-long.result c.are_long-long.ensures

pub returns-then-present : goal.returns-then-present
returns-then-present c =
    let a = c.args in
    alike
    (handed-present a.loadedpins.now a.presentpins.now a.firsts.now a.loadedsizes.now a.presentsizes.now c.are_long-long.result a.e c.are_long-long.ensures
    ∙ ap (λ t. handed_out (net_tables a.loadedpins.now a.presentpins.now a.firsts.now a.loadedsizes.now a.presentsizes.now) t a.e) (sym c.if-present.true))
    c.stretch_in.ensures

pub stretch_in-requires-2 : goal.stretch_in-requires-2
stretch_in-requires-2 c =
    let a = c.args in
    backed-loaded a.loadedpins.now a.presentpins.now a.firsts.now a.loadedsizes.now a.presentsizes.now c.are_long-long.result c.are_long-long.ensures

pub returns : goal.returns
returns c =
    let a = c.args in
    alike
    (handed-loaded a.loadedpins.now a.presentpins.now a.firsts.now a.loadedsizes.now a.presentsizes.now c.are_long-long.result a.e c.are_long-long.ensures
    ∙ ap (λ t. handed_out (net_tables a.loadedpins.now a.presentpins.now a.firsts.now a.loadedsizes.now a.presentsizes.now) t a.e) (sym c.if-present.false))
    c.stretch_in-2.ensures
