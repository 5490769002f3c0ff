-- `loader::load_catalogue` meets its contract.
use Rattle.std.proofs.Common.{arith, sym}
use Rattle.std.proofs.lemmas.Result.{err_from_is_err_and}
use Rattle.lines.specs.Line.{limits_of}
use Rattle.loader.proofs.Accepting.{fails, small, sortable, fits}
use Rattle.loader.proofs.load_catalogue.Goals as goal

pub read_catalogue-requires : goal.read_catalogue-requires
read_catalogue-requires c =
    let p = c.requires in
    let t = p.5 in
    (p.0, p.1, p.2, t.fixed, record { l_le = p.2.lots-few; w-len = t.weights; d-len = t.blocks; nw-len = p.3; lo-len = p.4; f-len = t.firsts; c_len = t.loaded_sizes; few = p.2.few.pins-few; wide = omega (arith, p.2.few.pins-few, t.loaded_pins) })

pub returns-in_err-c : goal.returns-in_err-c
returns-in_err-c c =
    let a = c.args in
    let p = err_from_is_err_and c.from_residual.result c.from_residual.ensures.1 in
    rw (p.1, p.2) (fails (limits_of a.limits) a.line a.s.now a.at c.read_catalogue.result _ a.weights.now a.blocks.now a.fixed.now a.aboves.now a.presentpins.now a.presentsizes.now a.firsts.now a.loadedsizes.now a.loadedpins.now _ _ _ _ _ _ _ _ c.read_catalogue.ensures c.in_err-c.was)

pub start-requires : goal.start-requires
start-requires c =
    let a = c.args in
    let p = c.requires.5 in
    let f = c.read_catalogue.ensures.fitted _ c.in_ok-c.was in
    (omega (arith, f.range.l-high, p.aboves), omega (arith, f.laid.m-le, c.requires.2.few.pins-few, p.loaded_pins, c.read_catalogue.auto.loadedpins), omega (arith, f.laid.m-le, c.requires.2.few.pins-few, p.present_pins), omega (arith, f.range.b-high, c.requires.2.few.nets-few, p.loaded_sizes, c.read_catalogue.auto.loadedsizes), omega (arith, f.range.b-high, c.requires.2.few.nets-few, p.present_sizes), sym f.laid.m-is, sortable (limits_of a.limits) a.line a.s.now a.at c.in_ok-c.c a.weights.now a.blocks.now a.aboves.now a.fixed.now a.loadedpins.now a.presentpins.now a.firsts.now a.loadedsizes.now a.presentsizes.now _ _ a.aboves.now _ _ a.presentpins.now _ _ a.presentsizes.now _ _ c.read_catalogue.result c.read_catalogue.ensures c.in_ok-c.was c.requires.2 c.read_catalogue.auto.weights c.read_catalogue.auto.draft c.read_catalogue.auto.fixed c.read_catalogue.auto.loadedpins c.read_catalogue.auto.firsts c.read_catalogue.auto.loadedsizes p.weights p.blocks p.loaded_pins p.present_pins)

pub measure-requires : goal.measure-requires
measure-requires c =
    let a = c.args in
    let p = c.requires.5 in
    let f = c.read_catalogue.ensures.fitted _ c.in_ok-c.was in (
      omega (arith, f.range.l-high, c.requires.2.lots-few),
      omega (arith, f.range.l-high, c.requires.2.lots-few, f.lo-len),
      omega (arith, f.range.k-low),
      omega (arith, f.range.k-high, c.requires.2.sessions-few),
      f.range.t-high,
      omega (arith, f.range.k-high, c.requires.2.sessions-few, small (limits_of a.limits) a.line a.s.now a.at c.in_ok-c.c a.weights.now a.blocks.now a.aboves.now a.fixed.now a.loadedpins.now a.presentpins.now a.firsts.now a.loadedsizes.now a.presentsizes.now _ _ a.aboves.now _ _ a.presentpins.now _ _ a.presentsizes.now _ _ c.read_catalogue.result c.read_catalogue.ensures c.in_ok-c.was c.requires.2 c.read_catalogue.auto.weights c.read_catalogue.auto.draft c.read_catalogue.auto.fixed c.read_catalogue.auto.loadedpins c.read_catalogue.auto.firsts c.read_catalogue.auto.loadedsizes p.weights p.blocks p.loaded_pins p.present_pins),
    )

pub returns : goal.returns
returns c =
    let a = c.args in
    let p = c.requires.5 in
    let e = c.start.ensures in
    fits (limits_of a.limits) a.line a.s.now a.at c.in_ok-c.c a.weights.now a.blocks.now a.aboves.now a.fixed.now a.loadedpins.now a.presentpins.now a.firsts.now a.loadedsizes.now a.presentsizes.now _ _ _ _ _ _ _ _ _ _ _ c.read_catalogue.result c.read_catalogue.ensures c.in_ok-c.was c.requires.2 c.read_catalogue.auto.weights c.read_catalogue.auto.draft c.read_catalogue.auto.fixed c.read_catalogue.auto.loadedpins c.read_catalogue.auto.firsts c.read_catalogue.auto.loadedsizes p.weights p.blocks p.loaded_pins p.present_pins e.0 e.1 e.2 c.measure.result c.measure.ensures
