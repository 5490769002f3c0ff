use Rattle.std.proofs.Common.{◌≡◌, ◌+◌, rules, arith, ◌∙◌}
use Rattle.std.proofs.lemmas.Result.{err_from_is_err_and}
use Rattle.refusal.specs.Number.{lined}
use Rattle.refusal.proofs.Results.{lined-err, lined-ok}
use Rattle.reader.proofs.NetLines.{buys-start, buys-none, buys-stop, buys-on, buys-done}
use Rattle.reader.proofs.read_nets.Goals as goal

pub loop-j-init : goal.loop-j-init
loop-j-init c =
    let a = c.args in buys-start a.last a.s.now a.at a.most a.vertices a.nets a.netweights.now a.firsts.now a.loadedsizes.now a.loadedpins.now a.stamps.now c.requires.1

pub returns-then-e-len : goal.returns-then-e-len
returns-then-e-len c =
    let a = c.args in
    let l = c.loop-j in
    rw c.at.ensures (buys-none a.last a.s.now a.at a.most a.vertices a.nets a.firsts.now a.loadedsizes.now a.loadedpins.now l.netweights l.firsts l.loadedsizes l.loadedpins l.stamps l.i l.j-counter l.m l.invariant (omega arith) c.line_end-e.result c.line_end-e.ensures (omega arith))

pub returns-in_err-buyer : goal.returns-in_err-buyer
returns-in_err-buyer c =
    let a = c.args in
    let l = c.loop-j in
    let told : c.map_err.result ≡ lined (a.last + 1 + l.j-counter) c.buy_line.result = search rules in
    let why = lined-err _ c.buy_line.result _ _ told c.in_err-buyer.was in
    let p = err_from_is_err_and c.from_residual.result c.from_residual.ensures.1 in
    rw (p.1, p.2 ∙ why.2) (buys-stop a.last a.s.now a.at a.most a.vertices a.nets a.firsts.now a.loadedsizes.now a.loadedpins.now l.netweights l.firsts l.loadedsizes l.loadedpins l.stamps l.i l.j-counter l.m l.invariant (omega arith) c.line_end-e.result c.line_end-e.ensures (omega arith) c.buy_line.result c.buy_line.new.loadedpins c.buy_line.new.stamps c.buy_line.ensures why.0 why.1)

pub overflow_sub-loadedsizes : goal.overflow_sub-loadedsizes
overflow_sub-loadedsizes c =
    let told : c.map_err.result ≡ lined (c.args.last + 1 + c.loop-j.j-counter) c.buy_line.result = search rules in
    omega (arith, (c.buy_line.ensures.next _ (lined-ok _ c.buy_line.result _ _ told c.in_ok-buyer.was)).f-le)

pub overflow_cast-loadedsizes : goal.overflow_cast-loadedsizes
overflow_cast-loadedsizes c =
    let told : c.map_err.result ≡ lined (c.args.last + 1 + c.loop-j.j-counter) c.buy_line.result = search rules in
    let g = c.buy_line.ensures.next _ (lined-ok _ c.buy_line.result _ _ told c.in_ok-buyer.was) in
    omega (arith, g.f-le, g.m-le, c.loop-j.invariant.most-le)

pub loop-j-preserved : goal.loop-j-preserved
loop-j-preserved c =
    let a = c.args in
    let l = c.loop-j in
    let told : c.map_err.result ≡ lined (a.last + 1 + l.j-counter) c.buy_line.result = search rules in
    buys-on a.last a.s.now a.at a.most a.vertices a.nets a.firsts.now a.loadedsizes.now a.loadedpins.now l.netweights l.firsts l.loadedsizes l.loadedpins l.stamps l.i l.j-counter l.m l.invariant (omega arith) c.line_end-e.result c.line_end-e.ensures (omega arith) c.buy_line.result c.buy_line.new.loadedpins c.buy_line.new.stamps c.buy_line.ensures _
    (lined-ok _ c.buy_line.result _ _ told c.in_ok-buyer.was)

pub returns : goal.returns
returns c =
    let a = c.args in let l = c.loop-j in buys-done a.last a.s.now a.at a.most a.vertices a.nets a.firsts.now a.loadedsizes.now a.loadedpins.now l.netweights l.firsts l.loadedsizes l.loadedpins l.stamps l.i l.j-counter l.m l.invariant (omega arith)
