-- `reader::read_catalogue` meets its contract.
use Rattle.std.proofs.Common.{◌≡◌, rules, arith, ◌∙◌}
use Rattle.std.proofs.lemmas.Result.{err_from_is_err_and}
use Rattle.refusal.specs.Number.{lined}
use Rattle.refusal.proofs.Results.{lined-err, lined-ok}
use Rattle.lines.specs.Line.{limits_of}
use Rattle.reader.proofs.Ranges.{no_line, bad-sale, catalogue-cut, catalogue-all}
use Rattle.reader.proofs.read_catalogue.Goals as goal

pub returns-then-e-len : goal.returns-then-e-len
returns-then-e-len c =
    let a = c.args in
    rw c.at.ensures (no_line (limits_of a.limits) a.line a.s.now a.at a.weights.now a.draft.now a.fixed.now a.firsts.now a.loadedsizes.now a.loadedpins.now c.requires.0 c.line_end-e.result c.line_end-e.ensures a.netweights.now a.lows.now c.if-e-len.true)

pub returns-in_err-head : goal.returns-in_err-head
returns-in_err-head c =
    let a = c.args in
    let told : c.map_err.result ≡ lined a.line c.sale_line.result = search rules in
    let why = lined-err _ c.sale_line.result _ _ told c.in_err-head.was in
    let p = err_from_is_err_and c.from_residual.result c.from_residual.ensures.1 in
    rw (p.1, p.2 ∙ why.2) (bad-sale (limits_of a.limits) a.line a.s.now a.at a.weights.now a.draft.now a.fixed.now a.firsts.now a.loadedsizes.now a.loadedpins.now c.requires.0 c.line_end-e.result c.line_end-e.ensures (omega (arith, c.if-e-len.false, c.line_end-e.ensures.high)) c.sale_line.result c.sale_line.ensures a.netweights.now a.lows.now why.0 why.1)

pub after_head-requires : goal.after_head-requires
after_head-requires c =
    let p = c.requires in
    let told : c.map_err.result ≡ lined c.args.line c.sale_line.result = search rules in
    let r = c.sale_line.ensures.ranges _ (lined-ok _ c.sale_line.result _ _ told c.in_ok-head.was) in
    (omega (arith, c.if-e-len.false, c.line_end-e.ensures.high), p.1, record { l-low = r.l-low; l-high = omega (arith, r.l-high, p.2.lots-few); b-high = omega (arith, r.b-high, p.2.few.nets-few); k-low = r.k-low; k-high = omega (arith, r.k-high, p.2.sessions-few); t-high = r.t-high }, omega (arith, r.l-high, p.3), record { l_le = omega (arith, r.l-high, p.4.l_le); w-len = omega (arith, r.l-high, p.4.w-len); d-len = omega (arith, r.l-high, p.4.d-len); nw-len = p.4.nw-len; lo-len = p.4.lo-len; f-len = p.4.f-len; c_len = p.4.c_len; few = p.4.few; wide = p.4.wide })

pub returns-in_err-nets : goal.returns-in_err-nets
returns-in_err-nets c =
    let a = c.args in
    let told : c.map_err.result ≡ lined a.line c.sale_line.result = search rules in
    let p = err_from_is_err_and c.from_residual-in_err-nets.result c.from_residual-in_err-nets.ensures.1 in
    rw (p.1, p.2) (catalogue-cut (limits_of a.limits) a.line a.s.now a.at a.weights.now a.draft.now a.fixed.now a.firsts.now a.loadedsizes.now a.loadedpins.now c.requires.0 c.line_end-e.result c.line_end-e.ensures (omega (arith, c.if-e-len.false, c.line_end-e.ensures.high)) c.sale_line.result c.sale_line.ensures
    _ (lined-ok _ c.sale_line.result _ _ told c.in_ok-head.was) c.after_head.result _ _ _ _ _ _ _ _ c.after_head.ensures _ c.in_err-nets.was)

pub returns : goal.returns
returns c =
    let a = c.args in
    let told : c.map_err.result ≡ lined a.line c.sale_line.result = search rules in
    catalogue-all (limits_of a.limits) a.line a.s.now a.at a.weights.now a.draft.now a.fixed.now a.firsts.now a.loadedsizes.now a.loadedpins.now c.requires.0 c.line_end-e.result c.line_end-e.ensures (omega (arith, c.if-e-len.false, c.line_end-e.ensures.high)) c.sale_line.result c.sale_line.ensures
    _ (lined-ok _ c.sale_line.result _ _ told c.in_ok-head.was) c.after_head.result _ _ _ _ _ _ _ _ c.after_head.ensures _ c.in_ok-nets.was
