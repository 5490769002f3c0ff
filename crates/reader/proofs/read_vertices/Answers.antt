use Rattle.std.proofs.Common.{◌≡◌, ◌+◌, rules, arith, ◌∙◌}
use Rattle.std.proofs.lemmas.Result.{err_from_is_err_and}
use Rattle.refusal.specs.Number.{lined}
use Rattle.refusal.proofs.Results.{lined-err, lined-ok}
use Rattle.reader.proofs.Lots.{lots-start, lots-none, lots-stop, lots-on, lots-done}
use Rattle.reader.proofs.read_vertices.Goals as goal

pub loop-k-init : goal.loop-k-init
loop-k-init c =
    let a = c.args in lots-start a.line a.s.now a.at a.vertices a.blocks a.estimated a.weights.now a.draft.now a.fixed.now a.lows.now (omega arith) (omega arith) (omega arith) c.requires.3 c.requires.4 c.requires.5 c.requires.6

pub returns-then-e-len : goal.returns-then-e-len
returns-then-e-len c =
    let a = c.args in
    let l = c.loop-k in
    rw c.at.ensures (lots-none a.line a.s.now a.at a.vertices a.blocks a.estimated a.weights.now a.draft.now a.fixed.now l.weights l.draft l.fixed l.lows l.i l.k-counter l.invariant (omega arith) c.line_end-e.result c.line_end-e.ensures (omega arith))

pub returns-in_err-lot : goal.returns-in_err-lot
returns-in_err-lot c =
    let a = c.args in
    let l = c.loop-k in
    let told : c.map_err.result ≡ lined (a.line + l.k-counter + 1) c.lot_line.result = search rules in
    let why = lined-err _ c.lot_line.result _ _ told c.in_err-lot.was in
    let p = err_from_is_err_and c.from_residual.result c.from_residual.ensures.1 in
    rw (p.1, p.2 ∙ why.2) (lots-stop a.line a.s.now a.at a.vertices a.blocks a.estimated a.weights.now a.draft.now a.fixed.now l.weights l.draft l.fixed l.lows l.i l.k-counter l.invariant (omega arith) c.line_end-e.result c.line_end-e.ensures (omega arith) c.lot_line.result c.lot_line.ensures why.0 why.1)

pub loop-k-preserved : goal.loop-k-preserved
loop-k-preserved c =
    let a = c.args in
    let l = c.loop-k in
    let told : c.map_err.result ≡ lined (a.line + l.k-counter + 1) c.lot_line.result = search rules in
    rw c.from.ensures (lots-on a.line a.s.now a.at a.vertices a.blocks a.estimated a.weights.now a.draft.now a.fixed.now l.weights l.draft l.fixed l.lows l.i l.k-counter l.invariant (omega arith) c.line_end-e.result c.line_end-e.ensures (omega arith) c.lot_line.result c.lot_line.ensures _
    (lined-ok _ c.lot_line.result _ _ told c.in_ok-lot.was))

pub returns : goal.returns
returns c =
    let a = c.args in let l = c.loop-k in lots-done a.line a.s.now a.at a.vertices a.blocks a.estimated a.weights.now a.draft.now a.fixed.now l.weights l.draft l.fixed l.lows l.i l.k-counter l.invariant (omega arith)
