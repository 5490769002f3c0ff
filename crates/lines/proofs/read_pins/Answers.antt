use Rattle.std.proofs.Common.{arith, ap, subst, ◌∙◌}
use Rattle.std.proofs.lemmas.Result.{err_from_is_err_and}
use Rattle.text.specs.Field.{NumberSeen}
use Rattle.refusal.specs.Number.{refused_as}
use Rattle.refusal.proofs.Results.{missing}
use Rattle.lines.proofs.Fields.{marks-start, marks-bad, marks-stop, marks-last, marks-on}
use Rattle.lines.proofs.read_pins.Goals as goal

pub loop-f-init : goal.loop-f-init
loop-f-init c =
    let a = c.args in
    let p = c.requires in
    marks-start a.s.now a.at a.end a.vertices a.most a.j a.first a.loadedpins.now a.stamps.now p.0 p.1 p.3 p.4 p.5 p.6 p.7

pub returns-in_err-f : goal.returns-in_err-f
returns-in_err-f c =
    let a = c.args in
    let l = c.loop-f in
    let p = err_from_is_err_and c.from_residual.result c.from_residual.ensures.1 in
    let none = missing _ _ _ c.in_err-f.ensures.value in
    rw (p.1, p.2 ∙ none.1) (marks-bad a.s.now a.at a.end a.vertices a.most a.j a.first a.loadedpins.now l.loadedpins l.stamps l.i l.m l.invariant (omega arith)
    (subst (NumberSeen a.s.now l.i a.end) none.0 c.read_number.ensures))

pub returns-in-Err : goal.returns-in-Err
returns-in-Err c =
    let a = c.args in
    let l = c.loop-f in
    let f = subst (NumberSeen a.s.now l.i a.end) c.in_ok-f.ensures.ok_part c.read_number.ensures in
    let r = c.put_pin in
    marks-stop a.s.now a.at a.end a.vertices a.most a.j a.first a.loadedpins.now l.loadedpins l.stamps l.i l.m l.invariant (omega arith)
    _ _ f.1 f.0 (refused_as r.result) r.new.loadedpins r.new.stamps r.ensures c.in-Err.q (ap refused_as c.in-Err.is) c.after_form.result c.after_form.ensures

pub returns-then-f-end : goal.returns-then-f-end
returns-then-f-end c =
    let a = c.args in
    let l = c.loop-f in
    let f = subst (NumberSeen a.s.now l.i a.end) c.in_ok-f.ensures.ok_part c.read_number.ensures in
    let r = c.put_pin in
    marks-last a.s.now a.at a.end a.vertices a.most a.j a.first a.loadedpins.now l.loadedpins l.stamps l.i l.m l.invariant (omega arith)
    _ _ f.1 f.0 (refused_as r.result) r.new.loadedpins r.new.stamps r.ensures (ap refused_as c.in_default.is) c.if-f-end.true

pub loop-f-preserved : goal.loop-f-preserved
loop-f-preserved c =
    let a = c.args in
    let l = c.loop-f in
    let f = subst (NumberSeen a.s.now l.i a.end) c.in_ok-f.ensures.ok_part c.read_number.ensures in
    let r = c.put_pin in
    marks-on a.s.now a.at a.end a.vertices a.most a.j a.first a.loadedpins.now l.loadedpins l.stamps l.i l.m l.invariant (omega arith)
    _ _ f.1 f.0 (refused_as r.result) r.new.loadedpins r.new.stamps r.ensures (ap refused_as c.in_default.is) (omega (arith, f.1.ends.high))
