-- `lines::buy_line` meets its contract.
use Rattle.std.proofs.Common.{◌∙◌, arith, sym, subst, leb, leb-true}
use Rattle.std.proofs.lemmas.Result.{err_from_is_err_and}
use Rattle.laws.specs.Choice.{and_right}
use Rattle.refusal.proofs.Results.{missing}
use Rattle.lines.specs.Mark.{WeightSeen}
use Rattle.lines.proofs.Bids.{buy-bad, buy-range, buy-read, buy-wrong}
use Rattle.lines.proofs.buy_line.Goals as goal

pub returns-in_err-f : goal.returns-in_err-f
returns-in_err-f c =
    let a = c.args in
    let p = err_from_is_err_and c.from_residual.result c.from_residual.ensures.1 in
    let none = missing _ _ _ c.in_err-f.ensures.value in
    rw (p.1, p.2 ∙ none.1) (buy-bad a.s.now a.at a.end a.vertices a.most a.j a.first a.loadedpins.now a.stamps.now c.requires.5 (subst (WeightSeen a.s.now a.at a.end) none.0 c.read_weight.ensures))

pub overflow_add-marks : goal.overflow_add-marks
overflow_add-marks c =
    omega (arith, (subst (WeightSeen c.args.s.now c.args.at c.args.end) c.in_ok-f.ensures.ok_part c.read_weight.ensures).more)

pub after_form-requires : goal.after_form-requires
after_form-requires c =
    omega (arith, (subst (WeightSeen c.args.s.now c.args.at c.args.end) c.in_ok-f.ensures.ok_part c.read_weight.ensures).more)

pub returns-then-not-between : goal.returns-then-not-between
returns-then-not-between c =
    let a = c.args in
    let f = subst (WeightSeen a.s.now a.at a.end) c.in_ok-f.ensures.ok_part c.read_weight.ensures in
    buy-range a.s.now a.at a.end a.vertices a.most a.j a.first a.loadedpins.now a.stamps.now c.requires.5 _ _ f
    (sym c.between.ensures ∙ c.if-not-between.true) c.after_form.result c.after_form.ensures

pub read_pins-requires : goal.read_pins-requires
read_pins-requires c =
    let a = c.args in
    let p = c.requires in
    let f = subst (WeightSeen a.s.now a.at a.end) c.in_ok-f.ensures.ok_part c.read_weight.ensures in
    (omega arith, omega (arith, f.more), omega arith, p.2, p.3, p.4, p.5, p.6)

pub returns-in_err-m : goal.returns-in_err-m
returns-in_err-m c =
    let a = c.args in
    let f = subst (WeightSeen a.s.now a.at a.end) c.in_ok-f.ensures.ok_part c.read_weight.ensures in
    let r = c.read_pins in
    let p = err_from_is_err_and c.from_residual-in_err-m.result c.from_residual-in_err-m.ensures.1 in
    rw (p.1, p.2) (buy-wrong a.s.now a.at a.end a.vertices a.most a.j a.first a.loadedpins.now a.stamps.now c.requires.5 _ _ f
    (sym c.between.ensures ∙ c.if-not-between.false) r.result r.new.loadedpins r.new.stamps r.ensures _ c.in_err-m.was)

pub overflow_cast-result : goal.overflow_cast-result
overflow_cast-result c =
    let w = c.in_ok-f.f.value in
    omega (arith, leb-true w 1000 (and_right (leb 1 w) _ (sym c.between.ensures ∙ c.if-not-between.false)))

pub returns : goal.returns
returns c =
    let a = c.args in
    let f = subst (WeightSeen a.s.now a.at a.end) c.in_ok-f.ensures.ok_part c.read_weight.ensures in
    let r = c.read_pins in
    buy-read a.s.now a.at a.end a.vertices a.most a.j a.first a.loadedpins.now a.stamps.now c.requires.5 _ _ f
    (sym c.between.ensures ∙ c.if-not-between.false) r.result r.new.loadedpins r.new.stamps r.ensures _ c.in_ok-m.was
