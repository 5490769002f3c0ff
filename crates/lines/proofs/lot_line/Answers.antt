-- `lines::lot_line` meets its contract.
use Rattle.std.proofs.Common.{◌-◌, arith, sym, ap₂, ◌∙◌, get_or}
use Rattle.std.proofs.lemmas.Result.{err_from_is_err_and}
use Rattle.refusal.specs.Number.{refused_as}
use Rattle.lines.specs.Line.{first_of}
use Rattle.lines.proofs.LotLines.{numbers-low, numbers-high, lot-form, lot-refused, lot-read, lot-block, both-pass, checks-in-turn}
use Rattle.lines.proofs.lot_line.Goals as goal

pub overflow_add-numbers : goal.overflow_add-numbers
overflow_add-numbers c =
    omega (arith, numbers-high c.args.estimated, c.numbers_of-numbers.ensures)

pub returns-then-read_line-numbers : goal.returns-then-read_line-numbers
returns-then-read_line-numbers c =
    let a = c.args in
    let last = c.before_k-last in
    let m = c.numbers_of-numbers in
    let r = c.read_line in
    lot-form a.s.now a.at a.end last.result m.result r.result a.blocks a.estimated last.ensures m.ensures r.ensures.0 c.if-read_line-numbers.true

pub overflow_sub-high : goal.overflow_sub-high
overflow_sub-high c =
    omega (arith, numbers-low c.args.estimated, c.numbers_of-numbers.ensures)

pub offset_bounds-values-numbers : goal.offset_bounds-values-numbers
offset_bounds-values-numbers c =
    omega (arith, numbers-high c.args.estimated, c.numbers_of-numbers.ensures)

pub bounds-values-numbers : goal.bounds-values-numbers
bounds-values-numbers c =
    omega (arith, numbers-high c.args.estimated, c.numbers_of-numbers.ensures)

pub overflow_sub-block : goal.overflow_sub-block
overflow_sub-block c =
    omega (arith, numbers-low c.args.estimated, c.numbers_of-numbers.ensures)

pub offset_bounds-values-numbers-2 : goal.offset_bounds-values-numbers-2
offset_bounds-values-numbers-2 c =
    omega (arith, numbers-high c.args.estimated, c.numbers_of-numbers.ensures)

pub bounds-values-numbers-2 : goal.bounds-values-numbers-2
bounds-values-numbers-2 c =
    omega (arith, numbers-high c.args.estimated, c.numbers_of-numbers.ensures)

pub returns-in_err-and : goal.returns-in_err-and
returns-in_err-and c =
    let a = c.args in
    let last = c.before_k-last in
    let m = c.numbers_of-numbers in
    let r = c.read_line in
    let p = err_from_is_err_and c.from_residual.result c.from_residual.ensures.1 in
    rw (p.1, p.2) (lot-refused a.s.now a.at a.end last.result m.result r.result a.blocks a.estimated last.ensures m.ensures r.ensures.0 c.if-read_line-numbers.false r.new.values r.ensures.1 _
    (ap₂ first_of (sym c.check_bales-bales.ensures) (sym c.check_session-session.ensures) ∙ sym (checks-in-turn c.check_bales-bales.result c.check_session-session.result c.in_err-and.ensures)))

pub overflow_cast-result : goal.overflow_cast-result
overflow_cast-result c =
    omega (arith, c.ranges.blocks, lot-block (get_or c.read_line.new.values (c.numbers_of-numbers.result - 1) 0) c.args.blocks (both-pass (refused_as c.check_bales-bales.result) (refused_as c.check_session-session.result) (checks-in-turn c.check_bales-bales.result c.check_session-session.result c.in_ok-and.ensures) ∙ c.check_session-session.ensures))

pub returns : goal.returns
returns c =
    let a = c.args in
    let last = c.before_k-last in
    let m = c.numbers_of-numbers in
    let r = c.read_line in
    lot-read a.s.now a.at a.end last.result m.result r.result a.blocks a.estimated last.ensures m.ensures r.ensures.0 c.if-read_line-numbers.false r.new.values r.ensures.1
    (ap₂ first_of (sym c.check_bales-bales.ensures) (sym c.check_session-session.ensures) ∙ sym (checks-in-turn c.check_bales-bales.result c.check_session-session.result c.in_ok-and.ensures))
