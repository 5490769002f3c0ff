-- `hall_loader::load_hall` meets its contract.
use Rattle.std.proofs.Common.{◌≡◌, rules, arith, ◌∙◌}
use Rattle.std.proofs.lemmas.Result.{err_from_is_err_and}
use Rattle.refusal.specs.Number.{lined}
use Rattle.refusal.proofs.Results.{lined-err, lined-ok}
use Rattle.hall_loader.proofs.Halls.{file-long, file-unended, head-refused, file-loads}
use Rattle.hall_loader.proofs.load_hall.Goals as goal

pub returns-then-len-gt60000 : goal.returns-then-len-gt60000
returns-then-len-gt60000 c = rw c.at.ensures (file-long _ _ _ _ _ c.if-len-gt60000.true)

pub returns-then-e-len : goal.returns-then-e-len
returns-then-e-len c = rw c.at-then-e-len.ensures (file-unended _ _ _ _ _ (omega (arith, c.if-len-gt60000.false)) _ c.line_end-e.ensures c.if-e-len.true)

pub returns-in_err-first : goal.returns-in_err-first
returns-in_err-first c =
    let told : c.map_err.result ≡ lined 1 c.hall_line.result = search rules in
    let why = lined-err _ c.hall_line.result _ _ told c.in_err-first.was in
    let p = err_from_is_err_and c.from_residual.result c.from_residual.ensures.1 in
    rw (p.1, p.2 ∙ why.2) (head-refused _ _ _ _ _ (omega (arith, c.if-len-gt60000.false)) _ c.line_end-e.ensures (omega (arith, c.if-e-len.false, c.line_end-e.ensures.high)) _ c.hall_line.ensures why.0 why.1)

pub overflow_add-e : goal.overflow_add-e
overflow_add-e c = omega (arith, c.if-len-gt60000.false, c.if-e-len.false, c.line_end-e.ensures.high)

pub after_head-requires : goal.after_head-requires
after_head-requires c =
    let p = c.requires in
    let told : c.map_err.result ≡ lined 1 c.hall_line.result = search rules in
    let head = c.hall_line.ensures.ranges _ (lined-ok _ c.hall_line.result _ _ told c.in_ok-first.was) in
    (head, record { short = omega (arith, c.if-len-gt60000.false); calls-long = p.0; operands-long = p.1 }, record { at-le = omega (arith, c.if-e-len.false, c.line_end-e.ensures.high); some = omega (arith, head.some); few = head.few; whole = p.2; wide = p.3 })

pub returns : goal.returns
returns c =
    let told : c.map_err.result ≡ lined 1 c.hall_line.result = search rules in
    file-loads _ _ _ _ _ (omega (arith, c.if-len-gt60000.false)) _ c.line_end-e.ensures (omega (arith, c.if-e-len.false, c.line_end-e.ensures.high)) _ c.hall_line.ensures _ (lined-ok _ c.hall_line.result _ _ told c.in_ok-first.was) _ c.after_head.ensures
