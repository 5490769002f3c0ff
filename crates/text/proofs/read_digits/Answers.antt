use Rattle.std.proofs.Common.{◌-◌, arith, sym, get_or}
use Rattle.text.proofs.Numbers.{digits-start, digits-on, digits-stop, digit-range, ten-room}
use Rattle.text.proofs.read_digits.Goals as goal

pub loop-i-init : goal.loop-i-init
loop-i-init c = let a = c.args in (digits-start a.s.now a.at, omega arith, omega arith, omega arith)

pub returns-then-not-is_ascii_digit : goal.returns-then-not-is_ascii_digit
returns-then-not-is_ascii_digit c =
    let a = c.args in
    digits-stop a.s.now a.at a.end c.loop-i.v c.loop-i.i c.loop-i.invariant.0 c.loop-i.invariant.1 (λ lt. sym c.if-not-is_ascii_digit.ensures.value)

pub overflow_sub-b : goal.overflow_sub-b
overflow_sub-b c = omega (arith, digit-range (get_or c.args.s.now c.loop-i.i 0) (sym c.if-not-is_ascii_digit.ensures.value))

pub overflow_mul-v : goal.overflow_mul-v
overflow_mul-v c =
    let a = c.args in
    let on = c.loop-i.invariant.0 in
    let room = ten-room c.loop-i.v (c.loop-i.i - a.at) on.small (omega (arith, on.low)) in
    omega arith

pub overflow_add-v : goal.overflow_add-v
overflow_add-v c =
    let a = c.args in
    let on = c.loop-i.invariant.0 in
    let room = ten-room c.loop-i.v (c.loop-i.i - a.at) on.small (omega (arith, on.low)) in
    omega (arith, c.from.ensures, digit-range (get_or a.s.now c.loop-i.i 0) (sym c.if-not-is_ascii_digit.ensures.value))

pub loop-i-preserved : goal.loop-i-preserved
loop-i-preserved c =
    let a = c.args in
    let d = digit-range _ (sym c.if-not-is_ascii_digit.ensures.value) in
    rw c.from.ensures (digits-on a.s.now a.at c.loop-i.v c.loop-i.i c.loop-i.invariant.0 (omega arith) d.0 d.1, omega arith, omega arith, omega arith)

pub returns : goal.returns
returns c =
    let a = c.args in
    digits-stop a.s.now a.at a.end c.loop-i.v c.loop-i.i c.loop-i.invariant.0 c.loop-i.invariant.1 (λ lt. absurd (omega arith))
